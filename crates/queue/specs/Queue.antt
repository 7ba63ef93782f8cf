-- What a queue holds, how many places are free, and what each function makes of that. Whoever uses a queue knows it by these three alone: what is queued, what
-- is free, and its capacity. Which places hold which frame, and how, is not to be seen from outside.
use Rattle.std.specs.Prelude.{◌≡◌, refl, Bool, cond, ◌&&◌, List, [], ℕ, suc, ◌+◌, ◌-◌, ◌<◌, ltb, leb, length, set, Err, Ok, Result, is_some}
use Rattle.rules.specs.declared.refusal.Refusal.{Refusal}
use Rattle.rules.specs.Limits.{greatest_capacity}
use Rattle.rules.specs.Frames.{Frame}
use Rattle.rules.specs.Queue.{first, rest, placed, after}
use Rattle.rules.specs.declared.refusal.Refusal.TheVariants.{CapacityTooLarge}
use Rattle.queue.specs.Place.{frame_of, held_of}
use Rattle.queue.specs.Ring.{at, tab}
use Rattle.queue.specs.declared.ArrayQueue.{ArrayQueue}
use Rattle.queue.specs.declared.Pushed.{Pushed}
use Rattle.queue.specs.declared.Popped.{Popped}

-- a state that the queue's functions leave, with at least its capacity of places lent
abbrev pub sound : ArrayQueue → ℕ → Bool
sound q lent = ltb q.head q.capacity && (leb q.length q.capacity && (leb q.capacity greatest_capacity && leb q.capacity lent))

-- the k-th frame
abbrev pub frame_at : ArrayQueue → List (List ℕ) → ℕ → Frame
frame_at q places k = frame_of (at q.head q.capacity places k)

-- the frames, the first to leave first; a state that is not sound has none
pub contents : ArrayQueue → List (List ℕ) → List Frame
contents q places = cond (sound q (length places)) (tab q.length (frame_at q places)) []

-- the number of free places; a state that is not sound has none
pub free : ArrayQueue → List (List ℕ) → ℕ
free q places = cond (sound q (length places)) (q.capacity - q.length) 0

-- the number given when the queue was made
pub capacity_of : ArrayQueue → ℕ
capacity_of q = q.capacity

-- a queue for n frames that holds none
pub fresh : ℕ → ArrayQueue
fresh n = record { head = 0; length = 0; capacity = n }

-- a queue for n frames, or refusal 14
abbrev pub made : ℕ → Result ArrayQueue Refusal
made n = cond (leb n greatest_capacity) (Ok (fresh n)) (Err CapacityTooLarge)

-- ---- what these four are, for the queue's own proofs

pub contents_is : (q : ArrayQueue) (places : List (List ℕ)) → contents q places ≡ cond (sound q (length places)) (tab q.length (frame_at q places)) []
unfolding contents
contents_is q places = refl

pub free_is : (q : ArrayQueue) (places : List (List ℕ)) → free q places ≡ cond (sound q (length places)) (q.capacity - q.length) 0
unfolding free
free_is q places = refl

pub capacity_is : (q : ArrayQueue) → capacity_of q ≡ q.capacity
unfolding capacity_of
capacity_is q = refl

pub fresh_is : (n : ℕ) → fresh n ≡ record { head = 0; length = 0; capacity = n }
unfolding fresh
fresh_is n = refl

-- ---- what a push, a return and a pop promise

-- a frame f was put among those queued, by the rule `put`, and took one free place
pub record Put (put : Frame → List Frame → List Frame) (q : ArrayQueue) (places : List (List ℕ)) (f : Frame) (q' : ArrayQueue) (places' : List (List ℕ)) : Type 0 where
  pub queued : contents q' places' ≡ put f (contents q places)
  pub left : suc (free q' places') ≡ free q places
  pub capacity : capacity_of q' ≡ capacity_of q

-- the answer to a frame f that is to be put so, and what is after it; after a refusal the queue and the lent places are as before
pub record Places (put : Frame → List Frame → List Frame) (q : ArrayQueue) (places : List (List ℕ)) (f : Frame) (r : Pushed) (places' : List (List ℕ)) : Type 0 where
  pub answered : r.answer ≡ placed (free q places) f
  pub queued : contents r.queue places' ≡ after r.answer (put f (contents q places)) (contents q places)
  pub left : free r.queue places' ≡ after r.answer (free q places - 1) (free q places)
  pub capacity : capacity_of r.queue ≡ capacity_of q
  pub kept : (r.queue ≡ after r.answer r.queue q) × (places' ≡ after r.answer places' places)

-- the first frame is handed out and leaves; where there is none, nothing is handed out and the queue is as before
pub record Pops (q : ArrayQueue) (places : List (List ℕ)) (r : Popped) : Type 0 where
  pub answered : r.held ≡ held_of (first (contents q places))
  pub queued : contents r.queue places ≡ rest (contents q places)
  pub left : free r.queue places ≡ cond (is_some r.held) (suc (free q places)) (free q places)
  pub capacity : capacity_of r.queue ≡ capacity_of q
  pub kept : r.queue ≡ cond (is_some r.held) r.queue q

-- ---- what the functions of this crate promise each other

-- the state with one more frame, in a ring that starts at head
abbrev pub grown : ArrayQueue → ℕ → ArrayQueue
grown q head = record { head = head; length = q.length + 1; capacity = q.capacity }

-- the place at index p is free now, and a frame of this ID that is written there is put among those queued, in a ring that starts at head
pub record Opens (put : Frame → List Frame → List Frame) (q : ArrayQueue) (head id : ℕ) (places places' : List (List ℕ)) (p : ℕ) : Type 0 where
  pub there : p < length places'
  pub as_many : length places' ≡ length places
  pub takes : (place : List ℕ) → (frame_of place).id ≡ id → Put put q places (frame_of place) (grown q head) (set places' p place)
