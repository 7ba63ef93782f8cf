-- The order of the queue. Document 01: "The queue is ordered by CAN ID, smallest first. `push_frame` sets a frame behind its equals, `return_frame` in front of
-- them. Peek changes nothing; pop takes the first and its room is usable again at once. On an empty queue both say 'nothing'." Putting a frame in the queue is
-- refused "3, 1, 13; no bytes is allowed there". What is queued is a list of frames, the first to leave first.
use Rattle.std.specs.Prelude.{ℕ, ◌≤◌, Bool, true, cond, ◌&&◌, List, [], ◌∷◌, length, ◌==◌, nat_le, nat_lt, Err, Ok, Result, Option, None, Some}
use Rattle.rules.specs.declared.refusal.Refusal.{Refusal}
use Rattle.rules.specs.declared.refusal.Refusal.TheVariants.{CanId, FrameTooLong, NoPlace}
use Rattle.rules.specs.Limits.{greatest_frame, greatest_can_id}
use Rattle.rules.specs.Frames.{Frame}

-- every ID is above i
abbrev pub all_above : ℕ → List Frame → Bool
all_above i [] = true
all_above i (f ∷ fs) = nat_lt i f.id && all_above i fs

-- a frame right behind the last whose ID is not above its own: behind its equals
abbrev pub pushed : Frame → List Frame → List Frame
pushed f [] = f ∷ []
pushed f (g ∷ gs) = cond (all_above f.id (g ∷ gs)) (f ∷ g ∷ gs) (g ∷ pushed f gs)

-- a frame right in front of the first whose ID is not below its own: in front of its equals
abbrev pub returned : Frame → List Frame → List Frame
returned f [] = f ∷ []
returned f (g ∷ gs) = cond (nat_le f.id g.id) (f ∷ g ∷ gs) (g ∷ returned f gs)

-- the frame that leaves next, and what is queued after it left
abbrev pub first : List Frame → Option Frame
first [] = None
first (f ∷ fs) = Some f

abbrev pub rest : List Frame → List Frame
rest [] = []
rest (f ∷ fs) = fs

-- whether so many frames find a place where so many are free: refusal 13 if not
abbrev pub room_for : ℕ → ℕ → Result (Unit {0}) Refusal
room_for free frames = cond (nat_le frames free) (Ok tt) (Err NoPlace)

-- whether a frame is placed where so many places are free: over 64 bytes refusal 3, a CAN ID of 2^29 or more 1, no free place 13
abbrev pub placed : ℕ → Frame → Result (Unit {0}) Refusal
placed free f =
    cond (nat_le (length f.bytes) greatest_frame)
    (cond (nat_le f.id greatest_can_id) (room_for free 1) (Err CanId))
    (Err FrameTooLong)

-- what stands after an answer: the new where it was placed, the old where it was refused
abbrev pub after : {A : Type 0} → Result (Unit {0}) Refusal → A → A → A
after (Ok _) new old = new
after (Err r) new old = old

-- ---- what order means

-- no ID is below i
abbrev pub AllFrom : ℕ → List Frame → Type 0
AllFrom i [] = Unit {0}
AllFrom i (f ∷ fs) = (i ≤ f.id) × AllFrom i fs

-- the IDs rise or stay
abbrev pub Ordered : List Frame → Type 0
Ordered [] = Unit {0}
Ordered (f ∷ fs) = AllFrom f.id fs × Ordered fs

-- the frames with ID i, in their order
abbrev pub having : ℕ → List Frame → List Frame
having i [] = []
having i (f ∷ fs) = cond (f.id == i) (f ∷ having i fs) (having i fs)

-- the textbook's insertion into an ordered list
abbrev pub inserted : Frame → List Frame → List Frame
inserted f [] = f ∷ []
inserted f (g ∷ gs) = cond (nat_lt f.id g.id) (f ∷ g ∷ gs) (g ∷ inserted f gs)
