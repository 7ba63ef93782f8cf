-- A frame in the gap is among those queued where its rule puts it; push and return differ in that rule and in where the ring then starts.
use Rattle.std.specs.Prelude.{Err, Ok, Result}
use mathlib.Core.Path.{◌≡◌, refl, sym, ap, ◌∙◌}
use mathlib.Core.Bool.{true}
use mathlib.Core.List.{List}
use Prim.Native.Nat.{ℕ, suc, ◌+◌, ◌-◌, ◌≤◌, ◌<◌}
use native.Mathlib.Omega.{arith}
use borrow.Author.Tests.{le-leb, leb-true}
use lib.Dec.{leb}
use lib.ListN.{length, set, length-set}
use Rattle.laws.proofs.Choose.{first_chosen}
use Rattle.rules.specs.Limits.{greatest_frame, greatest_can_id}
use Rattle.rules.specs.Frames.{Frame}
use Rattle.rules.specs.Queue.{placed}
use Rattle.rules.specs.declared.refusal.Refusal.{Refusal}
use Rattle.queue.specs.Place.{frame_of}
use Rattle.queue.specs.Ring.{slot_of, at, tab}
use Rattle.queue.specs.Room.{Opened, inserted_at}
use Rattle.queue.specs.Queue.{sound, frame_at, free, capacity_is, grown, Put, Opens, Places}
use Rattle.queue.specs.declared.ArrayQueue.{ArrayQueue}
use Rattle.queue.specs.declared.Pushed.{Pushed}
use Rattle.queue.proofs.Slots.{slot_below, tab_same}
use Rattle.queue.proofs.Insertion.{inserted_at_tab}
use Rattle.queue.proofs.Gaps.{there, elsewhere}
use Rattle.queue.proofs.State.{Sound, sound_of, contents_of, free_of, with_room}

module _ (put : Frame → List Frame → List Frame) (q : ArrayQueue) (places : List (List ℕ)) (filled : List ℕ) (head id : ℕ) (was : ℕ → List ℕ) (moved : List (List ℕ)) (j : ℕ)
    (s : Sound q (length places)) (spare : q.length < q.capacity) (hh : head < q.capacity)
    (stood : (k : ℕ) → k < q.length → was k ≡ at q.head q.capacity places k)
    (ei : (frame_of filled).id ≡ id)
    (o : Opened put head q.capacity q.length id places was moved j) where
  after_it : List (List ℕ)
  after_it = set moved (slot_of head q.capacity j) filled

  lent : q.capacity ≤ length moved
  lent = omega (arith, s.enough, o.gap.as_many)

  grown_sound : sound (grown q head) (length after_it) ≡ true
  unfolding after_it
  grown_sound = simp length-set (sound_of (grown q head) _ (record { head = hh; room = omega arith; small = s.small; enough = lent }))

  -- the frames of the grown ring are those that were, and the new one at j
  frames : tab (suc q.length) (frame_at (grown q head) after_it) ≡ inserted_at j (frame_of filled) (tab q.length (λ k. frame_of (was k)))
  unfolding after_it
  frames =
      inserted_at_tab q.length j (frame_of filled) (frame_at (grown q head) after_it) (λ k. frame_of (was k)) o.gap.inside
      (λ k h. ap frame_of (elsewhere head q.capacity q.length places hh spare moved filled k j (omega (arith, o.gap.inside)) (omega (arith, o.gap.inside)) (λ e. omega arith) ∙ o.gap.low k h))
      (ap frame_of (there head q.capacity q.length places hh spare moved filled j (omega (arith, o.gap.inside)) lent))
      (λ k h₁ h₂. ap frame_of (elsewhere head q.capacity q.length places hh spare moved filled (suc k) j (omega arith) (omega (arith, o.gap.inside)) (λ e. omega arith) ∙ o.gap.high k h₁ h₂))

  put_at : Put put q places (frame_of filled) (grown q head) after_it
  unfolding after_it
  put_at =
      record {
        queued =
            contents_of (grown q head) after_it grown_sound
            ∙ ap (λ (n : ℕ). tab n (frame_at (grown q head) after_it)) more
            ∙ frames
            ∙ sym (o.there (frame_of filled) ei)
            ∙ ap (put (frame_of filled)) (tab_same q.length (λ k. frame_of (was k)) (frame_at q places) (λ k h. ap frame_of (stood k h)) ∙ sym (contents_of q places (sound_of q _ s)));
        left = omega (arith, free_of q places (sound_of q _ s), free_of (grown q head) after_it grown_sound);
        capacity = capacity_is (grown q head) ∙ sym (capacity_is q);
      }
    where
      more : q.length + 1 ≡ suc q.length
      more = omega arith

-- the gap is where a frame of this ID is to be written
pub opens : {put : Frame → List Frame → List Frame} {q : ArrayQueue} {places : List (List ℕ)} {head id : ℕ} {was : ℕ → List ℕ} {moved : List (List ℕ)} {j p : ℕ} →
    Sound q (length places) → q.length < q.capacity → head < q.capacity → ((k : ℕ) → k < q.length → was k ≡ at q.head q.capacity places k) →
    Opened put head q.capacity q.length id places was moved j → p ≡ slot_of head q.capacity j → Opens put q head id places moved p
unfolding after_it
opens {put} {q} {places} {head} {id} {was} {moved} {j} {p} s spare hh stood o ep =
    record {
      there = rw ep (omega (arith, slot_below head q.capacity j hh (omega (arith, o.gap.inside)), s.enough, o.gap.as_many));
      as_many = o.gap.as_many;
      takes = λ place e. rw ep (put_at put q places place head id was moved j s spare hh stood e o);
    }

-- ---- the answer

-- a frame that is placed is not too long, its ID is one, and a place is free
pub record Fits (room : ℕ) (f : Frame) : Type 0 where
  pub short : length f.bytes ≤ greatest_frame
  pub small : f.id ≤ greatest_can_id
  pub spare : 0 < room

no_placing : {A : Type 0} {r : Refusal} → ◌≡◌ {A = Result (Unit {0}) Refusal} (Err r) (Ok tt) → A
no_placing e = absurd (let z : ◌≡◌ {A = ℕ} 0 1 = cc in omega arith)

pub placed_fits : (room : ℕ) (f : Frame) → placed room f ≡ Ok tt → Fits room f
placed_fits room f e =
    let e₁ = first_chosen (leb (length f.bytes) greatest_frame) _ _ _ e (λ w. no_placing w) in
    let e₂ = first_chosen (leb f.id greatest_can_id) _ _ _ e₁.1 (λ w. no_placing w) in
    let e₃ = first_chosen (leb 1 room) _ _ _ e₂.1 (λ w. no_placing w) in
    record { short = leb-true _ _ e₁.0; small = leb-true _ _ e₂.0; spare = leb-true _ _ e₃.0 }

pub fits_placed : (room : ℕ) (f : Frame) → Fits room f → placed room f ≡ Ok tt
fits_placed room f h = simp (le-leb _ _ h.short, le-leb _ _ h.small, le-leb _ _ h.spare)

-- where a frame is placed the state is sound, and not full
pub placed_in : (q : ArrayQueue) (places : List (List ℕ)) (f : Frame) → Ok tt ≡ placed (free q places) f → Sound q (length places) × (q.length < q.capacity)
placed_in q places f e = with_room q places (placed_fits (free q places) f (sym e)).spare

module _ (put : Frame → List Frame → List Frame) (q : ArrayQueue) (places : List (List ℕ)) (f : Frame) where
  pub refuses : (r : Refusal) → Err r ≡ placed (free q places) f → Places put q places f (record { queue = q; answer = Err r }) places
  refuses r e = record { answered = e; queued = refl; left = refl; capacity = refl; kept = (refl, refl) }

  -- the frame is written into the place that was opened for it
  pub places_it : {head p : ℕ} {places' : List (List ℕ)} (place : List ℕ) (r : Pushed) → Ok tt ≡ placed (free q places) f → Opens put q head f.id places places' p →
      frame_of place ≡ f → r ≡ record { queue = grown q head; answer = Ok tt } → Places put q places f r (set places' p place)
  places_it place r e o ef er =
      let w = o.takes place (ap (λ (g : Frame). g.id) ef) in
      rw er (record { answered = e; queued = rw ef at w.queued; left = omega (arith, w.left); capacity = w.capacity; kept = (refl, refl) })

-- for callers: a frame that fits is put among those queued, and one place fewer is free
pub put_in : {put : Frame → List Frame → List Frame} {q : ArrayQueue} {places places' : List (List ℕ)} {f : Frame} {r : Pushed} →
    Places put q places f r places' → Fits (free q places) f → Put put q places f r.queue places'
put_in {put} {q} {places} {places'} {f} {r} p h =
    let t : r.answer ≡ Ok tt = p.answered ∙ fits_placed (free q places) f h in
    let l : free r.queue places' ≡ free q places - 1 = rw t at p.left in
    record { queued = rw t at p.queued; left = omega (arith, h.spare); capacity = p.capacity }
