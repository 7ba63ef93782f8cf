-- What a state holds and has free, by its fields: a state that is not sound has nothing of either.
use mathlib.Core.Path.{◌≡◌, refl, ◌∙◌, subst}
use mathlib.Core.Bool.{Bool, true, false, cond}
use mathlib.Core.List.{List, [], ◌∷◌}
use Prim.Native.Nat.{ℕ, suc, ◌-◌, ◌≤◌, ◌<◌}
use native.Mathlib.Omega.{arith}
use borrow.Author.Tests.{lt-ltb, le-leb, ltb-true, leb-true, eqb-true, eqb-false}
use lib.Dec.{eqb}
use lib.ListN.{length}
use Rattle.laws.proofs.Choose.{both_true}
use Rattle.rules.specs.Limits.{greatest_capacity}
use Rattle.rules.specs.Frames.{Frame}
use Rattle.queue.specs.Ring.{tab}
use Rattle.queue.specs.Queue.{sound, frame_at, contents, contents_is, free, free_is}
use Rattle.queue.specs.declared.ArrayQueue.{ArrayQueue}
use Rattle.queue.proofs.Slots.{length_tab}

pub record Sound (q : ArrayQueue) (lent : ℕ) : Type 0 where
  pub head : q.head < q.capacity
  pub room : q.length ≤ q.capacity
  pub small : q.capacity ≤ greatest_capacity
  pub enough : q.capacity ≤ lent

pub sound_parts : (q : ArrayQueue) (lent : ℕ) → sound q lent ≡ true → Sound q lent
sound_parts q lent e =
    let e₁ = both_true _ _ e in
    let e₂ = both_true _ _ e₁.1 in
    let e₃ = both_true _ _ e₂.1 in
    record {
      head = ltb-true _ _ e₁.0;
      room = leb-true _ _ e₂.0;
      small = leb-true _ _ e₃.0;
      enough = leb-true _ _ e₃.1;
    }

pub sound_of : (q : ArrayQueue) (lent : ℕ) → Sound q lent → sound q lent ≡ true
sound_of q lent s = simp (lt-ltb _ _ s.head, le-leb _ _ s.room, le-leb _ _ s.small, le-leb _ _ s.enough)

-- whether there is a frame, by the test of the length
pub none_of : (fs : List Frame) → eqb (length fs) 0 ≡ true → fs ≡ []
none_of [] e = refl
none_of (f ∷ fs) e = absurd (let z = eqb-true (suc (length fs)) 0 e in omega arith)

some_of : (fs : List Frame) → eqb (length fs) 0 ≡ false → 0 < length fs
some_of [] e = absurd (eqb-false 0 0 e refl)
some_of (f ∷ fs) e = omega arith

module _ (q : ArrayQueue) (places : List (List ℕ)) where
  pub contents_of : sound q (length places) ≡ true → contents q places ≡ tab q.length (frame_at q places)
  contents_of e = contents_is q places ∙ rw e

  pub contents_none : sound q (length places) ≡ false → contents q places ≡ []
  contents_none e = contents_is q places ∙ rw e

  pub free_of : sound q (length places) ≡ true → free q places ≡ q.capacity - q.length
  free_of e = free_is q places ∙ rw e

  pub free_none : sound q (length places) ≡ false → free q places ≡ 0
  free_none e = free_is q places ∙ rw e

  -- a sound state holds as many frames as it says
  pub contents_length : sound q (length places) ≡ true → length (contents q places) ≡ q.length
  contents_length e = rw (contents_of e) (length_tab q.length (frame_at q places))

  -- where a place is free the state is sound, and not full
  pub with_room : 0 < free q places → Sound q (length places) × (q.length < q.capacity)
  with_room h = go (sound q (length places)) refl (subst (λ (n : ℕ). 0 < n) (free_is q places) h)
    where
      go : (b : Bool) → sound q (length places) ≡ b → 0 < cond b (q.capacity - q.length) 0 → Sound q (length places) × (q.length < q.capacity)
      go true e w = (sound_parts q (length places) e, omega arith)
      go false e w = absurd (omega arith)

  -- where a frame is queued the state is sound, and says so
  pub with_frames : eqb (length (contents q places)) 0 ≡ false → Sound q (length places) × (0 < q.length)
  with_frames h = go (sound q (length places)) refl (subst (λ (fs : List Frame). 0 < length fs) (contents_is q places) (some_of (contents q places) h))
    where
      go : (b : Bool) → sound q (length places) ≡ b → 0 < length (cond b (tab q.length (frame_at q places)) []) → Sound q (length places) × (0 < q.length)
      go true e w = (sound_parts q (length places) e, subst (λ (n : ℕ). 0 < n) (length_tab q.length (frame_at q places)) w)
      go false e w = absurd (omega arith)
