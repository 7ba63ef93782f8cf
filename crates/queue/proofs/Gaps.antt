-- How a gap is made in a ring: a push moves it from behind the last frame towards the head, a return from before the first frame away from it. Each step
-- moves one frame and keeps that the frames stand in their order on both sides of the gap.
use mathlib.Core.Path.{◌≡◌, refl, ap, ◌∙◌}
use mathlib.Core.Logic.{⊎_elim}
use mathlib.Core.List.{List, []}
use Prim.Native.Nat.{ℕ, suc, ◌+◌, ◌≤◌, ◌<◌}
use native.Mathlib.Nat.{eq-or-lt_of_le}
use native.Mathlib.Omega.{arith}
use lib.ListN.{length, get_or, set, length-set}
use lib.Seq.{get_or-set_same, get_or-set_other}
use Rattle.rules.specs.Queue.{pushed, returned}
use Rattle.queue.specs.Place.{frame_of}
use Rattle.queue.specs.Ring.{slot_of, at}
use Rattle.queue.specs.Room.{Gap, Opened}
use Rattle.queue.proofs.Slots.{slot_below, slot_apart}
use Rattle.queue.proofs.Insertion.{pushed_at, returned_at}

-- the frames behind the gap are above id: what a push's search keeps
pub record Above (head cap n : ℕ) (before : List (List ℕ)) (id : ℕ) (l : List (List ℕ)) (j : ℕ) : Type 0 where
  pub gap : Gap head cap n before (at head cap before) l j
  pub above : (k : ℕ) → j ≤ k → k < n → id < (frame_of (at head cap before k)).id

-- the frames that stand from place 1 on
abbrev pub behind : ℕ → ℕ → List (List ℕ) → ℕ → List ℕ
behind head cap before k = at head cap before (suc k)

-- those of them that stand before the gap are below id: what a return's search keeps
pub record Below (head cap n : ℕ) (before : List (List ℕ)) (id : ℕ) (l : List (List ℕ)) (j : ℕ) : Type 0 where
  pub gap : Gap head cap n before (behind head cap before) l j
  pub below : (k : ℕ) → k < j → (frame_of (behind head cap before k)).id < id

module _ (head cap n : ℕ) (before : List (List ℕ)) (hh : head < cap) (hn : n < cap) where
  -- a place of the ring that is not the one that was set
  pub elsewhere : (l : List (List ℕ)) (v : List ℕ) (k j : ℕ) → k < cap → j < cap → (k ≡ j → ⊥) → at head cap (set l (slot_of head cap j) v) k ≡ at head cap l k
  elsewhere l v k j hk hj ne = get_or-set_other l _ _ _ [] (slot_apart head cap k j hh hk hj ne)

  -- the one that was set
  pub there : (l : List (List ℕ)) (v : List ℕ) (j : ℕ) → j < cap → cap ≤ length l → at head cap (set l (slot_of head cap j) v) j ≡ v
  there l v j hj hl = get_or-set_same l _ v [] (omega (arith, slot_below head cap j hh hj))

  module _ (was : ℕ → List ℕ) where
    -- the gap moves one place towards the head
    nearer : (i j : ℕ) (l : List (List ℕ)) → i + 1 ≡ j → cap ≤ length l → Gap head cap n before was l j → Gap head cap n before was (set l (slot_of head cap j) (at head cap l i)) i
    nearer i j l e hl g =
        record {
          as_many = simp length-set g.as_many;
          inside = omega (arith, g.inside);
          low = λ k h. elsewhere l _ k j (omega (arith, g.inside)) (omega (arith, g.inside)) (λ w. omega arith) ∙ g.low k (omega arith);
          high = λ k h₁ h₂. ⊎_elim (moved k) (λ h. elsewhere l _ (suc k) j (omega arith) (omega (arith, g.inside)) (λ w. omega arith) ∙ g.high k (omega arith) h₂) (eq-or-lt_of_le h₁);
        }
      where
        moved : (k : ℕ) → i ≡ k → at head cap (set l (slot_of head cap j) (at head cap l i)) (suc k) ≡ was k
        moved k h =
            let s : suc k ≡ j = omega arith in
            rw s (there l (at head cap l i) j (omega (arith, g.inside)) hl ∙ g.low i (omega arith) ∙ ap was h)

    -- the gap moves one place away from the head
    further : (i j : ℕ) (l : List (List ℕ)) → j + 1 ≡ i → j < n → cap ≤ length l → Gap head cap n before was l j → Gap head cap n before was (set l (slot_of head cap j) (at head cap l i)) i
    further i j l e hj hl g =
        record {
          as_many = simp length-set g.as_many;
          inside = omega arith;
          low = λ k h. ⊎_elim (moved k) (λ w. elsewhere l _ k j (omega arith) (omega arith) (λ v. omega arith) ∙ g.low k w) (eq-or-lt_of_le (at_most k h));
          high = λ k h₁ h₂. elsewhere l _ (suc k) j (omega arith) (omega arith) (λ w. omega arith) ∙ g.high k (omega arith) h₂;
        }
      where
        at_most : (k : ℕ) → k < i → k ≤ j
        at_most k h = omega arith

        moved : (k : ℕ) → k ≡ j → at head cap (set l (slot_of head cap j) (at head cap l i)) k ≡ was k
        moved k h =
            let s : i ≡ suc j = omega arith in
            rw h (there l (at head cap l i) j (omega arith) hl ∙ ap (at head cap l) s ∙ g.high j (omega arith) hj)

  module _ (id : ℕ) where
    pub above_none : Above head cap n before id before n
    above_none =
        record {
          gap = record { as_many = refl; inside = omega arith; low = λ k h. refl; high = λ k h₁ h₂. absurd (omega arith) };
          above = λ k h₁ h₂. absurd (omega arith);
        }

    pub above_more :
        (i j q p : ℕ) (l : List (List ℕ)) → i + 1 ≡ j → q ≡ slot_of head cap i → p ≡ slot_of head cap j → cap ≤ length l → Above head cap n before id l j →
        id < (frame_of (get_or l q [])).id → Above head cap n before id (set l p (get_or l q [])) i
    above_more i j q p l e eq ep hl a h =
        rw (eq, ep)
        (record {
          gap = nearer (at head cap before) i j l e hl a.gap;
          above = λ k h₁ h₂. ⊎_elim (found k) (λ w. a.above k (omega arith) h₂) (eq-or-lt_of_le h₁);
        })
      where
        found : (k : ℕ) → i ≡ k → id < (frame_of (at head cap before k)).id
        found k w = rw w at (rw (a.gap.low i (omega arith)) at (rw eq at h))

    pub above_found :
        (i j q : ℕ) (l : List (List ℕ)) → i + 1 ≡ j → q ≡ slot_of head cap i → Above head cap n before id l j → (frame_of (get_or l q [])).id ≤ id →
        Opened pushed head cap n id before (at head cap before) l j
    above_found i j q l e eq a h =
        record {
          gap = a.gap;
          there = λ f w. pushed_at n j f (λ k. frame_of (at head cap before k)) a.gap.inside (λ k h₁ h₂. rw w (a.above k h₁ h₂)) (λ k s. rw w (not_above k s));
        }
      where
        not_above : (k : ℕ) → suc k ≡ j → (frame_of (at head cap before k)).id ≤ id
        not_above k s =
            let t : i ≡ k = omega arith in
            rw (a.gap.low k (omega arith)) at (rw t at (rw eq at h))

    pub above_all : (l : List (List ℕ)) → Above head cap n before id l 0 → Opened pushed head cap n id before (at head cap before) l 0
    above_all l a =
        record {
          gap = a.gap;
          there = λ f w. pushed_at n 0 f (λ k. frame_of (at head cap before k)) a.gap.inside (λ k h₁ h₂. rw w (a.above k h₁ h₂)) (λ k s. absurd (omega arith));
        }

    pub below_none : Below head cap n before id before 0
    below_none =
        record {
          gap = record { as_many = refl; inside = omega arith; low = λ k h. absurd (omega arith); high = λ k h₁ h₂. refl };
          below = λ k h. absurd (omega arith);
        }

    pub below_more :
        (i j q p : ℕ) (l : List (List ℕ)) → j + 1 ≡ i → j < n → q ≡ slot_of head cap i → p ≡ slot_of head cap j → cap ≤ length l → Below head cap n before id l j →
        (frame_of (get_or l q [])).id < id → Below head cap n before id (set l p (get_or l q [])) i
    below_more i j q p l e hj eq ep hl b h =
        rw (eq, ep)
        (record {
          gap = further (behind head cap before) i j l e hj hl b.gap;
          below = λ k w. ⊎_elim (found k) (λ v. b.below k v) (eq-or-lt_of_le (at_most k w));
        })
      where
        at_most : (k : ℕ) → k < i → k ≤ j
        at_most k w = omega arith

        found : (k : ℕ) → k ≡ j → (frame_of (behind head cap before k)).id < id
        found k w =
            let s : i ≡ suc j = omega arith in
            rw w (rw (b.gap.high j (omega arith) hj) at (rw s at (rw eq at h)))

    pub below_found :
        (i j q : ℕ) (l : List (List ℕ)) → j + 1 ≡ i → j < n → q ≡ slot_of head cap i → Below head cap n before id l j → id ≤ (frame_of (get_or l q [])).id →
        Opened returned head cap n id before (behind head cap before) l j
    below_found i j q l e hj eq b h =
        record {
          gap = b.gap;
          there = λ f w. returned_at n j f (λ k. frame_of (behind head cap before k)) b.gap.inside (λ k v. rw w (b.below k v)) (λ v. rw w not_below);
        }
      where
        s : i ≡ suc j
        s = omega arith

        not_below : id ≤ (frame_of (behind head cap before j)).id
        not_below = rw (b.gap.high j (omega arith) hj) at (rw s at (rw eq at h))

    pub below_all : (l : List (List ℕ)) → Below head cap n before id l n → Opened returned head cap n id before (behind head cap before) l n
    below_all l b =
        record {
          gap = b.gap;
          there = λ f w. returned_at n n f (λ k. frame_of (behind head cap before k)) b.gap.inside (λ k v. rw w (b.below k v)) (λ v. absurd (omega arith));
        }
