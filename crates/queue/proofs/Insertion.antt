-- Where a push and a return put a frame, by index: the IDs on both sides of index j tell that it is j.
use mathlib.Core.Path.{◌≡◌, refl, ap}
use mathlib.Core.Bool.{Bool, true, false, ◌&&◌}
use mathlib.Core.List.{List, ◌∷◌}
use Prim.Native.Nat.{ℕ, zero, suc, ◌≤◌, ◌<◌}
use native.Mathlib.Omega.{arith}
use borrow.Author.Tests.{lt-ltb, le-ltb, le-leb, lt-leb}
use lib.Dec.{ltb}
use Rattle.rules.specs.Frames.{Frame}
use Rattle.rules.specs.Queue.{all_above, pushed, returned}
use Rattle.queue.specs.Ring.{tab}
use Rattle.queue.specs.Room.{inserted_at}
use Rattle.queue.proofs.Slots.{tab_same}

all_above_lem : (i n : ℕ) (g : ℕ → Frame) → ((k : ℕ) → k < n → i < (g k).id) → all_above i (tab n g) ≡ true
all_above_lem i zero g h = refl
all_above_lem i (suc n) g h = rw (lt-ltb _ _ (h 0 (omega arith))) (all_above_lem i n (λ k. g (suc k)) (λ k hk. h (suc k) (omega arith)))

not_above : (i n k : ℕ) (g : ℕ → Frame) → k < n → (g k).id ≤ i → all_above i (tab n g) ≡ false
not_above i zero k g hk h = absurd (omega arith)
not_above i (suc n) zero g hk h = rw (le-ltb _ _ h)
not_above i (suc n) (suc k) g hk h = rw (not_above i n k (λ j. g (suc j)) (omega arith) h) (never (ltb i (g 0).id))
  where
    never : (b : Bool) → (b && false) ≡ false
    never true = refl
    never false = refl

-- a push: all from j on are above, and the one before is not
pub pushed_at :
    (n j : ℕ) (f : Frame) (g : ℕ → Frame) →
    j ≤ n →
    ((k : ℕ) → j ≤ k → k < n → f.id < (g k).id) →
    ((k : ℕ) → suc k ≡ j → (g k).id ≤ f.id) →
    pushed f (tab n g) ≡ inserted_at j f (tab n g)
pushed_at zero zero f g hj above below = refl
pushed_at zero (suc j) f g hj above below = absurd (omega arith)
pushed_at (suc n) zero f g hj above below = rw (all_above_lem f.id (suc n) g (λ k hk. above k (omega arith) hk))
pushed_at (suc n) (suc j) f g hj above below =
    rw (not_above f.id (suc n) j g (omega arith) (below j refl))
    (ap (λ (l : List Frame). g 0 ∷ l)
    (pushed_at n j f (λ k. g (suc k)) (omega arith) (λ k h₁ h₂. above (suc k) (omega arith) (omega arith)) (λ k h. below (suc k) (ap suc h))))

-- a return: all before j are below, and the j-th is not
pub returned_at :
    (n j : ℕ) (f : Frame) (g : ℕ → Frame) →
    j ≤ n →
    ((k : ℕ) → k < j → (g k).id < f.id) →
    (j < n → f.id ≤ (g j).id) →
    returned f (tab n g) ≡ inserted_at j f (tab n g)
returned_at zero zero f g hj below above = refl
returned_at zero (suc j) f g hj below above = absurd (omega arith)
returned_at (suc n) zero f g hj below above = rw (le-leb _ _ (above (omega arith)))
returned_at (suc n) (suc j) f g hj below above =
    rw (lt-leb _ _ (below 0 (omega arith)))
    (ap (λ (l : List Frame). g 0 ∷ l)
    (returned_at n j f (λ k. g (suc k)) (omega arith) (λ k h. below (suc k) (omega arith)) (λ h. above (omega arith))))

-- one more element at j: those before it stand where they stood, the others one further
pub inserted_at_tab :
    {A : Type 0} (n j : ℕ) (x : A) (f g : ℕ → A) →
    j ≤ n →
    ((k : ℕ) → k < j → f k ≡ g k) →
    f j ≡ x →
    ((k : ℕ) → j ≤ k → k < n → f (suc k) ≡ g k) →
    tab (suc n) f ≡ inserted_at j x (tab n g)
inserted_at_tab zero zero x f g hj low mid high = cc
inserted_at_tab zero (suc j) x f g hj low mid high = absurd (omega arith)
inserted_at_tab (suc n) zero x f g hj low mid high = cc (tab_same (suc n) (λ k. f (suc k)) g (λ k hk. high k (omega arith) hk))
inserted_at_tab (suc n) (suc j) x f g hj low mid high =
    cc (
      low 0 (omega arith),
      inserted_at_tab n j x (λ k. f (suc k)) (λ k. g (suc k)) (omega arith) (λ k h. low (suc k) (omega arith)) mid (λ k h₁ h₂. high (suc k) (omega arith) (omega arith)),
    )
