-- The places of a ring: those below its length are all different, and a ring that starts one place on or back has the same ones, counted one off.
use mathlib.Core.Path.{◌≡◌, refl, ap}
use mathlib.Core.Logic.{◌≢◌, ◌⊎◌, inl, inr, ⊎_elim}
use mathlib.Core.Bool.{Bool, true, false}
use Prim.Native.Nat.{ℕ, zero, suc, ◌+◌, ◌-◌, ◌≤◌, ◌<◌}
use native.Mathlib.Omega.{arith}
use borrow.Author.Tests.{ltb-true, ltb-false}
use lib.Dec.{ltb}
use lib.ListN.{length}
use Rattle.queue.specs.Ring.{slot_of, one_back, tab}

-- where the k-th place lies: before the ring's end, or past it and counted from its start
abbrev Lies : ℕ → ℕ → ℕ → Type 0
Lies head cap k = ((head + k < cap) × (slot_of head cap k ≡ head + k)) ⊎ ((cap ≤ head + k) × (slot_of head cap k ≡ head + k - cap))

lies : (head cap k : ℕ) → Lies head cap k
unfolding slot_of
lies head cap k = go (ltb (head + k) cap) refl
  where
    go : (b : Bool) → ltb (head + k) cap ≡ b → Lies head cap k
    go true e = inl (ltb-true _ _ e, rw e)
    go false e = inr (ltb-false _ _ e, rw e)

pub slot_below : (head cap k : ℕ) → head < cap → k < cap → slot_of head cap k < cap
slot_below head cap k h hk = ⊎_elim (λ w. omega arith) (λ w. omega arith) (lies head cap k)

-- and where the k-th place is said to lie
pub slot_in : (head cap k p : ℕ) → head < cap → k < cap → p ≡ slot_of head cap k → p < cap
slot_in head cap k p h hk e = rw e (slot_below head cap k h hk)

pub slot_one_below : (head cap : ℕ) → head < cap → slot_of head cap 1 < cap
slot_one_below head cap h = ⊎_elim (λ w. omega arith) (λ w. omega arith) (lies head cap 1)

pub slot_apart : (head cap i k : ℕ) → head < cap → i < cap → k < cap → i ≢ k → slot_of head cap i ≢ slot_of head cap k
slot_apart head cap i k h hi hk ne e =
    ⊎_elim
    (λ w. ⊎_elim (λ v. ne (omega arith)) (λ v. omega arith) (lies head cap k))
    (λ w. ⊎_elim (λ v. omega arith) (λ v. ne (omega arith)) (lies head cap k))
    (lies head cap i)

pub slot_zero : (head cap : ℕ) → head < cap → slot_of head cap 0 ≡ head
slot_zero head cap h = ⊎_elim (λ w. omega arith) (λ w. omega arith) (lies head cap 0)

-- the places of a ring that starts at the d-th place of another
from_there : (head cap d k m : ℕ) → head < cap → d < cap → k < cap → m < cap → (d + k ≡ m) ⊎ (d + k ≡ m + cap) → slot_of (slot_of head cap d) cap k ≡ slot_of head cap m
from_there head cap d k m h hd hk hm e = go (lies head cap d) (lies head cap m) (lies (slot_of head cap d) cap k) e
  where
    go : Lies head cap d → Lies head cap m → Lies (slot_of head cap d) cap k → (d + k ≡ m) ⊎ (d + k ≡ m + cap) → slot_of (slot_of head cap d) cap k ≡ slot_of head cap m
    go (inl u) (inl v) (inl w) (inl e) = omega arith
    go (inl u) (inl v) (inl w) (inr e) = omega arith
    go (inl u) (inl v) (inr w) (inl e) = omega arith
    go (inl u) (inl v) (inr w) (inr e) = omega arith
    go (inl u) (inr v) (inl w) (inl e) = omega arith
    go (inl u) (inr v) (inl w) (inr e) = omega arith
    go (inl u) (inr v) (inr w) (inl e) = omega arith
    go (inl u) (inr v) (inr w) (inr e) = omega arith
    go (inr u) (inl v) (inl w) (inl e) = omega arith
    go (inr u) (inl v) (inl w) (inr e) = omega arith
    go (inr u) (inl v) (inr w) (inl e) = omega arith
    go (inr u) (inl v) (inr w) (inr e) = omega arith
    go (inr u) (inr v) (inl w) (inl e) = omega arith
    go (inr u) (inr v) (inl w) (inr e) = omega arith
    go (inr u) (inr v) (inr w) (inl e) = omega arith
    go (inr u) (inr v) (inr w) (inr e) = omega arith

-- one place on
pub slot_next : (head cap k : ℕ) → head < cap → suc k < cap → slot_of (slot_of head cap 1) cap k ≡ slot_of head cap (suc k)
slot_next head cap k h hk = from_there head cap 1 k (suc k) h (omega arith) (omega arith) hk (inl (omega arith))

-- one place back
pub slot_back : (head cap k : ℕ) → head < cap → suc k < cap → slot_of (one_back head cap) cap (suc k) ≡ slot_of head cap k
slot_back head cap k h hk = from_there head cap (cap - 1) (suc k) k h (omega arith) hk (omega arith) (inr (omega arith))

-- where the place before p lies: before the first is the last
pub before_first : (cap p : ℕ) → p < cap → p ≡ 0 → one_back p cap ≡ cap - 1
before_first cap p h e = ⊎_elim (λ w. omega arith) (λ w. omega arith) (lies p cap (cap - 1))

pub before_other : (cap p : ℕ) → p < cap → 0 < p → one_back p cap ≡ p - 1
before_other cap p h w = ⊎_elim (λ v. omega arith) (λ v. omega arith) (lies p cap (cap - 1))

-- from the j-th place to the one before it, and to the one behind it
pub to_before : (head cap i j p : ℕ) → head < cap → j < cap → i + 1 ≡ j → p ≡ slot_of head cap j → one_back p cap ≡ slot_of head cap i
to_before head cap i j p h hj e ep = rw ep (from_there head cap j (cap - 1) i h hj (omega arith) (omega arith) (inr (omega arith)))

pub to_behind : (head cap i j p : ℕ) → head < cap → i < cap → j + 1 ≡ i → p ≡ slot_of head cap j → slot_of p cap 1 ≡ slot_of head cap i
to_behind head cap i j p h hi e ep = rw ep (from_there head cap j 1 i h (omega arith) (omega arith) hi (inl e))

-- ---- lists by index

pub tab_same : {A : Type 0} (n : ℕ) (f g : ℕ → A) → ((k : ℕ) → k < n → f k ≡ g k) → tab n f ≡ tab n g
tab_same zero f g h = refl
tab_same (suc n) f g h = cc (h 0 (omega arith), tab_same n (λ k. f (suc k)) (λ k. g (suc k)) (λ k hk. h (suc k) (omega arith)))

pub length_tab : {A : Type 0} (n : ℕ) (f : ℕ → A) → length (tab n f) ≡ n
length_tab zero f = refl
length_tab (suc n) f = ap suc (length_tab n (λ k. f (suc k)))
