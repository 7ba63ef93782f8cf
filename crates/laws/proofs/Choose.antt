-- Choosing by a test: which side is taken, and what holds of both sides.
use mathlib.Core.Path.{◌≡◌, refl}
use mathlib.Core.Bool.{Bool, true, false, cond, ◌&&◌, ◌||◌, false≢true, true≢false}
use mathlib.Core.Logic.{◌⊎◌, inl, inr}
use Prim.Native.Nat.{ℕ, ◌≤◌, ◌<◌}
use native.Mathlib.Nat.{lt_of_not-le}
use native.Mathlib.Decide.{dec_le}

-- one number is at most another, or above it
pub at_most_or_above : (a b : ℕ) → (a ≤ b) ⊎ (b < a)
at_most_or_above a b = go (dec_le a b)
  where
    go : Dec (a ≤ b) → (a ≤ b) ⊎ (b < a)
    go (yes h) = inl h
    go (no f) = inr (lt_of_not-le f)

-- what holds of both sides holds of the chosen one
pub either_way : {A : Type 0} (P : A → Type 0) (t : Bool) {a b : A} → P a → P b → P (cond t a b)
either_way P true p q = p
either_way P false p q = q

-- a choice that came out as c was the first, where the second is not c ..
pub first_chosen : {A : Type 0} (t : Bool) (a b c : A) → cond t a b ≡ c → (b ≡ c → ⊥) → (t ≡ true) × (a ≡ c)
first_chosen true a b c e f = (refl, e)
first_chosen false a b c e f = absurd (f e)

-- .. and the second, where the first is not c
pub second_chosen : {A : Type 0} (t : Bool) (a b c : A) → cond t a b ≡ c → (a ≡ c → ⊥) → (t ≡ false) × (b ≡ c)
second_chosen true a b c e f = absurd (f e)
second_chosen false a b c e f = (refl, e)

pub both_true : (a b : Bool) → (a && b) ≡ true → (a ≡ true) × (b ≡ true)
both_true true b e = (refl, e)
both_true false b e = absurd (false≢true e)

pub neither : (a b : Bool) → (a || b) ≡ false → (a ≡ false) × (b ≡ false)
neither true b e = absurd (true≢false e)
neither false b e = (refl, e)
