-- Digits and the number that they write determine each other, since a quotient and a remainder determine a number and it determines them.
use mathlib.Core.Path.{◌≡◌, refl, sym, ap, ap₂, ◌∙◌, subst}
use mathlib.Core.List.{List, [], ◌∷◌}
use Prim.Native.Nat.{ℕ, zero, suc, ◌+◌, ◌*◌, ◌/◌, ◌%◌, ◌^◌, ◌<◌}
use native.Mathlib.Nat.{div-one, pow-zero, pow-suc, pow-succ', mod-lt, div-add-mod', div-div-eq-div-mul, div-lt_iff_lt-mul, not-suc-le-zero, le_of_suc-le-suc}
use native.Mathlib.Omega.{arith}
use lib.Arith.{digits_lt, digits_div, digits_mod}
use lib.ListN.{length, get_or, set}
use lib.Seq.{sets}
use Rattle.laws.specs.Digits.{value_of, digits_of, AreDigits}

module _ (b : ℕ) (pos : 0 < b) where
  -- as many digits as asked for
  pub length_digits : (n v : ℕ) → length (digits_of b n v) ≡ n
  unfolding digits_of
  length_digits zero v = refl
  length_digits (suc n) v = ap suc (length_digits n (v / b))

  -- and each is below the base
  pub are_digits : (n v : ℕ) → AreDigits b (digits_of b n v)
  unfolding digits_of
  are_digits zero v k = pos
  are_digits (suc n) v zero = mod-lt v pos
  are_digits (suc n) v (suc k) = are_digits n (v / b) k

  -- the digit k of a number
  pub digit : (n v k : ℕ) → k < n → get_or (digits_of b n v) k 0 ≡ v / b ^ k % b
  unfolding digits_of
  digit zero v k h = absurd (not-suc-le-zero h)
  digit (suc n) v zero h = ap (λ (x : ℕ). x % b) (sym (div-one v) ∙ ap (λ (x : ℕ). v / x) (sym (pow-zero b)))
  digit (suc n) v (suc k) h =
      digit n (v / b) k (le_of_suc-le-suc h) ∙ ap (λ (x : ℕ). x % b) (div-div-eq-div-mul v b (b ^ k) ∙ ap (λ (x : ℕ). v / x) (sym (pow-succ' b k)))

  -- n digits write a number below the n-th power of the base
  pub value_lt : (ds : List ℕ) → AreDigits b ds → value_of b ds < b ^ length ds
  unfolding value_of
  value_lt [] w = omega (arith, pow-zero b)
  value_lt (d ∷ ds) w = subst (λ (x : ℕ). value_of b (d ∷ ds) < x) (sym (pow-suc b (length ds))) (digits_lt (value_lt ds (λ k. w (suc k))) (w 0))

  -- the digits of a number below that power write it
  pub value_digits : (n v : ℕ) → v < b ^ n → value_of b (digits_of b n v) ≡ v
  unfolding value_of digits_of
  value_digits zero v h = omega (arith, pow-zero b)
  value_digits (suc n) v h =
      ap (λ (x : ℕ). x * b + v % b) (value_digits n (v / b) ((div-lt_iff_lt-mul pos).1 (subst (λ (x : ℕ). v < x) (pow-suc b n) h))) ∙ div-add-mod' v b

  -- and digits are the digits of the number that they write
  pub digits_value : (ds : List ℕ) → AreDigits b ds → digits_of b (length ds) (value_of b ds) ≡ ds
  unfolding value_of digits_of
  digits_value [] w = refl
  digits_value (d ∷ ds) w =
      ap₂ ◌∷◌ (digits_mod (value_of b ds) (w 0))
      (ap (digits_of b (length ds)) (digits_div (value_of b ds) (w 0)) ∙ digits_value ds (λ k. w (suc k)))

  -- no digits are digits, and one more before digits
  pub none_digits : AreDigits b []
  none_digits k = pos

  pub cons_digits : (d : ℕ) (ds : List ℕ) → d < b → AreDigits b ds → AreDigits b (d ∷ ds)
  cons_digits d ds h w zero = h
  cons_digits d ds h w (suc k) = w k

  -- a digit set in digits leaves digits
  pub set_digits : (ds : List ℕ) (k d : ℕ) → AreDigits b ds → d < b → AreDigits b (set ds k d)
  set_digits [] k d w h j = w j
  set_digits (x ∷ xs) zero d w h zero = h
  set_digits (x ∷ xs) zero d w h (suc j) = w (suc j)
  set_digits (x ∷ xs) (suc k) d w h zero = w 0
  set_digits (x ∷ xs) (suc k) d w h (suc j) = set_digits xs k d (λ i. w (suc i)) h j

  pub sets_digits : (ds : List ℕ) (i : ℕ) (vs : List ℕ) → AreDigits b ds → AreDigits b vs → AreDigits b (sets ds i vs)
  sets_digits ds i [] w a = w
  sets_digits ds i (v ∷ vs) w a = sets_digits (set ds i v) (suc i) vs (set_digits ds i v w (a 0)) (λ k. a (suc k))

module _ (b c : ℕ) (posb : 0 < b) (posc : 0 < c) (ds : List ℕ) (w : AreDigits b ds) (m : ℕ) (e : b ^ length ds ≡ c ^ m) where
  -- written in another base, in digits enough, a number is the same
  pub other_base : value_of c (digits_of c m (value_of b ds)) ≡ value_of b ds
  other_base = value_digits c posc m (value_of b ds) (subst (λ (x : ℕ). value_of b ds < x) e (value_lt b posb ds w))

  -- so digits come back from it
  pub there_and_back : digits_of b (length ds) (value_of c (digits_of c m (value_of b ds))) ≡ ds
  there_and_back = ap (digits_of b (length ds)) other_base ∙ digits_value b posb ds w
