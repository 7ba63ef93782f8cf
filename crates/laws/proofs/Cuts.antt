-- Cuts of lists that the library lacks.
use mathlib.Core.Path.{◌≡◌}
use mathlib.Core.Logic.{⊎_elim}
use mathlib.Core.List.{List, [], ◌∷◌, ◌++◌}
use Prim.Native.Nat.{ℕ, zero, suc, ◌-◌, ◌≤◌, ◌<◌, min}
use native.Mathlib.Nat.{suc-sub-suc, sub-zero, zero-sub}
use native.Mathlib.Omega.{arith}
use lib.ListN.{length, take}
use lib.Seq.{take-length, take-nil, take_all}
use Rattle.laws.proofs.Choose.{at_most_or_above}

module _ {A : Type 0} where
  -- a cut that may fall into either of two lists
  pub take_append : (n : ℕ) (xs ys : List A) → take n (xs ++ ys) ≡ take n xs ++ take (n - length xs) ys
  take_append n [] ys = rw (sub-zero, take-nil n)
  take_append zero (x ∷ xs) ys = rw zero-sub
  take_append (suc n) (x ∷ xs) ys = rw (suc-sub-suc, take_append n xs ys)

  -- no cut takes more than there is
  pub take_min : (n : ℕ) (xs : List A) → take (min n (length xs)) xs ≡ take n xs
  take_min n xs =
      ⊎_elim (λ (h : n ≤ length xs). let k : min n (length xs) ≡ n = omega arith in rw k)
      (λ (h : length xs < n).
      let k : min n (length xs) ≡ length xs = omega arith in
      let l : length xs ≤ n = omega arith in rw (k, take_all n xs l, take-length)) (at_most_or_above n (length xs))
