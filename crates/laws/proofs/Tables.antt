-- What one computed test says of every entry of a table, and of every number below a bound.
use mathlib.Core.Path.{◌≡◌, ap, sym, subst, ◌∙◌}
use mathlib.Core.Bool.{Bool, true, false, ◌&&◌}
use mathlib.Core.Logic.{⊎_elim}
use Prim.Native.Nat.{ℕ, zero, suc, ◌+◌, ◌<◌}
use native.Mathlib.Nat.{zero-add, le_of_suc-le-suc, not-suc-le-zero, eq-or-lt_of_le}
use native.Mathlib.Omega.{arith}
use lib.Dec.{T}
use lib.ListN.{get_or, length}
use Rattle.laws.specs.Tables.{tabulate, all_below}

from : (f : ℕ → ℕ) (i n k : ℕ) → k < n → get_or (tabulate f i n) k 0 ≡ f (i + k)
from f i zero k h = absurd (not-suc-le-zero h)
from f i (suc n) zero h = ap f (omega arith)
from f i (suc n) (suc k) h = from f (suc i) n k (le_of_suc-le-suc h) ∙ ap f (omega arith)

-- the entry k of a table that f makes
pub tabulated : (f : ℕ → ℕ) (n k : ℕ) → k < n → get_or (tabulate f 0 n) k 0 ≡ f k
tabulated f n k h = from f 0 n k h ∙ ap f (zero-add k)

pub length_tabulate : (f : ℕ → ℕ) (i n : ℕ) → length (tabulate f i n) ≡ n
length_tabulate f i zero = ap (λ (k : ℕ). k) (omega arith)
length_tabulate f i (suc n) = ap suc (length_tabulate f (suc i) n)

pub first_holds : (a b : Bool) → T (a && b) → T a
first_holds true b t = tt
first_holds false b t = t

pub second_holds : (a b : Bool) → T (a && b) → T b
second_holds true b t = t
second_holds false b t = absurd t

-- a test that passes at every number below n passes at k
pub below : (f : ℕ → Bool) (n : ℕ) → T (all_below f n) → (k : ℕ) → k < n → T (f k)
below f zero t k h = absurd (not-suc-le-zero h)
below f (suc n) t k h =
    ⊎_elim (λ e. subst (λ (m : ℕ). T (f m)) (sym e) (first_holds (f n) (all_below f n) t))
    (λ l. below f n (second_holds (f n) (all_below f n) t) k l) (eq-or-lt_of_le (le_of_suc-le-suc h))
