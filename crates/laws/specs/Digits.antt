-- Numbers written in a base, the low digit first.
use Rattle.std.specs.Prelude.{List, [], ◌∷◌, ℕ, zero, suc, ◌+◌, ◌*◌, ◌/◌, ◌%◌, ◌<◌, get_or}

-- the number that digits write: the first digit, and the base times what the others write
unfoldable pub value_of : ℕ → List ℕ → ℕ
value_of base [] = 0
value_of base (digit ∷ digits) = value_of base digits * base + digit

-- the low digits of a number, so many of them: the remainder by the base, then the digits of the quotient
unfoldable pub digits_of : ℕ → ℕ → ℕ → List ℕ
digits_of base zero v = []
digits_of base (suc count) v = v % base ∷ digits_of base count (v / base)

-- each of a list is a digit: it is below the base
abbrev pub AreDigits : ℕ → List ℕ → Type 0
AreDigits base digits = (k : ℕ) → get_or digits k 0 < base
