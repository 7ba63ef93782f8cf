-- Functions that keep the sum of digits without carry.
use Rattle.std.specs.Prelude.{◌≡◌, ℕ}
use Rattle.std.specs.Int.Bits.{bit_xor}

-- f of a sum is the sum of what f gives
abbrev pub KeepsXor : (ℕ → ℕ) → Type 0
KeepsXor f = (x y : ℕ) → f (bit_xor x y) ≡ bit_xor (f x) (f y)
