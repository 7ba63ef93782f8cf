-- What a wrapping difference of two stamps is.
use Rattle.std.proofs.Common.{◌≡◌, ℕ, ◌+◌, ◌-◌, ◌%◌, ◌^◌, arith, w32, Fits}
use Rattle.rules.specs.Slot.{age}

-- the machine's wrapping difference is the age
pub age_is : (a b : ℕ) → Fits w32 b → (a + (2 ^ 32 - b)) % 2 ^ 32 ≡ age a b
unfolding age
age_is a b h = omega arith
