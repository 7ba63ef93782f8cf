-- Several bytes at once: as one number, the first byte highest, and what such a number does to the register.
use Rattle.std.specs.Prelude.{ℕ, zero, suc, ◌+◌, ◌*◌, ◌/◌, ◌%◌, ◌^◌, List, get_or}
use Rattle.rules.specs.Crc.{crc_byte}

-- the number that the first k bytes of s write
abbrev pub value : List ℕ → ℕ → ℕ
value s zero = 0
value s (suc k) = value s k * 2 ^ 8 + get_or s k 0

-- the register after the k bytes that the number x writes, from the register 0
unfoldable pub wide : ℕ → ℕ → ℕ
wide zero x = 0
wide (suc k) x = crc_byte (wide k (x / 2 ^ 8)) (x % 2 ^ 8)
