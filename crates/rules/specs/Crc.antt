-- The transfer CRC, CRC-16/CCITT-FALSE: a register of 16 bits, 0xFFFF at first; polynomial 0x1021; unreflected; nothing added at the end.
-- Sums are without carry, digit by digit.
use Rattle.std.specs.Prelude.{ℕ, zero, suc, ◌*◌, ◌/◌, ◌%◌, ◌^◌, cond, List, [], ◌∷◌, bit_xor, nat_le}

abbrev pub polynomial : ℕ
polynomial = 0x1021

-- the register before the first byte
abbrev pub crc_start : ℕ
crc_start = 0xFFFF

-- one bit: the register moves up by one, and where a one falls out at the top, the polynomial is added
unfoldable pub crc_bit : ℕ → ℕ
crc_bit c = cond (nat_le (2 ^ 15) c) (bit_xor (c * 2 % 2 ^ 16) polynomial) (c * 2 % 2 ^ 16)

unfoldable pub crc_bits : ℕ → ℕ → ℕ
crc_bits zero c = c
crc_bits (suc k) c = crc_bit (crc_bits k c)

-- a byte is added at the top, and its eight bits are moved out
unfoldable pub crc_byte : ℕ → ℕ → ℕ
crc_byte c b = crc_bits 8 (bit_xor c (b * 2 ^ 8))

-- the register after a list of bytes, from the register c
abbrev pub crc_from : ℕ → List ℕ → ℕ
crc_from c [] = c
crc_from c (b ∷ bs) = crc_from (crc_byte c b) bs

-- the CRC of a list of bytes
abbrev pub crc : List ℕ → ℕ
crc bs = crc_from crc_start bs

-- a CRC as it is sent: the high byte first
abbrev pub crc_bytes : ℕ → List ℕ
crc_bytes c = c / 2 ^ 8 ∷ c % 2 ^ 8 ∷ []
