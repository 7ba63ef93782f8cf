-- The code's shifts and sums do what the book's bits do: both sides keep sums without carry, and they are equal at each power of two, by computation.
use mathlib.Core.Path.{◌≡◌, ap, ◌∙◌}
use mathlib.Core.List.{List, [], ◌∷◌}
use Prim.Native.Nat.{ℕ, ◌*◌, ◌/◌, ◌%◌, ◌^◌, ◌<◌}
use native.Mathlib.Nat.{mod-eq_of_lt}
use lib.Dec.{T, eqb}
use native.Mathlib.Omega.{arith}
use lib.Bits.{bit_xor, xor_lt}
use Rattle.laws.specs.Tables.{all_below}
use Rattle.laws.specs.Xor.{KeepsXor}
use Rattle.laws.proofs.Linear.{same, keeps_id, keeps_sum, keeps_after, keeps_shr, keeps_shl, keeps_mod}
use Rattle.rules.specs.Crc.{crc_bit, crc_bits, crc_byte}
use Rattle.crc.specs.Wide.{wide}
use Rattle.crc.proofs.Blocks.{wide_lt, keeps_wide, keeps_bits}

-- ---- functions that keep sums without carry, and how they are put together

record Kept : Type 0 where
  of : ℕ → ℕ
  keeps : KeepsXor of

-- two of them are equal below 2 ^ n when they are at the powers of two
agree : (a b : Kept) (n : ℕ) → T (all_below (λ (k : ℕ). eqb (a.of (2 ^ k)) (b.of (2 ^ k))) n) → (x : ℕ) → x < 2 ^ n → a.of x ≡ b.of x
agree a b = same a.of b.of a.keeps b.keeps

-- first a, then b
abbrev chain : Kept → Kept → Kept
chain a b = record { of = λ (x : ℕ). b.of (a.of x); keeps = keeps_after a.of b.of a.keeps b.keeps }

abbrev sum : Kept → Kept → Kept
sum a b = record { of = λ (x : ℕ). bit_xor (a.of x) (b.of x); keeps = keeps_sum a.of b.of a.keeps b.keeps }

abbrev shr : ℕ → Kept
shr k = record { of = λ (x : ℕ). x / 2 ^ k; keeps = keeps_shr k }

-- up by k, within n bits
abbrev shl : ℕ → ℕ → Kept
shl n k = record { of = λ (x : ℕ). x * 2 ^ k % 2 ^ n; keeps = keeps_shl k n }

abbrev low : ℕ → Kept
low n = record { of = λ (x : ℕ). x % 2 ^ n; keeps = keeps_mod n }

-- x, and added to it what f gives of x for each k of a list, the last first
abbrev with : (ℕ → Kept) → List ℕ → Kept
with f [] = record { of = λ (x : ℕ). x; keeps = keeps_id }
with f (k ∷ ks) = sum (with f ks) (f k)

-- what the k bytes of a number leave
abbrev leave : ℕ → Kept
leave k = record { of = wide k; keeps = keeps_wide k }

-- a register moved by k bits
abbrev move : ℕ → Kept
move k = record { of = λ (x : ℕ). crc_bits k (x % 2 ^ 16); keeps = keeps_bits k }

-- ---- eight bytes of 0 behind a number

abbrev folded : Kept
folded = chain (sum (with shr (44 ∷ 16 ∷ [])) (chain (with shr (16 ∷ [])) (shr 32))) (with (shl 64) (48 ∷ 20 ∷ []))

pub fold_moves : (x : ℕ) → x < 2 ^ 64 → wide 8 (folded.of x) ≡ crc_bits 64 (wide 8 x)
unfolding wide crc_byte crc_bits crc_bit
fold_moves x h = agree (chain folded (leave 8)) (chain (leave 8) (move 64)) 64 tt x h ∙ ap (crc_bits 64) (mod-eq_of_lt (wide_lt 8 x))

-- ---- what the eight bytes of a number leave

abbrev divided : Kept
divided = chain (with shr (44 ∷ 16 ∷ [])) (chain (with shr (32 ∷ 22 ∷ 8 ∷ [])) (with shr (16 ∷ 11 ∷ 4 ∷ [])))

abbrev remaining : Kept
remaining = chain divided (chain (with (shl 64) (12 ∷ 5 ∷ [])) (low 16))

-- of a number that was added to its own upper half
pub rest_leaves : (x top : ℕ) → x < 2 ^ 64 → top ≡ x / 2 ^ 32 → remaining.of (bit_xor x top) ≡ wide 8 x
unfolding wide crc_byte crc_bits crc_bit
rest_leaves x top h e = ap (λ (n : ℕ). remaining.of (bit_xor x n)) e ∙ agree (chain (with shr (32 ∷ [])) remaining) (leave 8) 64 tt x h

-- ---- a register before the first bytes

pub eight_begins : (c : ℕ) → c < 2 ^ 16 → wide 8 (c * 2 ^ 48 % 2 ^ 64) ≡ crc_bits 64 c
unfolding wide crc_byte crc_bits crc_bit
eight_begins c h = agree (chain (shl 64 48) (leave 8)) (move 64) 16 tt c h ∙ ap (crc_bits 64) (mod-eq_of_lt h)

pub seven_begins : (c : ℕ) → c < 2 ^ 16 → wide 8 (c * 2 ^ 40 % 2 ^ 64) ≡ crc_bits 56 c
unfolding wide crc_byte crc_bits crc_bit
seven_begins c h = agree (chain (shl 64 40) (leave 8)) (move 56) 16 tt c h ∙ ap (crc_bits 56) (mod-eq_of_lt h)

-- seven bytes are eight of which the first is 0
pub seven_leaves : (v : ℕ) → v < 2 ^ 56 → wide 8 v ≡ wide 7 v
unfolding wide crc_byte crc_bits crc_bit
seven_leaves = agree (leave 8) (leave 7) 56 tt

-- ---- one byte

abbrev stepped : Kept
stepped = sum (shl 16 8) (chain (sum (shr 8) (shr 12)) (with (shl 16) (12 ∷ 5 ∷ [])))

pub byte_moves : (y : ℕ) → y < 2 ^ 16 → stepped.of y ≡ crc_bits 8 y
unfolding crc_bits crc_bit
byte_moves y h = agree stepped (move 8) 16 tt y h ∙ ap (crc_bits 8) (mod-eq_of_lt h)

pub byte_steps : (c b : ℕ) → c < 2 ^ 16 → b < 2 ^ 8 → stepped.of (bit_xor c (b * 2 ^ 8 % 2 ^ 16)) ≡ crc_byte c b
unfolding crc_byte
byte_steps c b h k =
    let e : b * 2 ^ 8 % 2 ^ 16 ≡ b * 2 ^ 8 = omega arith in
    byte_moves (bit_xor c (b * 2 ^ 8 % 2 ^ 16)) (xor_lt 16 c (b * 2 ^ 8 % 2 ^ 16) h (omega arith)) ∙ ap (λ (n : ℕ). crc_bits 8 (bit_xor c n)) e
