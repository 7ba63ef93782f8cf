-- Laws of the CRC: the register stays within 16 bits, the CRC over parts, the residue, and that the register keeps sums without carry.
use Rattle.std.proofs.Common.{◌≡◌, ℕ, zero, suc, ◌+◌, ◌*◌, ◌/◌, ◌%◌, ◌^◌, ◌<◌, ◌≤◌, not, T, eqb, ◌⊎◌, List, [], ◌∷◌, ◌++◌, length, get_or, sym, refl, ap, ◌∙◌, subst, ap₂, inl, inr, add-zero, mod-lt, mul_assoc, pow-suc, zero-add, mul-one, arith, lit<, T_not, pow_pos, le-leb}
use borrow.Author.Tests.{lt-leb}
use lib.Pow.{split}
use lib.Bits.{bit_xor, xor_block, xor_self, xor_zero_r, xor_lt, xor_shr, xor_mod}
use Rattle.laws.proofs.Choose.{at_most_or_above}
use Rattle.laws.proofs.Tables.{below}
use Rattle.laws.proofs.Xor.{xor_assoc, xor_right, xor_twice}
use Rattle.laws.proofs.Linear.{keeps_mul}
use Rattle.rules.specs.Crc.{polynomial, crc_start, crc_bit, crc_bits, crc_byte, crc_from, crc, crc_bytes}

-- ---- one bit

pub bit_high : (c : ℕ) → 2 ^ 15 ≤ c → crc_bit c ≡ bit_xor (c * 2 % 2 ^ 16) polynomial
unfolding crc_bit
bit_high c h = simp (le-leb _ _ h)

pub bit_low : (c : ℕ) → c < 2 ^ 15 → crc_bit c ≡ c * 2 % 2 ^ 16
unfolding crc_bit
bit_low c h = simp (lt-leb _ _ h)

bit_lt : (c : ℕ) → crc_bit c < 2 ^ 16
bit_lt c = go (at_most_or_above (2 ^ 15) c)
  where
    go : (2 ^ 15 ≤ c) ⊎ (c < 2 ^ 15) → crc_bit c < 2 ^ 16
    go (inl h) = subst (λ (n : ℕ). n < 2 ^ 16) (sym (bit_high c h)) (xor_lt 16 (c * 2 % 2 ^ 16) polynomial (omega arith) (lit< tt))
    go (inr h) = subst (λ (n : ℕ). n < 2 ^ 16) (sym (bit_low c h)) (omega arith)

pub bits_lt : (k c : ℕ) → c < 2 ^ 16 → crc_bits k c < 2 ^ 16
unfolding crc_bits
bits_lt zero c h = h
bits_lt (suc k) c h = bit_lt (crc_bits k c)

-- eight bits of a register whose top byte is 0 only move it up
pub bits_up : (k x : ℕ) → x * 2 ^ k < 2 ^ 16 → crc_bits k x ≡ x * 2 ^ k
unfolding crc_bits
bits_up zero x h = sym (mul-one x)
bits_up (suc k) x h =
    let e : x * 2 ^ suc k ≡ x * 2 ^ k * 2 = ap (λ (n : ℕ). x * n) (pow-suc 2 k) ∙ sym (mul_assoc x (2 ^ k) 2) in
    ap crc_bit (bits_up k x (omega arith)) ∙ bit_low (x * 2 ^ k) (omega arith) ∙ omega arith

-- ---- one byte

-- the byte is added to the top byte of the register
pub mixed : (c b : ℕ) → bit_xor c (b * 2 ^ 8) ≡ bit_xor (c / 2 ^ 8) b * 2 ^ 8 + c % 2 ^ 8
mixed c b =
    ap₂ bit_xor (sym (split c 8)) (sym (add-zero (b * 2 ^ 8)))
    ∙ xor_block 8 (c / 2 ^ 8) b (c % 2 ^ 8) 0 (mod-lt c (pow_pos 8)) (lit< tt)
    ∙ ap (λ (n : ℕ). bit_xor (c / 2 ^ 8) b * 2 ^ 8 + n) (xor_zero_r (c % 2 ^ 8))

pub byte_lt : (c b : ℕ) → crc_byte c b < 2 ^ 16
unfolding crc_byte crc_bits
byte_lt c b = bit_lt (crc_bits 7 (bit_xor c (b * 2 ^ 8)))

-- a register that is added its own top byte
own_top : (c : ℕ) → crc_byte c (c / 2 ^ 8) ≡ c % 2 ^ 8 * 2 ^ 8
unfolding crc_byte
own_top c =
    ap (crc_bits 8) (mixed c (c / 2 ^ 8) ∙ ap (λ (n : ℕ). n * 2 ^ 8 + c % 2 ^ 8) (xor_self (c / 2 ^ 8)) ∙ zero-add (c % 2 ^ 8))
    ∙ bits_up 8 (c % 2 ^ 8) (omega arith)

own_low : (b : ℕ) → crc_byte (b * 2 ^ 8) b ≡ 0
unfolding crc_byte
own_low b = ap (crc_bits 8) (xor_self (b * 2 ^ 8)) ∙ bits_up 8 0 (lit< tt)

-- ---- a list of bytes

-- the CRC over parts: the second part goes on from the register that the first left
pub from_append : (c : ℕ) (xs ys : List ℕ) → crc_from c (xs ++ ys) ≡ crc_from (crc_from c xs) ys
from_append c [] ys = refl
from_append c (x ∷ xs) ys = from_append (crc_byte c x) xs ys

-- THE RESIDUE: the CRC of bytes with their CRC behind them, high byte first, is 0
pub residue : (xs : List ℕ) → crc (xs ++ crc_bytes (crc xs)) ≡ 0
residue xs =
    from_append crc_start xs (crc_bytes (crc xs))
    ∙ ap (λ (n : ℕ). crc_byte n (crc xs % 2 ^ 8)) (own_top (crc xs)) ∙ own_low (crc xs % 2 ^ 8)

-- ---- a sum of two registers: each bit of it moves as the bits of the two do

moved : (x y : ℕ) → bit_xor x y * 2 % 2 ^ 16 ≡ bit_xor (x * 2 % 2 ^ 16) (y * 2 % 2 ^ 16)
moved x y = ap (λ (n : ℕ). n % 2 ^ 16) (keeps_mul 1 x y) ∙ xor_mod (x * 2) (y * 2) 16

-- the top digit of a register
top_of : (x y : ℕ) → bit_xor x y / 2 ^ 15 ≡ bit_xor (x / 2 ^ 15) (y / 2 ^ 15)
top_of x y = xor_shr x y 15

bit_xor_lem : (x y : ℕ) → x < 2 ^ 16 → y < 2 ^ 16 → crc_bit (bit_xor x y) ≡ bit_xor (crc_bit x) (crc_bit y)
bit_xor_lem x y hx hy = go (at_most_or_above (2 ^ 15) x) (at_most_or_above (2 ^ 15) y)
  where
    X : ℕ
    X = x * 2 % 2 ^ 16

    Y : ℕ
    Y = y * 2 % 2 ^ 16

    one : (z : ℕ) → 2 ^ 15 ≤ z → z < 2 ^ 16 → z / 2 ^ 15 ≡ 1
    one z h k = omega arith

    none : (z : ℕ) → z < 2 ^ 15 → z / 2 ^ 15 ≡ 0
    none z h = omega arith

    at : (m n : ℕ) → x / 2 ^ 15 ≡ m → y / 2 ^ 15 ≡ n → bit_xor x y / 2 ^ 15 ≡ bit_xor m n
    at m n p q = top_of x y ∙ ap₂ bit_xor p q

    go : (2 ^ 15 ≤ x) ⊎ (x < 2 ^ 15) → (2 ^ 15 ≤ y) ⊎ (y < 2 ^ 15) → crc_bit (bit_xor x y) ≡ bit_xor (crc_bit x) (crc_bit y)
    go (inl h) (inl k) =
        let e = at 1 1 (one x h hx) (one y k hy) in
        bit_low (bit_xor x y) (omega arith) ∙ moved x y ∙ sym (xor_twice X Y polynomial) ∙ sym (ap₂ bit_xor (bit_high x h) (bit_high y k))
    go (inl h) (inr k) =
        let e = at 1 0 (one x h hx) (none y k) in
        bit_high (bit_xor x y) (omega arith) ∙ ap (λ (n : ℕ). bit_xor n polynomial) (moved x y) ∙ xor_right X Y polynomial ∙ sym (ap₂ bit_xor (bit_high x h) (bit_low y k))
    go (inr h) (inl k) =
        let e = at 0 1 (none x h) (one y k hy) in
        bit_high (bit_xor x y) (omega arith) ∙ ap (λ (n : ℕ). bit_xor n polynomial) (moved x y) ∙ xor_assoc X Y polynomial ∙ sym (ap₂ bit_xor (bit_low x h) (bit_high y k))
    go (inr h) (inr k) =
        let e = at 0 0 (none x h) (none y k) in
        bit_low (bit_xor x y) (omega arith) ∙ moved x y ∙ sym (ap₂ bit_xor (bit_low x h) (bit_low y k))

pub bits_xor : (k x y : ℕ) → x < 2 ^ 16 → y < 2 ^ 16 → crc_bits k (bit_xor x y) ≡ bit_xor (crc_bits k x) (crc_bits k y)
unfolding crc_bits
bits_xor zero x y hx hy = refl
bits_xor (suc k) x y hx hy = ap crc_bit (bits_xor k x y hx hy) ∙ bit_xor_lem (crc_bits k x) (crc_bits k y) (bits_lt k x hx) (bits_lt k y hy)

-- ---- within 16 bits, and how short a list of residue 0 can be

pub from_lt : (xs : List ℕ) (c : ℕ) → c < 2 ^ 16 → crc_from c xs < 2 ^ 16
from_lt [] c h = h
from_lt (x ∷ xs) c h = from_lt xs (crc_byte c x) (byte_lt c x)

one_byte : (b : ℕ) → b < 2 ^ 8 → crc_byte crc_start b ≡ 0 → ⊥
unfolding crc_byte crc_bits crc_bit
one_byte b h e =
    T_not (eqb (crc_byte crc_start b) 0) (below (λ (k : ℕ). not (eqb (crc_byte crc_start k) 0)) 256 tt b h)
    (subst (λ (n : ℕ). T (eqb n 0)) (sym e) tt)

-- bytes with residue 0 are two or more
pub two_or_more : (xs : List ℕ) → ((k : ℕ) → get_or xs k 0 < 2 ^ 8) → crc xs ≡ 0 → 2 ≤ length xs
two_or_more [] w e = absurd (omega arith)
two_or_more (x ∷ []) w e = absurd (one_byte x (w zero) e)
two_or_more (x ∷ y ∷ xs) w e = omega arith
