-- Bits as arithmetic: fields that do not overlap, joined by `|`, add up; a field by shift and mask is a quotient's remainder.
use mathlib.Core.Path.{◌≡◌, refl, sym, ap, ap₂, ◌∙◌}
use mathlib.Core.Bool.{Bool, true, false, cond}
use Prim.Native.Nat.{ℕ, ◌+◌, ◌-◌, ◌*◌, ◌/◌, ◌%◌, ◌^◌, ◌≤◌, ◌<◌}
use native.Mathlib.Nat.{add-zero, one-mul}
use native.Mathlib.Omega.{arith}
use mir.Val.{bool_byte}
use lib.Dec.{eqb, lit<}
use borrow.Author.Tests.{eq-eqb, ne_eqb}
use lib.Pow.{split, high, low, shr-shr, shl_exact}
use lib.Bits.{bit_and, bit_or, and_mask, or_shifted}

-- c has no digit below k, and d none from k on
pub join : (k a b c d : ℕ) → a ≡ c → b ≡ d → c % 2 ^ k ≡ 0 → d < 2 ^ k → bit_or a b ≡ c + d
join k a b c d p q hc hd =
    let e : c / 2 ^ k * 2 ^ k ≡ c = sym (add-zero (c / 2 ^ k * 2 ^ k)) ∙ ap (λ (x : ℕ). c / 2 ^ k * 2 ^ k + x) (sym hc) ∙ split c k in
    ap₂ bit_or (p ∙ sym e) q ∙ or_shifted (c / 2 ^ k) k d hd ∙ ap (λ (x : ℕ). x + d) e

-- the field x of k bits, above p bits lo and below hi
pub field_of : (n hi x lo p k : ℕ) → n ≡ (hi * 2 ^ k + x) * 2 ^ p + lo → x < 2 ^ k → lo < 2 ^ p → n / 2 ^ p % 2 ^ k ≡ x
field_of n hi x lo p k e hx hl =
    ap (λ (m : ℕ). m / 2 ^ p % 2 ^ k) e ∙ ap (λ (m : ℕ). m % 2 ^ k) (high (hi * 2 ^ k + x) p hl) ∙ low hi k hx

-- a one shifted to bit k, within w bits
pub one_shifted : (k w : ℕ) → k < w → 1 * 2 ^ k % 2 ^ w ≡ 2 ^ k
one_shifted k w h = shl_exact {a = 1} 1 k w (lit< tt) (omega arith) ∙ one-mul (2 ^ k)

-- a field by shift and mask, `(n >> p) & ((1 << k) - 1)` in w bits
pub masked : (n p k w : ℕ) → k < w → bit_and (n / 2 ^ p) (1 * 2 ^ k % 2 ^ w - 1) ≡ n / 2 ^ p % 2 ^ k
masked n p k w h = ap (λ (m : ℕ). bit_and (n / 2 ^ p) (m - 1)) (one_shifted k w h) ∙ and_mask (n / 2 ^ p) k

-- what stands from bit p on is what stands from bit p + k on, and the k bits below it
pub split_off : (n p k : ℕ) → n / 2 ^ p ≡ n / 2 ^ (p + k) * 2 ^ k + n / 2 ^ p % 2 ^ k
split_off n p k = sym (split (n / 2 ^ p) k) ∙ ap (λ (m : ℕ). m * 2 ^ k + n / 2 ^ p % 2 ^ k) (shr-shr n p k)

-- a flag as a number: what the machine makes of it, and the choice of 1 or 0
pub flag : (b : Bool) → bool_byte b ≡ cond b 1 0
flag true = refl
flag false = refl

pub flag_le : (b : Bool) → cond b 1 0 ≤ 1
flag_le true = omega arith
flag_le false = omega arith

-- a flag read off its bit
pub flag_read : (b : Bool) (n : ℕ) → n ≡ cond b 1 0 → eqb n 1 ≡ b
flag_read true n e = eq-eqb n 1 e
flag_read false n e = ne_eqb n 1 (λ f. omega arith)
