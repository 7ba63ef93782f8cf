-- Five bits of a window: clearing them by a mask and joining others there leaves what is above and below them, so the window changes by the
-- difference of the two at that place.
use mathlib.Core.Path.{◌≡◌, sym, ap, ap₂, ◌∙◌, subst}
use Prim.Native.Nat.{ℕ, ◌+◌, ◌-◌, ◌*◌, ◌/◌, ◌%◌, ◌^◌, ◌≤◌, ◌<◌}
use native.Mathlib.Nat.{add-mul, mod-lt, mod-eq_of_lt, add-zero, div-add-mod'}
use native.Mathlib.Omega.{arith}
use lib.Dec.{lit<}
use lib.Arith.{digits_lt}
use lib.Pow.{pow_pos, pow-add, split, shr_lt, shl_exact, ones_lt, ones_split, field, mod-mod-pow}
use Rattle.tracker.specs.Five.{five_at, with_five}
use lib.Bits.{bit_and, bit_or, and_block, and_high, and_mask, or_block, or_shifted, or_zero_r}

-- all digits of j + 5 + s set but the five from s on
mask : (j s : ℕ) → 2 ^ ((j + 5) + s) - 1 - 31 * 2 ^ s ≡ (2 ^ (j + 5) - 2 ^ 5) * 2 ^ s + (2 ^ s - 1)
mask j s = ap (λ (x : ℕ). x - 31 * 2 ^ s) (ones_split (j + 5) s) ∙ less (2 ^ (j + 5)) (2 ^ s) (2 ^ s - 1) (omega (arith, pow-add 2 j 5, pow_pos j))
  where
    less : (A P q : ℕ) → 32 ≤ A → (A - 1) * P + q - 31 * P ≡ (A - 32) * P + q
    less A P q h =
        let e : A - 1 ≡ (A - 32) + 31 = omega arith in
        let f : (A - 1) * P ≡ (A - 32) * P + 31 * P = ap (λ (x : ℕ). x * P) e ∙ add-mul (A - 32) 31 P in
        omega arith

clear : (n j s : ℕ) → n < 2 ^ ((j + 5) + s) → bit_and n (2 ^ ((j + 5) + s) - 1 - 31 * 2 ^ s) ≡ n / 2 ^ s / 2 ^ 5 * 2 ^ 5 * 2 ^ s + n % 2 ^ s
clear n j s h =
    ap₂ bit_and (sym (split n s)) (mask j s)
    ∙ and_block s (n / 2 ^ s) (2 ^ (j + 5) - 2 ^ 5) (n % 2 ^ s) (2 ^ s - 1) (mod-lt n (pow_pos s)) (ones_lt s)
    ∙ ap₂ (λ (x y : ℕ). x * 2 ^ s + y)
    (and_high (n / 2 ^ s) j 5 ∙ ap (λ (x : ℕ). x * 2 ^ 5) (mod-eq_of_lt (shr_lt j 5 (shr_lt (j + 5) s h))))
    (and_mask (n % 2 ^ s) s ∙ mod-eq_of_lt (mod-lt n (pow_pos s)))

put : (n j s v : ℕ) → n < 2 ^ ((j + 5) + s) → v < 2 ^ 5 → bit_or (bit_and n (2 ^ ((j + 5) + s) - 1 - 31 * 2 ^ s)) (v * 2 ^ s) ≡ with_five n s v
put n j s v hn hv =
    ap₂ bit_or (clear n j s hn) (sym (add-zero (v * 2 ^ s)))
    ∙ or_block s (n / 2 ^ s / 2 ^ 5 * 2 ^ 5) v (n % 2 ^ s) 0 (mod-lt n (pow_pos s)) (pow_pos s)
    ∙ ap₂ (λ (x y : ℕ). x * 2 ^ s + y) (or_shifted (n / 2 ^ s / 2 ^ 5) 5 v hv) (or_zero_r (n % 2 ^ s))

-- what the machine computes for `(n & !(31 << s)) | (v << s)` at 64 bits
pub put64 : (n s v : ℕ) → n < 2 ^ 64 → s < 32 → v < 2 ^ 5 → bit_or (bit_and n (2 ^ 64 - 1 - 31 * 2 ^ s % 2 ^ 64)) (v * 2 ^ s % 2 ^ 64) ≡ with_five n s v
put64 n s v hn hs hv =
    let e : (59 - s + 5) + s ≡ 64 = omega arith in
    ap₂ (λ (x y : ℕ). bit_or (bit_and n (2 ^ 64 - 1 - x)) y)
    (shl_exact {a = 31} 5 s 64 (lit< tt) (omega arith)) (shl_exact {a = v} 5 s 64 hv (omega arith))
    ∙ subst (λ (m : ℕ). bit_or (bit_and n (2 ^ m - 1 - 31 * 2 ^ s)) (v * 2 ^ s) ≡ with_five n s v) e
    (put n (59 - s) s v (subst (λ (m : ℕ). n < 2 ^ m) (sym e) hn) hv)

-- five bits put within a width w stay within it
pub put_lt : (n w s v : ℕ) → s + 5 ≤ w → n < 2 ^ w → v < 2 ^ 5 → with_five n s v < 2 ^ w
put_lt n w s v h hn hv =
    let j : ℕ = w - (s + 5) in
    let e : (j + 5) + s ≡ w = omega arith in
    let up : n / 2 ^ s / 2 ^ 5 < 2 ^ j = shr_lt j 5 (shr_lt (j + 5) s (subst (λ (x : ℕ). n < 2 ^ x) (sym e) hn)) in
    let high : n / 2 ^ s / 2 ^ 5 * 2 ^ 5 + v < 2 ^ (j + 5) = rw (pow-add 2 j 5) (digits_lt up hv) in
    subst (λ (x : ℕ). with_five n s v < x) (sym (pow-add 2 (j + 5) s) ∙ ap (λ (x : ℕ). 2 ^ x) e) (digits_lt high (mod-lt n (pow_pos s)))

-- the window changes by the difference of the old and the new five bits at their place
pub put_change : (n s v : ℕ) → with_five n s v + five_at n s * 2 ^ s ≡ n + v * 2 ^ s
put_change n s v =
    let h = n / 2 ^ s / 2 ^ 5 * 2 ^ 5 in
    let o = five_at n s in
    let was : n / 2 ^ s * 2 ^ s ≡ h * 2 ^ s + o * 2 ^ s = ap (λ (x : ℕ). x * 2 ^ s) (sym (div-add-mod' (n / 2 ^ s) (2 ^ 5))) ∙ add-mul h o (2 ^ s) in
    omega (arith, add-mul h v (2 ^ s), split n s)

-- the five bits from s on are those of the low w bits, which hold them
pub five_within : (n w s : ℕ) → s + 5 ≤ w → five_at (n % 2 ^ w) s ≡ five_at n s
five_within n w s h =
    let e : (w - (5 + s)) + (5 + s) ≡ w = omega arith in
    sym (field (n % 2 ^ w) 5 s)
    ∙ ap (λ (x : ℕ). x / 2 ^ s) (subst (λ (x : ℕ). n % 2 ^ x % 2 ^ (5 + s) ≡ n % 2 ^ (5 + s)) e (mod-mod-pow n (w - (5 + s)) (5 + s))) ∙ field n 5 s
