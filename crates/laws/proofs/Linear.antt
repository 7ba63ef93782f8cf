-- Functions that keep the sum without carry: two of them are equal when they are equal at the powers of two.
use mathlib.Core.Path.{◌≡◌, refl, sym, ap, ap₂, ◌∙◌}
use mathlib.Core.Logic.{⊎_elim}
use Prim.Native.Nat.{ℕ, zero, suc, ◌-◌, ◌*◌, ◌/◌, ◌%◌, ◌^◌, ◌≤◌, ◌<◌}
use native.Mathlib.Nat.{add-zero, one-mul, pow-suc}
use native.Mathlib.Omega.{arith}
use lib.Dec.{T, eqb, eqb→eq}
use lib.Pow.{pow_pos}
use lib.Bits.{bit_xor, xor_block, xor_self, xor_shr, xor_mod, xor_shifted}
use Rattle.laws.specs.Tables.{all_below}
use Rattle.laws.specs.Xor.{KeepsXor}
use Rattle.laws.proofs.Tables.{first_holds, second_holds}
use Rattle.laws.proofs.Choose.{at_most_or_above}
use Rattle.laws.proofs.Xor.{xor_assoc, xor_right}

-- (a ^ b) ^ (c ^ d) = (a ^ c) ^ (b ^ d)
pub swap4 : (a b c d : ℕ) → bit_xor (bit_xor a b) (bit_xor c d) ≡ bit_xor (bit_xor a c) (bit_xor b d)
swap4 a b c d = sym (xor_assoc (bit_xor a b) c d) ∙ ap (λ (n : ℕ). bit_xor n d) (xor_right a b c) ∙ xor_assoc (bit_xor a c) b d

pub keeps_id : KeepsXor (λ (x : ℕ). x)
keeps_id x y = refl

pub keeps_sum : (f g : ℕ → ℕ) → KeepsXor f → KeepsXor g → KeepsXor (λ (x : ℕ). bit_xor (f x) (g x))
keeps_sum f g p q x y = ap₂ bit_xor (p x y) (q x y) ∙ swap4 (f x) (f y) (g x) (g y)

pub keeps_after : (f g : ℕ → ℕ) → KeepsXor f → KeepsXor g → KeepsXor (λ (x : ℕ). g (f x))
keeps_after f g p q x y = ap g (p x y) ∙ q (f x) (f y)

pub keeps_shr : (k : ℕ) → KeepsXor (λ (x : ℕ). x / 2 ^ k)
keeps_shr k x y = xor_shr x y k

pub keeps_mod : (k : ℕ) → KeepsXor (λ (x : ℕ). x % 2 ^ k)
keeps_mod k x y = xor_mod x y k

pub keeps_mul : (k : ℕ) → KeepsXor (λ (x : ℕ). x * 2 ^ k)
keeps_mul k x y =
    sym (add-zero (bit_xor x y * 2 ^ k)) ∙ sym (xor_block k x y 0 0 (pow_pos k) (pow_pos k)) ∙ ap₂ bit_xor (add-zero (x * 2 ^ k)) (add-zero (y * 2 ^ k))

pub keeps_shl : (k n : ℕ) → KeepsXor (λ (x : ℕ). x * 2 ^ k % 2 ^ n)
keeps_shl k n = keeps_after (λ (x : ℕ). x * 2 ^ k) (λ (x : ℕ). x % 2 ^ n) (keeps_mul k) (keeps_mod n)

keeps_zero : (f : ℕ → ℕ) → KeepsXor f → f 0 ≡ 0
keeps_zero f p = p 0 0 ∙ xor_self (f 0)

-- a number is its highest digit ^ the rest
topped : (m x : ℕ) → 2 ^ m ≤ x → x < 2 ^ suc m → bit_xor (2 ^ m) (x - 2 ^ m) ≡ x
topped m x h k =
    let e : 2 ^ suc m ≡ 2 ^ m * 2 = pow-suc 2 m in
    let o : 1 * 2 ^ m ≡ 2 ^ m = one-mul (2 ^ m) in
    let l : x - 2 ^ m < 2 ^ m = omega arith in
    ap (λ (n : ℕ). bit_xor n (x - 2 ^ m)) (sym o) ∙ xor_shifted 1 m (x - 2 ^ m) l ∙ omega arith

-- two that are equal at every power of two below 2 ^ n are equal below 2 ^ n
pub same : (f g : ℕ → ℕ) → KeepsXor f → KeepsXor g → (n : ℕ) → T (all_below (λ (k : ℕ). eqb (f (2 ^ k)) (g (2 ^ k))) n) → (x : ℕ) → x < 2 ^ n → f x ≡ g x
same f g p q zero t x h =
    let e : x ≡ 0 = omega arith in
    ap f e ∙ keeps_zero f p ∙ sym (keeps_zero g q) ∙ sym (ap g e)
same f g p q (suc n) t x h =
    let tl = first_holds (eqb (f (2 ^ n)) (g (2 ^ n))) (all_below (λ (k : ℕ). eqb (f (2 ^ k)) (g (2 ^ k))) n) t in
    let tr = second_holds (eqb (f (2 ^ n)) (g (2 ^ n))) (all_below (λ (k : ℕ). eqb (f (2 ^ k)) (g (2 ^ k))) n) t in
    let e : 2 ^ suc n ≡ 2 ^ n * 2 = pow-suc 2 n in
    ⊎_elim
    (λ (u : 2 ^ n ≤ x).
    let l : x - 2 ^ n < 2 ^ n = omega arith in
    ap f (sym (topped n x u h)) ∙ p (2 ^ n) (x - 2 ^ n)
    ∙ ap₂ bit_xor (eqb→eq (f (2 ^ n)) (g (2 ^ n)) tl) (same f g p q n tr (x - 2 ^ n) l)
    ∙ sym (q (2 ^ n) (x - 2 ^ n)) ∙ ap g (topped n x u h))
    (λ (l : x < 2 ^ n). same f g p q n tr x l) (at_most_or_above (2 ^ n) x)
