-- Laws of the sum without carry that the library lacks.
use mathlib.Core.Path.{◌≡◌, refl, sym, ap, ◌∙◌}
use Prim.Native.Nat.{ℕ, zero, suc, ◌/◌, ◌%◌, ◌<◌}
use native.Mathlib.Nat.{mod-lt}
use native.Mathlib.Omega.{arith}
use lib.Arith.{bin_ind}
use lib.Dec.{lit<}
use lib.Bits.{bit_xor, xor_shr, xor_mod, xor_comm, xor_self}

bits_assoc : (a b c : ℕ) → a < 2 → b < 2 → c < 2 → bit_xor (bit_xor a b) c ≡ bit_xor a (bit_xor b c)
bits_assoc zero b c ha hb hc = refl
bits_assoc (suc zero) zero c ha hb hc = refl
bits_assoc (suc zero) (suc zero) zero ha hb hc = refl
bits_assoc (suc zero) (suc zero) (suc zero) ha hb hc = refl
bits_assoc (suc zero) (suc zero) (suc (suc c)) ha hb hc = absurd (omega arith)
bits_assoc (suc zero) (suc (suc b)) c ha hb hc = absurd (omega arith)
bits_assoc (suc (suc a)) b c ha hb hc = absurd (omega arith)

-- two numbers are equal when their halves and their lowest digits are
by_half : (x y : ℕ) → x / 2 ≡ y / 2 → x % 2 ≡ y % 2 → x ≡ y
by_half x y p q = omega arith

pub xor_assoc : (a b c : ℕ) → bit_xor (bit_xor a b) c ≡ bit_xor a (bit_xor b c)
xor_assoc a =
    bin_ind (λ (n : ℕ). (b c : ℕ) → bit_xor (bit_xor n b) c ≡ bit_xor n (bit_xor b c)) (λ b c. refl)
    (λ n ih b c. by_half (bit_xor (bit_xor n b) c) (bit_xor n (bit_xor b c))
    (xor_shr (bit_xor n b) c 1 ∙ ap (λ (x : ℕ). bit_xor x (c / 2)) (xor_shr n b 1) ∙ ih (b / 2) (c / 2)
    ∙ ap (bit_xor (n / 2)) (sym (xor_shr b c 1)) ∙ sym (xor_shr n (bit_xor b c) 1))
    (xor_mod (bit_xor n b) c 1 ∙ ap (λ (x : ℕ). bit_xor x (c % 2)) (xor_mod n b 1)
    ∙ bits_assoc (n % 2) (b % 2) (c % 2) (mod-lt n (lit< tt)) (mod-lt b (lit< tt)) (mod-lt c (lit< tt))
    ∙ ap (bit_xor (n % 2)) (sym (xor_mod b c 1)) ∙ sym (xor_mod n (bit_xor b c) 1))) a

-- the third operand to the front one
pub xor_right : (a b c : ℕ) → bit_xor (bit_xor a b) c ≡ bit_xor (bit_xor a c) b
xor_right a b c = xor_assoc a b c ∙ ap (bit_xor a) (xor_comm b c) ∙ sym (xor_assoc a c b)

-- what is added twice goes away
pub xor_twice : (a b p : ℕ) → bit_xor (bit_xor a p) (bit_xor b p) ≡ bit_xor a b
xor_twice a b p =
    ap (bit_xor (bit_xor a p)) (xor_comm b p) ∙ xor_assoc a p (bit_xor p b)
    ∙ ap (bit_xor a) (sym (xor_assoc p p b) ∙ ap (λ (x : ℕ). bit_xor x b) (xor_self p))
