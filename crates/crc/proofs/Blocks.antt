-- The next k bytes at once: the register moved by 8 k bits, and added to it what the number that the bytes write leaves.
use mathlib.Core.Path.{◌≡◌, refl, sym, ap, ap₂, ◌∙◌}
use mathlib.Core.List.{List, [], ◌∷◌, ◌++◌}
use Prim.Native.Nat.{ℕ, zero, suc, ◌+◌, ◌*◌, ◌/◌, ◌%◌, ◌^◌, ◌≤◌, ◌<◌}
use native.Mathlib.Nat.{mod-lt}
use native.Mathlib.Omega.{arith}
use lib.Dec.{lit<}
use lib.ListN.{length, get_or, take, drop, take-append-drop, length-drop, drop_of_length-le}
use lib.Seq.{take-suc, take_all}
use lib.Bits.{bit_xor, xor_lt, xor_zero_r, xor_shr, xor_mod}
use Rattle.laws.specs.Xor.{KeepsXor}
use Rattle.laws.proofs.Linear.{swap4, keeps_mul}
use Rattle.rules.specs.Crc.{crc_bits, crc_byte, crc_from}
use Rattle.rules.proofs.Crc.{bits_lt, bits_xor, byte_lt, from_append}
use Rattle.std.proofs.lemmas.List.{at_drop_more}
use Rattle.std.specs.List.{fold, concat}
use Rattle.std.specs.Simd.{first_chunks}
use Rattle.std.specs.Int.{w64, from_be_bytes}
use Rattle.crc.specs.Wide.{value, wide}

-- ---- what a number leaves stays within 16 bits and keeps sums

pub wide_lt : (k x : ℕ) → wide k x < 2 ^ 16
unfolding wide
wide_lt zero x = lit< tt
wide_lt (suc k) x = byte_lt (wide k (x / 2 ^ 8)) (x % 2 ^ 8)

-- a byte that is a sum, on a register that is one
byte_xor : (c d a b : ℕ) → c < 2 ^ 16 → d < 2 ^ 16 → a < 2 ^ 8 → b < 2 ^ 8 → crc_byte (bit_xor c d) (bit_xor a b) ≡ bit_xor (crc_byte c a) (crc_byte d b)
unfolding crc_byte
byte_xor c d a b hc hd ha hb =
    ap (crc_bits 8) (ap (bit_xor (bit_xor c d)) (keeps_mul 8 a b) ∙ swap4 c d (a * 2 ^ 8) (b * 2 ^ 8))
    ∙ bits_xor 8 (bit_xor c (a * 2 ^ 8)) (bit_xor d (b * 2 ^ 8)) (xor_lt 16 c (a * 2 ^ 8) hc (omega arith)) (xor_lt 16 d (b * 2 ^ 8) hd (omega arith))

pub keeps_wide : (k : ℕ) → KeepsXor (wide k)
unfolding wide
keeps_wide zero x y = refl
keeps_wide (suc k) x y =
    ap₂ crc_byte (ap (wide k) (xor_shr x y 8) ∙ keeps_wide k (x / 2 ^ 8) (y / 2 ^ 8)) (xor_mod x y 8)
    ∙ byte_xor (wide k (x / 2 ^ 8)) (wide k (y / 2 ^ 8)) (x % 2 ^ 8) (y % 2 ^ 8) (wide_lt k (x / 2 ^ 8)) (wide_lt k (y / 2 ^ 8)) (mod-lt x (lit< tt)) (mod-lt y (lit< tt))

pub keeps_bits : (k : ℕ) → KeepsXor (λ (c : ℕ). crc_bits k (c % 2 ^ 16))
keeps_bits k x y = ap (crc_bits k) (xor_mod x y 16) ∙ bits_xor k (x % 2 ^ 16) (y % 2 ^ 16) (mod-lt x (lit< tt)) (mod-lt y (lit< tt))

-- ---- one byte more

-- the next byte goes to one of two registers that are added
byte_more : (c w b : ℕ) → c < 2 ^ 16 → w < 2 ^ 16 → b < 2 ^ 8 → crc_byte (bit_xor c w) b ≡ bit_xor (crc_bits 8 c) (crc_byte w b)
unfolding crc_byte
byte_more c w b hc hw hb = byte_xor c w 0 b hc hw (lit< tt) hb ∙ ap (λ (n : ℕ). bit_xor (crc_bits 8 n) (crc_byte w b)) (xor_zero_r c)

bits_more : (k c : ℕ) → crc_bits 8 (crc_bits (8 * k) c) ≡ crc_bits (8 * suc k) c
unfolding crc_bits
bits_more k c =
    let e : suc (suc (suc (suc (suc (suc (suc (suc (8 * k)))))))) ≡ 8 * suc k = omega arith in
    ap (λ (n : ℕ). crc_bits n c) e

wide_more : (k v b : ℕ) → b < 2 ^ 8 → crc_byte (wide k v) b ≡ wide (suc k) (v * 2 ^ 8 + b)
unfolding wide
wide_more k v b h =
    let d : v ≡ (v * 2 ^ 8 + b) / 2 ^ 8 = omega arith in
    let m : b ≡ (v * 2 ^ 8 + b) % 2 ^ 8 = omega arith in
    ap₂ crc_byte (ap (wide k) d) m

-- ---- the bytes of a list

-- a register stays where no byte is left
pub none_left : (c : ℕ) (s : List ℕ) (k : ℕ) → length s ≤ k → c ≡ crc_from c (drop k s)
none_left c s k h = sym (ap (crc_from c) (drop_of_length-le s h))

-- one byte after another is a fold
pub by_fold : (c : ℕ) (s : List ℕ) → crc_from c s ≡ fold crc_byte c s
by_fold c [] = refl
by_fold c (b ∷ s) = by_fold (crc_byte c b) s

-- the next of the eights that are left
pub next_block : (c : ℕ) (blocks : List (List ℕ)) (i : ℕ) → i < length blocks
    → crc_from c (concat (drop i blocks)) ≡ crc_from (crc_from c (get_or blocks i [])) (concat (drop (i + 1) blocks))
next_block c blocks i h =
    at_drop_more (λ (bs : List (List ℕ)). crc_from c (concat bs)) blocks i [] h ∙ from_append c (get_or blocks i []) (concat (drop (i + 1) blocks))

-- eights joined are what was cut
pub eights_joined : (k : ℕ) (s : List ℕ) → k * 8 ≡ length s → concat (first_chunks 8 k s) ≡ s
eights_joined zero [] h = refl
eights_joined zero (b ∷ s) h = absurd (omega arith)
eights_joined (suc k) s h =
    let l : k * 8 ≡ length (drop 8 s) = simp length-drop (omega arith) in
    ap (λ (t : List ℕ). take 8 s ++ t) (eights_joined k (drop 8 s) l) ∙ take-append-drop 8 s

-- each element is a byte
abbrev pub Bytes : List ℕ → Type 0
Bytes s = (j : ℕ) → get_or s j 0 < 2 ^ 8

module _ (s : List ℕ) (bytes : Bytes s) where
  -- the first k bytes, as a number that is added to the moved register
  block : (k c : ℕ) → c < 2 ^ 16 → k ≤ length s → crc_from c (take k s) ≡ bit_xor (crc_bits (8 * k) c) (wide k (value s k))
  unfolding crc_bits wide
  block zero c hc h = sym (xor_zero_r c)
  block (suc k) c hc h =
      let b : ℕ = get_or s k 0 in
      let v : ℕ = value s k in
      let l : k < length s = omega arith in
      ap (crc_from c) (take-suc s k 0 l) ∙ from_append c (take k s) (b ∷ [])
      ∙ ap (λ (n : ℕ). crc_byte n b) (block k c hc (omega arith))
      ∙ byte_more (crc_bits (8 * k) c) (wide k v) b (bits_lt (8 * k) c hc) (wide_lt k v) (bytes k)
      ∙ ap₂ bit_xor (bits_more k c) (wide_more k v b (bytes k))

  -- a number x that stands for the register c moved by 8 k bits takes the k bytes by one sum
  pub onward : (k c x v : ℕ) → c < 2 ^ 16 → length s ≡ k → wide 8 x ≡ crc_bits (8 * k) c → wide 8 v ≡ wide k (value s k) → wide 8 (bit_xor x v) ≡ crc_from c s
  onward k c x v hc l p q =
      let a : length s ≤ k = omega arith in
      keeps_wide 8 x v ∙ ap₂ bit_xor p q ∙ sym (block k c hc (omega arith)) ∙ ap (crc_from c) (take_all k s a)

  -- eight bytes, as `from_be_bytes` reads them
  pub eight_onward : (c x v : ℕ) → c < 2 ^ 16 → length s ≡ 8 → wide 8 x ≡ crc_bits 64 c → v ≡ from_be_bytes w64 s → wide 8 (bit_xor x v) ≡ crc_from c s
  eight_onward c x v hc l p e =
      let q : v ≡ value s 8 = omega (arith, e) in
      onward 8 c x v hc l p (ap (wide 8) q)
