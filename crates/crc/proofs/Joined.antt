-- Seven bytes as four and three: the register goes to the four, and the three stand behind them.
use mathlib.Core.Path.{◌≡◌, sym, ap, ◌∙◌}
use Prim.Native.Nat.{ℕ, ◌+◌, ◌*◌, ◌/◌, ◌%◌, ◌^◌, ◌<◌}
use native.Mathlib.Omega.{arith}
use lib.Bits.{bit_xor, xor_lt, xor_shifted}
use Rattle.laws.proofs.Xor.{xor_assoc}
use Rattle.laws.proofs.Linear.{keeps_shl}

-- the register c, four bytes f and three bytes t
module _ (c f t : ℕ) (hc : c < 2 ^ 16) (hf : f < 2 ^ 32) (ht : t < 2 ^ 24) where
  abbrev high : ℕ
  high = bit_xor (c * 2 ^ 16 % 2 ^ 64) f

  -- what stands before the three bytes does not reach them
  placed : (n : ℕ) → n < 2 ^ 32 → bit_xor (n * 2 ^ 24 % 2 ^ 64) t ≡ n * 2 ^ 24 + t
  placed n h =
      let e : n * 2 ^ 24 % 2 ^ 64 ≡ n * 2 ^ 24 = omega arith in
      ap (λ (m : ℕ). bit_xor m t) e ∙ xor_shifted n 24 t ht

  -- the register, moved up to before all seven, and they
  pub seven_joined : bit_xor (high * 2 ^ 24 % 2 ^ 64) t ≡ bit_xor (c * 2 ^ 40 % 2 ^ 64) (f * 2 ^ 24 + t)
  seven_joined =
      let e : c * 2 ^ 16 % 2 ^ 64 * 2 ^ 24 % 2 ^ 64 ≡ c * 2 ^ 40 % 2 ^ 64 = omega arith in
      ap (λ (m : ℕ). bit_xor m t) (keeps_shl 24 64 (c * 2 ^ 16 % 2 ^ 64) f ∙ ap (λ (m : ℕ). bit_xor m (f * 2 ^ 24 % 2 ^ 64)) e)
      ∙ xor_assoc (c * 2 ^ 40 % 2 ^ 64) (f * 2 ^ 24 % 2 ^ 64) t
      ∙ ap (bit_xor (c * 2 ^ 40 % 2 ^ 64)) (placed f hf)

  -- its upper half
  pub seven_top : high / 2 ^ 8 ≡ bit_xor (high * 2 ^ 24 % 2 ^ 64) t / 2 ^ 32
  seven_top =
      let l : high < 2 ^ 32 = xor_lt 32 (c * 2 ^ 16 % 2 ^ 64) f (omega arith) hf in
      let e : high / 2 ^ 8 ≡ (high * 2 ^ 24 + t) / 2 ^ 32 = omega arith in
      e ∙ sym (ap (λ (m : ℕ). m / 2 ^ 32) (placed high l))
