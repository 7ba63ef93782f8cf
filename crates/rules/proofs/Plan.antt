-- Laws of the frame plan: as many frames as tails; payload, padding and CRC fill all frames but the last, and fit them; the last has a length that CAN FD has.
use Rattle.std.proofs.Common.{◌≡◌, ℕ, ◌+◌, ◌-◌, ◌*◌, ◌%◌, ◌^◌, ◌<◌, ◌≤◌, eqb, leb, length, sym, refl, ap, ◌∙◌, ⊎_elim, arith, eqb→eq, leb→le, le-leb}
use borrow.Author.Tests.{lt-leb}
use Rattle.laws.proofs.Choose.{at_most_or_above, either_way}
use Rattle.laws.proofs.Tables.{below}
use Rattle.rules.specs.declared.data.Mtu.{Mtu}
use Rattle.rules.specs.declared.data.Mtu.TheVariants.{Can8, CanFd64}
use Rattle.rules.specs.Limits.{size_of, room_of}
use Rattle.rules.specs.Plan.{valid_lengths, next_length, crc_length, tails, total, frames, padding}

-- a data length code has four bits, and each says a length
codes : length valid_lengths ≡ 2 ^ 4
codes = refl

-- ---- raising a length

pub no_less : (n : ℕ) → n < 65 → n ≤ next_length n
unfolding next_length
no_less n h = leb→le n (next_length n) (below (λ (k : ℕ). leb k (next_length k)) 65 tt n h)

pub no_more : (n : ℕ) → n < 65 → next_length n ≤ 64
unfolding next_length
no_more n h = leb→le (next_length n) 64 (below (λ (k : ℕ). leb (next_length k) 64) 65 tt n h)

-- what was raised is not raised again
again : (n : ℕ) → n < 65 → next_length (next_length n) ≡ next_length n
unfolding next_length
again n h = eqb→eq (next_length (next_length n)) (next_length n) (below (λ (k : ℕ). eqb (next_length (next_length k)) (next_length k)) 65 tt n h)

-- no length is raised by more than 15
no_long_rise : (n : ℕ) → n < 65 → next_length n - n ≤ 15
unfolding next_length
no_long_rise n h = leb→le (next_length n - n) 15 (below (λ (k : ℕ). leb (next_length k - k) 15) 65 tt n h)

-- up to 8 bytes, every length is there
every : (n : ℕ) → n < 9 → next_length n ≡ n
unfolding next_length
every n h = eqb→eq (next_length n) n (below (λ (k : ℕ). eqb (next_length k) k) 9 tt n h)

-- a full frame is not raised
pub full_length : (u : Mtu) → next_length (size_of u) ≡ size_of u
unfolding next_length
full_length Can8 = refl
full_length CanFd64 = refl

-- ---- the plan

pub size_bounds : (u : Mtu) → (8 ≤ size_of u) × (size_of u ≤ 64)
size_bounds Can8 = (omega arith, omega arith)
size_bounds CanFd64 = (omega arith, omega arith)

pub crc_length_le : (u : Mtu) (p : ℕ) → crc_length u p ≤ 2
crc_length_le u p = either_way (λ (n : ℕ). n ≤ 2) (leb p (room_of u)) (omega arith) (omega arith)

-- AS MANY FRAMES AS TAILS
pub frames_tails : (u : Mtu) (p : ℕ) → frames u p ≡ tails u p
unfolding frames tails
frames_tails Can8 p = omega arith
frames_tails CanFd64 p = omega arith

module _ (p : ℕ) where
  -- a payload that fits one frame takes one
  pub alone : (u : Mtu) → p ≤ room_of u → frames u p ≡ 1
  unfolding frames tails
  alone Can8 h = rw (le-leb p 7 h) (omega arith)
  alone CanFd64 h = rw (le-leb p 63 h) (omega arith)

  -- a longer one takes two or more
  pub several : (u : Mtu) → room_of u < p → 2 ≤ frames u p
  unfolding frames tails
  several Can8 h = rw (lt-leb p 7 h) (omega arith)
  several CanFd64 h = rw (lt-leb p 63 h) (omega arith)

  -- and one frame fewer would not hold it with its CRC
  pub needed : (u : Mtu) → room_of u < p → (frames u p - 1) * room_of u < p + 2
  unfolding frames tails
  needed Can8 h = rw (lt-leb p 7 h) (omega arith)
  needed CanFd64 h = rw (lt-leb p 63 h) (omega arith)

-- the tails are enough for payload and CRC, and no more than that
enough : (u : Mtu) (p : ℕ) → (p + crc_length u p ≤ room_of u * tails u p) × (room_of u * tails u p < p + crc_length u p + size_of u) × (1 ≤ tails u p)
unfolding tails
enough Can8 p = (omega arith, omega arith, omega arith)
enough CanFd64 p = (omega arith, omega arith, omega arith)

-- ---- the last frame

-- w bytes and t tails in t frames of 64: the rest is raised to the length of the last frame, which is full where there is no rest
module _ (w t : ℕ) (l : w ≤ 63 * t) (h : 63 * t < w + 64) (pos : 1 ≤ t) where
  abbrev rise : ℕ
  rise = next_length ((w + t) % 64) - (w + t) % 64

  abbrev last : ℕ
  last = w + rise - 63 * (t - 1) + 1

  raised : (w + rise ≤ 63 * t) × (next_length last ≡ last)
  raised =
      ⊎_elim
      (λ (z : (w + t) % 64 ≤ 0).
      let e : (w + t) % 64 ≡ 0 = omega arith in
      let n : next_length ((w + t) % 64) ≡ 0 = ap next_length e ∙ every 0 (omega arith) in
      let full : last ≡ 64 = omega arith in
      (omega arith, ap next_length full ∙ full_length CanFd64 ∙ sym full))
      (λ (s : 0 < (w + t) % 64).
      let r : ℕ = (w + t) % 64 in
      let up = no_less r (omega arith) in
      let top = no_more r (omega arith) in
      let short : last ≡ next_length r = omega arith in
      (omega arith, ap next_length short ∙ again r (omega arith) ∙ sym short))
      (at_most_or_above ((w + t) % 64) 0)

-- the bytes of the last frame, its tail with them
abbrev pub last_length : Mtu → ℕ → ℕ
last_length u p = p + crc_length u p + padding u p - (frames u p - 1) * room_of u + 1

-- payload, CRC and padding fit the frames, and the last frame has a valid length
pub last_frame : (u : Mtu) (p : ℕ) → (p + crc_length u p + padding u p ≤ frames u p * room_of u) × (next_length (last_length u p) ≡ last_length u p)
unfolding padding
last_frame Can8 p =
    let b = enough Can8 p in
    let f = frames_tails Can8 p in
    let none : next_length (total Can8 p % 8) ≡ total Can8 p % 8 = every (total Can8 p % 8) (omega arith) in
    (omega arith, every (last_length Can8 p) (omega arith))
last_frame CanFd64 p =
    let b = enough CanFd64 p in
    let f = frames_tails CanFd64 p in
    let r = raised (p + crc_length CanFd64 p) (tails CanFd64 p) b.0 b.1 b.2 in
    let e : last_length CanFd64 p ≡ last (p + crc_length CanFd64 p) (tails CanFd64 p) b.0 b.1 b.2 = omega arith in
    (omega arith, ap next_length e ∙ r.1 ∙ sym e)

-- the padding leaves room for the CRC's two bytes
pub padding_small : (u : Mtu) (p : ℕ) → padding u p + 1 ≤ room_of u
unfolding padding
padding_small Can8 p =
    let none : next_length (total Can8 p % 8) ≡ total Can8 p % 8 = every (total Can8 p % 8) (omega arith) in
    omega arith
padding_small CanFd64 p = omega (arith, no_long_rise (total CanFd64 p % 64) (omega arith))
