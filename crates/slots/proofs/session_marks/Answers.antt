-- The CRC, the three flags and the session's own bit do not overlap, so that they add up.
use Rattle.std.proofs.Common.{rules, ◌≡◌, refl, ℕ, ◌+◌, ◌*◌, ◌%◌, ◌^◌, ◌≤◌, ◌<◌, arith, bit_or}
use Rattle.laws.proofs.Bits.{join, flag, flag_le}
use Rattle.slots.specs.Words.{session_marks}
use Rattle.slots.proofs.session_marks.Goals as goal

-- what the machine computes for the CRC c and flags t, s, l
joined : (c t s l : ℕ) → c < 2 ^ 16 → t ≤ 1 → s ≤ 1 → l ≤ 1
    → bit_or (bit_or (bit_or (bit_or (c * 2 ^ 16 % 2 ^ 32) (t * 2 ^ 12 % 2 ^ 32)) (s * 2 ^ 11 % 2 ^ 32)) (l * 2 ^ 10 % 2 ^ 32)) 512
    ≡ c * 2 ^ 16 + t * 2 ^ 12 + s * 2 ^ 11 + l * 2 ^ 10 + 512
joined c t s l hc ht hs hl =
    let i = join 16 (c * 2 ^ 16 % 2 ^ 32) (t * 2 ^ 12 % 2 ^ 32) (c * 2 ^ 16) (t * 2 ^ 12) (omega arith) (omega arith) (omega arith) (omega arith) in
    let j = join 12 _ (s * 2 ^ 11 % 2 ^ 32) _ (s * 2 ^ 11) i (omega arith) (omega arith) (omega arith) in
    let k = join 11 _ (l * 2 ^ 10 % 2 ^ 32) _ (l * 2 ^ 10) j (omega arith) (omega arith) (omega arith) in
    join 10 _ 512 _ 512 k refl (omega arith) (omega arith)

pub returns : goal.returns
unfolding session_marks
returns c =
    let s = c.args.s in
    let h : s.crc < 2 ^ 16 = search rules in
    let t = flag_le s.expect_toggle in
    let b = flag_le s.expect_start in
    let l = flag_le s.loopback in
    rw (flag s.expect_toggle, flag s.expect_start, flag s.loopback, joined s.crc _ _ _ h t b l) (omega arith, omega arith, omega arith)
