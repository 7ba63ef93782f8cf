-- The fields of a message do not overlap, so that they add up.
use Rattle.std.proofs.Common.{◌≡◌, ℕ, ◌+◌, ◌*◌, ◌%◌, ◌^◌, ◌≤◌, refl, bit_or, arith}
use Rattle.laws.proofs.Bits.{join, flag, flag_le}
use Rattle.wire.proofs.tx.message_bits.Goals as goal

-- what the machine computes for priority p, flag a, subject s and source n
joined : (p a s n : ℕ) → p ≤ 7 → a ≤ 1 → s ≤ 8191 → n ≤ 127
    → bit_or (bit_or (bit_or (bit_or (bit_or (p * 2 ^ 26 % 2 ^ 32) (a * 2 ^ 24 % 2 ^ 32)) (2 ^ 22)) (2 ^ 21)) (s * 2 ^ 8 % 2 ^ 32)) n
    ≡ p * 2 ^ 26 + a * 2 ^ 24 + 2 ^ 22 + 2 ^ 21 + s * 2 ^ 8 + n
joined p a s n hp ha hs hn =
    let i = join 26 (p * 2 ^ 26 % 2 ^ 32) (a * 2 ^ 24 % 2 ^ 32) (p * 2 ^ 26) (a * 2 ^ 24) (omega arith) (omega arith) (omega arith) (omega arith) in
    let j = join 23 _ (2 ^ 22) _ (2 ^ 22) i refl (omega arith) (omega arith) in
    let k = join 22 _ (2 ^ 21) _ (2 ^ 21) j refl (omega arith) (omega arith) in
    let l = join 21 _ (s * 2 ^ 8 % 2 ^ 32) _ (s * 2 ^ 8) k (omega arith) (omega arith) (omega arith) in
    join 8 _ n _ n l refl (omega arith) (omega arith)

pub returns : goal.returns
returns c =
    let a = c.args in
    rw (flag a.anonymous) (joined a.priority _ a.subject a.source c.requires.0 (flag_le a.anonymous) c.requires.1 c.requires.2)
