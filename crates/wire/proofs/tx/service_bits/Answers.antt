-- The fields of a service transfer do not overlap, so that they add up.
use Rattle.std.proofs.Common.{◌≡◌, ℕ, ◌+◌, ◌*◌, ◌%◌, ◌^◌, ◌≤◌, refl, bit_or, arith}
use Rattle.laws.proofs.Bits.{join, flag, flag_le}
use Rattle.wire.proofs.tx.service_bits.Goals as goal

-- what the machine computes for priority p, flag q, service s, destination d and source n
joined : (p q s d n : ℕ) → p ≤ 7 → q ≤ 1 → s ≤ 511 → d ≤ 127 → n ≤ 127
    → bit_or (bit_or (bit_or (bit_or (bit_or (p * 2 ^ 26 % 2 ^ 32) (2 ^ 25)) (q * 2 ^ 24 % 2 ^ 32)) (s * 2 ^ 14 % 2 ^ 32)) (d * 2 ^ 7 % 2 ^ 32)) n
    ≡ p * 2 ^ 26 + 2 ^ 25 + q * 2 ^ 24 + s * 2 ^ 14 + d * 2 ^ 7 + n
joined p q s d n hp hq hs hd hn =
    let i = join 26 (p * 2 ^ 26 % 2 ^ 32) (2 ^ 25) (p * 2 ^ 26) (2 ^ 25) (omega arith) refl (omega arith) (omega arith) in
    let j = join 25 _ (q * 2 ^ 24 % 2 ^ 32) _ (q * 2 ^ 24) i (omega arith) (omega arith) (omega arith) in
    let k = join 23 _ (s * 2 ^ 14 % 2 ^ 32) _ (s * 2 ^ 14) j (omega arith) (omega arith) (omega arith) in
    let l = join 14 _ (d * 2 ^ 7 % 2 ^ 32) _ (d * 2 ^ 7) k (omega arith) (omega arith) (omega arith) in
    join 7 _ n _ n l refl (omega arith) (omega arith)

pub returns : goal.returns
returns c =
    let a = c.args in
    rw (flag a.request)
    (joined a.priority _ a.service a.destination a.source c.requires.0 (flag_le a.request) c.requires.1 c.requires.2 c.requires.3)
