-- Three flags and the low five bits do not overlap, so that they add up.
use Rattle.std.proofs.Common.{◌≡◌, ℕ, ◌+◌, ◌*◌, ◌%◌, ◌≤◌, Bool, bit_and, bit_or, arith}
use mir.Val.{bool_byte}
use Rattle.std.proofs.lemmas.Nat.{and_mask}
use Rattle.laws.proofs.Bits.{join, flag, flag_le}
use Rattle.rules.specs.TailByte.{tail_byte}
use Rattle.wire.proofs.breakdown.make_tail_byte.Goals as goal

-- what the machine computes for flags s, e, t and the number n
joined : (s e t n : ℕ) → s ≤ 1 → e ≤ 1 → t ≤ 1
    → bit_or (bit_or (bit_or (s * 128 % 256) (e * 64 % 256)) (t * 32 % 256)) (bit_and n 31) ≡ s * 128 + e * 64 + t * 32 + n % 32
joined s e t n hs he ht =
    let a = join 7 (s * 128 % 256) (e * 64 % 256) (s * 128) (e * 64) (omega arith) (omega arith) (omega arith) (omega arith) in
    let b = join 6 _ (t * 32 % 256) _ (t * 32) a (omega arith) (omega arith) (omega arith) in
    join 5 _ (bit_and n 31) _ (n % 32) b (and_mask n 5) (omega arith) (omega arith)

-- the same for flags, as the rule has it
told : (s e t : Bool) (n : ℕ)
    → bit_or (bit_or (bit_or (bool_byte s * 128 % 256) (bool_byte e * 64 % 256)) (bool_byte t * 32 % 256)) (bit_and n 31) ≡ tail_byte s e t n
unfolding tail_byte
told s e t n = rw (flag s, flag e, flag t) (joined _ _ _ n (flag_le s) (flag_le e) (flag_le t))

pub returns : goal.returns
returns c = told c.args.start c.args.end c.args.toggle c.args.transfer_id.0
