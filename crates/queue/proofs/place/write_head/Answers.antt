-- The pieces of the head stand in front of what the place had behind it.
use Rattle.std.proofs.Common.{◌≡◌, ◌/◌, ◌%◌, Bool, true, false, cond, refl, arith}
use Rattle.std.specs.Int.{from_bool}
use Rattle.queue.proofs.Bytes.{twelve}
use Rattle.queue.proofs.place.write_head.Goals as goal

marked : (b : Bool) → from_bool b ≡ cond b 1 0
marked true = refl
marked false = refl

pub returns : goal.returns
returns c =
    let p = c.args.place.now in
    let i : c.args.marks.id / 16777216 % 256 ≡ c.args.marks.id / 16777216 = omega arith in
    let s : c.args.marks.stamp / 16777216 % 256 ≡ c.args.marks.stamp / 16777216 = omega arith in
    rw (c.copy_from_slice.ensures.after, c.copy_from_slice-2.ensures.after, c.to_le_bytes.ensures, c.to_le_bytes-2.ensures, c.from.ensures, twelve p (omega arith))
    (cc (i, s, marked c.args.marks.loopback))
