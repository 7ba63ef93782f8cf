-- A block begins where the copy so far ends, or where the last block does, and reaches further.
use Rattle.std.proofs.Common.{arith, ◌≡◌, ◌+◌, ◌*◌, ap, ◌∙◌, length}
use Rattle.std.specs.Prelude.{min}
use Rattle.blocks.proofs.Laid.{reach, begun}
use Rattle.blocks.proofs.sixteens.Goals as goal

pub loop-k-preserved : goal.loop-k-preserved
loop-k-preserved c =
    let s = c.args.src.now in
    let d = c.args.dst.now in
    let n = length s in
    let k = c.loop-k.k in
    let a = c.min-at.result in
    let i = min (16 * k) n in
    let e : a + 16 ≡ min (16 * (k + 1)) n = omega arith in
    reach s d 16 a i (omega arith) (omega arith) (omega arith) (omega arith) (omega arith) c.loop-k.invariant c.put.ensures ∙ ap (begun s d) e
