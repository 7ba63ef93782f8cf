-- The last N bytes lie behind the first ones, or over their end.
use Rattle.std.proofs.Common.{◌∙◌, arith}
use Rattle.blocks.proofs.Laid.{reach, all}
use Rattle.blocks.proofs.ends.Goals as goal

pub returns : goal.returns
returns g c =
    let s = c.args.src.now in
    let d = c.args.dst.now in
    reach s d g.row.N _ g.row.N (omega arith) (omega arith) (omega arith) (omega arith) (omega arith) c.put.ensures c.put-2.ensures ∙ all s d (omega arith) (omega arith)
