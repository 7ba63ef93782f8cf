-- The payload is laid over zeros, so that its padding stands behind it.
use Rattle.std.proofs.Common.{◌≡◌, ◌+◌, ◌-◌, ◌≤◌, length, take, ap, ◌∙◌, arith}
use Rattle.rules.specs.Transfer.{padded}
use Rattle.tx.proofs.Parts.{laid_zeros, padded_part}
use Rattle.tx.proofs.put.Labels.alone.Goals as goal

pub returns : goal.returns
returns c =
    let p = c.args.payload.now in
    let n = c.args.padding in
    let h : length p ≤ 64 = omega arith in
    let l : n ≤ 64 - length p = omega arith in
    let e : take (length p + n) c.copy.new.dst ≡ padded n p = ap (take (length p + n)) (c.copy.ensures.copied ∙ laid_zeros p 64 h) ∙ padded_part p n (64 - length p) l in
    rw e at c.one.ensures
