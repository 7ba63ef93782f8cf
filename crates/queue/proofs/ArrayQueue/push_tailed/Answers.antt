-- The frame has one byte more than its part. Where the answer is that it is placed, the queue is sound and not full, and the frame is put by its rule.
use Rattle.std.proofs.Common.{[], ◌∷◌, sym, arith, length-append}
use Rattle.rules.specs.Frames.{frame}
use Rattle.rules.specs.Transfer.{tailed}
use Rattle.rules.specs.Queue.{pushed}
use Rattle.queue.specs.Queue.{free}
use Rattle.queue.proofs.Putting.{placed_fits, placed_in, places_it}
use Rattle.queue.proofs.ArrayQueue.push_tailed.Goals as goal

pub open_behind-p-requires : goal.open_behind-p-requires
open_behind-p-requires c =
    let f = frame c.args.marks (tailed c.args.part.now c.args.tail) in
    (placed_fits (free c.args.self c.args.places.now) f (sym (c.in_default.ensures f.bytes (length-append c.args.part.now (c.args.tail ∷ []))))).spare

pub fill_tailed-requires : goal.fill_tailed-requires
fill_tailed-requires c =
    let f = frame c.args.marks (tailed c.args.part.now c.args.tail) in
    let more = length-append c.args.part.now (c.args.tail ∷ []) in
    let fits = placed_fits (free c.args.self c.args.places.now) f (sym (c.in_default.ensures f.bytes more)) in
    omega arith

pub placed-requires : goal.placed-requires
placed-requires c =
    let f = frame c.args.marks (tailed c.args.part.now c.args.tail) in
    let r = placed_in c.args.self c.args.places.now f (c.in_default.ensures f.bytes (length-append c.args.part.now (c.args.tail ∷ []))) in
    omega arith

pub returns : goal.returns
returns c =
    let f = frame c.args.marks (tailed c.args.part.now c.args.tail) in
    let e = c.in_default.ensures f.bytes (length-append c.args.part.now (c.args.tail ∷ [])) in
    places_it pushed _ _ _ _ _ e c.open_behind-p.ensures c.fill_tailed.ensures c.placed.ensures
