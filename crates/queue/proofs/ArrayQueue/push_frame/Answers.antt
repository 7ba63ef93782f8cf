-- Where the answer is that a frame is placed, the queue is sound and not full.
use Rattle.std.proofs.Common.{refl, arith}
use Rattle.rules.specs.Frames.{frame}
use Rattle.queue.proofs.Putting.{placed_in}
use Rattle.queue.proofs.ArrayQueue.push_frame.Goals as goal

pub placed-requires : goal.placed-requires
placed-requires c =
    let r = placed_in c.args.self c.args.places.now (frame c.args.marks c.args.bytes.now) (c.in_default.ensures c.args.bytes.now refl) in
    omega arith
