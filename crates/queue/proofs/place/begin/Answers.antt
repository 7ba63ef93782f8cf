-- The bytes are copied behind the head.
use Rattle.std.proofs.Common.{arith}
use Rattle.queue.proofs.Bytes.{begun}
use Rattle.queue.proofs.place.begin.Goals as goal

pub returns : goal.returns
returns c = begun c.args.marks c.args.count c.args.bytes.now c.args.place.now _ _ (omega arith) c.write_head.ensures c.copy.ensures.copied
