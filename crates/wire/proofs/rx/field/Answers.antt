-- A shift divides by a power of two, and a mask takes the remainder by one.
use Rattle.std.proofs.Common.{arith}
use Rattle.laws.proofs.Bits.{masked}
use Rattle.wire.proofs.rx.field.Goals as goal

pub returns : goal.returns
returns c = masked c.args.id c.args.at c.args.count 32 (omega arith)
