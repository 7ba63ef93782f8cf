-- The number, moved past eight bytes of 0, takes eight bytes by one sum.
use Rattle.std.proofs.Common.{rules}
use Rattle.crc.specs.Wide.{wide}
use Rattle.crc.proofs.Blocks.{eight_onward, wide_lt}
use Rattle.crc.proofs.next_eight.Goals as goal

pub returns : goal.returns
returns c = eight_onward c.args.block (λ j. search rules) (wide 8 c.args.x) _ _ (wide_lt 8 c.args.x) (search rules) c.fold.ensures c.from_be_bytes.ensures
