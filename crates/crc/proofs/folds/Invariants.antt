-- The number and the blocks that are left leave what x and all of them leave.
use Rattle.std.proofs.Common.{◌≡◌, drop}
use Rattle.std.specs.List.{concat}
use Rattle.rules.specs.Crc.{crc_from}
use Rattle.crc.specs.Wide.{wide}
use Rattle.crc.proofs.folds.Given as goal

abbrev pub invariant-loop-block : goal.invariant-loop-block
invariant-loop-block l = crc_from (wide 8 l.w) (concat (drop l.block-index l.blocks)) ≡ crc_from (wide 8 l.x) (concat l.blocks)
