-- The loop keeps: the first k blocks of sixteen are those of src, or all of it is, and the others are as before.
use Rattle.std.proofs.Common.{◌≡◌, ◌*◌, length}
use Rattle.std.specs.Prelude.{min}
use Rattle.blocks.proofs.Laid.{begun}
use Rattle.blocks.proofs.sixteens.Given as goal

abbrev pub invariant-loop-k : goal.invariant-loop-k
invariant-loop-k l = l.dst ≡ begun l.src l.initial.dst (min (16 * l.k) (length l.src))
