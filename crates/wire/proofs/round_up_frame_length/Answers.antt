-- The table is the rule of valid lengths, written out from 0 to 64: one law of tables says so of every entry.
use Rattle.laws.proofs.Tables.{tabulated}
use Rattle.rules.specs.Plan.{next_length}
use Rattle.wire.proofs.round_up_frame_length.Goals as goal

pub returns : goal.returns
unfolding next_length
returns c = tabulated next_length 65 c.args.length c.requires
