-- The plan step by step; an MTU of 8 or 64 and a payload within its limit keep every number small.
use Rattle.std.proofs.Common.{ℕ, ◌+◌, ◌%◌, arith}
use Rattle.rules.proofs.Plan.{no_less, size_bounds}
use Rattle.wire.proofs.Ceil.{stats_by}
use Rattle.wire.proofs.stats.Goals as goal

pub overflow_sub-result : goal.overflow_sub-result
overflow_sub-result c =
    let b = size_bounds c.args.mtu in
    let n : ℕ = c.args.payload_length + c.crc_length.result + c.max-tail_bytes.result in
    omega (arith, no_less (n % c.as_bytes-size.result) (omega arith))

pub returns : goal.returns
returns c =
    stats_by c.args.mtu c.args.payload_length _ _ _ _ _ _ c.as_bytes-size.ensures c.crc_length.ensures c.div_ceil.ensures c.max-tail_bytes.ensures
    c.div_ceil-2.ensures c.round_up_frame_length.ensures
