-- The bench sheet's one claim, by computation.
use Rattle.std.proofs.Common.{◌≡◌, map, refl}
use Rattle.rules.specs.Crc.{crc_bit, crc_bits, crc_byte}
use Rattle.rules.specs.CanId.{can_id_of, parsed_can_id}
use Rattle.rules.specs.TailByte.{tail_byte}
use Rattle.rules.specs.Plan.{next_length, tails, frames, padding}
use Rattle.rules.specs.Transfer.{carried, frames_of}
use Rattle.rules.specs.Slot.{age, admitted}
use Rattle.rules.specs.Session.{joined, stored}
use Rattle.rules.specs.Source.{ended, continued, in_session, goes_on, turn}
use Rattle.rules.specs.Receiver.{reading, cell_at, at_source, judged, received}
use Rattle.rules.specs.Bench.{Row, bench}

pub holds : map (λ (r : Row). r.book) bench ≡ map (λ (r : Row). r.sheet) bench
unfolding crc_bit crc_bits crc_byte can_id_of parsed_can_id tail_byte next_length tails frames padding carried frames_of
    age admitted joined stored ended continued in_session goes_on turn reading cell_at at_source judged received
holds = refl
