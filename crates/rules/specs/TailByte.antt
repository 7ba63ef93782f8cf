-- The tail byte, last in each frame. Document 01: "start 128, end 64, toggle 32, transfer ID in the low five bits. The first toggle is 1 and alternates."
use Rattle.std.specs.Prelude.{ℕ, ◌+◌, ◌*◌, ◌/◌, ◌%◌, Bool, ◌==◌}
use Rattle.rules.specs.declared.tail.TailByte.{TailByte as Tail}
use Rattle.rules.specs.Limits.{transfer_ids}
use Rattle.rules.specs.CanId.{bit}

-- the byte with these fields; of a transfer ID that is too large, its low five bits
unfoldable pub tail_byte : Bool → Bool → Bool → ℕ → ℕ
tail_byte start end toggle id = bit start * 128 + bit end * 64 + bit toggle * 32 + id % transfer_ids

-- the fields of a byte
abbrev pub parsed_tail : ℕ → Tail
parsed_tail b =
    record {
      start = (b / 128 % 2 == 1);
      end = (b / 64 % 2 == 1);
      toggle = (b / 32 % 2 == 1);
      transfer_id = record { 0 = b % transfer_ids };
    }
