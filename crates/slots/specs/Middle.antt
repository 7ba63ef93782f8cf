-- A slot and a frame in the middle of a transfer, which is neither its start nor its end: whether the slot awaits it, how far its session is, and its words with the
-- session one frame further.
use Rattle.std.specs.Prelude.{ℕ, Bool, false, not, ◌&&◌, List, eqb, get_or, None, Option, Some}
use Rattle.std.specs.Bool.{beq}
use Rattle.rules.specs.declared.tail.TailByte.{TailByte as Tail}
use Rattle.rules.specs.declared.slots.Session.{Session}
use Rattle.rules.specs.declared.slots.Slot.{Slot}
use Rattle.rules.specs.Slot.{with_session}
use Rattle.slots.specs.declared.Progress.{Progress}
use Rattle.slots.specs.Words.{words_of, crc_in, slot_of}

-- ---- awaited

-- the session has its start, and awaits this loopback flag and this toggle
abbrev pub session_awaits : Option Session → Bool → Bool → Bool
session_awaits None loopback toggle = false
session_awaits (Some s) loopback toggle = beq s.loopback loopback && not s.expect_start && beq s.expect_toggle toggle

-- the slot expects the frame's ID, and its session the frame
unfoldable pub slot_awaits : Slot → Tail → Bool → Bool
slot_awaits slot tail loopback = eqb tail.transfer_id.0 slot.expected.0 && session_awaits slot.session loopback tail.toggle

-- ---- one frame further

-- how far the session in four words is, if there is one
unfoldable pub progress_in : List ℕ → Progress
progress_in w = record { crc = crc_in (get_or w 2 0); total = get_or w 3 0 }

-- the session, this far: it has its start, and awaits the other toggle
abbrev pub session_on : Session → Progress → Session
session_on s p = record {
  stamp = s.stamp;
  loopback = s.loopback;
  expect_start = false;
  expect_toggle = not s.expect_toggle;
  crc = p.crc;
  total = p.total;
}

abbrev pub open_on : Option Session → List ℕ → Progress → List ℕ
open_on None w p = w
open_on (Some s) w p = words_of (with_session (slot_of w) (Some (session_on s p)))

-- the words of a slot whose session is this far; with no session, as they were
unfoldable pub words_on : List ℕ → Progress → List ℕ
words_on w p = open_on (slot_of w).session w p
