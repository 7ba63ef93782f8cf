-- How a slot lies in the four words that the caller lends for it: the last time; the session's stamp; the marks; the session's byte total. The marks are, from
-- the low bit: the expected ID (8 bits), whether there is a last time, whether there is a session, its loopback flag, its awaited start bit, its awaited toggle,
-- three bits of no use, and its CRC (16 bits). Any words are read as some slot.
use Rattle.std.specs.Prelude.{ℕ, ◌+◌, ◌*◌, ◌/◌, ◌%◌, Bool, cond, List, [], ◌∷◌, eqb, get_or, None, Option, Some}
use Rattle.rules.specs.CanId.{bit}
use Rattle.rules.specs.declared.slots.Session.{Session}
use Rattle.rules.specs.declared.slots.Slot.{Slot}
use Rattle.slots.specs.declared.TimeWords.{TimeWords}
use Rattle.slots.specs.declared.SessionWords.{SessionWords}

-- ---- written

-- the last time, and its bit of the marks
abbrev pub time_words : Option ℕ → TimeWords
time_words None = record { time = 0; mark = 0 }
time_words (Some t) = record { time = t; mark = 256 }

-- the bits that the marks have of a session
unfoldable pub session_marks : Session → ℕ
session_marks s = 512 + 1024 * bit s.loopback + 2048 * bit s.expect_start + 4096 * bit s.expect_toggle + 65536 * s.crc

abbrev pub session_words : Option Session → SessionWords
session_words None = record { stamp = 0; marks = 0; total = 0 }
session_words (Some s) = record { stamp = s.stamp; marks = session_marks s; total = s.total }

abbrev pub words_from : ℕ → TimeWords → SessionWords → List ℕ
words_from expected t s = t.time ∷ s.stamp ∷ (s.marks + t.mark + expected) ∷ s.total ∷ []

-- the words of a slot
unfoldable pub words_of : Slot → List ℕ
words_of s = words_from s.expected.0 (time_words s.last_time) (session_words s.session)

-- ---- read

abbrev pub flag_of : ℕ → Bool
flag_of n = eqb (n % 2) 1

abbrev pub last_time_in : ℕ → ℕ → Option ℕ
last_time_in time marks = cond (flag_of (marks / 256)) (Some time) None

-- the CRC in the marks
abbrev pub crc_in : ℕ → ℕ
crc_in marks = marks / 65536 % 65536

abbrev pub session_in : ℕ → ℕ → ℕ → Option Session
session_in stamp marks total =
    cond (flag_of (marks / 512))
    (Some record {
      stamp = stamp;
      loopback = flag_of (marks / 1024);
      expect_start = flag_of (marks / 2048);
      expect_toggle = flag_of (marks / 4096);
      crc = crc_in marks;
      total = total;
    })
    None

abbrev pub slot_from : ℕ → ℕ → ℕ → ℕ → Slot
slot_from time stamp marks total = record { expected = record { 0 = marks % 256 }; last_time = last_time_in time marks; session = session_in stamp marks total }

-- the slot of four words
unfoldable pub slot_of : List ℕ → Slot
slot_of w = slot_from (get_or w 0 0) (get_or w 1 0) (get_or w 2 0) (get_or w 3 0)
