-- The life of a session, a transfer of several frames that is under way. Document 01: "a start opens a session with this frame's stamp and loopback flag. With a
-- session: a frame whose loopback differs, whose start bit is not the awaited one (only the first) or whose toggle is not awaited gives nothing. .. Otherwise its
-- bytes join the CRC and, up to the extent, the store." The extent is the length of the part of the store that the source has. The byte total stops at two over
-- the extent, for "what lies past extent + 2 matters no more".
use Rattle.std.specs.Prelude.{ℕ, ◌+◌, ◌-◌, min, Bool, true, false, cond, not, ◌&&◌, List, ◌++◌, length, take, drop, ◌==◌, nat_le, None, Option, Some}
use Rattle.std.specs.Bool.{beq}
use Rattle.rules.specs.declared.receive.Arrival.{Arrival}
use Rattle.rules.specs.declared.slots.Session.{Session as TheSession}
use Rattle.rules.specs.Crc.{crc_start, crc_from}

-- the session that a start opens: it awaits the start bit and the first toggle, which is 1
abbrev pub opened : Arrival → TheSession
opened a = record {
  stamp = a.stamp;
  loopback = a.loopback;
  expect_start = true;
  expect_toggle = true;
  crc = crc_start;
  total = 0;
}

-- the session that a frame comes to: the open one, or one that it opens if it is a start
abbrev pub session_for : Option TheSession → Arrival → Option TheSession
session_for (Some s) a = Some s
session_for None a = cond a.tail.start (Some (opened a)) None

-- whether the session awaits this frame
abbrev pub awaits : TheSession → Arrival → Bool
awaits s a = beq s.loopback a.loopback && beq s.expect_start a.tail.start && beq s.expect_toggle a.tail.toggle

-- the session with a frame's bytes in it
unfoldable pub joined : ℕ → TheSession → List ℕ → TheSession
joined extent s bytes = record {
  stamp = s.stamp;
  loopback = s.loopback;
  expect_start = false;
  expect_toggle = not s.expect_toggle;
  crc = crc_from s.crc bytes;
  total = min (extent + 2) (s.total + length bytes);
}

-- the part with a frame's bytes laid behind the `total` that it has, as far as it reaches
unfoldable pub stored : ℕ → List ℕ → List ℕ → List ℕ
stored total bytes part = take total part ++ take (length part - total) bytes ++ drop (total + length bytes) part

-- at the end bit: the residue is 0, and the CRC's two bytes came
abbrev pub complete : TheSession → Bool
complete s = s.crc == 0 && nat_le 2 s.total
