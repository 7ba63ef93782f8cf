-- The rules for ONE source: its slot, its part of the store, and a frame that is read. Where the part lies, and that there are 128 of them, is not known here.
-- Document 01, going on after the ID rule: "start and end both set: deliver, whatever the toggle, loopback or open session. Last time = the frame's stamp, e
-- steps, session dropped. Otherwise, with no session: no start means refusal 5 .. At the end bit, residue 0 over a total of k bytes delivers the first
-- min(extent, k − 2): last time = session stamp, e steps, session dropped. Any other residue is refusal 6", and the session is dropped.
use Rattle.std.specs.Prelude.{ℕ, ◌-◌, min, Bool, cond, ◌&&◌, List, length, None, Option, Some}
use Rattle.rules.specs.declared.refusal.Refusal.TheVariants.{NoSession, Residue}
use Rattle.rules.specs.declared.receive.Arrival.{Arrival}
use Rattle.rules.specs.declared.receive.Part.{Part}
use Rattle.rules.specs.declared.receive.Part.TheVariants.{OfFrame, OfStore}
use Rattle.rules.specs.declared.slots.Session.{Session}
use Rattle.rules.specs.declared.slots.Slot.{Slot}
use Rattle.rules.specs.Slot.{with_session, settled, admitted}
use Rattle.rules.specs.Session.{session_for, awaits, joined, stored, complete}
use Rattle.rules.specs.Answers.{Answer, delivers, nothing, refused_by}

-- what a source has: its slot, and its part of the store
pub record Cell : Type 0 where
  pub slot : Slot
  pub part : List ℕ

-- what a frame is answered, and what it leaves
pub record Turn : Type 0 where
  pub answer : Answer
  pub cell : Cell

abbrev pub leaves : Answer → Slot → List ℕ → Turn
leaves answer slot part = record { answer = answer; cell = record { slot = slot; part = part } }

-- a delivery at this frame, with this stamp and loopback flag
abbrev pub delivered_at : Arrival → ℕ → Bool → Part → Answer
delivered_at a stamp loopback part =
    delivers (record { header = a.header; transfer_id = a.tail.transfer_id; stamp = stamp; loopback = loopback; part = part })

-- a transfer in one frame: its bytes stay in the frame, cut to the extent
abbrev pub single : Slot → List ℕ → Arrival → List ℕ → Turn
single slot part a bytes = leaves (delivered_at a a.stamp a.loopback (OfFrame (min (length part) (length bytes)))) (settled slot a.stamp) part

-- the end of the session s: a delivery of what came before the CRC, cut to the extent, or refusal 6
unfoldable pub ended : Slot → List ℕ → Arrival → Session → Turn
ended slot part a s =
    cond (complete s)
    (leaves (delivered_at a s.stamp s.loopback (OfStore 0 (min (length part) (s.total - 2)))) (settled slot s.stamp) part)
    (leaves (refused_by Residue) (with_session slot None) part)

-- the session s and the part have the frame's bytes: is this the end?
unfoldable pub continued : Slot → List ℕ → Arrival → Session → Turn
continued slot part a s = cond a.tail.end (ended slot part a s) (leaves nothing (with_session slot (Some s)) part)

-- a frame comes to the session s, and joins it if it is awaited
unfoldable pub in_session : Slot → List ℕ → Arrival → List ℕ → Session → Turn
in_session slot part a bytes s =
    cond (awaits s a)
    (continued slot (stored s.total bytes part) a (joined (length part) s bytes))
    (leaves nothing (with_session slot (Some s)) part)

-- with no session, not even one that this frame opens: refusal 5
abbrev pub to_session : Option Session → Slot → List ℕ → Arrival → List ℕ → Turn
to_session None slot part a bytes = leaves (refused_by NoSession) slot part
to_session (Some s) slot part a bytes = in_session slot part a bytes s

-- a frame that the ID rule let through
unfoldable pub goes_on : Slot → List ℕ → Arrival → List ℕ → Turn
goes_on slot part a bytes = cond (a.tail.start && a.tail.end) (single slot part a bytes) (to_session (session_for slot.session a) slot part a bytes)

abbrev pub by_id_rule : Option Slot → Cell → Arrival → List ℕ → Turn
by_id_rule None c a bytes = record { answer = nothing; cell = c }
by_id_rule (Some slot) c a bytes = goes_on slot c.part a bytes

-- a frame comes from a source
unfoldable pub turn : ℕ → Cell → Arrival → List ℕ → Turn
turn timeout c a bytes = by_id_rule (admitted timeout c.slot a.tail.transfer_id a.stamp) c a bytes
