-- THE STEPS OF A TRANSFER, one equation for the answer and for what the frame leaves: what a frame does to the cell of its source, by the role that it has. A
-- session is named by the bytes that came (`session_of`, `laid`), so each equation follows from the ID rule's outcome and from how bytes join.
use Rattle.std.specs.Prelude.{None, Option, Some}
use Rattle.std.proofs.Common.{◌≡◌, ℕ, ◌+◌, ◌-◌, ◌%◌, ◌≤◌, min, Bool, true, false, not, ◌&&◌, List, ◌++◌, length, refl, ap, ◌∙◌, arith, eq-eqb, le-leb}
use mathlib.Core.Bool.{beq}
use Rattle.laws.specs.Laid.{laid}
use Rattle.rules.specs.declared.refusal.Refusal.TheVariants.{NoSession}
use Rattle.rules.specs.declared.header.Header.{Header}
use Rattle.rules.specs.declared.receive.Arrival.{Arrival}
use Rattle.rules.specs.declared.receive.Part.TheVariants.{OfFrame, OfStore}
use Rattle.rules.specs.declared.slots.Session.{Session as TheSession}
use Rattle.rules.specs.declared.slots.Slot.{Slot}
use Rattle.rules.specs.Limits.{transfer_ids}
use Rattle.rules.specs.Crc.{crc}
use Rattle.rules.specs.Slot.{restarted, admitted}
use Rattle.rules.specs.Session.{awaits}
use Rattle.rules.specs.Answers.{Answer, nothing, refused_by}
use Rattle.rules.specs.Source.{Cell, leaves, delivered_at, ended, continued, in_session, goes_on, by_id_rule, turn}
use Rattle.rules.specs.Demand3.{IsRepeat, MeetsSession}
use Rattle.rules.proofs.Session.{session_of, length_laid, joined_first, stored_first, joined_came, stored_came}
use Rattle.rules.proofs.IdRule.{id_rule, repeat_admitted}

-- a frame as it is read: its header, stamp, loopback flag and transfer ID, and the three bits of its tail
abbrev pub arrival : Header → ℕ → Bool → ℕ → Bool → Bool → Bool → Arrival
arrival header stamp loopback id start end toggle = record {
  header = header;
  tail = record { start = start; end = end; toggle = toggle; transfer_id = record { 0 = id } };
  stamp = stamp;
  loopback = loopback;
}

-- the slot after a delivery of this ID under this stamp
abbrev pub delivered : ℕ → ℕ → Slot
delivered id stamp = record { expected = record { 0 = (id + 1) % transfer_ids }; last_time = Some stamp; session = None }

-- a cell in which a transfer is under way: these bytes came, and this part was there before
abbrev pub under_way : ℕ → Option ℕ → ℕ → Bool → Bool → List ℕ → List ℕ → Cell
under_way id last stamp loopback toggle came part = record {
  slot = record { expected = record { 0 = id }; last_time = last; session = Some (session_of (length part) stamp loopback toggle came) };
  part = laid came part;
}

-- a slot that a first frame with this ID can open a session in: none is open, or another ID is expected
abbrev pub Free : ℕ → Slot → Type 0
Free id slot = id ≡ slot.expected.0 → slot.session ≡ None

-- so it is where the frame meets no open session
pub meets_none : (slot : Slot) (id : ℕ) → ((s : TheSession) → MeetsSession slot id s → ⊥) → Free id slot
meets_none slot id none q = go slot.session refl
  where
    go : (o : Option TheSession) → slot.session ≡ o → o ≡ None
    go None e = refl
    go (Some s) e = absurd (none s (record { expected = omega (arith, q); running = e }))

beq_self : (b : Bool) → beq b b ≡ true
beq_self true = refl
beq_self false = refl

beq_not : (b : Bool) → beq (not b) b ≡ false
beq_not true = refl
beq_not false = refl

pub and_false : (b : Bool) → (b && false) ≡ false
and_false true = refl
and_false false = refl

module _ (timeout : ℕ) (c : Cell) (a : Arrival) (bytes : List ℕ) where
  -- A REPEAT CHANGES NOTHING, and is answered nothing
  pub repeat_passes : IsRepeat timeout c.slot a.tail.transfer_id.0 a.stamp → turn timeout c a bytes ≡ record { answer = nothing; cell = c }
  unfolding turn
  repeat_passes r = ap (λ (x : Option Slot). by_id_rule x c a bytes) (repeat_admitted timeout c.slot a.tail.transfer_id.0 a.stamp r)

-- a free slot that is no repeat's goes on without a session, and expects the frame's ID
pub free_admitted : (timeout : ℕ) (slot : Slot) (id stamp : ℕ) → (IsRepeat timeout slot id stamp → ⊥) → Free id slot
    → admitted timeout slot (record { 0 = id }) stamp ≡ Some (restarted slot (record { 0 = id }))
free_admitted timeout slot id stamp new free =
    id_rule timeout slot id stamp (λ x. x ≡ Some (restarted slot (record { 0 = id }))) (λ r. absurd (new r)) (λ _ q. rw (q, free q) refl) (λ _ q. refl)

module _ (timeout : ℕ) (c : Cell) (h : Header) (stamp : ℕ) (loopback : Bool) (id : ℕ) (bytes : List ℕ) where
  -- THE FIRST OF SEVERAL FRAMES OPENS a session under its stamp, in which its bytes are what came; the second toggle is awaited
  pub first_opens : (IsRepeat timeout c.slot id stamp → ⊥) → Free id c.slot
      → turn timeout c (arrival h stamp loopback id true false true) bytes
      ≡ record { answer = nothing; cell = under_way id c.slot.last_time stamp loopback false bytes c.part }
  unfolding turn goes_on in_session continued
  first_opens new free =
      rw (
        free_admitted timeout c.slot id stamp new free,
        beq_self loopback,
        stored_first bytes c.part,
        joined_first (length c.part) (arrival h stamp loopback id true false true) bytes,
      )
      refl

  -- A SINGLE FRAME DELIVERS, whatever its toggle and whatever session was open
  pub single_delivers : (toggle : Bool) → (IsRepeat timeout c.slot id stamp → ⊥)
      → turn timeout c (arrival h stamp loopback id true true toggle) bytes
      ≡ leaves (delivered_at (arrival h stamp loopback id true true toggle) stamp loopback (OfFrame (min (length c.part) (length bytes))))
      (delivered id stamp) c.part
  unfolding turn goes_on
  single_delivers toggle new =
      let a : Arrival = arrival h stamp loopback id true true toggle in
      let answer : Answer = delivered_at a stamp loopback (OfFrame (min (length c.part) (length bytes))) in
      id_rule timeout c.slot id stamp (λ x. by_id_rule x c a bytes ≡ leaves answer (delivered id stamp) c.part) (λ r. absurd (new r)) (λ _ q. rw q refl) (λ _ q. refl)

-- ---- a transfer under way

-- a slot goes on where a frame has the ID that it expects
expected_admitted : (timeout : ℕ) (slot : Slot) (stamp : ℕ) → admitted timeout slot slot.expected stamp ≡ Some slot
unfolding admitted
expected_admitted timeout slot stamp = rw (eq-eqb slot.expected.0 slot.expected.0 refl) refl

-- a frame that the session does not await changes nothing, if it is not a whole transfer
pub unawaited_passes : (timeout : ℕ) (c : Cell) (s : TheSession) (a : Arrival) (bytes : List ℕ) → c.slot.session ≡ Some s
    → a.tail.transfer_id ≡ c.slot.expected → (a.tail.start && a.tail.end) ≡ false → awaits s a ≡ false
    → turn timeout c a bytes ≡ record { answer = nothing; cell = c }
unfolding turn goes_on in_session
unawaited_passes timeout c s a bytes running same several other =
    rw (same, expected_admitted timeout c.slot a.stamp, several, running, other) (rw (← running) refl)

module _ (timeout : ℕ) (h : Header) (now : ℕ) (id : ℕ) (last : Option ℕ) (stamp : ℕ) (loopback toggle : Bool) (came part : List ℕ) where
  abbrev c : Cell
  c = under_way id last stamp loopback toggle came part

  -- a frame that the session awaits: its bytes come behind those that came, and the other toggle is awaited
  awaited_joins : (end : Bool) (bytes : List ℕ)
      → turn timeout c (arrival h now loopback id false end toggle) bytes
      ≡ continued c.slot (laid (came ++ bytes) part) (arrival h now loopback id false end toggle) (session_of (length part) stamp loopback (not toggle) (came ++ bytes))
  unfolding turn goes_on in_session
  awaited_joins end bytes =
      rw (
        expected_admitted timeout c.slot now,
        beq_self loopback,
        beq_self toggle,
        length_laid came part,
        stored_came came bytes part,
        joined_came (length part) stamp loopback toggle came bytes,
      )
      refl

  -- A MIDDLE FRAME JOINS, and the session goes on
  pub middle_joins : (bytes : List ℕ)
      → turn timeout c (arrival h now loopback id false false toggle) bytes
      ≡ record { answer = nothing; cell = under_way id last stamp loopback (not toggle) (came ++ bytes) part }
  unfolding continued
  middle_joins bytes = awaited_joins false bytes

  -- THE LAST FRAME DELIVERS where the residue is 0: all bytes but the CRC's two, cut to the extent, under the stamp of the first frame
  pub last_delivers : (bytes : List ℕ) → crc (came ++ bytes) ≡ 0 → 2 ≤ length (came ++ bytes)
      → turn timeout c (arrival h now loopback id false true toggle) bytes
      ≡ leaves (delivered_at (arrival h now loopback id false true toggle) stamp loopback (OfStore 0 (min (length part) (length (came ++ bytes) - 2))))
      (delivered id stamp) (laid (came ++ bytes) part)
  unfolding continued ended
  last_delivers bytes residue two =
      let total : ℕ = min (length part + 2) (length (came ++ bytes)) in
      let enough : 2 ≤ total = omega arith in
      let len : min (length part) (total - 2) ≡ min (length part) (length (came ++ bytes) - 2) = omega arith in
      awaited_joins true bytes ∙ rw (residue, le-leb 2 total enough, length_laid (came ++ bytes) part, len) refl

  abbrev awaiting : TheSession
  awaiting = session_of (length part) stamp loopback toggle came

  -- A FRAME THAT THE SESSION DOES NOT AWAIT CHANGES NOTHING: one with the other loopback flag ..
  pub other_loopback : (flag start end this : Bool) (bytes : List ℕ) → loopback ≡ not flag → (start && end) ≡ false
      → turn timeout c (arrival h now flag id start end this) bytes ≡ record { answer = nothing; cell = c }
  other_loopback flag start end this bytes e several =
      unawaited_passes timeout c awaiting (arrival h now flag id start end this) bytes refl refl several (rw (e, beq_not flag) refl)

  -- .. one that starts a second time ..
  pub second_start : (flag this : Bool) (bytes : List ℕ) → turn timeout c (arrival h now flag id true false this) bytes ≡ record { answer = nothing; cell = c }
  second_start flag this bytes =
      unawaited_passes timeout c awaiting (arrival h now flag id true false this) bytes refl refl refl (rw (and_false (beq loopback flag)) refl)

  -- .. and one with the other toggle
  pub other_toggle : (flag start end this : Bool) (bytes : List ℕ) → toggle ≡ not this → (start && end) ≡ false
      → turn timeout c (arrival h now flag id start end this) bytes ≡ record { answer = nothing; cell = c }
  other_toggle flag start end this bytes e several =
      unawaited_passes timeout c awaiting (arrival h now flag id start end this) bytes refl refl several
      (rw (e, beq_not this, and_false (beq loopback flag && beq false start)) refl)

-- ---- without a session

-- A FRAME WITHOUT A START THAT FINDS NO SESSION is refused by 5, and leaves none
pub stray_refused : (timeout : ℕ) (c : Cell) (h : Header) (stamp : ℕ) (loopback : Bool) (id : ℕ) (end toggle : Bool) (bytes : List ℕ)
    → (IsRepeat timeout c.slot id stamp → ⊥) → Free id c.slot
    → turn timeout c (arrival h stamp loopback id false end toggle) bytes ≡ leaves (refused_by NoSession) (restarted c.slot (record { 0 = id })) c.part
unfolding turn goes_on
stray_refused timeout c h stamp loopback id end toggle bytes new free = rw (free_admitted timeout c.slot id stamp new free) refl
