-- What a frame of one source does to its cell, whatever cell, frame and bytes these are. Each law goes through the ways in which a frame can go on.
use Rattle.std.specs.Prelude.{None, Option, Some}
use Rattle.std.proofs.Common.{◌≡◌, ℕ, ◌+◌, ◌-◌, ◌*◌, ◌<◌, ◌≤◌, min, Bool, true, false, cond, not, ◌&&◌, eqb, List, ◌++◌, length, drop, refl, ap, ◌∙◌, true≢false, arith, length-append, le-leb}
use lib.Seq.{take-append-le}
use Rattle.laws.proofs.Choose.{either_way}
use Rattle.rules.specs.declared.refusal.Refusal.TheVariants.{NoSession, Residue}
use Rattle.rules.specs.declared.types.CanTransferId.{CanTransferId}
use Rattle.rules.specs.declared.receive.Arrival.{Arrival}
use Rattle.rules.specs.declared.receive.Part.TheVariants.{OfStore}
use Rattle.rules.specs.declared.receive.Delivery.{Delivery}
use Rattle.rules.specs.declared.slots.Session.{Session}
use Rattle.rules.specs.declared.slots.Slot.{Slot}
use Rattle.rules.specs.Limits.{transfer_ids, incremented}
use Rattle.rules.specs.Slot.{timed_out, with_session, restarted, settled, admitted}
use Rattle.rules.specs.Session.{opened, session_for, awaits, joined, stored, complete}
use Rattle.rules.specs.Answers.{delivers, nothing, refused_by, leading, shown, answer_from}
use Rattle.rules.specs.Source.{Cell, Turn, leaves, delivered_at, single, ended, continued, in_session, to_session, goes_on, by_id_rule, turn}
use Rattle.rules.specs.Receiver.{with_part}
use Rattle.rules.proofs.Session.{length_stored}
use Rattle.rules.proofs.Store.{put_from}

-- ---- the ways in which a frame goes on

module _ (P : Turn → Type 0) (slot : Slot) (a : Arrival) where
  -- what holds of a session that stays, of its delivery and of refusal 6 holds of a frame that joined it
  continued_either : (part : List ℕ) (s : Session) → P (leaves nothing (with_session slot (Some s)) part)
      → P (leaves (delivered_at a s.stamp s.loopback (OfStore 0 (min (length part) (s.total - 2)))) (settled slot s.stamp) part)
      → P (leaves (refused_by Residue) (with_session slot None) part)
      → P (continued slot part a s)
  unfolding continued ended
  continued_either part s stays delivered refused = either_way P a.tail.end (either_way P (complete s) delivered refused) stays

  module _ (part bytes : List ℕ) where
    -- the same of a frame that comes to a session, which may not await it
    to_session_either : (o : Option Session) → P (leaves (refused_by NoSession) slot part)
        → ((s : Session) → P (leaves nothing (with_session slot (Some s)) part))
        → ((total : ℕ) (s : Session) → P (continued slot (stored total bytes part) a s))
        → P (to_session o slot part a bytes)
    unfolding in_session
    to_session_either None none stays joins = none
    to_session_either (Some s) none stays joins = either_way P (awaits s a) (joins s.total (joined (length part) s bytes)) (stays s)

    -- and of any frame that the ID rule let through
    goes_on_either : P (single slot part a bytes)
        → P (leaves (refused_by NoSession) slot part)
        → ((s : Session) → P (leaves nothing (with_session slot (Some s)) part))
        → ((total : ℕ) (s : Session) → P (continued slot (stored total bytes part) a s))
        → P (goes_on slot part a bytes)
    unfolding goes_on
    goes_on_either one none stays joins = either_way P (a.tail.start && a.tail.end) one (to_session_either (session_for slot.session a) none stays joins)

-- what holds of an unchanged cell, of a slot that goes on as it is and of one that is reset holds of any turn
turn_either : (P : Turn → Type 0) (timeout : ℕ) (c : Cell) (a : Arrival) (bytes : List ℕ) → P (record { answer = nothing; cell = c })
    → P (goes_on c.slot c.part a bytes)
    → P (goes_on (restarted c.slot a.tail.transfer_id) c.part a bytes)
    → P (turn timeout c a bytes)
unfolding turn admitted
turn_either P timeout c a bytes repeat on reset =
    let Q : Option Slot → Type 0 = λ r. P (by_id_rule r c a bytes) in
    let id : CanTransferId = a.tail.transfer_id in
    either_way Q (eqb id.0 c.slot.expected.0) on
    (either_way Q (eqb (incremented id).0 c.slot.expected.0) (either_way Q (timed_out timeout c.slot.last_time a.stamp) reset repeat) reset)

-- ---- a part keeps its length

-- a frame that goes on leaves the part as long as it was
pub goes_on_length : (slot : Slot) (part : List ℕ) (a : Arrival) (bytes : List ℕ) → length (goes_on slot part a bytes).cell.part ≡ length part
goes_on_length slot part a bytes =
    let P : Turn → Type 0 = λ t. length t.cell.part ≡ length part in
    goes_on_either P slot a part bytes refl refl (λ s. refl)
    (λ total s.
    let l = length_stored total bytes part in
    continued_either P slot a (stored total bytes part) s l l l)

-- any frame of the source leaves its part as long as it was
pub part_length : (timeout : ℕ) (c : Cell) (a : Arrival) (bytes : List ℕ) → length (turn timeout c a bytes).cell.part ≡ length c.part
part_length timeout c a bytes =
    turn_either (λ t. length t.cell.part ≡ length c.part) timeout c a bytes refl (goes_on_length c.slot c.part a bytes)
    (goes_on_length (restarted c.slot a.tail.transfer_id) c.part a bytes)

-- ---- the expected transfer ID

goes_on_below : (slot : Slot) (part : List ℕ) (a : Arrival) (bytes : List ℕ) → slot.expected.0 < transfer_ids
    → (goes_on slot part a bytes).cell.slot.expected.0 < transfer_ids
goes_on_below slot part a bytes h =
    let P : Turn → Type 0 = λ t. t.cell.slot.expected.0 < transfer_ids in
    let next : (incremented slot.expected).0 < transfer_ids = omega arith in
    goes_on_either P slot a part bytes next h (λ s. h) (λ total s. continued_either P slot a (stored total bytes part) s h next h)

-- the ID that a source expects stays one of the 32
pub expected_below : (timeout : ℕ) (c : Cell) (a : Arrival) (bytes : List ℕ) → a.tail.transfer_id.0 < transfer_ids → c.slot.expected.0 < transfer_ids
    → (turn timeout c a bytes).cell.slot.expected.0 < transfer_ids
expected_below timeout c a bytes i h =
    turn_either (λ t. t.cell.slot.expected.0 < transfer_ids) timeout c a bytes h (goes_on_below c.slot c.part a bytes h)
    (goes_on_below (restarted c.slot a.tail.transfer_id) c.part a bytes i)

-- ---- without a session

module _ (d : Delivery) where
  -- no session, if this is a delivery
  abbrev ClosedIfDelivered : Turn → Type 0
  ClosedIfDelivered t = t.answer ≡ delivers d → t.cell.slot.session ≡ None

  not_delivered : {A : Type 0} → nothing ≡ delivers d → A
  not_delivered e = let z : ◌≡◌ {A = ℕ} 0 1 = cc in absurd (omega arith)

  goes_on_closed : (slot : Slot) (part : List ℕ) (a : Arrival) (bytes : List ℕ) → ClosedIfDelivered (goes_on slot part a bytes)
  goes_on_closed slot part a bytes =
      goes_on_either ClosedIfDelivered slot a part bytes (λ e. refl) (λ e. let z : ◌≡◌ {A = ℕ} 0 1 = cc in absurd (omega arith)) (λ s. not_delivered)
      (λ total s. continued_either ClosedIfDelivered slot a (stored total bytes part) s not_delivered (λ e. refl) (λ e. refl))

  -- a delivery leaves no session
  pub delivery_closes : (timeout : ℕ) (c : Cell) (a : Arrival) (bytes : List ℕ) → (turn timeout c a bytes).answer ≡ delivers d
      → (turn timeout c a bytes).cell.slot.session ≡ None
  delivery_closes timeout c a bytes =
      turn_either ClosedIfDelivered timeout c a bytes not_delivered (goes_on_closed c.slot c.part a bytes)
      (goes_on_closed (restarted c.slot a.tail.transfer_id) c.part a bytes)

-- the part as it was, and no session
abbrev Stays : List ℕ → Turn → Type 0
Stays part t = (t.cell.part ≡ part) × (t.cell.slot.session ≡ None)

goes_on_stays : (slot : Slot) (part : List ℕ) (a : Arrival) (bytes : List ℕ) → slot.session ≡ None → (a.tail.start && not a.tail.end) ≡ false
    → Stays part (goes_on slot part a bytes)
unfolding goes_on
goes_on_stays slot part a bytes h = go a.tail.start a.tail.end (session_for slot.session a) (ap (λ (o : Option Session). session_for o a) h)
  where
    go : (start end : Bool) (o : Option Session) → o ≡ cond start (Some (opened a)) None → (start && not end) ≡ false
        → Stays part (cond (start && end) (single slot part a bytes) (to_session o slot part a bytes))
    go true true o q e = (refl, refl)
    go true false o q e = absurd (true≢false e)
    go false end None q e = (refl, h)
    go false end (Some s) q e = let z : ◌≡◌ {A = ℕ} 0 1 = cc in absurd (omega arith)

-- and without one, a frame that opens none leaves the part as it was, and no session: so a delivery's bytes stay until the source's next session
pub part_stays : (timeout : ℕ) (c : Cell) (a : Arrival) (bytes : List ℕ) → c.slot.session ≡ None → (a.tail.start && not a.tail.end) ≡ false
    → ((turn timeout c a bytes).cell.part ≡ c.part) × ((turn timeout c a bytes).cell.slot.session ≡ None)
part_stays timeout c a bytes h e =
    turn_either (Stays c.part) timeout c a bytes (refl, h) (goes_on_stays c.slot c.part a bytes h e)
    (goes_on_stays (restarted c.slot a.tail.transfer_id) c.part a bytes refl e)

-- ---- what an answer shows

-- the leading bytes of a part, found at its place in the store
store_shown : (e n len : ℕ) (store part : List ℕ) → n * e + e ≤ length store → length part ≡ e → len ≤ length part
    → leading len (drop (n * e) (with_part e n store part)) ≡ leading len part
store_shown e n len store part room size h =
    let rest : List ℕ = drop (n * e + e) store in
    let k : len ≤ length (part ++ rest) = simp length-append (omega arith) in
    rw (put_from e n store part room size, le-leb len (length (part ++ rest)) k, le-leb len (length part) h) (take-append-le len part rest h)

module _ (e n : ℕ) (frame store : List ℕ) (room : n * e + e ≤ length store) where
  -- a turn's answer shows of the part what the moved answer shows of the whole store, in which the part lies at place n
  abbrev pub ShownAlike : Turn → Type 0
  ShownAlike t = shown (answer_from (n * e) t.answer) frame (with_part e n store t.cell.part) ≡ shown t.answer frame t.cell.part

  goes_on_shown : (slot : Slot) (part : List ℕ) (a : Arrival) (bytes : List ℕ) → length part ≡ e → ShownAlike (goes_on slot part a bytes)
  goes_on_shown slot part a bytes size =
      goes_on_either ShownAlike slot a part bytes refl refl (λ s. refl)
      (λ total s.
      let filled : List ℕ = stored total bytes part in
      let len : ℕ = min (length filled) (s.total - 2) in
      let h : len ≤ length filled = omega arith in
      continued_either ShownAlike slot a filled s refl (store_shown e n len store filled room (length_stored total bytes part ∙ size) h) refl)

  -- so it is of every turn
  pub shown_in_part : (timeout : ℕ) (c : Cell) (a : Arrival) (bytes : List ℕ) → length c.part ≡ e → ShownAlike (turn timeout c a bytes)
  shown_in_part timeout c a bytes size =
      turn_either ShownAlike timeout c a bytes refl (goes_on_shown c.slot c.part a bytes size)
      (goes_on_shown (restarted c.slot a.tail.transfer_id) c.part a bytes size)
