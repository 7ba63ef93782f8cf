-- The words, viewed as slots, step as the book's 128 slots do: what a frame leaves of a slot that was read from words fits words again. A frame writes in its
-- source's words alone.
use Rattle.std.specs.Prelude.{Err, None, Ok, Option, Result, Some}
use Rattle.rules.specs.declared.refusal.Refusal.{Refusal}
use Rattle.rx.specs.declared.subscription.Subscription.{Subscription}
use Rattle.std.proofs.Common.{◌≡◌, ℕ, ◌%◌, ◌^◌, ◌<◌, ◌&&◌, eqb, ◌≢◌, List, [], map, length, get_or, set, replicate, sym, refl, ap, ◌∙◌, subst, arith, lit<, length-set, get_or-set_other}
use lib.Seq.{set-get_or}
use Rattle.std.proofs.Math.ListN.{get_or-map}
use Rattle.std.proofs.lemmas.List.{map-set}
use Rattle.laws.proofs.Choose.{either_way}
use Rattle.rules.specs.declared.subscription.Settings.{Settings}
use Rattle.rules.specs.declared.types.CanTransferId.{CanTransferId}
use Rattle.rules.specs.declared.receive.Arrival.{Arrival}
use Rattle.rules.specs.declared.receive.Received.{Received}
use Rattle.rules.specs.declared.slots.Session.{Session}
use Rattle.rules.specs.declared.slots.Slot.{Slot}
use Rattle.rules.specs.Limits.{transfer_ids, nodes, incremented}
use Rattle.rules.specs.Crc.{crc_start}
use Rattle.rules.specs.Frames.{Frame}
use Rattle.rules.specs.Slot.{fresh_slot, timed_out, admitted}
use Rattle.rules.specs.Session.{session_for, awaits, joined, stored, complete}
use Rattle.rules.specs.Answers.{Answer, answer_of}
use Rattle.rules.specs.Source.{Turn, continued, ended, in_session, to_session, goes_on, by_id_rule, turn}
use Rattle.rules.specs.Receiver.{before_tail, Receiver, Outcome, part_of, cell_at, at_source, fresh_slots, received}
use Rattle.rules.proofs.Crc.{from_lt}
use Rattle.rules.proofs.Answers.{one_answer}
use Rattle.rules.proofs.Store.{put_own}
use Rattle.rules.proofs.Receiver.{source_known, id_below, judged_either, judged_map}
use Rattle.slots.specs.Words.{words_of, slot_of}
use Rattle.rx.specs.Accept.{settings_made, words_made, Closing, closes, ruled, in_words, accepted, viewed, viewed_after}
use Rattle.slots.proofs.Words.{OpenFits, SlotFits, words_read, slot_fits, fresh_words}

-- ---- what a frame leaves fits

-- the slot that a turn leaves fits
abbrev Leaves : Turn → Type 0
Leaves t = SlotFits t.cell.slot

module _ (slot : Slot) (a : Arrival) (h : slot.expected.0 < 256) where
  next_fits : (incremented slot.expected).0 < 256
  next_fits = omega arith

  continued_fits : (part : List ℕ) (s : Session) → s.crc < 2 ^ 16 → Leaves (continued slot part a s)
  unfolding continued ended
  continued_fits part s k = either_way Leaves a.tail.end (either_way Leaves (complete s) (next_fits, tt) (h, tt)) (h, k)

  to_session_fits : (part bytes : List ℕ) (o : Option Session) → OpenFits o → OpenFits slot.session → Leaves (to_session o slot part a bytes)
  unfolding in_session joined
  to_session_fits part bytes None k l = (h, l)
  to_session_fits part bytes (Some s) k l =
      either_way Leaves (awaits s a)
      (continued_fits (stored s.total bytes part) (joined (length part) s bytes) (from_lt bytes s.crc k)) (h, k)

session_for_fits : (a : Arrival) (o : Option Session) → OpenFits o → OpenFits (session_for o a)
session_for_fits a None k = let c : crc_start < 2 ^ 16 = lit< tt in either_way OpenFits a.tail.start c tt
session_for_fits a (Some s) k = k

-- a frame that goes on leaves a slot that fits, if the slot did
pub fits_kept : (slot : Slot) (part : List ℕ) (a : Arrival) (bytes : List ℕ) → SlotFits slot → SlotFits (goes_on slot part a bytes).cell.slot
unfolding goes_on
fits_kept slot part a bytes (h, k) =
    either_way Leaves (a.tail.start && a.tail.end) (next_fits slot a h, tt)
    (to_session_fits slot a h part bytes (session_for slot.session a) (session_for_fits a slot.session k) k)

-- the slot that goes on, if one does, fits
abbrev pub AdmittedFits : Option Slot → Type 0
AdmittedFits None = Unit {0}
AdmittedFits (Some slot) = SlotFits slot

-- so does the slot that the ID rule lets go on, where the frame's ID is one of the 32
pub admitted_fits : (timeout : ℕ) (slot : Slot) (id : CanTransferId) (stamp : ℕ) → SlotFits slot → id.0 < transfer_ids
    → AdmittedFits (admitted timeout slot id stamp)
unfolding admitted
admitted_fits timeout slot id stamp h k =
    let r : id.0 < 256 = omega arith in
    either_way AdmittedFits (eqb id.0 slot.expected.0) h
    (either_way AdmittedFits (eqb (incremented id).0 slot.expected.0)
    (either_way AdmittedFits (timed_out timeout slot.last_time stamp) (r, tt) tt) (r, tt))

-- ---- the words step as the book's slots

module _ (words : List (List ℕ)) (store : List ℕ) where
  -- the slot of source n is the one that its words are read as
  pub slot_viewed : (n : ℕ) → get_or (map slot_of words) n fresh_slot ≡ slot_of (get_or words n [])
  slot_viewed n = ap (get_or (map slot_of words) n) (sym fresh_words.1) ∙ get_or-map slot_of words n []

  ruled_tied : (r : Option Slot) → AdmittedFits r → (e n : ℕ) (a : Arrival) (bytes : List ℕ)
      → viewed_after (ruled r e words store n a bytes) ≡ at_source e (viewed words store) n (by_id_rule r (cell_at e (viewed words store) n) a bytes)
  unfolding at_source cell_at
  ruled_tied None h e n a bytes = rw (set-get_or (map slot_of words) n fresh_slot, put_own e n store) refl
  ruled_tied (Some slot) h e n a bytes =
      let t : Turn = goes_on slot (part_of e n store) a bytes in
      rw (map-set slot_of words n (words_of t.cell.slot), words_read t.cell.slot (fits_kept slot (part_of e n store) a bytes h)) refl

  in_words_tied : (s : Settings) (n : ℕ) (a : Arrival) (bytes : List ℕ) → a.tail.transfer_id.0 < transfer_ids
      → viewed_after (in_words s words store n a bytes)
      ≡ at_source s.extent (viewed words store) n (turn s.timeout (cell_at s.extent (viewed words store) n) a bytes)
  unfolding in_words turn cell_at
  in_words_tied s n a bytes h =
      let w : Receiver = viewed words store in
      let rule : Slot → Option Slot = λ x. admitted s.timeout x a.tail.transfer_id a.stamp in
      let slot : Slot = slot_of (get_or words n []) in
      ruled_tied (rule slot) (admitted_fits s.timeout slot a.tail.transfer_id a.stamp (slot_fits (get_or words n [])) h) s.extent n a bytes
      ∙ ap (λ (x : Slot). at_source s.extent w n (by_id_rule (rule x) (cell_at s.extent w n) a bytes)) (sym (slot_viewed n))

module _ (s : Settings) (words : List (List ℕ)) (store : List ℕ) (f : Frame) where
  -- THE TIE: viewed as slots, the words after a frame are what the book has after it
  pub tied : viewed_after (accepted s words store f) ≡ received s (viewed words store) f
  unfolding accepted received
  tied =
      let w : Receiver = viewed words store in
      let same : Answer → Closing × Outcome = λ answer. (closes answer words store, record { answer = answer; receiver = w }) in
      let slot : ℕ → Arrival → List ℕ → Closing × Outcome =
      λ n a bytes. (in_words s words store n a bytes, at_source s.extent w n (turn s.timeout (cell_at s.extent w n) a bytes)) in
      ap viewed_after (sym (judged_map s (length store) f same slot (λ c. c.0)))
      ∙ judged_either s (length store) f same slot (λ c. viewed_after c.0 ≡ c.1) (λ answer. refl)
      (λ n a h k e q. in_words_tied words store s n a (before_tail f.bytes) (id_below s.port f a e))
      ∙ judged_map s (length store) f same slot (λ c. c.1)

  -- what holds of the words as they were, and with any for the frame's source, holds of the words after the frame
  accepted_either : (P : List (List ℕ) → Type 0) → P words → ((w : List ℕ) → P (set words (f.id % nodes) w)) → P (accepted s words store f).words
  unfolding accepted in_words
  accepted_either P kept written =
      judged_either s (length store) f (λ answer. closes answer words store) (in_words s words store) (λ c. P c.words) (λ answer. kept)
      (λ n a h k e q.
      let own : f.id % nodes ≡ n = sym (source_known s.port f a (record { 0 = n }) e q).1 in
      go n a (before_tail f.bytes) (λ w. subst (λ (i : ℕ). P (set words i w)) own (written w))
      (admitted s.timeout (slot_of (get_or words n [])) a.tail.transfer_id a.stamp))
    where
      go : (n : ℕ) (a : Arrival) (bytes : List ℕ) → ((w : List ℕ) → P (set words n w)) → (r : Option Slot)
          → P (ruled r s.extent words store n a bytes).words
      go n a bytes there None = kept
      go n a bytes there (Some slot) = there _

  -- the words are as many as before
  pub words_length : length (accepted s words store f).words ≡ length words
  words_length = accepted_either (λ w. length w ≡ length words) refl (length-set words (f.id % nodes))

  -- no other slot's words are touched
  pub other_words : (m : ℕ) → m ≢ f.id % nodes → get_or (accepted s words store f).words m [] ≡ get_or words m []
  other_words m ne = accepted_either (λ w. get_or w m [] ≡ get_or words m []) refl (λ w. get_or-set_other words (f.id % nodes) m w [] ne)

-- ---- making

-- making writes 128 fresh slots
pub made_fresh : (s : Settings) (words : List (List ℕ)) (store : List ℕ) → (viewed (words_made (Ok s) words) store).slots ≡ fresh_slots
made_fresh s words store = ap (replicate nodes) fresh_words.0

-- ---- the promise

-- an answer, words and a store are those of one outcome alone: what is promised through them admits no second
pub no_second_closing : (q r : Result Received Refusal) (w v : List (List ℕ)) (st u : List ℕ) → closes (answer_of q) w st ≡ closes (answer_of r) v u
    → (q ≡ r) × (w ≡ v) × (st ≡ u)
no_second_closing q r w v st u e =
    (one_answer q r (ap (λ (c : Closing). c.answer) e), ap (λ (c : Closing). c.words) e, ap (λ (c : Closing). c.store) e)

-- so does the promise of making
pub no_second_making : (a b : Result Subscription Refusal) → settings_made a ≡ settings_made b → a ≡ b
no_second_making a b e = sym (back_of a) ∙ ap back e ∙ back_of b
  where
    back : Result Settings Refusal → Result Subscription Refusal
    back (Ok s) = Ok (record { settings = s })
    back (Err r) = Err r

    back_of : (a : Result Subscription Refusal) → back (settings_made a) ≡ a
    back_of (Ok s) = refl
    back_of (Err r) = refl
