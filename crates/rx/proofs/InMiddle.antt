-- The short way of a frame in the middle of a transfer: what the rules do with the frame is what the short way does.
use Rattle.std.specs.Prelude.{Err, None, Ok, Option, Result, Some}
use Rattle.rules.specs.declared.types.CanNodeId.{CanNodeId}
use Rattle.rules.specs.declared.refusal.Refusal.{Refusal}
use Rattle.std.proofs.Common.{◌≡◌, ℕ, ◌+◌, ◌-◌, ◌*◌, ◌%◌, ◌<◌, ◌≤◌, min, Bool, true, false, cond, not, eqb, leb, List, [], length, get_or, take, drop, set, sym, refl, ap, ◌∙◌, arith, ne_eqb, le-leb, leb-true}
use mathlib.Core.Bool.{beq, false≢true}
use borrow.Rule.Slice.PartMut.{put_mid}
use Rattle.laws.proofs.Choose.{both_true}
use Rattle.rules.specs.declared.types.CanTransferId.{CanTransferId}
use Rattle.rules.specs.declared.header.Header.{Header}
use Rattle.rules.specs.declared.subscription.Settings.{Settings}
use Rattle.rules.specs.declared.receive.Arrival.{Arrival}
use Rattle.rules.specs.declared.slots.Session.{Session as TheSession}
use Rattle.rules.specs.declared.slots.Slot.{Slot}
use Rattle.rules.specs.Limits.{nodes, greatest_frame}
use Rattle.rules.specs.CanId.{parsed_can_id}
use Rattle.rules.specs.Crc.{crc_from}
use Rattle.rules.specs.Frames.{Frame}
use Rattle.rules.specs.Slot.{with_session, admitted}
use Rattle.rules.specs.Sending.{unnamed}
use Rattle.rules.specs.Session.{awaits, joined, stored}
use Rattle.rules.specs.Answers.{Answer, nothing}
use Rattle.rules.specs.Source.{leaves, continued, in_session, goes_on}
use Rattle.rules.specs.Receiver.{wants, before_tail, arrival_of, addressed, reading, source_in, by_source, part_of, with_part}
use Rattle.rules.proofs.Receiver.{source_read}
use Rattle.wire.specs.Addressed.{comes_to}
use Rattle.slots.specs.declared.Progress.{Progress}
use Rattle.slots.specs.Words.{words_of, slot_of}
use Rattle.slots.specs.Middle.{session_awaits, slot_awaits, progress_in, session_on, words_on}
use Rattle.slots.proofs.Middle.{awaited, progress_of, words_with}
use Rattle.rx.specs.Accept.{Closing, closes, saved, ruled, in_words, accepted}
use Rattle.rx.proofs.Judging.{read_as}
use Rattle.rx.proofs.Parts.{lent_out, lent_back}

-- ---- bytes in a part

-- where a source's part took them, it reaches over them
pub in_part : (bytes store : List ℕ) (e n at total : ℕ) (r : Bool) → at ≡ n * e → r ≡ true
    → r ≡ leb (total + length bytes) (length (take (at + e - at) (drop at store)))
    → total + length bytes ≤ length (part_of e n store)
in_part bytes store e n at total r place took room =
    let l = leb-true (total + length bytes) (length (take (at + e - at) (drop at store))) (sym room ∙ took) in
    rw (lent_out e n store at place) at l

-- ---- a session in the middle of its transfer

-- a frame with the expected ID goes on
on_expected : (timeout stamp : ℕ) (slot : Slot) (id : CanTransferId) → eqb id.0 slot.expected.0 ≡ true → admitted timeout slot id stamp ≡ Some slot
unfolding admitted
on_expected timeout stamp slot id e = rw e

-- the session so far is the one that the frame's bytes joined
so_far : (extent : ℕ) (bytes : List ℕ) (x : TheSession) (p : Progress) → p.crc ≡ crc_from x.crc bytes → p.total ≡ min (extent + 2) (x.total + length bytes)
    → joined extent x bytes ≡ session_on x p
unfolding joined
so_far extent bytes x p f k = rw (f, k)

module _ (a : Arrival) (bytes : List ℕ) (start : a.tail.start ≡ false) (end : a.tail.end ≡ false) where
  no_start : (x : TheSession) → session_awaits (Some x) a.loopback a.tail.toggle ≡ true → awaits x a ≡ true
  no_start x e = rw (start, unset x.expect_start) e
    where
      unset : (b : Bool) → beq b false ≡ not b
      unset true = refl
      unset false = refl

  -- the frame joins, and there is nothing to answer yet
  goes_middle : (slot : Slot) (x : TheSession) (part : List ℕ) → slot.session ≡ Some x → awaits x a ≡ true
      → goes_on slot part a bytes ≡ leaves nothing (with_session slot (Some (joined (length part) x bytes))) (stored x.total bytes part)
  unfolding goes_on in_session continued
  goes_middle slot x part e w = rw (e, w, start, end)

  -- its source's words and its part are left one frame further
  pub in_middle : (s : Settings) (words : List (List ℕ)) (store : List ℕ) (n : ℕ) (p : Progress)
      → slot_awaits (slot_of (get_or words n [])) a.tail a.loopback ≡ true
      → p.crc ≡ crc_from (progress_in (get_or words n [])).crc bytes
      → p.total ≡ min (length (part_of s.extent n store) + 2) ((progress_in (get_or words n [])).total + length bytes)
      → in_words s words store n a bytes
      ≡ closes nothing (set words n (words_on (get_or words n []) p))
      (with_part s.extent n store (stored (progress_in (get_or words n [])).total bytes (part_of s.extent n store)))
  unfolding in_words
  in_middle s words store n p aw hc ht =
      let w : List ℕ = get_or words n [] in
      let part : List ℕ = part_of s.extent n store in
      let q = awaited (slot_of w) a.tail a.loopback aw in
      let x : TheSession = q.0 in
      let g = progress_of w x q.1 in
      let same =
      so_far (length part) bytes x p (hc ∙ ap (λ (y : Progress). crc_from y.crc bytes) g)
      (ht ∙ ap (λ (y : Progress). min (length part + 2) (y.total + length bytes)) g) in
      ap (λ (r : Option Slot). ruled r s.extent words store n a bytes)
      (on_expected s.timeout a.stamp (slot_of w) a.tail.transfer_id q.2)
      ∙ ap (saved s.extent words store n) (goes_middle (slot_of w) x part q.1 (no_start x q.3))
      ∙ ap (λ (y : TheSession). closes nothing (set words n (words_of (with_session (slot_of w) (Some y)))) (with_part s.extent n store (stored x.total bytes part))) same
      ∙ ap (λ (v : List ℕ). closes nothing (set words n v) (with_part s.extent n store (stored x.total bytes part))) (sym (words_with w p x q.1))
      ∙ ap (λ (y : Progress). closes nothing (set words n (words_on w p)) (with_part s.extent n store (stored y.total bytes part))) (sym g)

  -- the short way leaves what the rules do
  pub short_way : (s : Settings) (words : List (List ℕ)) (store : List ℕ) (n at : ℕ) (so : Progress) (crc : ℕ) (r : Bool) {after : List (List ℕ)} {part : List ℕ}
      → at ≡ n * s.extent → so ≡ progress_in (get_or words n []) → slot_awaits (slot_of (get_or words n [])) a.tail a.loopback ≡ true → r ≡ true
      → r ≡ leb (so.total + length bytes) (length (take (at + s.extent - at) (drop at store)))
      → part ≡ cond r (stored so.total bytes (take (at + s.extent - at) (drop at store))) (take (at + s.extent - at) (drop at store))
      → crc ≡ crc_from so.crc bytes
      → after ≡ set words n (words_on (get_or words n []) (record { crc = crc; total = so.total + length bytes }))
      → closes nothing after (put_mid at (at + s.extent - at) store part) ≡ in_words s words store n a bytes
  short_way s words store n at so crc r {after} {part} place far aw took room hp hc ha =
      let e : ℕ = s.extent in
      let own : List ℕ = part_of e n store in
      let f = in_part bytes store e n at so.total r place took room in
      let b : part ≡ stored (progress_in (get_or words n [])).total bytes own = rw (took, lent_out e n store at place, far) at hp in
      let t : so.total + length bytes ≡ min (length own + 2) ((progress_in (get_or words n [])).total + length bytes) = omega (arith, ap (λ (y : Progress). y.total) far) in
      ap (λ (v : List (List ℕ)). closes nothing v (put_mid at (at + e - at) store part)) ha
      ∙ ap (closes nothing _) (lent_back e n store part at place ∙ ap (with_part e n store) b)
      ∙ sym (in_middle s words store n (record { crc = crc; total = so.total + length bytes }) aw (hc ∙ ap (λ (y : Progress). crc_from y.crc bytes) far) t)

-- ---- the frame of a source

module _ (s : Settings) (words : List (List ℕ)) (store : List ℕ) (f : Frame) where
  abbrev Taken : Header → Type 0
  Taken h = accepted s words store f ≡ in_words s words store (f.id % nodes) (arrival_of f h) (before_tail f.bytes)

  ours : (h : Header) → (0 < length f.bytes) × (length f.bytes ≤ greatest_frame) → parsed_can_id f.id ≡ Ok h → wants s.port h ≡ true → reading s.port f ≡ Ok (Some (arrival_of f h))
  unfolding reading
  ours h (some, few) e w =
      let z : eqb (length f.bytes) 0 ≡ false = ne_eqb (length f.bytes) 0 (λ q. omega arith) in
      let l : leb (length f.bytes) greatest_frame ≡ true = le-leb (length f.bytes) greatest_frame few in
      rw (z, l) (ap (addressed s.port f) e ∙ rw w)

  from : (h : Header) (o : Option CanNodeId) → nodes * s.extent ≤ length store → reading s.port f ≡ Ok (Some (arrival_of f h)) → parsed_can_id f.id ≡ Ok h
      → source_in h ≡ o → not (unnamed o) ≡ true → Taken h
  unfolding accepted
  from h None room r e q n = absurd (false≢true n)
  from h (Some k) room r e q n =
      let same : Answer → Closing = λ answer. closes answer words store in
      read_as s (length store) f same (in_words s words store) (Ok (Some (arrival_of f h))) room r
      ∙ ap (λ (o : Option CanNodeId). by_source o (arrival_of f h) (before_tail f.bytes) same (in_words s words store)) q
      ∙ ap (λ (i : ℕ). in_words s words store i (arrival_of f h) (before_tail f.bytes)) (source_read f.id k h e q)

  -- a frame of 1 to 64 bytes whose ID speaks to the port is one of the source that the ID names
  pub of_source : nodes * s.extent ≤ length store → (0 < length f.bytes) × (length f.bytes ≤ greatest_frame) → comes_to s.port (parsed_can_id f.id) ≡ true → (h : Header) × Taken h
  of_source room long comes = go (parsed_can_id f.id) refl comes
    where
      go : (p : Result Header Refusal) → parsed_can_id f.id ≡ p → comes_to s.port p ≡ true → (h : Header) × Taken h
      go (Err r) e c = absurd (false≢true c)
      go (Ok h) e c =
          let b = both_true (not (unnamed (source_in h))) (wants s.port h) c in
          (h, from h (source_in h) room (ours h long e b.1) e refl b.0)
