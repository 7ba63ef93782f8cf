-- What making gives and every call keeps: of the queue by its promises and the book's laws of order, of the tracker by its row, of the receiver by the tie.
use Rattle.std.specs.Prelude.{Option, is_some, Err, Ok, Result}
use Rattle.rules.specs.declared.send.Outgoing.{Outgoing}
use Rattle.rules.specs.declared.refusal.Refusal.{Refusal}
use mathlib.Core.Path.{◌≡◌, refl, sym, ap, subst, ◌∙◌}
use mathlib.Core.Bool.{Bool, cond}
use mathlib.Core.List.{List, [], ◌∷◌}
use Prim.Native.Nat.{ℕ, suc, ◌-◌, ◌*◌, ◌<◌, ◌≤◌}
use native.Mathlib.Omega.{arith}
use lib.Dec.{lit<}
use lib.ListN.{length, get_or, length-replicate, get_or-replicate}
use Rattle.laws.specs.Digits.{value_of}
use Rattle.laws.proofs.Digits.{length_digits, are_digits}
use Rattle.rules.specs.declared.frame.Marks.{Marks}
use Rattle.rules.specs.declared.slots.Slot.{Slot}
use Rattle.rules.specs.declared.send.Transfer.{Transfer}
use Rattle.rules.specs.declared.subscription.Settings.{Settings}
use Rattle.rules.specs.Limits.{nodes, transfer_ids, greatest_capacity}
use Rattle.rules.specs.Frames.{Frame}
use Rattle.rules.specs.Queue.{Ordered, rest, first, placed, after}
use Rattle.rules.specs.Transfer.{frames_of}
use Rattle.rules.specs.Sending.{marks_of, queued_after, all_pushed}
use Rattle.rules.specs.Slot.{fresh_slot}
use Rattle.rules.specs.Receiver.{Receiver, fresh_slots, cell_at, received}
use Rattle.rules.proofs.Queue.{push_ordered, return_ordered, rest_ordered, push_length, return_length}
use Rattle.rules.proofs.Sending.{all_ordered, all_length}
use Rattle.rules.proofs.Receiver.{lengths_kept, expected_kept}
use Rattle.queue.specs.declared.ArrayQueue.{ArrayQueue}
use Rattle.queue.specs.declared.Held.{Held}
use Rattle.queue.specs.declared.Pushed.{Pushed}
use Rattle.queue.specs.declared.Popped.{Popped}
use Rattle.queue.specs.Queue.{contents, free, fresh, Places, Pops}
use Rattle.queue.specs.Place.{held_of}
use Rattle.queue.proofs.Putting.{placed_fits}
use Rattle.queue.proofs.Fresh.{fresh_contents, fresh_free, fresh_capacity}
use Rattle.queue.proofs.Alike.{Call, Answer, Kept, counted, emptied, sized, reserved, pushes, returns, peeks, pops}
use Rattle.tracker.specs.declared.CanTransferIdTracker.{CanTransferIdTracker}
use Rattle.tracker.specs.Row.{word_base, numbers}
use Rattle.tx.specs.declared.CanTransmitter.{CanTransmitter}
use Rattle.tx.specs.declared.Sent.{Sent}
use Rattle.tx.specs.Send.{verdict, free_after, Sends}
use Rattle.slots.specs.Words.{words_of}
use Rattle.rx.specs.Accept.{words_made}
use Rattle.rx.proofs.Tied.{slot_viewed, words_length, made_fresh}
use Rattle.acceptance.specs.Runs.{Lent, called, left_by, slot_in}
use Rattle.acceptance.specs.States.{QueueState, TrackerState, ReceiverState}
use Rattle.rules.proofs.Granted.{many, room}
use Rattle.acceptance.proofs.Runs.{book_of, call_tied, slot_tied}

-- ---- the queue

-- a queue that was made, with at least so many places lent
pub queue_made_lem : (n : ℕ) (places : List (List ℕ)) → n ≤ greatest_capacity → n ≤ length places → QueueState (fresh n) places
queue_made_lem n places h l = record {
  ordered = subst Ordered (sym (fresh_contents n places)) tt;
  filled = rw (fresh_contents n places) (omega (arith, fresh_free n places h l, fresh_capacity n));
}

module _ {q : ArrayQueue} {a : List (List ℕ)} (s : QueueState q a) where
  places_kept : {put : Frame → List Frame → List Frame} → ((f : Frame) (fs : List Frame) → Ordered fs → Ordered (put f fs))
      → ((f : Frame) (fs : List Frame) → length (put f fs) ≡ suc (length fs))
      → {f : Frame} {r : Pushed} {a' : List (List ℕ)} → Places put q a f r a' → QueueState r.queue a'
  places_kept {put} ord len {f} {r} {a'} p = go r.answer p.answered p.queued p.left
    where
      go : (t : Result (Unit {0}) Refusal) → t ≡ placed (free q a) f → contents r.queue a' ≡ after t (put f (contents q a)) (contents q a)
          → free r.queue a' ≡ after t (free q a - 1) (free q a) → QueueState r.queue a'
      go (Ok _) e c l = record {
        ordered = subst Ordered (sym c) (ord f (contents q a) s.ordered);
        filled = omega (arith, ap length c, len f (contents q a), l, (placed_fits (free q a) f (sym e)).spare, s.filled, p.capacity);
      }
      go (Err y) e c l = record { ordered = subst Ordered (sym c) s.ordered; filled = omega (arith, ap length c, l, s.filled, p.capacity) }

  pops_kept : {r : Popped} → Pops q a r → QueueState r.queue a
  pops_kept {r} p = go (contents q a) refl p.queued
    where
      found : (fs : List Frame) → contents q a ≡ fs → is_some r.held ≡ is_some (held_of (first fs))
      found fs e = ap (λ (h : Option Held). is_some h) (p.answered ∙ ap (λ (l : List Frame). held_of (first l)) e)

      go : (fs : List Frame) → contents q a ≡ fs → contents r.queue a ≡ rest (contents q a) → QueueState r.queue a
      go [] e c =
          let l : free r.queue a ≡ free q a = p.left ∙ ap (λ (b : Bool). cond b (suc (free q a)) (free q a)) (found [] e) in
          let n : length (contents r.queue a) ≡ length (contents q a) = ap length (c ∙ ap rest e) ∙ sym (ap length e) in
          record { ordered = subst Ordered (sym c) (rest_ordered (contents q a) s.ordered); filled = omega (arith, l, n, s.filled, p.capacity) }
      go (f ∷ fs) e c =
          let l : free r.queue a ≡ suc (free q a) = p.left ∙ ap (λ (b : Bool). cond b (suc (free q a)) (free q a)) (found (f ∷ fs) e) in
          let n : suc (length (contents r.queue a)) ≡ length (contents q a) = ap (λ (l : List Frame). suc (length l)) (c ∙ ap rest e) ∙ sym (ap length e) in
          record { ordered = subst Ordered (sym c) (rest_ordered (contents q a) s.ordered); filled = omega (arith, l, n, s.filled, p.capacity) }

  -- every call of the queue keeps it
  pub queue_kept : {o : Call} {x : Answer} {q' : ArrayQueue} {a' : List (List ℕ)} → Kept q a o x q' a' → QueueState q' a'
  queue_kept (counted e) = s
  queue_kept (emptied e) = s
  queue_kept (sized e) = s
  queue_kept (reserved e) = s
  queue_kept (pushes p) = places_kept push_ordered push_length p
  queue_kept (returns p) = places_kept return_ordered return_length p
  queue_kept (peeks e) = s
  queue_kept (pops p) = pops_kept p

  -- and so does every send
  pub send_kept : {t : CanTransmitter} {transfer : Transfer} {payload : List ℕ} {r : Sent} {a' : List (List ℕ)}
      → Sends (verdict t q a transfer payload) t q a transfer payload r a' → QueueState r.queue a'
  send_kept {t} {transfer} {payload} {r} {a'} p = go (verdict t q a transfer payload) refl p.queued p.left
    where
      go : (j : Result Outgoing Refusal) → verdict t q a transfer payload ≡ j → contents r.queue a' ≡ queued_after (verdict t q a transfer payload) transfer payload (contents q a)
          → free r.queue a' ≡ free_after (verdict t q a transfer payload) (free q a) → QueueState r.queue a'
      go (Ok o) e c l =
          let marks : Marks = marks_of transfer o.id in
          let fs : List (List ℕ) = frames_of o.mtu transfer.transfer_id.0 payload in
          let d : contents r.queue a' ≡ all_pushed marks fs (contents q a) = c ∙ ap (λ (j : Result Outgoing Refusal). queued_after j transfer payload (contents q a)) e in
          let k : free r.queue a' ≡ free q a - o.stats.frames = l ∙ ap (λ (j : Result Outgoing Refusal). free_after j (free q a)) e in
          record {
            ordered = subst Ordered (sym d) (all_ordered marks fs (contents q a) s.ordered);
            filled = omega (arith, ap length d, all_length marks fs (contents q a), k, many (free q a) t.mtu transfer payload o e, room (free q a) t.mtu transfer payload o e, s.filled, p.capacity);
          }
      go (Err y) e c l =
          let d : contents r.queue a' ≡ contents q a = c ∙ ap (λ (j : Result Outgoing Refusal). queued_after j transfer payload (contents q a)) e in
          let k : free r.queue a' ≡ free q a = l ∙ ap (λ (j : Result Outgoing Refusal). free_after j (free q a)) e in
          record { ordered = subst Ordered (sym d) s.ordered; filled = omega (arith, ap length d, k, s.filled, p.capacity) }

-- ---- the tracker

-- whatever words a tracker has, they are 128 numbers below 32
pub tracker_any : (t : CanTransferIdTracker) → TrackerState t
unfolding numbers
tracker_any t = record {
  many = length_digits transfer_ids (lit< tt) nodes (value_of word_base t.ids);
  small = are_digits transfer_ids (lit< tt) nodes (value_of word_base t.ids);
}

-- ---- the receiver

-- a subscription that was made, with a store of document 01's size
pub receiver_made : (s : Settings) (words : List (List ℕ)) (store : List ℕ) → nodes * s.extent ≤ length store
    → ReceiverState s (record { words = words_made (Ok s) words; store = store })
receiver_made s words store h =
    let m : Lent = record { words = words_made (Ok s) words; store = store } in
    record {
      many = length-replicate nodes (words_of fresh_slot);
      small = λ n l. subst (λ (x : Slot). x.expected.0 < transfer_ids) (fresh_slot_lem m n l (made_fresh s words store)) (lit< tt);
      room = h;
    }
  where
    fresh_slot_lem : (m : Lent) (n : ℕ) → n < nodes → (book_of m).slots ≡ fresh_slots → fresh_slot ≡ slot_in m n
    fresh_slot_lem m n l e = sym (get_or-replicate nodes n fresh_slot fresh_slot l) ∙ ap (λ (l : List Slot). get_or l n fresh_slot) (sym e) ∙ slot_viewed m.words m.store n

-- every call of the receiver keeps it
pub receiver_kept : (s : Settings) (m : Lent) (f : Frame) → ReceiverState s m → ReceiverState s (left_by (called s m f))
receiver_kept s m f r =
    let after : Lent = left_by (called s m f) in
    let same : book_of after ≡ (received s (book_of m) f).receiver = call_tied s m f in
    record {
      many = words_length s m.words m.store f ∙ r.many;
      small = λ n l.
          subst (λ (x : Slot). x.expected.0 < transfer_ids) (ap (λ (w : Receiver). (cell_at s.extent w n).slot) (sym same) ∙ slot_tied s after n)
          (expected_kept s (book_of m) f (λ k h. subst (λ (x : Slot). x.expected.0 < transfer_ids) (sym (slot_tied s m k)) (r.small k h)) n l);
      room = omega (arith, r.room, ap (λ (w : Receiver). length w.store) same, (lengths_kept s (book_of m) f).1);
    }
