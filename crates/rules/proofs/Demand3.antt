-- DEMAND 3 HOLDS of every receiver with 128 slots and a part for each: what a source hears is the course of its own frames at its cell (`own_course_lem`), and there a
-- transfer is delivered once or, if it is a repeat, not at all.
use Rattle.std.proofs.Common.{◌≡◌, ℕ, ◌*◌, ◌≤◌, List, map, length, sym, ap, ◌∙◌, subst}
use Rattle.rules.specs.declared.subscription.Settings.{Settings}
use Rattle.rules.specs.declared.slots.Slot.{Slot}
use Rattle.rules.specs.Limits.{nodes}
use Rattle.rules.specs.Plan.{frames}
use Rattle.rules.specs.Frames.{Frame}
use Rattle.rules.specs.Receiver.{Receiver as TheReceiver, cell_at}
use Rattle.rules.specs.Histories.{run, is_from, has_low, only, heard}
use Rattle.rules.specs.Demand3.{Sent, SentTo, frames_sent, NoException, Plain, plain, owed, at_the_last, Quiet, Demand3, in_book, slot_in_book}
use Rattle.rules.proofs.Receiver.{source_below, part_within, cell_size}
use Rattle.rules.proofs.Steps.{delivered}
use Rattle.rules.proofs.OwnCourse.{Course, course, good_picks, low_picks, Roomy, run_roomy, own_course_lem, apart}
use Rattle.rules.proofs.Sent.{sent_own}
use Rattle.rules.proofs.Deliver.{gist, transfer_delivers}
use Rattle.rules.proofs.Repeat.{transfer_quiet}

module _ (s : Settings) (n : ℕ) (w : TheReceiver) (h : Roomy s w) where
  -- the course of these frames at the cell of the source
  abbrev pub own_course : List Frame → Course
  own_course fs = course s (n * s.extent) (cell_at s.extent w n) fs

  -- what the source hears of a run of frames, and what the run leaves it: its own frames being these
  pub heard_course : (fs gs : List Frame) → only s.port n fs ≡ gs
      → record { told = heard s n w fs; cell = cell_at s.extent (run s w fs) n } ≡ own_course gs
  heard_course fs gs e = own_course_lem s n (is_from s.port n) (good_picks s.port n) fs w h ∙ ap own_course e

  -- the part of a source that sends is as long as the extent
  pub sender_size : (t : Sent) → SentTo s.port n t → length (cell_at s.extent w n).part ≡ s.extent
  sender_size t to =
      let known = source_below t.can_id (record { 0 = n }) t.header to.addressed.read to.addressed.source in
      cell_size s.extent w n (part_within s.extent (length w.store) n known h.room)

  -- a transfer that meets no exception: what is heard, and the slot that it leaves
  pub delivered_heard : (fs : List Frame) (t : Sent) → SentTo s.port n t → only s.port n fs ≡ frames_sent t → NoException s.timeout t (cell_at s.extent w n).slot
      → gist (record { told = heard s n w fs; cell = cell_at s.extent (run s w fs) n })
      ≡ (at_the_last (frames t.mtu (length t.payload)) (owed s.extent t), delivered t.transfer_id (t.at 0))
  delivered_heard fs t to e clear =
      ap gist (heard_course fs (frames_sent t) e) ∙ transfer_delivers s n t to (n * s.extent) (cell_at s.extent w n) (sender_size t to) clear

pub demand3 : (s : Settings) (w : TheReceiver) (n : ℕ) → length w.slots ≡ nodes → nodes * s.extent ≤ length w.store
    → Demand3 s n (in_book s w) (slot_in_book s w n)
demand3 s w n many room = record {
  deliver = λ history fs t to e clear. ap (λ (g : List Plain × Slot). g.0) (delivered_heard s n (run s w history) (roomy history) fs t to e clear);
  repeat = λ history fs t to e again.
      subst (λ (c : Course). Quiet (map plain c.told)) (sym (heard_course s n (run s w history) (roomy history) fs (frames_sent t) e))
      (transfer_quiet s n t to (n * s.extent) (cell_at s.extent (run s w history) n) again);
  own = λ t to. sent_own s.port n t to;
  separate = λ history fs gs e. apart s n (is_from s.port n) (good_picks s.port n) (run s w history) (roomy history) fs gs e;
  separate_low = λ history fs gs e. apart s n (has_low n) (low_picks s.port n) (run s w history) (roomy history) fs gs e;
}
  where
    roomy : (history : List Frame) → Roomy s (run s w history)
    roomy history = run_roomy s w history (record { many = many; room = room })
