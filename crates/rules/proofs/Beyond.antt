-- BEYOND DEMAND 3: the slot after a delivery, how long delivered bytes stay, and frames that come twice. Each follows from the course of a source's own frames:
-- a delivery leaves a slot at which the same ID is a repeat; a frame's copy is not awaited by the session that the frame left.
use Rattle.std.proofs.Common.{◌≡◌, ℕ, ◌*◌, ◌≤◌, List, ◌++◌, length, drop, sym, refl, ap, ◌∙◌, subst, arith}
use Rattle.rules.specs.declared.subscription.Settings.{Settings}
use Rattle.rules.specs.declared.slots.Slot.{Slot}
use Rattle.rules.specs.Limits.{nodes}
use Rattle.rules.specs.Transfer.{frames_of}
use Rattle.rules.specs.Frames.{Frame}
use Rattle.rules.specs.Receiver.{Receiver as TheReceiver, part_of, cell_at}
use Rattle.rules.specs.Histories.{replies, run, only}
use Rattle.rules.specs.Demand3.{Sent, IsRepeat, NoException, Plain, in_book, slot_in_book, store_in_book}
use Rattle.rules.specs.Beyond.{Arrives, Settles, Stays, stuttering, at_times, Confession}
use Rattle.rules.proofs.Steps.{delivered}
use Rattle.rules.proofs.Histories.{run_append}
use Rattle.rules.proofs.OwnCourse.{Course, Roomy, run_roomy}
use Rattle.rules.proofs.Deliver.{gist}
use Rattle.rules.proofs.Stay.{course_idle, run_beyond}
use Rattle.rules.proofs.Stutter.{delivered_again, transfer_stutters}
use Rattle.rules.proofs.Demand3.{heard_course, sender_size, delivered_heard, demand3}

module _ (s : Settings) (w : TheReceiver) (n : ℕ) (many : length w.slots ≡ nodes) (room : nodes * s.extent ≤ length w.store) where
  roomy : (history : List Frame) → Roomy s (run s w history)
  roomy history = run_roomy s w history (record { many = many; room = room })

  -- the receiver after these frames, which came after this history
  ran : (history fs : List Frame) → run s w (history ++ fs) ≡ run s (run s w history) fs
  ran history fs = run_append (replies s) w history fs

  -- after a transfer, its source's slot is that of a delivery
  slot_settled : (history fs : List Frame) (t : Sent) → Arrives s n (slot_in_book s w n history) t fs
      → slot_in_book s w n (history ++ fs) ≡ delivered t.transfer_id (t.at 0)
  slot_settled history fs t a =
      ap (λ (x : TheReceiver). (cell_at s.extent x n).slot) (ran history fs)
      ∙ ap (λ (g : List Plain × Slot). g.1) (delivered_heard s n (run s w history) (roomy history) fs t a.sent a.frames a.clear)

  -- THE SLOT SETTLES: after a delivery the same ID in time is a repeat, and the next ID meets no exception
  pub settles : Settles s n (slot_in_book s w n)
  settles = record {
    settled = slot_settled;
    again = λ history fs t a stamp y.
        subst (λ (x : Slot). IsRepeat s.timeout x t.transfer_id stamp) (sym (slot_settled history fs t a))
        (delivered_again s.timeout t.transfer_id (t.at 0) stamp y);
    next = λ history fs t a u e.
        subst (NoException s.timeout u) (sym (slot_settled history fs t a))
        (record { new = λ r. omega (arith, r.before, e); free = λ long x m. let closed = m.running in let z : ◌≡◌ {A = ℕ} 0 1 = cc in omega arith });
  }

  -- DELIVERED BYTES STAY until the source's next session
  pub stays : Stays s n (slot_in_book s w n) (store_in_book s w)
  unfolding cell_at
  stays = record {
    part = λ history fs closed none.
        ap (λ (x : TheReceiver). part_of s.extent n x.store) (ran history fs)
        ∙ ap (λ (c : Course). c.cell.part) (heard_course s n (run s w history) (roomy history) fs (only s.port n fs) refl)
        ∙ course_idle s (n * s.extent) (cell_at s.extent (run s w history) n) (only s.port n fs) closed none;
    beyond = λ history fs. ap (λ (x : TheReceiver). drop (nodes * s.extent) x.store) (ran history fs) ∙ run_beyond s (run s w history) fs;
  }

  -- WHAT COMES TWICE is delivered once: a whole transfer again is a repeat, since its slot has settled; each frame again is not awaited
  pub confession : Confession s n (in_book s w) (slot_in_book s w n)
  confession = record {
    twice = λ history fs gs t a at e y.
        (demand3 s w n many room).repeat (history ++ fs) gs (at_times at t) (record { addressed = a.sent.addressed; id = a.sent.id }) e
        (settles.again history fs t a (at 0) y);
    stuttered = λ history fs t to clear copied e y.
        ap (λ (c : Course). (gist c).0)
        (heard_course s n (run s w history) (roomy history) fs (stuttering t.can_id t.loopback t.at copied (frames_of t.mtu t.transfer_id t.payload)) e)
        ∙ ap (λ (g : List Plain × Slot). g.0)
        (transfer_stutters s n t to (n * s.extent) (cell_at s.extent (run s w history) n) copied (sender_size s n (run s w history) (roomy history) t to) clear y);
  }
