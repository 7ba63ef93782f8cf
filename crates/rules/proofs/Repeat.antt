-- OF A TRANSFER WHOSE FIRST FRAME IS A REPEAT nothing is delivered, whatever the later stamps: the first frame changes nothing, and each later one has no start, so
-- that it is a repeat too or finds no session.
use Rattle.std.proofs.Common.{◌≡◌, ℕ, zero, suc, ◌-◌, ◌≤◌, Bool, true, false, not, List, map, length, take, drop, refl, ◌∙◌, ⊎_elim, arith}
use Rattle.rules.specs.declared.subscription.Settings.{Settings}
use Rattle.rules.specs.declared.slots.Slot.{Slot}
use Rattle.rules.specs.Limits.{greatest_frame, room_of}
use Rattle.rules.specs.TailByte.{tail_byte}
use Rattle.rules.specs.Plan.{frames}
use Rattle.rules.specs.Transfer.{carried, tailed, cut, frames_of}
use Rattle.rules.specs.Answers.{nothing}
use Rattle.rules.specs.Source.{Cell, Turn}
use Rattle.rules.specs.Demand3.{arriving, Sent, SentTo, frames_sent, IsRepeat, plain, Undelivered, Quiet}
use Rattle.rules.proofs.IdRule.{repeat_or_new}
use Rattle.rules.proofs.Steps.{arrival, Free, repeat_passes, stray_refused}
use Rattle.rules.proofs.OwnCourse.{turn_at, told_at, course}
use Rattle.rules.proofs.Sent.{frame_sent, Fits, sent_turn, frames_fit}

-- a slot at which a frame is a repeat is free: it expects another ID
pub repeat_free : (timeout : ℕ) (slot : Slot) (id stamp : ℕ) → IsRepeat timeout slot id stamp → Free id slot
repeat_free timeout slot id stamp r q = absurd (omega (arith, r.before, q))

module _ (s : Settings) (n : ℕ) (t : Sent) (to : SentTo s.port n t) (begin : ℕ) where
  -- a frame of the transfer that repeats
  pub sent_repeats : (c : Cell) (stamp : ℕ) (bytes : List ℕ) (start end toggle : Bool) → length (tailed bytes (tail_byte start end toggle t.transfer_id)) ≤ greatest_frame
      → IsRepeat s.timeout c.slot t.transfer_id stamp
      → turn_at s c (frame_sent t stamp bytes start end toggle) ≡ record { answer = nothing; cell = c }
  sent_repeats c stamp bytes start end toggle fits r =
      sent_turn s n t to stamp bytes start end toggle fits c
      ∙ repeat_passes s.timeout c (arrival t.header stamp t.loopback t.transfer_id start end toggle) bytes r

  -- nothing is delivered, and the slot stays free
  abbrev Passed : ℕ → List ℕ → Bool → Bool → Turn → Type 0
  Passed stamp bytes end toggle x = Undelivered (plain (told_at begin (frame_sent t stamp bytes false end toggle) x)) × Free t.transfer_id x.cell.slot

  stray : (c : Cell) (stamp : ℕ) (bytes : List ℕ) (end toggle : Bool) → length (tailed bytes (tail_byte false end toggle t.transfer_id)) ≤ greatest_frame
      → Free t.transfer_id c.slot → Passed stamp bytes end toggle (turn_at s c (frame_sent t stamp bytes false end toggle))
  stray c stamp bytes end toggle fits free =
      ⊎_elim
      (λ (r : IsRepeat s.timeout c.slot t.transfer_id stamp). rw (sent_repeats c stamp bytes false end toggle fits r) (tt, free))
      (λ (new : IsRepeat s.timeout c.slot t.transfer_id stamp → ⊥).
      rw (sent_turn s n t to stamp bytes false end toggle fits c, stray_refused s.timeout c t.header stamp t.loopback t.transfer_id end toggle bytes new free)
      (tt, λ q. refl))
      (repeat_or_new s.timeout c.slot t.transfer_id stamp)

  rest_quiet : (m : ℕ) (toggle : Bool) (k : ℕ) (bytes : List ℕ) (at : ℕ → ℕ) (c : Cell) → Fits (cut m t.transfer_id false toggle k bytes) → Free t.transfer_id c.slot
      → Quiet (map plain (course s begin c (arriving t.can_id t.loopback at (cut m t.transfer_id false toggle k bytes))).told)
  rest_quiet m toggle zero bytes at c fits free = ((stray c (at 0) bytes true toggle (fits 0) free).0, tt)
  rest_quiet m toggle (suc k) bytes at c fits free =
      let x = stray c (at 0) (take m bytes) false toggle (fits 0) free in
      (x.0, rest_quiet m (not toggle) k (drop m bytes) (λ j. at (suc j)) (turn_at s c (frame_sent t (at 0) (take m bytes) false false toggle)).cell (λ j. fits (suc j)) x.1)

  cut_quiet : (m k : ℕ) (bytes : List ℕ) (at : ℕ → ℕ) (c : Cell) → Fits (cut m t.transfer_id true true k bytes)
      → IsRepeat s.timeout c.slot t.transfer_id (at 0)
      → Quiet (map plain (course s begin c (arriving t.can_id t.loopback at (cut m t.transfer_id true true k bytes))).told)
  cut_quiet m zero bytes at c fits r = rw (sent_repeats c (at 0) bytes true true true (fits 0) r) (tt, tt)
  cut_quiet m (suc k) bytes at c fits r =
      rw (sent_repeats c (at 0) (take m bytes) true false true (fits 0) r)
      (tt, rest_quiet m false k (drop m bytes) (λ j. at (suc j)) c (λ j. fits (suc j)) (repeat_free s.timeout c.slot t.transfer_id (at 0) r))

  -- A REPEATED TRANSFER IS QUIET
  pub transfer_quiet : (c : Cell) → IsRepeat s.timeout c.slot t.transfer_id (t.at 0) → Quiet (map plain (course s begin c (frames_sent t)).told)
  unfolding frames_of
  transfer_quiet c r = cut_quiet (room_of t.mtu) (frames t.mtu (length t.payload) - 1) (carried t.mtu t.payload) t.at c (frames_fit t) r
