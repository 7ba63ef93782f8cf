-- END TO END: one scan in, one scan out. What a send put into the queue, popped in queue order and fed to a receiver on the same port with any arrival stamps, is
-- delivered once, with payload and padding cut to the extent.
use Rattle.std.specs.Prelude.{◌≡◌, true, List, [], ◌∷◌, ◌++◌, map, ℕ, suc, ◌≤◌, length, Ok, Result, Some, Option, None}
use Rattle.rules.specs.declared.refusal.Refusal.{Refusal}
use Rattle.rules.specs.declared.send.Transfer.{Transfer}
use Rattle.rules.specs.declared.send.Outgoing.{Outgoing}
use Rattle.rules.specs.declared.subscription.Settings.{Settings}
use Rattle.rules.specs.Plan.{frames}
use Rattle.rules.specs.Transfer.{frames_of}
use Rattle.rules.specs.Frames.{Frame, frame}
use Rattle.rules.specs.Queue.{Ordered}
use Rattle.rules.specs.Sending.{marks_of}
use Rattle.rules.specs.Receiver.{wants, source_in}
use Rattle.rules.specs.Histories.{is_from, only}
use Rattle.rules.specs.Demand3.{Sent as Scan, NoException, plain, owed, at_the_last}
use Rattle.queue.specs.declared.ArrayQueue.{ArrayQueue}
use Rattle.queue.specs.declared.Popped.{Popped}
use Rattle.queue.specs.Queue.{contents}
use Rattle.queue.specs.Place.{shown}
use Rattle.queue.proofs.Drain.{Run}
use Rattle.tx.specs.declared.CanTransmitter.{CanTransmitter}
use Rattle.tx.specs.declared.Sent.{Sent}
use Rattle.tx.specs.Send.{verdict, Sends}
use Rattle.acceptance.specs.Runs.{Lent, in_code, slot_in_code}

-- a frame as it arrives, at another time
abbrev pub arrived : ℕ → Frame → Frame
arrived stamp f = record { stamp = stamp; id = f.id; loopback = f.loopback; bytes = f.bytes }

-- frames as they arrive, the k-th at the time at k
abbrev pub arrived_at : (ℕ → ℕ) → List Frame → List Frame
arrived_at at [] = []
arrived_at at (f ∷ fs) = arrived (at 0) f ∷ arrived_at (λ k. at (suc k)) fs

-- a send that was done, as its caller sees it: the transmitter, the queue, the lent places, the transfer, and the answer and the places after it
pub record SendDone : Type 0 where
  pub transmitter : CanTransmitter
  pub queue : ArrayQueue
  pub places : List (List ℕ)
  pub transfer : Transfer
  pub payload : List ℕ
  pub sent : Sent
  pub after : List (List ℕ)
  pub promise : Sends (verdict transmitter queue places transfer payload) transmitter queue places transfer payload sent after
  pub done : sent.answer ≡ Ok tt

-- it is from node n, for this subscription
pub record ForUs (s : Settings) (n : ℕ) (d : SendDone) : Type 0 where
  pub source : source_in d.transfer.header ≡ Some record { 0 = n }
  pub wanted : wants s.port d.transfer.header ≡ true

-- how the rules judge the transfer
abbrev pub judged_of : SendDone → Result Outgoing Refusal
judged_of d = verdict d.transmitter d.queue d.places d.transfer d.payload

-- the frames of the transfer, gone out so
abbrev pub frames_out : SendDone → Outgoing → List Frame
frames_out d o = map (frame (marks_of d.transfer o.id)) (frames_of o.mtu d.transfer.transfer_id.0 d.payload)

-- the scan that was sent, its frames arriving at these times
abbrev pub scan_of : SendDone → Outgoing → (ℕ → ℕ) → Scan
scan_of d o at = record {
  mtu = o.mtu;
  transfer_id = d.transfer.transfer_id.0;
  payload = d.payload;
  can_id = o.id.0;
  header = d.transfer.header;
  loopback = d.transfer.loopback;
  at = at;
}

-- the frames that pops handed out, in their order; a pop of an empty queue hands out none
abbrev pub with_shown : Option Frame → List Frame → List Frame
with_shown None fs = fs
with_shown (Some f) fs = f ∷ fs

abbrev pub handed_out : List Popped → List Frame
handed_out [] = []
handed_out (r ∷ rs) = with_shown (shown r.held) (handed_out rs)

-- what becomes of a send that was done, of which rs are the pops, at a receiver to which the memory m is lent
pub record HandedOver (s : Settings) (m : Lent) (n : ℕ) (d : SendDone) (rs : List Popped) : Type 0 where
  -- the transfer went out at this MTU and under this CAN ID
  pub out : Outgoing
  pub goes : judged_of d ≡ Ok out
  -- the pops that handed out its frames stand together, in the frames' order and as many as the plan says
  pub front : List Popped
  pub mid : List Popped
  pub back : List Popped
  pub pops : rs ≡ front ++ (mid ++ back)
  pub many : length mid ≡ frames out.mtu (length d.payload)
  pub handed : handed_out mid ≡ frames_out d out
  -- as they arrive, at any times, they are good frames of node n for this subscription
  pub good : (at : ℕ → ℕ) → only s.port n (arrived_at at (handed_out mid)) ≡ arrived_at at (handed_out mid)
  -- ONE DELIVERY: fed after any history, with anything between them but good frames of node n for this subscription, and no exception of demand 3 at the first
  -- of them, they are answered nothing but for the last, and the last delivers payload and padding cut to the extent
  pub delivered : (history fs : List Frame) (at : ℕ → ℕ) → only s.port n fs ≡ arrived_at at (handed_out mid)
      → NoException s.timeout (scan_of d out at) (slot_in_code s m n history)
      → map plain (in_code s m (is_from s.port n) history fs)
      ≡ at_the_last (frames out.mtu (length d.payload)) (owed s.extent (scan_of d out at))

-- of every send that was done, into an ordered queue and for us, and every run of pops that empties the queue after it
abbrev pub OneScan : Settings → Lent → ℕ → Type 0
OneScan s m n =
    (d : SendDone) → ForUs s n d → Ordered (contents d.queue d.places)
    → (rs : List Popped) → Run d.after d.sent.queue rs → length (contents d.sent.queue d.after) ≤ length rs
    → HandedOver s m n d rs
