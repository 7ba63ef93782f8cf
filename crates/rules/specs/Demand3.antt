-- DEMAND 3, what the school asked for: each scan is handed over exactly once, whatever else is on the cable. It is said of the receiver's rule (`received`) over
-- histories: after any history, of any frames at all, a transfer by the published rule is delivered once, at its last frame, unless one of document 01's two
-- exceptions holds at its first frame; and no source can disturb another.
use Rattle.std.specs.Prelude.{◌≡◌, ℕ, suc, ◌+◌, ◌-◌, ◌%◌, ◌^◌, ◌<◌, ◌≤◌, Bool, true, List, [], ◌∷◌, ◌++◌, map, length, take, replicate, Ok, Some}
use Rattle.rules.specs.declared.data.Mtu.{Mtu}
use Rattle.rules.specs.declared.types.CanTransferId.{CanTransferId}
use Rattle.rules.specs.declared.header.Header.{Header}
use Rattle.rules.specs.declared.subscription.Port.{Port}
use Rattle.rules.specs.declared.subscription.Settings.{Settings}
use Rattle.rules.specs.declared.slots.Session.{Session}
use Rattle.rules.specs.declared.slots.Slot.{Slot}
use Rattle.rules.specs.Limits.{transfer_ids, room_of}
use Rattle.rules.specs.CanId.{parsed_can_id}
use Rattle.rules.specs.Plan.{frames}
use Rattle.rules.specs.Transfer.{content, frames_of}
use Rattle.rules.specs.Frames.{Frame}
use Rattle.rules.specs.Answers.{Answer, delivers, nothing, not_ours, refuses}
use Rattle.rules.specs.Receiver.{Receiver, wants, source_in, cell_at}
use Rattle.rules.specs.Histories.{Told, hears_after, replies, run, is_from, has_low, kept, only}

-- ---- what is sent

-- a CAN ID under which source n sends to this port, and the header that it says
pub record Addressed (port : Port) (n id : ℕ) (h : Header) : Type 0 where
  pub read : parsed_can_id id ≡ Ok h
  pub wanted : wants port h ≡ true
  pub source : source_in h ≡ Some record { 0 = n }

-- frames with these bytes as they arrive: frame k at the time at k
abbrev pub arriving : ℕ → Bool → (ℕ → ℕ) → List (List ℕ) → List Frame
arriving id loopback at [] = []
arriving id loopback at (bytes ∷ more) = record { stamp = at 0; id = id; loopback = loopback; bytes = bytes } ∷ arriving id loopback (λ k. at (suc k)) more

-- a transfer: how it is cut, its ID and payload, and how its frames arrive
pub record Sent : Type 0 where
  pub mtu : Mtu
  pub transfer_id : ℕ
  pub payload : List ℕ
  pub can_id : ℕ
  pub header : Header
  pub loopback : Bool
  pub at : ℕ → ℕ

-- its frames by the published rule
abbrev pub frames_sent : Sent → List Frame
frames_sent t = arriving t.can_id t.loopback t.at (frames_of t.mtu t.transfer_id t.payload)

-- it is one of source n for this port, and its ID is one of 32
pub record SentTo (port : Port) (n : ℕ) (t : Sent) : Type 0 where
  pub addressed : Addressed port n t.can_id t.header
  pub id : t.transfer_id < transfer_ids

-- ---- document 01's two exceptions, in its own words

-- "t + 1 = e modulo 32 and not timed out": the age is the 32-bit difference with wrapping, it counts below 2^31, and it is not over the timeout
pub record IsRepeat (timeout : ℕ) (slot : Slot) (id stamp : ℕ) : Type 0 where
  pub before : (id + 1) % 32 ≡ slot.expected.0
  pub last : ℕ
  pub seen : slot.last_time ≡ Some last
  pub counts : (stamp + 2 ^ 32 - last) % 2 ^ 32 < 2 ^ 31
  pub young : (stamp + 2 ^ 32 - last) % 2 ^ 32 ≤ timeout

-- a frame meets the session s: s is open, and it is the frame's ID that is expected
pub record MeetsSession (slot : Slot) (id : ℕ) (s : Session) : Type 0 where
  pub expected : id ≡ slot.expected.0
  pub running : slot.session ≡ Some s

-- neither holds at the first frame of a transfer: it is no repeat; and if it needs a session, for there are several frames, it meets none that is open
pub record NoException (timeout : ℕ) (t : Sent) (slot : Slot) : Type 0 where
  pub new : IsRepeat timeout slot t.transfer_id (t.at 0) → ⊥
  pub free : room_of t.mtu < length t.payload → (s : Session) → MeetsSession slot t.transfer_id s → ⊥

-- ---- what is heard

-- an answer as a hearer has it: a delivery with its bytes, and not with the place where they lie
pub data Plain : Type 0 where
  delivery : Header → CanTransferId → ℕ → Bool → List ℕ → Plain
  silence : Plain
  foreign : Plain
  refusal : ℕ → Plain

abbrev pub plainly : Answer → List ℕ → Plain
plainly (delivers d) bytes = delivery d.header d.transfer_id d.stamp d.loopback bytes
plainly nothing bytes = silence
plainly not_ours bytes = foreign
plainly (refuses n) bytes = refusal n

abbrev pub plain : Told → Plain
plain t = plainly t.answer t.bytes

-- the delivery that a transfer is owed: payload and padding cut to the extent, under the stamp of its first frame
abbrev pub owed : ℕ → Sent → Plain
owed extent t =
    delivery t.header (record { 0 = t.transfer_id }) (t.at 0) t.loopback (take extent (content t.mtu t.payload))

-- nothing at each of n frames but the last, and this at the last
abbrev pub at_the_last : ℕ → Plain → List Plain
at_the_last n p = replicate (n - 1) silence ++ (p ∷ [])

-- no answer is a delivery
abbrev pub Undelivered : Plain → Type 0
Undelivered (delivery h id stamp loopback bytes) = ⊥
Undelivered silence = Unit {0}
Undelivered foreign = Unit {0}
Undelivered (refusal n) = Unit {0}

abbrev pub Quiet : List Plain → Type 0
Quiet [] = Unit {0}
Quiet (p ∷ ps) = Undelivered p × Quiet ps

-- ---- the demand

-- of a subscription s and a source n. It is said of whoever receives: `hears test history fs` is what the frames among fs that pass the test are told after a
-- history, and `slot history` is the source's slot then
pub record Demand3 (s : Settings) (n : ℕ) (hears : (Frame → Bool) → List Frame → List Frame → List Told) (slot : List Frame → Slot) : Type 0 where
  -- after any history, a transfer that meets no exception is delivered once, at its last frame, whatever comes between its frames from others
  pub deliver : (history fs : List Frame) (t : Sent) → SentTo s.port n t → only s.port n fs ≡ frames_sent t
      → NoException s.timeout t (slot history)
      → map plain (hears (is_from s.port n) history fs) ≡ at_the_last (frames t.mtu (length t.payload)) (owed s.extent t)
  -- of a transfer whose first frame is a repeat nothing is delivered, whatever the later stamps
  pub repeat : (history fs : List Frame) (t : Sent) → SentTo s.port n t → only s.port n fs ≡ frames_sent t
      → IsRepeat s.timeout (slot history) t.transfer_id (t.at 0)
      → Quiet (map plain (hears (is_from s.port n) history fs))
  -- the frames of a transfer are frames of its source, so that the premises can be met
  pub own : (t : Sent) → SentTo s.port n t → only s.port n (frames_sent t) ≡ frames_sent t
  -- what a source hears, answers and bytes, is what it would hear with all other frames removed
  pub separate : (history fs gs : List Frame) → only s.port n fs ≡ only s.port n gs
      → hears (is_from s.port n) history fs ≡ hears (is_from s.port n) history gs
  -- and so it is where a source's frames are all those whose CAN ID has it in the low seven bits
  pub separate_low : (history fs gs : List Frame) → kept (has_low n) fs ≡ kept (has_low n) gs
      → hears (has_low n) history fs ≡ hears (has_low n) history gs

-- the book's own receiver w: what is told after a history, the slot of source n then, and the store
abbrev pub in_book : Settings → Receiver → (Frame → Bool) → List Frame → List Frame → List Told
in_book s w test history fs = hears_after (replies s) w test history fs

abbrev pub slot_in_book : Settings → Receiver → ℕ → List Frame → Slot
slot_in_book s w n history = (cell_at s.extent (run s w history) n).slot

abbrev pub store_in_book : Settings → Receiver → List Frame → List ℕ
store_in_book s w history = (run s w history).store
