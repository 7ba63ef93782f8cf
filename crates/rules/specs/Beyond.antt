-- Beyond demand 3: that the receiver's rule has document 01's two exceptions and no other, what a slot is after a delivery, how long delivered bytes stay, and
-- what the cable's habit of sending twice comes to. All but the first is said of whoever receives, as demand 3 is: by what is heard after a history, the source's
-- slot then, and the store.
use Rattle.std.specs.Prelude.{◌≡◌, ℕ, suc, ◌+◌, ◌-◌, ◌*◌, ◌%◌, ◌^◌, ◌<◌, ◌≤◌, Bool, true, false, cond, not, ◌&&◌, ◌↔◌, List, [], ◌∷◌, ◌++◌, map, length, drop, replicate, None, Option, Some}
use Rattle.rules.specs.declared.receive.Arrival.{Arrival}
use Rattle.rules.specs.declared.subscription.Settings.{Settings}
use Rattle.rules.specs.declared.slots.Session.{Session}
use Rattle.rules.specs.declared.slots.Slot.{Slot}
use Rattle.rules.specs.Limits.{nodes}
use Rattle.rules.specs.TailByte.{parsed_tail}
use Rattle.rules.specs.Plan.{frames}
use Rattle.rules.specs.Transfer.{frames_of}
use Rattle.rules.specs.Frames.{Frame}
use Rattle.rules.specs.Slot.{restarted, admitted}
use Rattle.rules.specs.Session.{opened, awaits, joined}
use Rattle.rules.specs.Answers.{nothing}
use Rattle.rules.specs.Source.{Cell, Turn, in_session, turn}
use Rattle.rules.specs.Receiver.{tail_of, part_of}
use Rattle.rules.specs.Histories.{Told, is_from, only}
use Rattle.rules.specs.Demand3.{Sent, SentTo, frames_sent, IsRepeat, MeetsSession, NoException, silence, plain, owed, Quiet}

-- ---- the exceptions are the rule's

-- the first of several frames of a transfer, as it is read; its toggle is 1 by the published rule, and either here
abbrev pub first_of : Sent → Bool → Arrival
first_of t toggle = record {
  header = t.header;
  tail = record { start = true; end = false; toggle = toggle; transfer_id = record { 0 = t.transfer_id } };
  stamp = t.at 0;
  loopback = t.loopback;
}

-- where the rule takes it: nowhere, for it is a repeat; to a session that was open before; or to one of its own, which it opens
pub data WhereTo : Type 0 where
  nowhere : WhereTo
  older : Session → WhereTo
  own : WhereTo

-- that is read off the rule: off the ID rule's verdict, and off the session in the slot that goes on
abbrev pub to_open : Option Session → WhereTo
to_open (Some s) = older s
to_open None = own

abbrev pub to_admitted : Option Slot → WhereTo
to_admitted None = nowhere
to_admitted (Some slot) = to_open slot.session

abbrev pub where_to : ℕ → Slot → Sent → WhereTo
where_to timeout slot t = to_admitted (admitted timeout slot (record { 0 = t.transfer_id }) (t.at 0))

-- what a first frame a with these bytes leaves of the session s that it comes to, where the source has a part of so many bytes
pub record LeftOf (extent : ℕ) (s : Session) (a : Arrival) (bytes : List ℕ) (x : Turn) : Type 0 where
  pub quiet : x.answer ≡ nothing
  pub left : Session
  pub running : x.cell.slot.session ≡ Some left
  -- the bytes join s if it awaits this frame, and if not s stays as it was
  pub joins : left ≡ cond (awaits s a) (joined extent s bytes) s
  -- either way the stamp and the loopback flag are those that s had
  pub stamp : left.stamp ≡ s.stamp
  pub loopback : left.loopback ≡ s.loopback

-- the first frame of t, which needs several, comes to the cell c of its source, with any toggle and any bytes. `where_to` has one value, so one of three holds and
-- no two of them
pub record Exceptions (timeout : ℕ) (c : Cell) (t : Sent) : Type 0 where
  -- FIRST EXCEPTION: the rule takes the frame nowhere exactly where document 01 calls it a repeat ..
  pub repeat : (where_to timeout c.slot t ≡ nowhere) ↔ IsRepeat timeout c.slot t.transfer_id (t.at 0)
  -- .. and then the answer is nothing, and nothing changes
  pub passes : (toggle : Bool) (bytes : List ℕ) → where_to timeout c.slot t ≡ nowhere
      → turn timeout c (first_of t toggle) bytes ≡ record { answer = nothing; cell = c }
  -- SECOND EXCEPTION: the rule takes it to an older session exactly where that session is open and the frame's ID is the expected one ..
  pub meets : (s : Session) → (where_to timeout c.slot t ≡ older s) ↔ MeetsSession c.slot t.transfer_id s
  -- .. and then it is a frame of that session: it opens none of its own, and nothing of it is left but perhaps bytes under the older stamp ..
  pub within : (s : Session) (toggle : Bool) (bytes : List ℕ) → where_to timeout c.slot t ≡ older s
      → (turn timeout c (first_of t toggle) bytes ≡ in_session c.slot c.part (first_of t toggle) bytes s)
      × LeftOf (length c.part) s (first_of t toggle) bytes (turn timeout c (first_of t toggle) bytes)
  -- .. not even those, unless the session still waits for its start, as after a first frame with toggle 0
  pub started : (s : Session) (toggle : Bool) (bytes : List ℕ) → where_to timeout c.slot t ≡ older s → s.expect_start ≡ false
      → turn timeout c (first_of t toggle) bytes ≡ record { answer = nothing; cell = c }
  -- NEITHER: the rule takes it to a session of its own exactly where no exception holds ..
  pub clear : (where_to timeout c.slot t ≡ own) ↔ NoException timeout t c.slot
  -- .. and then the session that it leaves has its own stamp and loopback flag, and its bytes if its toggle is 1
  pub opens : (toggle : Bool) (bytes : List ℕ) → where_to timeout c.slot t ≡ own
      → (turn timeout c (first_of t toggle) bytes
      ≡ in_session (restarted c.slot (record { 0 = t.transfer_id })) c.part (first_of t toggle) bytes (opened (first_of t toggle)))
      × LeftOf (length c.part) (opened (first_of t toggle)) (first_of t toggle) bytes (turn timeout c (first_of t toggle) bytes)

-- ---- the slot after a delivery

-- a stamp that is young, counted from another: the 32-bit difference with wrapping counts and is not over the timeout
pub record Young (timeout from stamp : ℕ) : Type 0 where
  pub counts : (stamp + 2 ^ 32 - from) % 2 ^ 32 < 2 ^ 31
  pub young : (stamp + 2 ^ 32 - from) % 2 ^ 32 ≤ timeout

-- fs brings the transfer t to source n, and no exception holds at its first frame, where the source's slot is this
pub record Arrives (s : Settings) (n : ℕ) (slot : Slot) (t : Sent) (fs : List Frame) : Type 0 where
  pub sent : SentTo s.port n t
  pub frames : only s.port n fs ≡ frames_sent t
  pub clear : NoException s.timeout t slot

pub record Settles (s : Settings) (n : ℕ) (slot : List Frame → Slot) : Type 0 where
  -- the slot expects the next ID, has the time of the transfer's FIRST frame, and no session
  pub settled : (history fs : List Frame) (t : Sent) → Arrives s n (slot history) t fs
      → slot (history ++ fs) ≡ record { expected = record { 0 = (t.transfer_id + 1) % 32 }; last_time = Some (t.at 0); session = None }
  -- a resend in time is then a repeat
  pub again : (history fs : List Frame) (t : Sent) → Arrives s n (slot history) t fs → (stamp : ℕ) → Young s.timeout (t.at 0) stamp
      → IsRepeat s.timeout (slot (history ++ fs)) t.transfer_id stamp
  -- and a transfer with the next ID meets no exception
  pub next : (history fs : List Frame) (t : Sent) → Arrives s n (slot history) t fs → (u : Sent) → u.transfer_id ≡ (t.transfer_id + 1) % 32
      → NoException s.timeout u (slot (history ++ fs))

-- ---- delivered bytes stay

-- a frame that can open a session: a start that is not also an end
abbrev pub opens : Frame → Bool
opens f = (parsed_tail (tail_of f.bytes)).start && not (parsed_tail (tail_of f.bytes)).end

abbrev pub NoneOpens : List Frame → Type 0
NoneOpens [] = Unit {0}
NoneOpens (f ∷ fs) = (opens f ≡ false) × NoneOpens fs

pub record Stays (s : Settings) (n : ℕ) (slot : List Frame → Slot) (store : List Frame → List ℕ) : Type 0 where
  -- where source n has no session, as after a delivery, its part stays as it is until a frame of its own can open one
  pub part : (history fs : List Frame) → (slot history).session ≡ None → NoneOpens (only s.port n fs)
      → part_of s.extent n (store (history ++ fs)) ≡ part_of s.extent n (store history)
  -- bytes behind the 128 parts never change
  pub beyond : (history fs : List Frame) → drop (nodes * s.extent) (store (history ++ fs)) ≡ drop (nodes * s.extent) (store history)

-- ---- THE CONFESSION: what comes of a cable that lets a scan through twice

-- each frame, and right after it the same once more; frame k at the time at k, its copy at the time copied k
abbrev pub stuttering : ℕ → Bool → (ℕ → ℕ) → (ℕ → ℕ) → List (List ℕ) → List Frame
stuttering id loopback at copied [] = []
stuttering id loopback at copied (bytes ∷ more) =
    record { stamp = at 0; id = id; loopback = loopback; bytes = bytes }
    ∷ record { stamp = copied 0; id = id; loopback = loopback; bytes = bytes }
    ∷ stuttering id loopback (λ k. at (suc k)) (λ k. copied (suc k)) more

-- the same transfer at other times
abbrev pub at_times : (ℕ → ℕ) → Sent → Sent
at_times at t = record {
  mtu = t.mtu;
  transfer_id = t.transfer_id;
  payload = t.payload;
  can_id = t.can_id;
  header = t.header;
  loopback = t.loopback;
  at = at;
}

pub record Confession (s : Settings) (n : ℕ) (hears : (Frame → Bool) → List Frame → List Frame → List Told) (slot : List Frame → Slot) : Type 0 where
  -- a transfer that was delivered, whose frames all come a second time in order right after: the copy's first frame in time, nothing more is delivered, whatever
  -- the later stamps
  pub twice : (history fs gs : List Frame) (t : Sent) → Arrives s n (slot history) t fs → (at : ℕ → ℕ) → only s.port n gs ≡ frames_sent (at_times at t)
      → Young s.timeout (t.at 0) (at 0) → Quiet (map plain (hears (is_from s.port n) (history ++ fs) gs))
  -- each frame again right after itself: one delivery, if the copy of the LAST is in time, counted from the first frame's stamp
  pub stuttered : (history fs : List Frame) (t : Sent) → SentTo s.port n t → NoException s.timeout t (slot history)
      → (copied : ℕ → ℕ) → only s.port n fs ≡ stuttering t.can_id t.loopback t.at copied (frames_of t.mtu t.transfer_id t.payload)
      → Young s.timeout (t.at 0) (copied (frames t.mtu (length t.payload) - 1))
      → map plain (hears (is_from s.port n) history fs)
      ≡ replicate (2 * frames t.mtu (length t.payload) - 2) silence ++ (owed s.extent t ∷ silence ∷ [])
