-- Histories: frames that come one after the other, and what one source hears of them. The caller lends the same store at each call and writes nothing in it
-- between; an answer's bytes are read at once, from the frame and from the store as the call left it.
use Rattle.std.specs.Prelude.{ℕ, ◌%◌, Bool, true, false, cond, List, [], ◌∷◌, ◌==◌, None, Option, Some, Err, Ok, Result}
use Rattle.rules.specs.declared.receive.Arrival.{Arrival}
use Rattle.rules.specs.declared.refusal.Refusal.{Refusal}
use Rattle.rules.specs.declared.types.CanNodeId.{CanNodeId}
use Rattle.rules.specs.declared.subscription.Port.{Port}
use Rattle.rules.specs.declared.subscription.Settings.{Settings}
use Rattle.rules.specs.Limits.{nodes}
use Rattle.rules.specs.Frames.{Frame}
use Rattle.rules.specs.Answers.{Answer, shown}
use Rattle.rules.specs.Receiver.{Receiver, Outcome, reading, source_in, received}

-- an answer with the bytes that it shows
pub record Told : Type 0 where
  pub answer : Answer
  pub bytes : List ℕ

-- ---- runs, of whoever receives

-- what a frame is told, and the state that it leaves
pub record Reply (State : Type 0) : Type 0 where
  pub told : Told
  pub left : State

-- the state after a run of frames, of whoever replies so to each
abbrev pub run_of : {State : Type 0} → (State → Frame → Reply State) → State → List Frame → State
run_of reply w [] = w
run_of reply w (f ∷ fs) = run_of reply (reply w f).left fs

-- what the frames that pass a test are told, among all the others
abbrev pub heard_of : {State : Type 0} → (State → Frame → Reply State) → (Frame → Bool) → State → List Frame → List Told
heard_of reply test w [] = []
heard_of reply test w (f ∷ fs) = cond (test f) ((reply w f).told ∷ heard_of reply test (reply w f).left fs) (heard_of reply test (reply w f).left fs)

-- what is told after a history
abbrev pub hears_after : {State : Type 0} → (State → Frame → Reply State) → State → (Frame → Bool) → List Frame → List Frame → List Told
hears_after reply w test history fs = heard_of reply test (run_of reply w history) fs

-- ---- runs of the receiver

abbrev pub tells : Frame → Outcome → Told
tells f o = record { answer = o.answer; bytes = shown o.answer f.bytes o.receiver.store }

abbrev pub replies : Settings → Receiver → Frame → Reply Receiver
replies s w f = record { told = tells f (received s w f); left = (received s w f).receiver }

abbrev pub run : Settings → Receiver → List Frame → Receiver
run s w fs = run_of (replies s) w fs

abbrev pub heard_by : (Frame → Bool) → Settings → Receiver → List Frame → List Told
heard_by test s w fs = heard_of (replies s) test w fs

-- all that a run of frames is told
abbrev pub told : Settings → Receiver → List Frame → List Told
told s w fs = heard_by (λ f. true) s w fs

-- ---- one source among others

abbrev pub is_node : ℕ → Option CanNodeId → Bool
is_node n (Some m) = m.0 == n
is_node n None = false

abbrev pub read_from : ℕ → Result (Option Arrival) Refusal → Bool
read_from n (Ok (Some a)) = is_node n (source_in a.header)
read_from n (Ok None) = false
read_from n (Err r) = false

-- a good frame of source n for this subscription
unfoldable pub is_from : Port → ℕ → Frame → Bool
is_from port n f = read_from n (reading port f)

-- a frame whose CAN ID has n in its low seven bits, good or not
abbrev pub has_low : ℕ → Frame → Bool
has_low n f = f.id % nodes == n

-- the frames of a run that pass a test
abbrev pub kept : (Frame → Bool) → List Frame → List Frame
kept test [] = []
kept test (f ∷ fs) = cond (test f) (f ∷ kept test fs) (kept test fs)

-- the good frames of source n, and what they are told
abbrev pub only : Port → ℕ → List Frame → List Frame
only port n fs = kept (is_from port n) fs

abbrev pub heard : Settings → ℕ → Receiver → List Frame → List Told
heard s n w fs = heard_by (is_from s.port n) s w fs
