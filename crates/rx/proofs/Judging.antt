-- A received frame, judged: the store first, then what the frame is to the subscription.
use Rattle.std.specs.Prelude.{None, Option, Some, Ok, Result}
use Rattle.rules.specs.declared.refusal.Refusal.{Refusal}
use Rattle.rules.specs.declared.types.CanNodeId.{CanNodeId}
use Rattle.std.proofs.Common.{◌≡◌, ℕ, ◌*◌, ◌<◌, ◌≤◌, List, refl, le-leb}
use borrow.Author.Tests.{lt-leb}
use Rattle.rules.specs.declared.refusal.Refusal.TheVariants.{StoreTooSmall}
use Rattle.rules.specs.declared.subscription.Port.{Port}
use Rattle.rules.specs.declared.subscription.Settings.{Settings}
use Rattle.rules.specs.declared.receive.Arrival.{Arrival}
use Rattle.rules.specs.Limits.{nodes}
use Rattle.rules.specs.Frames.{Frame}
use Rattle.rules.specs.Answers.{Answer, refused_by}
use Rattle.rules.specs.Receiver.{before_tail, reading, source_in, by_reading, judged}
use Rattle.rules.proofs.Receiver.{source_known}
use Rattle.rx.specs.Accept.{Known}

module _ {A : Type 0} (s : Settings) (room : ℕ) (f : Frame) (same : Answer → A) (slot : ℕ → Arrival → List ℕ → A) where
  -- a store that is too small
  pub too_small : room < nodes * s.extent → judged s room f same slot ≡ same (refused_by StoreTooSmall)
  unfolding judged
  too_small h = rw (lt-leb _ _ h)

  -- otherwise the frame is read
  pub read_as : (r : Result (Option Arrival) Refusal) → nodes * s.extent ≤ room → reading s.port f ≡ r → judged s room f same slot ≡ by_reading r (before_tail f.bytes) same slot
  unfolding judged
  read_as r h e = rw (le-leb _ _ h, e)

-- a frame that is ours names a source that has a slot, or none
pub ours_known : (port : Port) (f : Frame) (a : Arrival) → reading port f ≡ Ok (Some a) → Known (source_in a.header)
ours_known port f a e = go (source_in a.header) refl
  where
    go : (x : Option CanNodeId) → source_in a.header ≡ x → Known x
    go (Some n) q = (source_known port f a n e q).0
    go None q = tt
