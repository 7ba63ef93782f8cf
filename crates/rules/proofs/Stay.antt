-- DELIVERED BYTES STAY: a source without a session keeps its part until a frame of its own can open one, for only a session writes.
use Rattle.std.specs.Prelude.{None, Option, Some, Err, Ok, Result}
use Rattle.rules.specs.declared.refusal.Refusal.{Refusal}
use Rattle.rules.specs.declared.types.CanNodeId.{CanNodeId}
use Rattle.std.proofs.Common.{◌≡◌, ℕ, ◌*◌, false, not, ◌&&◌, List, [], ◌∷◌, drop, refl, ap, ◌∙◌}
use Rattle.rules.specs.declared.subscription.Settings.{Settings}
use Rattle.rules.specs.declared.receive.Arrival.{Arrival}
use Rattle.rules.specs.Limits.{nodes}
use Rattle.rules.specs.Frames.{Frame}
use Rattle.rules.specs.Source.{Cell}
use Rattle.rules.specs.Receiver.{before_tail, reading, Receiver as TheReceiver, source_in, received}
use Rattle.rules.specs.Histories.{run}
use Rattle.rules.specs.Beyond.{opens, NoneOpens}
use Rattle.rules.proofs.Source.{part_stays}
use Rattle.rules.proofs.Receiver.{ours_read, beyond_kept}
use Rattle.rules.proofs.OwnCourse.{turn_at, course}

module _ (s : Settings) where
  -- a frame that can open no session leaves a cell that has none its part, and no session
  pub turn_idle : (c : Cell) (f : Frame) → c.slot.session ≡ None → opens f ≡ false
      → ((turn_at s c f).cell.part ≡ c.part) × ((turn_at s c f).cell.slot.session ≡ None)
  unfolding turn_at
  turn_idle c f h o = go (reading s.port f) refl
    where
      Idle : Type 0
      Idle = ((turn_at s c f).cell.part ≡ c.part) × ((turn_at s c f).cell.slot.session ≡ None)

      from : (x : Option CanNodeId) (a : Arrival) → reading s.port f ≡ Ok (Some a) → source_in a.header ≡ x → Idle
      from None a e q = rw (e, q) (refl, h)
      from (Some m) a e q =
          rw (e, q)
          (part_stays s.timeout c a (before_tail f.bytes) h (ap (λ (b : Arrival). b.tail.start && not b.tail.end) (ours_read s.port f a e).1 ∙ o))

      go : (r : Result (Option Arrival) Refusal) → reading s.port f ≡ r → Idle
      go (Err r) e = rw e (refl, h)
      go (Ok None) e = rw e (refl, h)
      go (Ok (Some a)) e = from (source_in a.header) a e refl

  -- and so do many
  pub course_idle : (start : ℕ) (c : Cell) (fs : List Frame) → c.slot.session ≡ None → NoneOpens fs → (course s start c fs).cell.part ≡ c.part
  course_idle start c [] h none = refl
  course_idle start c (f ∷ fs) h none =
      let x = turn_idle c f h none.0 in
      course_idle start (turn_at s c f).cell fs x.1 none.1 ∙ x.0

  -- what lies behind the last part stays for ever
  pub run_beyond : (w : TheReceiver) (fs : List Frame) → drop (nodes * s.extent) (run s w fs).store ≡ drop (nodes * s.extent) w.store
  run_beyond w [] = refl
  run_beyond w (f ∷ fs) = run_beyond (received s w f).receiver fs ∙ beyond_kept s w f
