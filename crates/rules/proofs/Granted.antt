-- A send that goes was judged to go, and the queue had a place for each of its frames.
use Rattle.std.specs.Prelude.{Err, Ok, Result}
use Rattle.rules.specs.declared.refusal.Refusal.{Refusal}
use mathlib.Core.Path.{◌≡◌, refl, sym, ap, subst, ◌∙◌}
use mathlib.Core.List.{List}
use Prim.Native.Nat.{ℕ, ◌≤◌}
use native.Mathlib.Omega.{arith}
use borrow.Author.Tests.{leb-true}
use lib.Dec.{leb}
use lib.ListN.{length}
use Rattle.laws.proofs.Choose.{first_chosen}
use Rattle.rules.specs.declared.refusal.Refusal.TheVariants.{NoPlace}
use Rattle.rules.specs.declared.stats.FrameStats.{FrameStats}
use Rattle.rules.specs.declared.send.Transfer.{Transfer}
use Rattle.rules.specs.declared.send.Outgoing.{Outgoing}
use Rattle.rules.specs.Transfer.{frames_of}
use Rattle.rules.specs.Queue.{room_for}
use Rattle.rules.specs.Sending.{with_places, granted, judged}
use Rattle.rules.proofs.Judged.{Sound, goes_sound}
use Rattle.rules.proofs.Transfer.{frames_count}

pub granted_goes : (free : ℕ) (j : Result Outgoing Refusal) (o : Outgoing) → granted free j ≡ Ok o → (j ≡ Ok o) × (o.stats.frames ≤ free)
granted_goes free (Ok x) o e = go (room_for free x.stats.frames) refl e
  where
    go : (p : Result (Unit {0}) Refusal) → room_for free x.stats.frames ≡ p → with_places p x ≡ Ok o → (◌≡◌ {A = Result Outgoing Refusal} (Ok x) (Ok o)) × (o.stats.frames ≤ free)
    go (Ok _) r h =
        let c = first_chosen (leb x.stats.frames free) (Ok tt) (Err NoPlace) (Ok tt) r (λ w. let z : ◌≡◌ {A = ℕ} 0 1 = cc in omega arith) in
        let q : x ≡ o = cc in
        (h, subst (λ (y : Outgoing). y.stats.frames ≤ free) q (leb-true x.stats.frames free c.0))
    go (Err y) r h = let z : ◌≡◌ {A = ℕ} 0 1 = cc in absurd (omega arith)
granted_goes free (Err r) o e = let z : ◌≡◌ {A = ℕ} 0 1 = cc in absurd (omega arith)

module _ (free mtu : ℕ) (t : Transfer) (payload : List ℕ) (o : Outgoing) (goes : granted free (judged mtu t payload) ≡ Ok o) where
  -- what the judgement says of it
  pub sound : Sound t payload o
  sound = goes_sound mtu t payload o (granted_goes free (judged mtu t payload) o goes).0

  -- as many frames as the plan has ..
  pub many : length (frames_of o.mtu t.transfer_id.0 payload) ≡ o.stats.frames
  many = frames_count o.mtu payload t.transfer_id.0 ∙ sym (ap (λ (s : FrameStats). s.frames) sound.plan)

  -- .. and a free place for each
  pub room : length (frames_of o.mtu t.transfer_id.0 payload) ≤ free
  room = omega (arith, many, (granted_goes free (judged mtu t payload) o goes).1)
