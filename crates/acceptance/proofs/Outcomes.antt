-- No second outcome. Most promises are `r ≡ ..`, an equation of the whole result: two results that meet it are one. Here are those that have another form.
use Rattle.std.specs.Prelude.{Result}
use Rattle.rules.specs.declared.send.Outgoing.{Outgoing}
use Rattle.rules.specs.declared.refusal.Refusal.{Refusal}
use mathlib.Core.Path.{◌≡◌, sym, ap, ap₂, ◌∙◌}
use mathlib.Core.List.{List}
use Prim.Native.Nat.{ℕ}
use Rattle.blocks.specs.Laid.{Copied}
use Rattle.rules.specs.declared.receive.Received.{Received}
use Rattle.rules.specs.declared.send.Transfer.{Transfer}
use Rattle.rules.specs.declared.subscription.Settings.{Settings}
use Rattle.rules.specs.Frames.{Frame}
use Rattle.rules.specs.Sending.{judged, granted, answer, queued_after, counted}
use Rattle.rules.specs.Answers.{answer_of}
use Rattle.queue.specs.declared.ArrayQueue.{ArrayQueue}
use Rattle.queue.proofs.Alike.{Alike}
use Rattle.tx.specs.declared.CanTransmitter.{CanTransmitter}
use Rattle.tx.specs.declared.Sent.{Sent}
use Rattle.tx.specs.Send.{counts_of, with_counts, verdict, free_after, Sends}
use Rattle.rx.specs.Accept.{closes, accepted}
use Rattle.rx.proofs.Tied.{no_second_closing}

-- any promise that is an equation
pub one_outcome : {A : Type 0} {a b c : A} → a ≡ c → b ≡ c → a ≡ b
one_outcome p q = p ∙ sym q

-- `blocks::copy`: how many bytes went over, and what the destination is after it
pub one_copy : {s d after other : List ℕ} {n k : ℕ} → Copied s d n after → Copied s d k other → (n ≡ k) × (after ≡ other)
one_copy p q = (one_outcome p.counted q.counted, one_outcome p.copied q.copied)

-- `Subscription::accept`: answer, words and store
pub one_acceptance : (s : Settings) (words : List (List ℕ)) (store : List ℕ) (f : Frame) (q r : Result Received Refusal) (w v : List (List ℕ)) (t u : List ℕ)
    → closes (answer_of q) w t ≡ accepted s words store f → closes (answer_of r) v u ≡ accepted s words store f → (q ≡ r) × (w ≡ v) × (t ≡ u)
one_acceptance s words store f q r w v t u p o = no_second_closing q r w v t u (one_outcome p o)

-- `CanTransmitter::push`, on queues that are alike: answer and transmitter are the same, and the queues after it are alike
module _ {t : CanTransmitter} {q r : ArrayQueue} {a b : List (List ℕ)} (w : Alike q a r b) (transfer : Transfer) (payload : List ℕ) where
  pub one_send : {x y : Sent} {a' b' : List (List ℕ)} → Sends (verdict t q a transfer payload) t q a transfer payload x a'
      → Sends (verdict t r b transfer payload) t r b transfer payload y b' → (x.answer ≡ y.answer) × (x.transmitter ≡ y.transmitter) × Alike x.queue a' y.queue b'
  one_send p o =
      let j : verdict t q a transfer payload ≡ verdict t r b transfer payload = ap (λ (n : ℕ). granted n (judged t.mtu transfer payload)) w.left in (
        p.answered ∙ ap answer j ∙ sym o.answered,
        p.counts ∙ ap (λ (k : Result Outgoing Refusal). with_counts t (counted k (counts_of t))) j ∙ sym o.counts,
        record {
          queued = p.queued ∙ ap₂ (λ (k : Result Outgoing Refusal) (fs : List Frame). queued_after k transfer payload fs) j w.queued ∙ sym o.queued;
          left = p.left ∙ ap₂ free_after j w.left ∙ sym o.left;
          capacity = p.capacity ∙ w.capacity ∙ sym o.capacity;
        },
      )
