-- From the verdict to what a send promises: a refused send changes nothing but its count, a done one has put the frames of the published rule.
use Rattle.std.specs.Prelude.{Err, Ok, Result}
use Rattle.std.proofs.Common.{◌≡◌, ℕ, List, length, sym, refl, ap, ◌∙◌, subst, arith}
use Rattle.rules.specs.declared.refusal.Refusal.{Refusal}
use Rattle.rules.specs.declared.stats.FrameStats.{FrameStats}
use Rattle.rules.specs.declared.send.Transfer.{Transfer}
use Rattle.rules.specs.declared.send.Outgoing.{Outgoing}
use Rattle.rules.specs.Transfer.{frames_of}
use Rattle.rules.specs.Sending.{counted, marks_of}
use Rattle.rules.proofs.Transfer.{frames_count}
use Rattle.rules.proofs.Judged.{Sound}
use Rattle.queue.specs.declared.ArrayQueue.{ArrayQueue}
use Rattle.tx.specs.declared.CanTransmitter.{CanTransmitter}
use Rattle.tx.specs.declared.Sent.{Sent}
use Rattle.tx.specs.Send.{counts_of, with_counts, Sends, Puts}

module _ (j : Result Outgoing Refusal) (t : CanTransmitter) (q : ArrayQueue) (ps : List (List ℕ)) (transfer : Transfer) (payload : List ℕ) (r : Sent) where
  pub sends_refused : (why : Refusal) → j ≡ Err why → r ≡ record { transmitter = with_counts t (counted (Err why) (counts_of t)); queue = q; answer = Err why }
      → Sends j t q ps transfer payload r ps
  sends_refused why e er =
      subst (λ (k : Result Outgoing Refusal). Sends k t q ps transfer payload r ps) (sym e)
      (subst (λ (s : Sent). Sends (Err why) t q ps transfer payload s ps) (sym er)
      (record { answered = refl; counts = refl; queued = refl; left = refl; capacity = refl; kept = (refl, refl) }))

  pub sends_done : (o : Outgoing) (q' : ArrayQueue) (ps' : List (List ℕ)) → j ≡ Ok o → Sound transfer payload o
      → r ≡ record { transmitter = with_counts t (counted (Ok o) (counts_of t)); queue = q'; answer = Ok tt }
      → Puts (marks_of transfer o.id) (frames_of o.mtu transfer.transfer_id.0 payload) q ps q' ps' → Sends j t q ps transfer payload r ps'
  sends_done o q' ps' e sound er p =
      let many : o.stats.frames ≡ length (frames_of o.mtu transfer.transfer_id.0 payload) =
      ap (λ (s : FrameStats). s.frames) sound.plan ∙ sym (frames_count o.mtu payload transfer.transfer_id.0) in
      subst (λ (k : Result Outgoing Refusal). Sends k t q ps transfer payload r ps') (sym e)
      (subst (λ (s : Sent). Sends (Ok o) t q ps transfer payload s ps') (sym er)
      (record {
        answered = refl;
        counts = refl;
        queued = p.queued;
        left = omega (arith, p.left);
        capacity = p.capacity;
        kept = tt;
      }))
