-- What a function promises of states, a door promises of those that it is lent.
use mathlib.Core.Path.{◌≡◌, sym, ap, ◌∙◌, subst}
use mathlib.Core.List.{List}
use Prim.Native.Nat.{ℕ}
use Rattle.std.specs.Prelude.{Result}
use Rattle.rules.specs.declared.frame.Marks.{Marks}
use Rattle.rules.specs.declared.refusal.Refusal.{Refusal}
use Rattle.rules.specs.declared.send.Transfer.{Transfer}
use Rattle.rules.specs.declared.subscription.Port.{Port}
use Rattle.rules.specs.declared.receive.Received.{Received}
use Rattle.rules.specs.Frames.{Frame, frame}
use Rattle.rules.specs.Answers.{answer_of}
use Rattle.queue.specs.declared.ArrayQueue.{ArrayQueue}
use Rattle.queue.specs.declared.Pushed.{Pushed}
use Rattle.queue.specs.declared.Popped.{Popped}
use Rattle.queue.specs.Queue.{Places, Pops}
use Rattle.tx.specs.declared.CanTransmitter.{CanTransmitter}
use Rattle.tx.specs.declared.Sent.{Sent}
use Rattle.tx.specs.Send.{verdict, Sends}
use Rattle.rx.specs.Accept.{closes, accepted}
use Rattle.dolomisc.specs.declared.answers.Answer.{Answer}
use Rattle.dolomisc.specs.declared.headers.FlatMarks.{FlatMarks}
use Rattle.dolomisc.specs.declared.queueing.Frame.{Frame as FlatFrame}
use Rattle.dolomisc.specs.declared.sending.FlatTransfer.{FlatTransfer}
use Rattle.dolomisc.specs.declared.receiving.FlatSubscription.{FlatSubscription}
use Rattle.dolomisc.specs.declared.receiving.FlatReceived.{FlatReceived}
use Rattle.dolomisc.specs.Flat.{told, marks_from, port_from}
use Rattle.dolomisc.specs.Doors.{held_told, transfer_from, verdict_through, PlacedThrough, PoppedThrough, SentThrough}
use Rattle.dolomisc.specs.Received.{settings_from, received_told, receives, received_of}

module _ (lent : ArrayQueue) (places : List (List ℕ)) (q : ArrayQueue) (same : q ≡ lent) where
  -- a frame that was to be placed
  pub placed_through : (put : Frame → List Frame → List Frame) (flat : FlatMarks) (m : Marks) (bytes : List ℕ) (r : Pushed) (after : ArrayQueue) (places' : List (List ℕ)) (a : Answer)
      → m ≡ marks_from flat → Places put q places (frame m bytes) r places' → after ≡ r.queue → a ≡ told r.answer
      → PlacedThrough put lent places (frame (marks_from flat) bytes) a after places'
  placed_through put flat m bytes r after places' a marks promise left answered =
      let f : Frame = frame (marks_from flat) bytes in
      let p : Places put lent places f r places' =
      subst (λ (x : Marks). Places put lent places (frame x bytes) r places') marks (subst (λ (x : ArrayQueue). Places put x places (frame m bytes) r places') same promise) in
      record {
        told = answered ∙ ap told p.answered;
        left = subst (λ (x : Pushed). Places put lent places f x places')
            (ap (λ (x : ArrayQueue). record { queue = x; answer = r.answer }) (sym left) ∙ ap (λ x. record { queue = after; answer = x }) p.answered) p;
      }

  -- a frame that was popped
  pub popped_through : (r : Popped) (after : ArrayQueue) (a : FlatFrame) → Pops q places r → after ≡ r.queue → a ≡ held_told r.held → PoppedThrough lent places a after
  popped_through r after a promise left answered =
      let p : Pops lent places r = subst (λ (x : ArrayQueue). Pops x places r) same promise in
      record {
        told = answered ∙ ap held_told p.answered;
        left = subst (λ (x : Popped). Pops lent places x)
            (ap (λ (x : ArrayQueue). record { queue = x; held = r.held }) (sym left) ∙ ap (λ x. record { queue = after; held = x }) p.answered) p;
      }

  -- a transfer that was sent
  pub sent_through : (kept t : CanTransmitter) (flat : FlatTransfer) (transfer : Transfer) (payload : List ℕ) (r : Sent) (t' : CanTransmitter) (q' : ArrayQueue) (places' : List (List ℕ)) (a : Answer)
      → t ≡ kept → transfer ≡ transfer_from flat → Sends (verdict t q places transfer payload) t q places transfer payload r places'
      → t' ≡ r.transmitter → q' ≡ r.queue → a ≡ told r.answer
      → SentThrough (verdict_through kept lent places flat payload) kept lent places flat payload a t' q' places'
  sent_through kept t flat transfer payload r t' q' places' a same_t sameF promise leftT leftQ answered =
      let S : CanTransmitter → ArrayQueue → Transfer → Type 0 = λ x y z. Sends (verdict x y places z payload) x y places z payload r places' in
      let p : S kept lent (transfer_from flat) =
      subst (λ z. S kept lent z) sameF (subst (λ y. S kept y transfer) same (subst (λ x. S x q transfer) same_t promise)) in
      record {
        told = answered ∙ ap told p.answered;
        left = subst (λ (x : Sent). Sends (verdict_through kept lent places flat payload) kept lent places (transfer_from flat) payload x places')
            (ap (λ (x : CanTransmitter). record { transmitter = x; queue = r.queue; answer = r.answer }) (sym leftT)
            ∙ ap (λ (x : ArrayQueue). record { transmitter = t'; queue = x; answer = r.answer }) (sym leftQ)
            ∙ ap (λ x. record { transmitter = t'; queue = q'; answer = x }) p.answered) p;
      }

-- a frame that was received
pub received_through : (flat : FlatSubscription) (words : List (List ℕ)) (store : List ℕ) (marks : FlatMarks) (bytes : List ℕ) (port : Port) (m : Marks) (r : Result Received Refusal)
    (words' : List (List ℕ)) (store' : List ℕ) (a : FlatReceived)
    → port ≡ port_from flat.kind flat.port flat.node → m ≡ marks_from marks
    → closes (answer_of r) words' store' ≡ accepted (record { port = port; timeout = flat.timeout; extent = flat.extent }) words store (frame m bytes)
    → a ≡ received_told (answer_of r)
    → receives a words' store' ≡ received_of (accepted (settings_from flat) words store (frame (marks_from marks) bytes))
received_through flat words store marks bytes port m r words' store' a sameP sameM promise answered =
    ap (λ (x : FlatReceived). receives x words' store') answered
    ∙ ap received_of promise
    ∙ ap (λ (x : Port). received_of (accepted (record { port = x; timeout = flat.timeout; extent = flat.extent }) words store (frame m bytes))) sameP
    ∙ ap (λ (x : Marks). received_of (accepted (settings_from flat) words store (frame x bytes))) sameM
