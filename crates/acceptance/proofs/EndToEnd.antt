-- One scan in, one scan out. A send that was done queued the published rule's frames under the CAN ID that its header makes (the sender's promise), an ordered
-- queue has them together (the book's insertion), pops hand them out so (the queue's promise), and their ID reads back as that header: they are a transfer of
-- demand 3.
use Rattle.std.specs.Prelude.{Err, Ok, Result, Option, Some}
use Rattle.rules.specs.declared.refusal.Refusal.{Refusal}
use mathlib.Core.Path.{◌≡◌, refl, sym, ap, ap₂, subst, ◌∙◌}
use mathlib.Core.List.{List, [], ◌∷◌, ◌++◌, map}
use Prim.Native.Nat.{ℕ, suc, ◌*◌, ◌≤◌}
use native.Mathlib.Omega.{arith}
use lib.ListN.{length, length-append, length-map}
use Rattle.rules.specs.declared.frame.Marks.{Marks}
use Rattle.rules.specs.declared.send.Outgoing.{Outgoing}
use Rattle.rules.specs.declared.subscription.Settings.{Settings}
use Rattle.rules.specs.Limits.{nodes}
use Rattle.rules.specs.Transfer.{frames_of}
use Rattle.rules.specs.Frames.{Frame, frame}
use Rattle.rules.specs.Queue.{Ordered, first, rest}
use Rattle.rules.specs.Sending.{answer, marks_of, queued_after, all_pushed}
use Rattle.rules.specs.Histories.{only}
use Rattle.rules.specs.Demand3.{arriving, SentTo, frames_sent}
use Rattle.rules.proofs.CanId.{read_back}
use Rattle.rules.proofs.Judged.{Sound}
use Rattle.rules.proofs.Transfer.{frames_count}
use Rattle.rules.proofs.Together.{CutAt, cut_at, together}
use Rattle.queue.specs.declared.ArrayQueue.{ArrayQueue}
use Rattle.queue.specs.declared.Popped.{Popped}
use Rattle.queue.specs.Queue.{contents, free}
use Rattle.queue.specs.Place.{shown}
use Rattle.queue.proofs.Shown.{shown_first}
use Rattle.queue.proofs.Drain.{Run, stop, next}
use Rattle.acceptance.specs.Runs.{Lent}
use Rattle.acceptance.specs.EndToEnd.{arrived_at, SendDone, ForUs, judged_of, frames_out, scan_of, with_shown, handed_out, OneScan}
use Rattle.rules.proofs.Granted.{sound}
use Rattle.acceptance.proofs.Demand3.{demand3_of_code}

-- ---- what a send that was done sent

-- what is answered "done" was judged to go
went : (j : Result Outgoing Refusal) → answer j ≡ Ok tt → (o : Outgoing) × (j ≡ Ok o)
went (Ok o) e = (o, refl)
went (Err r) e = let z : ◌≡◌ {A = ℕ} 0 1 = cc in absurd (omega arith)

-- frames with the same marks, as they arrive
arrived_marks : (marks : Marks) (bs : List (List ℕ)) (at : ℕ → ℕ) → arrived_at at (map (frame marks) bs) ≡ arriving marks.id marks.loopback at bs
arrived_marks marks [] at = refl
arrived_marks marks (b ∷ bs) at =
    ap (λ (l : List Frame). record { stamp = at 0; id = marks.id; loopback = marks.loopback; bytes = b } ∷ l) (arrived_marks marks bs (λ k. at (suc k)))

module _ (d : SendDone) (o : Outgoing) (goes : judged_of d ≡ Ok o) where
  abbrev bytes_out : List (List ℕ)
  bytes_out = frames_of o.mtu d.transfer.transfer_id.0 d.payload

  abbrev marks_out : Marks
  marks_out = marks_of d.transfer o.id

  judged_so : Sound d.transfer d.payload o
  judged_so = sound (free d.queue d.places) d.transmitter.mtu d.transfer d.payload o goes

  -- its frames stand together in an ordered queue, in their order
  stands_together : Ordered (contents d.queue d.places)
      → (front : List Frame) × (back : List Frame) × (contents d.sent.queue d.after ≡ front ++ (frames_out d o ++ back))
  stands_together ordered =
      let queued = d.promise.queued ∙ ap (λ (j : Result Outgoing Refusal). queued_after j d.transfer d.payload (contents d.queue d.places)) goes in
      let c : CutAt o.id.0 (contents d.queue d.places) = cut_at o.id.0 (contents d.queue d.places) ordered in
      (c.front, c.back, queued ∙ ap (all_pushed marks_out bytes_out) c.whole ∙ together marks_out bytes_out c.front c.back c.low c.high)

  -- it is a transfer of demand 3, and its frames as they arrive are those of that transfer
  sent_to : (s : Settings) (n : ℕ) (at : ℕ → ℕ) → ForUs s n d → SentTo s.port n (scan_of d o at)
  sent_to s n at u = record {
    addressed = record { read = read_back d.transfer.header d.payload o.id judged_so.made; wanted = u.wanted; source = u.source };
    id = omega (arith, judged_so.transfer_id);
  }

  arrived_sent : (at : ℕ → ℕ) (fs : List Frame) → fs ≡ frames_out d o → arrived_at at fs ≡ frames_sent (scan_of d o at)
  arrived_sent at fs e = ap (arrived_at at) e ∙ arrived_marks marks_out bytes_out at

-- ---- what is popped

abbrev shown_by : List Popped → List (Option Frame)
shown_by rs = map (λ (r : Popped). shown r.held) rs

-- a run of pops, cut behind those that handed out xs; ys are queued then
record PopsCut (places : List (List ℕ)) (rs : List Popped) (xs ys : List Frame) : Type 0 where
  before : List Popped
  behind : List Popped
  whole : rs ≡ before ++ behind
  handed : shown_by before ≡ map Some xs
  queue : ArrayQueue
  left : contents queue places ≡ ys
  run : Run places queue behind

-- the frames that stand in front are handed out first
pops_cut : {places : List (List ℕ)} {q : ArrayQueue} {rs : List Popped} → Run places q rs → (xs ys : List Frame) → contents q places ≡ xs ++ ys
    → length xs ≤ length rs → PopsCut places rs xs ys
pops_cut {places} {q} {rs} run [] ys e l = record { before = []; behind = rs; whole = refl; handed = refl; queue = q; left = e; run = run }
pops_cut stop (x ∷ xs) ys e l = absurd (omega arith)
pops_cut {places} {q} (next {r = r} p run) (x ∷ xs) ys e l =
    let c : PopsCut places _ xs ys = pops_cut run xs ys (p.queued ∙ ap rest e) (omega arith) in
    record {
      before = r ∷ c.before;
      behind = c.behind;
      whole = ap (λ (l : List Popped). r ∷ l) c.whole;
      handed = ap₂ (λ (y : Option Frame) (ys : List (Option Frame)). y ∷ ys) (ap shown p.answered ∙ shown_first q places ∙ ap first e) c.handed;
      queue = c.queue;
      left = c.left;
      run = c.run;
    }

-- pops that showed these frames handed them out
shown_handed : (rs : List Popped) (fs : List Frame) → shown_by rs ≡ map Some fs → handed_out rs ≡ fs
shown_handed [] [] e = refl
shown_handed [] (f ∷ fs) e = let z : ◌≡◌ {A = ℕ} 0 1 = cc in absurd (omega arith)
shown_handed (r ∷ rs) [] e = let z : ◌≡◌ {A = ℕ} 0 1 = cc in absurd (omega arith)
shown_handed (r ∷ rs) (f ∷ fs) e =
    let h : shown r.held ≡ Some f = cc in
    let t : shown_by rs ≡ map Some fs = cc in
    ap₂ with_shown h (shown_handed rs fs t)

shown_count : (rs : List Popped) (fs : List Frame) → shown_by rs ≡ map Some fs → length rs ≡ length fs
shown_count rs fs e = sym (length-map rs (λ (r : Popped). shown r.held)) ∙ ap length e ∙ length-map fs Some

-- ---- the statement

module _ (s : Settings) (m : Lent) (n : ℕ) (many : length m.words ≡ nodes) (room : nodes * s.extent ≤ length m.store) where
  -- ONE IN, ONE OUT
  pub one_scan : OneScan s m n
  one_scan d u ordered rs run all =
      let w = went (judged_of d) (sym d.promise.answered ∙ d.done) in
      let o : Outgoing = w.0 in
      let t = stands_together d o w.1 ordered in
      let front : List Frame = t.0 in
      let back : List Frame = t.1 in
      let long = ap length t.2 ∙ length-append front (frames_out d o ++ back) in
      let c = pops_cut run front (frames_out d o ++ back) t.2 (omega arith) in
      let enough = ap length c.whole ∙ length-append c.before c.behind in
      let passed = shown_count c.before front c.handed in
      let k = pops_cut c.run (frames_out d o) back c.left (omega (arith, length-append (frames_out d o) back)) in
      let own = shown_handed k.before (frames_out d o) k.handed in
      record {
        out = o;
        goes = w.1;
        front = c.before;
        mid = k.before;
        back = k.behind;
        pops = c.whole ∙ ap (λ (l : List Popped). c.before ++ l) k.whole;
        many = shown_count k.before (frames_out d o) k.handed
            ∙ length-map (bytes_out d o w.1) (frame (marks_out d o w.1)) ∙ frames_count o.mtu d.payload d.transfer.transfer_id.0;
        handed = own;
        good = λ at.
            subst (λ (fs : List Frame). only s.port n fs ≡ fs) (sym (arrived_sent d o w.1 at (handed_out k.before) own))
            ((demand3_of_code s m n many room).own (scan_of d o at) (sent_to d o w.1 s n at u));
        delivered = λ history fs at e clear.
            (demand3_of_code s m n many room).deliver history fs (scan_of d o at) (sent_to d o w.1 s n at u)
            (e ∙ arrived_sent d o w.1 at (handed_out k.before) own) clear;
      }
