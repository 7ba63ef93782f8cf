-- Frames put one after the other: a frame that finds a place is pushed, and what is still owed falls by each frame that is put.
use Rattle.std.specs.Prelude.{Ok, Result}
use Rattle.std.proofs.Common.{◌≡◌, ℕ, suc, ◌+◌, ◌-◌, ◌<◌, ◌≤◌, Bool, true, false, not, List, [], ◌∷◌, ◌++◌, length, take, drop, refl, ap, ◌∙◌, subst, arith, le-leb}
use Rattle.rules.specs.declared.frame.Marks.{Marks}
use Rattle.rules.specs.declared.refusal.Refusal.{Refusal}
use Rattle.rules.specs.Limits.{greatest_can_id, greatest_frame}
use Rattle.rules.specs.TailByte.{tail_byte}
use Rattle.rules.specs.Transfer.{tailed, cut}
use Rattle.rules.specs.Frames.{frame}
use Rattle.rules.specs.Queue.{pushed, after}
use Rattle.rules.specs.Sending.{all_pushed}
use Rattle.rules.proofs.Transfer.{cut_count}
use Rattle.queue.specs.declared.ArrayQueue.{ArrayQueue}
use Rattle.queue.specs.declared.Pushed.{Pushed}
use Rattle.queue.specs.Queue.{contents, free, capacity_of, Places}
use Rattle.tx.specs.Send.{Puts}
use Rattle.tx.proofs.Cuts.{cut_on}

-- ---- one frame

pub put_one : (marks : Marks) (f' f : List ℕ) {q : ArrayQueue} {ps ps' : List (List ℕ)} {r : Pushed} → f' ≡ f → Places pushed q ps (frame marks f') r ps'
    → 0 < free q ps → marks.id ≤ greatest_can_id → length f ≤ greatest_frame → Puts marks (f ∷ []) q ps r.queue ps'
put_one marks f' f {q} {ps} {ps'} {r} same p place id short =
    let l : length f' ≤ greatest_frame = rw same short in
    let e : r.answer ≡ Ok tt = p.answered ∙ simp (le-leb _ _ l, le-leb _ _ id, le-leb 1 (free q ps) place) in
    record {
      queued = p.queued ∙ ap (λ (a : Result (Unit {0}) Refusal). after a (pushed (frame marks f') (contents q ps)) (contents q ps)) e ∙ ap (λ (x : List ℕ). pushed (frame marks x) (contents q ps)) same;
      left = omega (arith, p.left ∙ ap (λ (a : Result (Unit {0}) Refusal). after a (free q ps - 1) (free q ps)) e);
      capacity = p.capacity;
    }

pub put_two : (marks : Marks) (f g : List ℕ) {q q₁ q₂ : ArrayQueue} {ps ps₁ ps₂ : List (List ℕ)}
    → Puts marks (f ∷ []) q ps q₁ ps₁ → Puts marks (g ∷ []) q₁ ps₁ q₂ ps₂ → Puts marks (f ∷ g ∷ []) q ps q₂ ps₂
put_two marks f g a b =
    record {
      queued = b.queued ∙ ap (pushed (frame marks g)) a.queued;
      left = omega (arith, a.left, b.left);
      capacity = b.capacity ∙ a.capacity;
    }

-- ---- what is owed

-- from here the frames fs are still to be put, so that in all fs₀ will have been put from there; and there are places for them
pub record Owes (marks : Marks) (fs : List (List ℕ)) (q : ArrayQueue) (ps : List (List ℕ)) (fs₀ : List (List ℕ)) (q₀ : ArrayQueue) (ps₀ : List (List ℕ)) : Type 0 where
  pub same : all_pushed marks fs (contents q ps) ≡ all_pushed marks fs₀ (contents q₀ ps₀)
  pub left : free q ps + length fs₀ ≡ free q₀ ps₀ + length fs
  pub enough : length fs ≤ free q ps
  pub capacity : capacity_of q ≡ capacity_of q₀

pub owes_all : (marks : Marks) (fs : List (List ℕ)) (q : ArrayQueue) (ps : List (List ℕ)) → length fs ≤ free q ps → Owes marks fs q ps fs q ps
owes_all marks fs q ps h = record { same = refl; left = refl; enough = h; capacity = refl }

module _ {marks : Marks} {fs fs₀ : List (List ℕ)} {q q₀ q' : ArrayQueue} {ps ps₀ ps' : List (List ℕ)} where
  pub owes_less : {f : List ℕ} → Owes marks (f ∷ fs) q ps fs₀ q₀ ps₀ → Puts marks (f ∷ []) q ps q' ps' → Owes marks fs q' ps' fs₀ q₀ ps₀
  owes_less o p =
      record {
        same = ap (all_pushed marks fs) p.queued ∙ o.same;
        left = omega (arith, p.left, o.left);
        enough = omega (arith, p.left, o.enough);
        capacity = p.capacity ∙ o.capacity;
      }

  pub owes_paid : Owes marks fs q ps fs₀ q₀ ps₀ → Puts marks fs q ps q' ps' → Puts marks fs₀ q₀ ps₀ q' ps'
  owes_paid o p =
      record {
        queued = p.queued ∙ o.same;
        left = omega (arith, p.left, o.left);
        capacity = p.capacity ∙ o.capacity;
      }

-- a place is free for each frame that is owed
pub owes_place : (marks : Marks) (m id : ℕ) (start toggle : Bool) (left : ℕ) (ys : List ℕ) {q q₀ : ArrayQueue} {ps ps₀ fs₀ : List (List ℕ)}
    → Owes marks (cut m id start toggle left ys) q ps fs₀ q₀ ps₀ → left < free q ps
owes_place marks m id start toggle left ys o = omega (arith, o.enough, cut_count m id start toggle left ys)

-- one turn of the loop: a frame of payload is put, whatever stands behind the payload
pub turn : (marks : Marks) (id m n : ℕ) (ys part rest behind : List ℕ) (start toggle : Bool) {q q₀ q' : ArrayQueue} {ps ps₀ ps' fs₀ : List (List ℕ)}
    → m ≤ length ys → part ≡ take m ys → rest ≡ drop m ys → 0 < n
    → Owes marks (cut m id start toggle n (ys ++ behind)) q ps fs₀ q₀ ps₀
    → Puts marks (tailed part (tail_byte start false toggle id) ∷ []) q ps q' ps'
    → Owes marks (cut m id false (not toggle) (n - 1) (rest ++ behind)) q' ps' fs₀ q₀ ps₀
turn marks id m n ys part rest behind start toggle {q} {q₀} {q'} {ps} {ps₀} {ps'} {fs₀} h ep er w o p =
    let l : n ≡ suc (n - 1) = omega arith in
    let c = ap (λ (k : ℕ). cut m id start toggle k (ys ++ behind)) l ∙ cut_on m id start toggle (n - 1) ys behind h in
    rw er (owes_less (subst (λ (x : List (List ℕ)). Owes marks x q ps fs₀ q₀ ps₀) c o) (rw ep at p))

-- ---- the end

pub one_done : (marks : Marks) (m id : ℕ) (start toggle : Bool) (n : ℕ) (ys : List ℕ) {q q₁ : ArrayQueue} {ps ps₁ : List (List ℕ)}
    → n ≡ 0 → Puts marks (tailed ys (tail_byte start true toggle id) ∷ []) q ps q₁ ps₁ → Puts marks (cut m id start toggle n ys) q ps q₁ ps₁
one_done marks m id start toggle n ys e p = rw e p

pub two_done : (marks : Marks) (m id : ℕ) (start toggle : Bool) (n : ℕ) (ys : List ℕ) {q q₁ q₂ : ArrayQueue} {ps ps₁ ps₂ : List (List ℕ)}
    → n ≡ 1 → (zs : List ℕ) → zs ≡ drop m ys → Puts marks (tailed (take m ys) (tail_byte start false toggle id) ∷ []) q ps q₁ ps₁
    → Puts marks (tailed zs (tail_byte false true (not toggle) id) ∷ []) q₁ ps₁ q₂ ps₂ → Puts marks (cut m id start toggle n ys) q ps q₂ ps₂
two_done marks m id start toggle n ys e zs ez p r = rw e (put_two marks _ _ p (rw ez at r))
