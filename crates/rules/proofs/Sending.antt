-- Laws of sending: the order is kept, equal IDs keep sending order, a send brings its frames and no others, and the counts count.
use Rattle.std.specs.Prelude.{Err, Ok, Result}
use Rattle.rules.specs.declared.send.Outgoing.{Outgoing}
use Rattle.rules.specs.declared.refusal.Refusal.{Refusal}
use Rattle.std.proofs.Common.{◌≡◌, ℕ, suc, ◌+◌, ◌%◌, ◌^◌, List, [], ◌∷◌, ◌++◌, map, length, sym, refl, ap, ◌∙◌, append_assoc, append-nil, arith}
use Rattle.rules.specs.declared.frame.Marks.{Marks}
use Rattle.rules.specs.Frames.{Frame, frame}
use Rattle.rules.specs.Queue.{pushed, Ordered, having}
use Rattle.rules.specs.Sending.{all_pushed, Counts, counted, counted_all}
use Rattle.rules.proofs.Queue.{push_ordered, push_last, push_others, push_length}

module _ (marks : Marks) where
  pub all_ordered : (fs : List (List ℕ)) (queued : List Frame) → Ordered queued → Ordered (all_pushed marks fs queued)
  all_ordered [] queued o = o
  all_ordered (f ∷ fs) queued o = all_ordered fs (pushed (frame marks f) queued) (push_ordered (frame marks f) queued o)

  pub all_length : (fs : List (List ℕ)) (queued : List Frame) → length (all_pushed marks fs queued) ≡ length fs + length queued
  all_length [] queued = omega arith
  all_length (f ∷ fs) queued = all_length fs (pushed (frame marks f) queued) ∙ omega (arith, push_length (frame marks f) queued)

  -- EQUAL IDS KEEP SENDING ORDER: the frames of a send stand behind those with their ID, in their own order ..
  pub sent_last : (fs : List (List ℕ)) (queued : List Frame) → having marks.id (all_pushed marks fs queued) ≡ having marks.id queued ++ map (frame marks) fs
  sent_last [] queued = sym (append-nil (having marks.id queued))
  sent_last (f ∷ fs) queued =
      sent_last fs (pushed (frame marks f) queued) ∙ ap (λ (l : List Frame). l ++ map (frame marks) fs) (push_last (frame marks f) queued)
      ∙ append_assoc (having marks.id queued) (frame marks f ∷ []) (map (frame marks) fs)

  -- .. and no frame with another ID moves
  pub sent_others : (i : ℕ) → (marks.id ≡ i → ⊥) → (fs : List (List ℕ)) (queued : List Frame) → having i (all_pushed marks fs queued) ≡ having i queued
  sent_others i ne [] queued = refl
  sent_others i ne (f ∷ fs) queued = sent_others i ne fs (pushed (frame marks f) queued) ∙ push_others i (frame marks f) ne queued

-- ---- the counts

-- how many of a list of sends were done, and how many refused
abbrev pub done_of : List (Result Outgoing Refusal) → ℕ
done_of [] = 0
done_of (Ok o ∷ js) = suc (done_of js)
done_of (Err r ∷ js) = done_of js

abbrev pub refused_of : List (Result Outgoing Refusal) → ℕ
refused_of [] = 0
refused_of (Ok o ∷ js) = refused_of js
refused_of (Err r ∷ js) = suc (refused_of js)

-- AFTER ANY LIST OF SENDS the counts are the sends done and refused, modulo 2^64
pub counts_done : (js : List (Result Outgoing Refusal)) (c : Counts) → (counted_all js c).done % 2 ^ 64 ≡ (c.done + done_of js) % 2 ^ 64
counts_done [] c = omega arith
counts_done (Ok o ∷ js) c = counts_done js (counted (Ok o) c) ∙ omega arith
counts_done (Err r ∷ js) c = counts_done js (counted (Err r) c)

pub counts_refused : (js : List (Result Outgoing Refusal)) (c : Counts) → (counted_all js c).refused % 2 ^ 64 ≡ (c.refused + refused_of js) % 2 ^ 64
counts_refused [] c = omega arith
counts_refused (Ok o ∷ js) c = counts_refused js (counted (Ok o) c)
counts_refused (Err r ∷ js) c = counts_refused js (counted (Err r) c) ∙ omega arith
