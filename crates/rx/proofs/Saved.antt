-- What a frame's source leaves in the lent memory.
use Rattle.std.specs.Prelude.{Result}
use Rattle.rules.specs.declared.refusal.Refusal.{Refusal}
use Rattle.std.proofs.Common.{◌≡◌, ℕ, ◌+◌, ◌-◌, ◌*◌, List, set, ap, ◌∙◌}
use borrow.Rule.Slice.PartMut.{put_mid}
use Rattle.rules.specs.declared.receive.Received.{Received}
use Rattle.rules.specs.Answers.{answer_of, answer_from}
use Rattle.session.specs.declared.Step.{Step}
use Rattle.slots.specs.Words.{words_of}
use Rattle.session.specs.Turns.{turn_of}
use Rattle.rx.specs.Accept.{closes, saved}
use Rattle.rx.proofs.Parts.{lent_back}

-- the slot written back, the part back in its place, and the answer's bytes counted from the start of the store: the turn is saved
pub written : (e n : ℕ) (words : List (List ℕ)) (store : List ℕ) (step : Step) (part : List ℕ) (start : ℕ) (answer : Result Received Refusal) {after : List (List ℕ)}
    → start ≡ n * e → answer_of answer ≡ answer_from start (answer_of step.answer) → after ≡ set words n (words_of step.slot)
    → closes (answer_of answer) after (put_mid start (start + e - start) store part) ≡ saved e words store n (turn_of step part)
written e n words store step part start answer {after} s a w =
    let b = lent_back e n store part start s in
    ap (λ x. closes x after (put_mid start (start + e - start) store part)) (a ∙ ap (λ i. answer_from i (answer_of step.answer)) s)
    ∙ ap (λ x. closes (answer_from (n * e) (answer_of step.answer)) x (put_mid start (start + e - start) store part)) w
    ∙ ap (closes (answer_from (n * e) (answer_of step.answer)) (set words n (words_of step.slot))) b
