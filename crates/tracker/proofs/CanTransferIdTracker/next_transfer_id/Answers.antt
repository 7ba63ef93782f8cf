-- The node's own constructor refuses where the book does, and then words that write the same numbers are the same words.
use Rattle.std.specs.Prelude.{Err}
use Rattle.std.proofs.Common.{rules, ◌≡◌, sym, ℕ, ◌≤◌, ◌<◌, ⊎_elim, arith, Fits, w32, get_or}
use Rattle.std.proofs.lemmas.Bool.{le-leb, lt-leb}
use Rattle.laws.proofs.Choose.{at_most_or_above}
use Rattle.rules.specs.Limits.{greatest_node, tried_node}
use Rattle.rules.specs.declared.refusal.Refusal.{Refusal}
use Rattle.rules.specs.declared.refusal.Refusal.TheVariants.{Field}
use Rattle.tracker.specs.declared.CanTransferIdTracker.{CanTransferIdTracker}
use Rattle.tracker.specs.Row.{asked, Sound}
use Rattle.tracker.proofs.Laws.{refused}
use Rattle.tracker.proofs.CanTransferIdTracker.next_transfer_id.Goals as goal

-- a number that its kind refuses is over the greatest
left : (t : CanTransferIdTracker) (n : ℕ) (why : Refusal) → Sound t → tried_node n ≡ Err why → record { tracker = t; answer = Err why } ≡ asked t n
left t n why s e =
    ⊎_elim (λ (h : n ≤ greatest_node). let f = rw (le-leb n greatest_node h) at e in let z : ◌≡◌ {A = ℕ} 0 1 = cc in absurd (omega arith))
    (λ (h : greatest_node < n). let f = rw (lt-leb n greatest_node h) at e in let g : why ≡ Field = cc in rw g (sym (refused t n s h))) (at_most_or_above n greatest_node)

pub returns-in-Err : goal.returns-in-Err
returns-in-Err c =
    let fit : (k : ℕ) → Fits w32 (get_or c.args.self.ids k 0) = λ k. search rules in
    left c.args.self c.args.destination.0 c.in-Err.refusal
    (record { twenty = search rules; fit = λ k. (fit k).fits }) (sym c.in-Err.ensures)
