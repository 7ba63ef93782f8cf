-- The window is one word; the five bits that are stepped in it are the destination's number.
use Rattle.std.proofs.Common.{rules, sym, ◌∙◌, subst, [], ◌∷◌, ℕ, ◌<◌, arith, Fits, w32, lit<, get_or}
use Rattle.laws.specs.Digits.{value_of}
use Rattle.laws.proofs.Digits.{none_digits, cons_digits}
use Rattle.laws.proofs.Parts.{value_at, one_digit}
use Rattle.tracker.specs.Row.{word_base, Sound}
use Rattle.tracker.proofs.Five.{put_lt}
use Rattle.tracker.proofs.Row.{stepped, step_lt}
use Rattle.tracker.proofs.Place.in_one.Goals as goal

pub overflow_cast-ids : goal.overflow_cast-ids
overflow_cast-ids c =
    let word : Fits w32 (get_or c.args.tracker.ids c.args.self.at 0) = search rules in
    let next = c.increment in
    record {
      fits =
          subst (λ (x : ℕ). x < word_base) (sym c.with-next.ensures)
          (put_lt (get_or c.args.tracker.ids c.args.self.at 0) 32 c.args.self.shift next.result.0 (omega arith) word.fits (step_lt c.five-id.result next.result next.ensures));
    }

pub returns : goal.returns
unfolding value_of
returns c =
    let p = c.args.self in
    let t = c.args.tracker in
    let k = c.args.self.at in
    let next = c.increment in
    let put = c.with-next in
    let fit : (k : ℕ) → Fits w32 (get_or t.ids k 0) = λ k. search rules in
    let sound : Sound t = record { twenty = search rules; fit = λ k. (fit k).fits } in
    stepped t sound p.node.0 k p.shift p.known p.begins (put.result ∷ []) (get_or t.ids k 0) next.result
    (omega arith) (omega arith) (value_at word_base (lit< tt) t.ids k 0 (omega (arith, sound.twenty)) ∙ one_digit word_base (lit< tt) (get_or t.ids k 0))
    (one_digit word_base (lit< tt) put.result ∙ put.ensures)
    c.five-id.result (cons_digits word_base (lit< tt) put.result [] (overflow_cast-ids c).fits (none_digits word_base (lit< tt)))
    c.five-id.ensures next.ensures
