-- The window is a word and the next; the five bits that are stepped in it are the destination's number.
use Rattle.std.specs.Prelude.{Ok}
use Rattle.std.proofs.Common.{rules, ◌≡◌, refl, ap, ◌∙◌, [], ◌∷◌, ℕ, suc, ◌+◌, ◌-◌, ◌*◌, ◌/◌, ◌%◌, ◌^◌, ◌<◌, arith, add-one, Fits, w32, lit<, bit_and, bit_or, get_or, take, drop}
use Rattle.std.proofs.Math.ListN.{set}
use Rattle.std.proofs.lemmas.Nat.{and_mask, and_le_r}
use Rattle.laws.specs.Digits.{value_of}
use Rattle.laws.proofs.Bits.{join}
use Rattle.laws.proofs.Digits.{none_digits, cons_digits}
use Rattle.laws.proofs.Parts.{value_at}
use Rattle.tracker.specs.Row.{word_base, Sound}
use Rattle.tracker.proofs.Row.{stepped}
use Rattle.tracker.proofs.Place.in_two.Goals as goal

pub returns : goal.returns
unfolding value_of
returns c =
    let p = c.args.self in
    let t = c.args.tracker in
    let k = c.args.self.at in
    let next = c.increment in
    let put = c.with-next in
    let fit : (k : ℕ) → Fits w32 (get_or t.ids k 0) = λ k. search rules in
    let sound : Sound t = record { twenty = search rules; fit = λ k. (fit k).fits } in
    let low = get_or t.ids k 0 in
    let high = get_or t.ids (k + 1) 0 in
    let pair : ℕ = bit_or (high * 2 ^ 32 % 2 ^ 64) low in
    let joined : pair ≡ high * 2 ^ 32 + low =
    join 32 (high * 2 ^ 32 % 2 ^ 64) low (high * 2 ^ 32) low (omega (arith, (fit (k + 1)).fits)) refl (omega arith) (fit k).fits in
    let window : value_of word_base (take 2 (drop k t.ids)) ≡ pair =
    omega (
      arith,
      joined,
      value_at word_base (lit< tt) t.ids k 1 (omega (arith, sound.twenty)),
      value_at word_base (lit< tt) t.ids (suc k) 0 (omega (arith, sound.twenty)),
      ap (λ (j : ℕ). get_or t.ids j 0) (add-one k),
    ) in
    let down = bit_and put.result (2 ^ 32 - 1) in
    let up = put.result / 2 ^ 32 in
    let parts : value_of word_base (down ∷ up ∷ []) ≡ put.result = omega (arith, and_mask put.result 32) in
    let down_fits : down < word_base = omega (arith, and_le_r put.result (2 ^ 32 - 1)) in
    let up_fits : up < word_base = search rules in
    let digits = cons_digits word_base (lit< tt) down (up ∷ []) down_fits (cons_digits word_base (lit< tt) up [] up_fits (none_digits word_base (lit< tt))) in
    ap (λ (j : ℕ). record { tracker = record { ids = set (set t.ids k down) j up }; answer = Ok c.five-id.result }) (add-one k)
    ∙ stepped t sound p.node.0 k p.shift p.known p.begins (down ∷ up ∷ []) pair next.result (omega arith) (omega arith) window (parts ∙ put.ensures)
    c.five-id.result digits c.five-id.ensures next.ensures
