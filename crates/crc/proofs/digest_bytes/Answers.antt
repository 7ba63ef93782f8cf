-- The odd bytes and the eights behind them are all of them.
use Rattle.std.proofs.Common.{◌≡◌, ◌*◌, ◌/◌, ◌%◌, ℕ, List, ◌++◌, length, take, drop, sym, ap, ap₂, ◌∙◌, arith, length-drop, take-append-drop}
use Rattle.std.specs.List.{concat}
use Rattle.std.specs.Simd.{first_chunks}
use Rattle.rules.specs.Crc.{crc_from}
use Rattle.rules.proofs.Crc.{from_append}
use Rattle.crc.proofs.Blocks.{eights_joined}
use Rattle.crc.proofs.digest_bytes.Goals as goal
use Rattle.crc.proofs.digest_bytes.Goals.{in-Some-default, in-None-Some}

-- a register n that the odd bytes o leave, and the blocks behind them
whole : {n : ℕ} {o : List ℕ} {blocks : List (List ℕ)} (c : ℕ) (s : List ℕ) → n ≡ crc_from c o → o ≡ take (length s % 8) s
    → blocks ≡ first_chunks 8 (length s / 8) (drop (length s % 8) s) → crc_from n (concat blocks) ≡ crc_from c s
whole {o = o} {blocks} c s e p q =
    let l : length s / 8 * 8 ≡ length (drop (length s % 8) s) = simp length-drop (omega arith) in
    let b : concat blocks ≡ drop (length s % 8) s = ap concat q ∙ eights_joined (length s / 8) (drop (length s % 8) s) l in
    ap (λ (k : ℕ). crc_from k (concat blocks)) e ∙ sym (from_append c o (concat blocks))
    ∙ ap (crc_from c) (ap₂ (λ (x y : List ℕ). x ++ y) p b ∙ take-append-drop (length s % 8) s)

pub returns : goal.returns
returns c =
    let crc = c.args.crc in
    let s = c.args.bytes.now in
    let cut = c.as_rchunks.ensures in
    elim c.match-as_array-2.branch [
      | in-Some-default w ↦ (rw w.x-is at c.folds.ensures) ∙ whole crc s w.first_seven.ensures.0 (w.in-Some-default.ensures.cases.same ∙ cut.front) cut.back
      | in-None-Some w ↦
          let first = w.in-None-Some.first.now in
          let others = w.in-None-Some.others.now in
          (rw w.x-is at c.folds.ensures) ∙ ap (λ (n : ℕ). crc_from n (concat others)) w.first_eight.ensures
          ∙ sym (from_append w.few.result first (concat others))
          ∙ whole crc s w.few.ensures cut.front (sym w.in-None-Some.ensures'.cases.0 ∙ cut.back)
    ]
