-- The zeros behind the part are its padding, the register goes on over them, and its two bytes stand behind them.
use Rattle.std.proofs.Common.{◌≡◌, ℕ, ◌+◌, ◌-◌, ◌/◌, ◌%◌, ◌≤◌, List, ◌++◌, length, take, drop, set, ap, ◌∙◌, arith}
use Rattle.laws.specs.Laid.{laid}
use Rattle.rules.specs.Crc.{crc_from, crc_bytes}
use Rattle.tx.proofs.Parts.{zeros, laid_zeros, padding_part, two_set}
use Rattle.tx.proofs.breakdown.close.Goals as goal

pub returns : goal.returns
returns c =
    let a = c.args in
    let p = a.part.now in
    let n = a.padding in
    let x = c.digest_bytes-crc.result in
    let k : length p ≤ 128 = omega arith in
    let l : n ≤ 128 - length p = omega arith in
    let h : n + 2 ≤ 128 - length p = omega arith in
    let r = c.copy.ensures.copied ∙ ap (laid p) c.requires.0 ∙ laid_zeros p 128 k in
    let e : x ≡ crc_from a.crc (zeros n) = c.digest_bytes-crc.ensures ∙ ap (λ (y : List ℕ). crc_from a.crc (take (length p + n - length p) (drop (length p) y))) r ∙ ap (crc_from a.crc) (padding_part p n (128 - length p) l) in
    let high : x / 256 % 256 ≡ x / 256 = omega arith in
    rw (c.to_be_bytes.ensures, high)
    (ap (λ (y : List ℕ). take (length p + n + 2) (set (set y (length p + n) (x / 256)) (length p + n + 1) (x % 256))) r
    ∙ two_set p n (128 - length p) (x / 256) (x % 256) h
    ∙ ap (λ (y : ℕ). p ++ (zeros n ++ crc_bytes y)) e)
