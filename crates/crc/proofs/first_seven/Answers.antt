-- The register, moved up to before seven bytes, takes them by one sum.
use Rattle.std.proofs.Common.{◌≡◌, ℕ, ◌+◌, ◌*◌, ◌^◌, ◌<◌, get_or, ap, ◌∙◌, arith, rules}
use Rattle.rules.specs.Crc.{crc_from}
use Rattle.crc.specs.Wide.{value, wide}
use Rattle.crc.proofs.Blocks.{onward}
use Rattle.crc.proofs.Joined.{seven_joined, seven_top}
use Rattle.crc.proofs.Shifts.{seven_begins, seven_leaves}
use Rattle.crc.proofs.first_seven.Goals as goal

pub returns : goal.returns
returns c =
    let s = c.args.bytes in
    let crc = c.from.result in
    let f = c.from-2.result in
    let t = c.from-3.result in
    let v : ℕ = f * 2 ^ 24 + t in
    let bytes : (j : ℕ) → get_or s j 0 < 2 ^ 8 = λ j. search rules in
    let h : crc < 2 ^ 16 = omega arith in
    let four : f < 2 ^ 32 = omega arith in
    let three : t < 2 ^ 24 = omega (arith, bytes) in
    let l : v < 2 ^ 56 = omega arith in
    let e : v ≡ value s 7 = omega arith in (
      ap (wide 8) (seven_joined crc f t h four three) ∙ onward s bytes 7 crc _ v h (search rules) (seven_begins crc h) (seven_leaves v l ∙ ap (wide 7) e)
          ∙ ap (λ (n : ℕ). crc_from n s) c.from.ensures,
      seven_top crc f t h four three,
    )
