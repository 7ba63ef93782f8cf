-- The register, moved up to before eight bytes, takes them by one sum.
use Rattle.std.proofs.Common.{ℕ, ◌<◌, ◌^◌, ap, ◌∙◌, arith, rules}
use Rattle.rules.specs.Crc.{crc_from}
use Rattle.crc.proofs.Blocks.{eight_onward}
use Rattle.crc.proofs.Shifts.{eight_begins}
use Rattle.crc.proofs.first_eight.Goals as goal

pub returns : goal.returns
returns c =
    let s = c.args.block in
    let crc = c.from.result in
    let h : crc < 2 ^ 16 = omega arith in
    eight_onward s (λ j. search rules) crc _ _ h (search rules) (eight_begins crc h) c.from_be_bytes.ensures ∙ ap (λ (n : ℕ). crc_from n s) c.from.ensures
