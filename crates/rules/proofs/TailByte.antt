-- A tail byte that was made is read back.
use Rattle.std.proofs.Common.{◌≡◌, ℕ, ◌+◌, ◌*◌, ◌/◌, ◌%◌, ◌^◌, ◌<◌, Bool, arith}
use Rattle.laws.proofs.Bits.{field_of, flag_le, flag_read}
use Rattle.rules.specs.Limits.{transfer_ids}
use Rattle.rules.specs.CanId.{bit}
use Rattle.rules.specs.TailByte.{tail_byte, parsed_tail}

pub tail_back : (start end toggle : Bool) (id : ℕ) → id < transfer_ids
    → parsed_tail (tail_byte start end toggle id) ≡ record { start = start; end = end; toggle = toggle; transfer_id = record { 0 = id } }
unfolding tail_byte
tail_back start end toggle id h =
    let s = flag_le start in
    let e = flag_le end in
    let t = flag_le toggle in
    let n : ℕ = tail_byte start end toggle id in
    let r₁ = flag_read start (n / 2 ^ 7 % 2) (field_of n 0 (bit start) (bit end * 64 + bit toggle * 32 + id) 7 1 (omega arith) (omega arith) (omega arith)) in
    let r₂ = flag_read end (n / 2 ^ 6 % 2) (field_of n (bit start) (bit end) (bit toggle * 32 + id) 6 1 (omega arith) (omega arith) (omega arith)) in
    let r₃ = flag_read toggle (n / 2 ^ 5 % 2) (field_of n (bit start * 2 + bit end) (bit toggle) id 5 1 (omega arith) (omega arith) (omega arith)) in
    let r₄ : n % 32 ≡ id = omega arith in
    simp (r₁, r₂, r₃, r₄)
