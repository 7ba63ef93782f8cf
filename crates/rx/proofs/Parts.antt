-- Parts of slices: what is shown of them, and how one that was lent comes back.
use Rattle.std.proofs.Common.{◌≡◌, ℕ, ◌+◌, ◌-◌, ◌*◌, ◌^◌, ◌<◌, ◌≤◌, leb, List, [], length, take, drop, refl, append_assoc, mul-le-mul_left, arith, length-take, w8, w16, Fits}
use lib.Seq.{take-nil}
use borrow.Rule.Slice.PartMut.{put_mid, Post-is}
use Rattle.laws.proofs.Choose.{either_way}
use Rattle.rules.specs.Answers.{leading}
use Rattle.rules.specs.Receiver.{part_of, with_part}
use Rattle.session.specs.Turns.{greatest_part}

-- of no bytes none are shown
pub leading_none : (len : ℕ) → leading len [] ≡ []
leading_none len = either_way (λ (xs : List ℕ). xs ≡ []) (leb len 0) (take-nil len) refl

-- a byte times a 16-bit number is below 2^24
pub product_below : {a b : ℕ} → Fits w8 a → Fits w16 b → a * b < 2 ^ 24
product_below {a} {b} ha hb =
    let h : b ≤ 65535 = omega arith in
    let p : a * b ≤ a * 65535 = mul-le-mul_left a h in
    omega arith

-- a source's part has no more bytes than an extent can name
pub part_short : (e n : ℕ) (store : List ℕ) → e < 2 ^ 16 → length (part_of e n store) ≤ greatest_part
part_short e n store h = omega (arith, length-take e (drop (n * e) store))

-- a source's part, lent out ..
pub lent_out : (e n : ℕ) (store : List ℕ) (start : ℕ) → start ≡ n * e → take (start + e - start) (drop start store) ≡ part_of e n store
lent_out e n store start s =
    let k : start + e - start ≡ e = omega arith in
    rw (k, s)

-- .. and back stands in its place
pub lent_back : (e n : ℕ) (store part : List ℕ) (start : ℕ) → start ≡ n * e → put_mid start (start + e - start) store part ≡ with_part e n store part
lent_back e n store part start s =
    let h : start ≤ start + e = omega arith in
    rw (Post-is start (start + e) store h, s) (simp append_assoc)
