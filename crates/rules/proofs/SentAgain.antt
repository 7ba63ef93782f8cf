-- Reading loses nothing: the header that was read off a CAN ID is sent under that ID again, but for the bits that are not looked at.
use Rattle.std.specs.Prelude.{Err, Ok, Result}
use Rattle.rules.specs.declared.data.CanId.{CanId}
use Rattle.rules.specs.declared.refusal.Refusal.{Refusal}
use Rattle.std.proofs.Common.{◌≡◌, ℕ, ◌+◌, ◌-◌, ◌*◌, ◌/◌, ◌%◌, ◌^◌, ◌<◌, ◌≤◌, Bool, true, false, cond, leb, List, sym, refl, ap, ◌∙◌, ⊎_elim, mod-lt, div-one, arith, pow_pos, eqb-true, le-leb, leb-true}
use lib.Pow.{split}
use borrow.Author.Tests.{eqb-false}
use Rattle.laws.proofs.Choose.{at_most_or_above, first_chosen, second_chosen, neither}
use Rattle.laws.proofs.Bits.{split_off}
use Rattle.rules.specs.declared.refusal.Refusal.TheVariants.{CanId as CanIdTooLarge, ReservedBit}
use Rattle.rules.specs.declared.header.Header.{Header}
use Rattle.rules.specs.Limits.{greatest_priority, greatest_subject, greatest_service, greatest_node, greatest_can_id}
use Rattle.rules.specs.CanId.{bit, pseudo_source, can_id_of, bits_at, is_set, reserved, header_of, said_by, parsed_can_id}

-- the ID under which the header of an ID is sent: that ID, but for a message with bits 21 and 22 set, and from an anonymous sender under the pseudo source
abbrev pub sent_again : ℕ → List ℕ → ℕ
sent_again id payload =
    cond (is_set id 25) id
    (id / 2 ^ 23 * 2 ^ 23 + 2 ^ 22 + 2 ^ 21 + (id % 2 ^ 21 - bits_at id 0 7) + cond (is_set id 24) (pseudo_source payload) (bits_at id 0 7))

module _ (id : ℕ) (small : id ≤ greatest_can_id) where
  top : id / 2 ^ 26 ≡ bits_at id 26 3
  top = omega arith

  bottom : id ≡ id / 2 ^ 7 * 2 ^ 7 + bits_at id 0 7
  bottom = sym (div-one id) ∙ split_off id 0 7

  service_sum : (r : ℕ) → bits_at id 23 1 ≡ 0 → bits_at id 24 1 ≡ r → bits_at id 25 1 ≡ 1
      → bits_at id 26 3 * 2 ^ 26 + 2 ^ 25 + r * 2 ^ 24 + bits_at id 14 9 * 2 ^ 14 + bits_at id 7 7 * 2 ^ 7 + bits_at id 0 7 ≡ id
  service_sum r a b c =
      sum id (id / 2 ^ 7) (id / 2 ^ 14) (id / 2 ^ 23) (id / 2 ^ 24) (id / 2 ^ 25) (id / 2 ^ 26) _ _ _ _ _ _ _ bottom (split_off id 7 7)
      (split_off id 14 9) (split_off id 23 1) (split_off id 24 1) (split_off id 25 1) top a b c
    where
      sum : (x x₇ x₁₄ x₂₃ x₂₄ x₂₅ x₂₆ p s d n b₂₃ b₂₄ b₂₅ : ℕ) → x ≡ x₇ * 2 ^ 7 + n → x₇ ≡ x₁₄ * 2 ^ 7 + d → x₁₄ ≡ x₂₃ * 2 ^ 9 + s
          → x₂₃ ≡ x₂₄ * 2 ^ 1 + b₂₃ → x₂₄ ≡ x₂₅ * 2 ^ 1 + b₂₄ → x₂₅ ≡ x₂₆ * 2 ^ 1 + b₂₅ → x₂₆ ≡ p → b₂₃ ≡ 0 → b₂₄ ≡ r → b₂₅ ≡ 1
          → p * 2 ^ 26 + 2 ^ 25 + r * 2 ^ 24 + s * 2 ^ 14 + d * 2 ^ 7 + n ≡ x
      sum x x₇ x₁₄ x₂₃ x₂₄ x₂₅ x₂₆ p s d n b₂₃ b₂₄ b₂₅ e₀ e₇ e₁₄ e₂₃ e₂₄ e₂₅ e₂₆ z₂₃ z₂₄ z₂₅ = omega arith

  message_sum : (r : ℕ) → bits_at id 7 1 ≡ 0 → bits_at id 23 1 ≡ 0 → bits_at id 24 1 ≡ r → bits_at id 25 1 ≡ 0
      → bits_at id 26 3 * 2 ^ 26 + r * 2 ^ 24 + 2 ^ 22 + 2 ^ 21 + bits_at id 8 13 * 2 ^ 8 ≡ id / 2 ^ 23 * 2 ^ 23 + 2 ^ 22 + 2 ^ 21 + (id % 2 ^ 21 - bits_at id 0 7)
  message_sum r z a b c =
      sum id (id / 2 ^ 7) (id / 2 ^ 8) (id / 2 ^ 21) (id / 2 ^ 23) (id / 2 ^ 24) (id / 2 ^ 25) (id / 2 ^ 26) _ _ _ _ _ _ _ _ (id % 2 ^ 21) bottom (split_off id 7 1)
      (split_off id 8 13) (split_off id 21 2) (split_off id 23 1) (split_off id 24 1) (split_off id 25 1) top (sym (split id 21)) z a b c
    where
      sum : (x x₇ x₈ x₂₁ x₂₃ x₂₄ x₂₅ x₂₆ p s n b₇ b₂₁ b₂₃ b₂₄ b₂₅ l : ℕ) → x ≡ x₇ * 2 ^ 7 + n → x₇ ≡ x₈ * 2 ^ 1 + b₇ → x₈ ≡ x₂₁ * 2 ^ 13 + s
          → x₂₁ ≡ x₂₃ * 2 ^ 2 + b₂₁ → x₂₃ ≡ x₂₄ * 2 ^ 1 + b₂₃ → x₂₄ ≡ x₂₅ * 2 ^ 1 + b₂₄ → x₂₅ ≡ x₂₆ * 2 ^ 1 + b₂₅ → x₂₆ ≡ p → x ≡ x₂₁ * 2 ^ 21 + l
          → b₇ ≡ 0 → b₂₃ ≡ 0 → b₂₄ ≡ r → b₂₅ ≡ 0 → p * 2 ^ 26 + r * 2 ^ 24 + 2 ^ 22 + 2 ^ 21 + s * 2 ^ 8 ≡ x₂₃ * 2 ^ 23 + 2 ^ 22 + 2 ^ 21 + (l - n)
      sum x x₇ x₈ x₂₁ x₂₃ x₂₄ x₂₅ x₂₆ p s n b₇ b₂₁ b₂₃ b₂₄ b₂₅ l e₀ e₇ e₈ e₂₁ e₂₃ e₂₄ e₂₅ e₂₆ e z₇ z₂₃ z₂₄ z₂₅ = omega arith

-- a flag that is read off a bit is that bit
bit_is : (id p : ℕ) (b : Bool) → is_set id p ≡ b → bits_at id p 1 ≡ bit b
bit_is id p true e = eqb-true _ _ e
bit_is id p false e =
    let f = eqb-false (bits_at id p 1) 1 e in
    ⊎_elim (λ (h : bits_at id p 1 ≤ 0). omega arith) (λ (h : 0 < bits_at id p 1). absurd (f (omega arith))) (at_most_or_above (bits_at id p 1) 0)

-- fields that were read are within their limits
module _ (id : ℕ) where
  priority_in : leb (bits_at id 26 3) greatest_priority ≡ true
  priority_in = let h : bits_at id 26 3 ≤ greatest_priority = omega arith in le-leb _ _ h

  subject_in : leb (bits_at id 8 13) greatest_subject ≡ true
  subject_in = let h : bits_at id 8 13 ≤ greatest_subject = omega arith in le-leb _ _ h

  service_in : leb (bits_at id 14 9) greatest_service ≡ true
  service_in = let h : bits_at id 14 9 ≤ greatest_service = omega arith in le-leb _ _ h

  node_in : (p : ℕ) → leb (bits_at id p 7) greatest_node ≡ true
  node_in p = let h : bits_at id p 7 ≤ greatest_node = omega (arith, mod-lt (id / 2 ^ p) (pow_pos 7)) in le-leb _ _ h

pseudo_in : (payload : List ℕ) → leb (pseudo_source payload) greatest_node ≡ true
pseudo_in payload = let h : pseudo_source payload ≤ greatest_node = omega arith in le-leb _ _ h

abbrev made : ℕ → Result CanId Refusal
made n = Ok (record { 0 = n })

-- by bits 25 and 24
again : (id : ℕ) (payload : List ℕ) (service mark : Bool) → id ≤ greatest_can_id → is_set id 25 ≡ service → is_set id 24 ≡ mark → reserved id ≡ false
    → can_id_of (header_of id) payload ≡ made (sent_again id payload)
unfolding can_id_of
again id payload true true h e₂₅ e₂₄ z =
    let e₂₃ = (neither (is_set id 23) _ z).0 in
    simp (e₂₅, e₂₄, priority_in id, service_in id, node_in id 7, node_in id 0)
    (ap made (service_sum id h 1 (bit_is id 23 false e₂₃) (bit_is id 24 true e₂₄) (bit_is id 25 true e₂₅)))
again id payload true false h e₂₅ e₂₄ z =
    let e₂₃ = (neither (is_set id 23) _ z).0 in
    simp (e₂₅, e₂₄, priority_in id, service_in id, node_in id 7, node_in id 0)
    (ap made (service_sum id h 0 (bit_is id 23 false e₂₃) (bit_is id 24 false e₂₄) (bit_is id 25 true e₂₅)))
again id payload false true h e₂₅ e₂₄ z =
    let n = neither (is_set id 23) _ z in
    let e₇ : is_set id 7 ≡ false = simp e₂₅ at n.1 in
    simp (e₂₅, e₂₄, priority_in id, subject_in id, pseudo_in payload)
    (ap (λ (x : ℕ). made (x + pseudo_source payload))
    (message_sum id h 1 (bit_is id 7 false e₇) (bit_is id 23 false n.0) (bit_is id 24 true e₂₄) (bit_is id 25 false e₂₅)))
again id payload false false h e₂₅ e₂₄ z =
    let n = neither (is_set id 23) _ z in
    let e₇ : is_set id 7 ≡ false = simp e₂₅ at n.1 in
    simp (e₂₅, e₂₄, priority_in id, subject_in id, node_in id 0)
    (ap (λ (x : ℕ). made (x + bits_at id 0 7))
    (message_sum id h 0 (bit_is id 7 false e₇) (bit_is id 23 false n.0) (bit_is id 24 false e₂₄) (bit_is id 25 false e₂₅)))

-- READING LOSES NOTHING: the header that was read is sent under the ID that it was read from
pub made_again : (id : ℕ) (h : Header) (payload : List ℕ) → parsed_can_id id ≡ Ok h → can_id_of h payload ≡ made (sent_again id payload)
unfolding parsed_can_id
made_again id h payload e =
    let a = first_chosen (leb id greatest_can_id) (said_by id) (Err CanIdTooLarge) (Ok h) e (λ x. let z : ◌≡◌ {A = ℕ} 0 1 = cc in omega arith) in
    let b = second_chosen (reserved id) (Err ReservedBit) (Ok (header_of id)) (Ok h) a.1 (λ x. let z : ◌≡◌ {A = ℕ} 0 1 = cc in omega arith) in
    let f : h ≡ header_of id = cc in
    ap (λ (k : Header). can_id_of k payload) f ∙ again id payload (is_set id 25) (is_set id 24) (leb-true _ _ a.0) refl refl b.0
