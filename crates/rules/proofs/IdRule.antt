-- The receiver's ID rule is document 01's: what it takes for a repeat is a repeat in 01's words, and the other way round. All that follows from the rule is read
-- off its three outcomes: a repeat, the expected ID, another ID.
use Rattle.std.specs.Prelude.{None, Option, Some}
use Rattle.std.proofs.Common.{◌≡◌, ℕ, ◌+◌, ◌%◌, ◌^◌, Bool, true, false, cond, eqb, ltb, leb, ◌⊎◌, sym, refl, ◌∙◌, inl, inr, true≢false, arith, ltb-false, le-ltb, eqb-true, leb-false}
use borrow.Author.Tests.{eqb-false, lt-leb}
use Rattle.laws.proofs.Choose.{neither}
use Rattle.rules.specs.declared.slots.Slot.{Slot as TheSlot}
use Rattle.rules.specs.Slot.{age, timed_out, restarted, admitted}
use Rattle.rules.specs.Demand3.{IsRepeat}

module _ (timeout : ℕ) (slot : TheSlot) (id stamp : ℕ) where
  abbrev Again : Type 0
  Again = IsRepeat timeout slot id stamp

  -- an ID right before the expected one, in time
  young : (id + 1) % 32 ≡ slot.expected.0 → (l : Option ℕ) → slot.last_time ≡ l → timed_out timeout l stamp ≡ false → Again
  unfolding age
  young b None q e = absurd (true≢false e)
  young b (Some last) q e =
      let ages = neither (leb (2 ^ 31) (age stamp last)) (ltb timeout (age stamp last)) e in
      record {
        before = b;
        last = last;
        seen = q;
        counts = leb-false (2 ^ 31) (age stamp last) ages.0;
        young = ltb-false timeout (age stamp last) ages.1;
      }

  -- a repeat is in time
  in_time : Again → timed_out timeout slot.last_time stamp ≡ false
  unfolding age
  in_time r = rw (r.seen, lt-leb (2 ^ 31) (age stamp r.last) r.counts, le-ltb timeout (age stamp r.last) r.young) refl

  -- THE ID RULE'S THREE OUTCOMES: what holds of a repeat, of a slot that goes on and of one that is reset holds of what the rule says
  pub id_rule : (P : Option TheSlot → Type 0) → (Again → P None) → ((Again → ⊥) → id ≡ slot.expected.0 → P (Some slot))
      → ((Again → ⊥) → (id ≡ slot.expected.0 → ⊥) → P (Some (restarted slot (record { 0 = id }))))
      → P (admitted timeout slot (record { 0 = id }) stamp)
  unfolding admitted
  id_rule P repeat on reset =
      go (eqb id slot.expected.0) refl (eqb ((id + 1) % 32) slot.expected.0) refl (timed_out timeout slot.last_time stamp) refl
    where
      new : (o : Bool) → timed_out timeout slot.last_time stamp ≡ o → o ≡ true → Again → ⊥
      new o e t r = true≢false (sym t ∙ sym e ∙ in_time r)

      go : (same : Bool) → eqb id slot.expected.0 ≡ same → (before : Bool) → eqb ((id + 1) % 32) slot.expected.0 ≡ before
          → (old : Bool) → timed_out timeout slot.last_time stamp ≡ old
          → P (cond same (Some slot) (cond before (cond old (Some (restarted slot (record { 0 = id }))) None) (Some (restarted slot (record { 0 = id })))))
      go true e b f o g = let q = eqb-true id slot.expected.0 e in on (λ r. omega (arith, r.before)) q
      go false e true f true g = reset (new true g refl) (eqb-false id slot.expected.0 e)
      go false e true f false g = repeat (young (eqb-true ((id + 1) % 32) slot.expected.0 f) slot.last_time refl g)
      go false e false f o g = reset (λ r. eqb-false ((id + 1) % 32) slot.expected.0 f r.before) (eqb-false id slot.expected.0 e)

  -- document 01's repeat is the rule's ..
  pub repeat_admitted : Again → admitted timeout slot (record { 0 = id }) stamp ≡ None
  repeat_admitted r = id_rule (λ a. a ≡ None) (λ q. refl) (λ new q. absurd (new r)) (λ new q. absurd (new r))

  -- .. and the rule's is document 01's
  pub admitted_repeat : admitted timeout slot (record { 0 = id }) stamp ≡ None → Again
  admitted_repeat =
      id_rule (λ a. a ≡ None → Again) (λ r q. r) (λ new q e. let z : ◌≡◌ {A = ℕ} 0 1 = cc in absurd (omega arith))
      (λ new q e. let z : ◌≡◌ {A = ℕ} 0 1 = cc in absurd (omega arith))

  -- a frame is a repeat or is none
  pub repeat_or_new : Again ⊎ (Again → ⊥)
  repeat_or_new = id_rule (λ a. Again ⊎ (Again → ⊥)) (λ r. inl r) (λ new q. inr new) (λ new q. inr new)
