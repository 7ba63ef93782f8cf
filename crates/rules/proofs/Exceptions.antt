-- DOCUMENT 01'S TWO EXCEPTIONS ARE WHERE THE RULE TAKES A FIRST FRAME ELSEWHERE than to a session of its own: nowhere, where it is a repeat, and to an older
-- session, where its ID is expected. All is read off the ID rule's three outcomes: only a slot that goes on as it was can have a session, and then the ID is the
-- expected one.
use Rattle.std.specs.Prelude.{None, Option, Some}
use Rattle.std.proofs.Common.{◌≡◌, ℕ, ◌<◌, Bool, true, false, cond, List, length, sym, refl, ap, ◌∙◌, subst, arith}
use mathlib.Core.Bool.{beq}
use Rattle.laws.proofs.Choose.{either_way}
use Rattle.rules.specs.declared.receive.Arrival.{Arrival}
use Rattle.rules.specs.declared.slots.Session.{Session as TheSession}
use Rattle.rules.specs.declared.slots.Slot.{Slot}
use Rattle.rules.specs.Limits.{room_of}
use Rattle.rules.specs.Slot.{with_session, restarted}
use Rattle.rules.specs.Session.{opened, awaits, joined, stored}
use Rattle.rules.specs.Answers.{nothing}
use Rattle.rules.specs.Source.{Cell, Turn, leaves, continued, in_session, goes_on, by_id_rule, turn}
use Rattle.rules.specs.Demand3.{Sent, IsRepeat, MeetsSession, NoException}
use Rattle.rules.specs.Beyond.{first_of, WhereTo, nowhere, older, own, to_open, to_admitted, where_to, LeftOf, Exceptions}
use Rattle.rules.proofs.IdRule.{id_rule}
use Rattle.rules.proofs.Steps.{meets_none, under_way, and_false, repeat_passes, free_admitted, first_opens, unawaited_passes}

-- ---- where the rule takes the frame

module _ (timeout : ℕ) (slot : Slot) (t : Sent) where
  abbrev Again : Type 0
  Again = IsRepeat timeout slot t.transfer_id (t.at 0)

  abbrev Meets : TheSession → Type 0
  Meets s = MeetsSession slot t.transfer_id s

  -- THREE WAYS, each with what document 01 says of it
  three_ways : (P : WhereTo → Type 0) → (Again → P nowhere) → ((s : TheSession) → Meets s → P (older s))
      → ((Again → ⊥) → ((s : TheSession) → Meets s → ⊥) → P own) → P (where_to timeout slot t)
  three_ways P repeat meets clear =
      id_rule timeout slot t.transfer_id (t.at 0) (λ x. P (to_admitted x)) repeat (λ new q. go slot.session refl new q)
      (λ new q. clear new (λ s m. q m.expected))
    where
      go : (o : Option TheSession) → slot.session ≡ o → (Again → ⊥) → t.transfer_id ≡ slot.expected.0 → P (to_open o)
      go None e new q = clear new (λ s m. let z : ◌≡◌ {A = ℕ} 0 1 = cc in omega arith)
      go (Some s) e new q = meets s (record { expected = omega (arith, q); running = e })

  -- a frame that meets a session is no repeat, and a slot has one session
  met_new : (s : TheSession) → Meets s → Again → ⊥
  met_new s m r = omega (arith, m.expected, r.before)

  met_one : (s u : TheSession) → Meets s → Meets u → s ≡ u
  met_one s u m k = let e : Some s ≡ Some u = sym m.running ∙ k.running in cc

  pub to_nowhere : Again → where_to timeout slot t ≡ nowhere
  to_nowhere r = three_ways (λ x. x ≡ nowhere) (λ _. refl) (λ s m. absurd (met_new s m r)) (λ new none. absurd (new r))

  pub from_nowhere : where_to timeout slot t ≡ nowhere → Again
  from_nowhere =
      three_ways (λ x. x ≡ nowhere → Again) (λ r e. r) (λ s m e. let z : ◌≡◌ {A = ℕ} 0 1 = cc in absurd (omega arith))
      (λ new none e. let z : ◌≡◌ {A = ℕ} 0 1 = cc in absurd (omega arith))

  pub to_older : (s : TheSession) → Meets s → where_to timeout slot t ≡ older s
  to_older s m =
      three_ways (λ x. x ≡ older s) (λ r. absurd (met_new s m r)) (λ u k. ap older (met_one u s k m)) (λ new none. absurd (none s m))

  pub from_older : (s : TheSession) → where_to timeout slot t ≡ older s → Meets s
  from_older s =
      three_ways (λ x. x ≡ older s → Meets s) (λ r e. let z : ◌≡◌ {A = ℕ} 0 1 = cc in absurd (omega arith))
      (λ u m e. let q : u ≡ s = cc in subst Meets q m)
      (λ new none e. let z : ◌≡◌ {A = ℕ} 0 1 = cc in absurd (omega arith))

  pub to_own : room_of t.mtu < length t.payload → NoException timeout t slot → where_to timeout slot t ≡ own
  to_own several clear = three_ways (λ x. x ≡ own) (λ r. absurd (clear.new r)) (λ s m. absurd (clear.free several s m)) (λ new none. refl)

  pub from_own : where_to timeout slot t ≡ own → NoException timeout t slot
  from_own =
      three_ways (λ x. x ≡ own → NoException timeout t slot) (λ r e. let z : ◌≡◌ {A = ℕ} 0 1 = cc in absurd (omega arith))
      (λ s m e. let z : ◌≡◌ {A = ℕ} 0 1 = cc in absurd (omega arith)) (λ new none e. record { new = new; free = λ several. none })

-- ---- what it leaves there

-- of any session that a first frame comes to
left_of : (slot : Slot) (part : List ℕ) (t : Sent) (toggle : Bool) (bytes : List ℕ) (s : TheSession)
    → LeftOf (length part) s (first_of t toggle) bytes (in_session slot part (first_of t toggle) bytes s)
unfolding in_session continued joined
left_of slot part t toggle bytes s = record {
  quiet = either_way (λ (x : Turn). x.answer ≡ nothing) awaited refl refl;
  left = cond awaited (joined (length part) s bytes) s;
  running = go awaited;
  joins = refl;
  stamp = either_way (λ (r : TheSession). r.stamp ≡ s.stamp) awaited refl refl;
  loopback = either_way (λ (r : TheSession). r.loopback ≡ s.loopback) awaited refl refl;
}
  where
    awaited : Bool
    awaited = awaits s (first_of t toggle)

    go : (b : Bool)
        → (cond b (continued slot (stored s.total bytes part) (first_of t toggle) (joined (length part) s bytes))
        (leaves nothing (with_session slot (Some s)) part)).cell.slot.session
        ≡ Some (cond b (joined (length part) s bytes) s)
    go true = refl
    go false = refl

module _ (timeout : ℕ) (c : Cell) (t : Sent) (toggle : Bool) (bytes : List ℕ) where
  abbrev a : Arrival
  a = first_of t toggle

  -- a frame that meets a session is one of that session's
  meets_turn : (s : TheSession) → MeetsSession c.slot t.transfer_id s → turn timeout c a bytes ≡ in_session c.slot c.part a bytes s
  unfolding turn goes_on
  meets_turn s m =
      id_rule timeout c.slot t.transfer_id (t.at 0) (λ (x : Option Slot). by_id_rule x c a bytes ≡ in_session c.slot c.part a bytes s)
      (λ r. absurd (met_new timeout c.slot t s m r)) (λ new q. rw m.running refl) (λ new q. absurd (q m.expected))

  -- one that meets none, and is no repeat, opens its own
  own_turn : (IsRepeat timeout c.slot t.transfer_id (t.at 0) → ⊥) → ((s : TheSession) → MeetsSession c.slot t.transfer_id s → ⊥)
      → turn timeout c a bytes ≡ in_session (restarted c.slot (record { 0 = t.transfer_id })) c.part a bytes (opened a)
  unfolding turn goes_on
  own_turn new none =
      ap (λ (x : Option Slot). by_id_rule x c a bytes)
      (free_admitted timeout c.slot t.transfer_id (t.at 0) new (meets_none c.slot t.transfer_id none))

-- THE EXCEPTIONS ARE THE RULE'S
pub exceptions : (timeout : ℕ) (c : Cell) (t : Sent) → room_of t.mtu < length t.payload → Exceptions timeout c t
exceptions timeout c t several = record {
  repeat = (from_nowhere timeout c.slot t, to_nowhere timeout c.slot t);
  passes = λ toggle bytes e. repeat_passes timeout c (first_of t toggle) bytes (from_nowhere timeout c.slot t e);
  meets = λ s. (from_older timeout c.slot t s, to_older timeout c.slot t s);
  within = λ s toggle bytes e.
      let q = meets_turn timeout c t toggle bytes s (from_older timeout c.slot t s e) in
      (q, subst (LeftOf (length c.part) s (first_of t toggle) bytes) (sym q) (left_of c.slot c.part t toggle bytes s));
  started = λ s toggle bytes e h.
      let m = from_older timeout c.slot t s e in
      unawaited_passes timeout c s (first_of t toggle) bytes m.running (ap (λ (k : ℕ). record { 0 = k }) m.expected) refl
      (rw (h, and_false (beq s.loopback t.loopback)) refl);
  clear = (from_own timeout c.slot t, to_own timeout c.slot t several);
  opens = λ toggle bytes e.
      let k = from_own timeout c.slot t e in
      let q = own_turn timeout c t toggle bytes k.new (k.free several) in (
        q,
        subst (LeftOf (length c.part) (opened (first_of t toggle)) (first_of t toggle) bytes) (sym q)
            (left_of (restarted c.slot (record { 0 = t.transfer_id })) c.part t toggle bytes (opened (first_of t toggle))),
      );
}

-- with the published rule's toggle it is `first_opens`
pub own_opens : (timeout : ℕ) (c : Cell) (t : Sent) (bytes : List ℕ) → room_of t.mtu < length t.payload → where_to timeout c.slot t ≡ own
    → turn timeout c (first_of t true) bytes
    ≡ record { answer = nothing; cell = under_way t.transfer_id c.slot.last_time (t.at 0) t.loopback false bytes c.part }
own_opens timeout c t bytes several e =
    let k = from_own timeout c.slot t e in
    first_opens timeout c t.header (t.at 0) t.loopback t.transfer_id bytes k.new (meets_none c.slot t.transfer_id (k.free several))
