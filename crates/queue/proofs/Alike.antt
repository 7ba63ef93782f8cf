-- No second outcome. Two states with their lent places are alike when the same frames are queued, as many places are free and the capacity is the same. The same
-- call on alike states gives the same answer and leaves alike states, for each promise speaks of these three alone: what lies in unused places, and where the ring
-- starts, never shows.
use Rattle.std.specs.Prelude.{Result, Option, is_some}
use Rattle.rules.specs.declared.refusal.Refusal.{Refusal}
use mathlib.Core.Path.{◌≡◌, sym, ap, ap₂, ◌∙◌}
use mathlib.Core.Bool.{Bool, cond}
use mathlib.Core.List.{List}
use Prim.Native.Nat.{ℕ, suc, ◌-◌}
use lib.Dec.{eqb}
use lib.ListN.{length}
use Rattle.rules.specs.Frames.{Frame}
use Rattle.rules.specs.Queue.{pushed, returned, first, rest, room_for, placed, after}
use Rattle.queue.specs.Place.{held_of}
use Rattle.queue.specs.Queue.{contents, free, capacity_of, Places, Pops}
use Rattle.queue.specs.declared.ArrayQueue.{ArrayQueue}
use Rattle.queue.specs.declared.Held.{Held}
use Rattle.queue.specs.declared.Pushed.{Pushed}
use Rattle.queue.specs.declared.Popped.{Popped}

pub record Alike (q : ArrayQueue) (a : List (List ℕ)) (r : ArrayQueue) (b : List (List ℕ)) : Type 0 where
  pub queued : contents q a ≡ contents r b
  pub left : free q a ≡ free r b
  pub capacity : capacity_of q ≡ capacity_of r

-- the calls
pub data Call : Type 0 where
  len : Call
  is_empty : Call
  capacity : Call
  try_reserve : ℕ → Call
  push : Frame → Call
  return : Frame → Call
  peek : Call
  pop : Call

-- what they answer
pub data Answer : Type 0 where
  number : ℕ → Answer
  truth : Bool → Answer
  placing : Result (Unit {0}) Refusal → Answer
  frame : Option Held → Answer

-- a call that kept its promise: the state before it, its answer and the state after it
pub data Kept (q : ArrayQueue) (a : List (List ℕ)) : Call → Answer → ArrayQueue → List (List ℕ) → Type 0 where
  counted : {n : ℕ} → n ≡ length (contents q a) → Kept q a len (number n) q a
  emptied : {t : Bool} → t ≡ eqb (length (contents q a)) 0 → Kept q a is_empty (truth t) q a
  sized : {n : ℕ} → n ≡ capacity_of q → Kept q a capacity (number n) q a
  reserved : {n : ℕ} {p : Result (Unit {0}) Refusal} → p ≡ room_for (free q a) n → Kept q a (try_reserve n) (placing p) q a
  pushes : {f : Frame} {r : Pushed} {a' : List (List ℕ)} → Places pushed q a f r a' → Kept q a (push f) (placing r.answer) r.queue a'
  returns : {f : Frame} {r : Pushed} {a' : List (List ℕ)} → Places returned q a f r a' → Kept q a (return f) (placing r.answer) r.queue a'
  peeks : {h : Option Held} → h ≡ held_of (first (contents q a)) → Kept q a peek (frame h) q a
  pops : {r : Popped} → Pops q a r → Kept q a pop (frame r.held) r.queue a

module _ {q r : ArrayQueue} {a b : List (List ℕ)} (w : Alike q a r b) where
  placed_alike : {put : Frame → List Frame → List Frame} {f : Frame} {x y : Pushed} {a' b' : List (List ℕ)} → Places put q a f x a' → Places put r b f y b' →
      (x.answer ≡ y.answer) × Alike x.queue a' y.queue b'
  placed_alike {put} {f} {x} {y} p o =
      let e : x.answer ≡ y.answer = p.answered ∙ ap (λ (n : ℕ). placed n f) w.left ∙ sym o.answered in (
        e,
        record {
          queued = p.queued ∙ ap₂ (λ (t : Result (Unit {0}) Refusal) (fs : List Frame). after t (put f fs) fs) e w.queued ∙ sym o.queued;
          left = p.left ∙ ap₂ (λ (t : Result (Unit {0}) Refusal) (n : ℕ). after t (n - 1) n) e w.left ∙ sym o.left;
          capacity = p.capacity ∙ w.capacity ∙ sym o.capacity;
        },
      )

  popped_alike : {x y : Popped} → Pops q a x → Pops r b y → (x.held ≡ y.held) × Alike x.queue a y.queue b
  popped_alike {x} {y} p o =
      let e : x.held ≡ y.held = p.answered ∙ ap (λ (fs : List Frame). held_of (first fs)) w.queued ∙ sym o.answered in (
        e,
        record {
          queued = p.queued ∙ ap rest w.queued ∙ sym o.queued;
          left = p.left ∙ ap₂ (λ (h : Option Held) (n : ℕ). cond (is_some h) (suc n) n) e w.left ∙ sym o.left;
          capacity = p.capacity ∙ w.capacity ∙ sym o.capacity;
        },
      )

  -- the same call on alike states gives the same answer and leaves alike states
  pub no_second_outcome : {o : Call} {x y : Answer} {q' r' : ArrayQueue} {a' b' : List (List ℕ)} → Kept q a o x q' a' → Kept r b o y r' b' → (x ≡ y) × Alike q' a' r' b'
  no_second_outcome (counted e) (counted d) = (ap number (e ∙ ap length w.queued ∙ sym d), w)
  no_second_outcome (emptied e) (emptied d) = (ap truth (e ∙ ap (λ (fs : List Frame). eqb (length fs) 0) w.queued ∙ sym d), w)
  no_second_outcome (sized e) (sized d) = (ap number (e ∙ w.capacity ∙ sym d), w)
  no_second_outcome (reserved {n} e) (reserved d) = (ap placing (e ∙ ap (λ (k : ℕ). room_for k n) w.left ∙ sym d), w)
  no_second_outcome (pushes p) (pushes o) = (ap placing (placed_alike p o).0, (placed_alike p o).1)
  no_second_outcome (returns p) (returns o) = (ap placing (placed_alike p o).0, (placed_alike p o).1)
  no_second_outcome (peeks e) (peeks d) = (ap frame (e ∙ ap (λ (fs : List Frame). held_of (first fs)) w.queued ∙ sym d), w)
  no_second_outcome (pops p) (pops o) = (ap frame (popped_alike p o).0, (popped_alike p o).1)
