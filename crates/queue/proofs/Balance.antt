-- The free places never change but by push, return and pop: a frame that is placed takes one, a frame that is handed out by a pop gives one, and every other
-- call, a refusal and a pop of an empty queue too, leaves as many as there were.
use Rattle.std.specs.Prelude.{Err, Ok, Result, is_some}
use Rattle.rules.specs.declared.refusal.Refusal.{Refusal}
use mathlib.Core.Path.{◌≡◌, refl, sym}
use mathlib.Core.Bool.{Bool, true, false, cond}
use mathlib.Core.List.{List}
use Prim.Native.Nat.{ℕ, suc, ◌+◌, ◌-◌}
use native.Mathlib.Omega.{arith}
use Rattle.rules.specs.Frames.{Frame}
use Rattle.rules.specs.Queue.{placed, after}
use Rattle.queue.specs.Queue.{free, Places, Pops}
use Rattle.queue.specs.declared.ArrayQueue.{ArrayQueue}
use Rattle.queue.specs.declared.Pushed.{Pushed}
use Rattle.queue.specs.declared.Popped.{Popped}
use Rattle.queue.proofs.Putting.{placed_fits}
use Rattle.queue.proofs.Alike.{Call, len, is_empty, capacity, try_reserve, push, return, peek, pop}
use Rattle.queue.proofs.Alike.{Answer, number, truth, placing, frame, Kept, counted, emptied, sized, reserved, pushes, returns, peeks, pops}

-- the frames placed, by the answer of a push or a return
abbrev pub placed_of : Answer → ℕ
placed_of (number n) = 0
placed_of (truth t) = 0
placed_of (placing p) = after p 1 0
placed_of (frame h) = 0

-- the frames handed out, by the answer of a pop
abbrev pub handed_of : Answer → ℕ
handed_of (number n) = 0
handed_of (truth t) = 0
handed_of (placing p) = 0
handed_of (frame h) = cond (is_some h) 1 0

-- a call that was answered by x where n places were free leaves m free
abbrev pub Balance : Call → Answer → ℕ → ℕ → Type 0
Balance len x n m = m ≡ n
Balance is_empty x n m = m ≡ n
Balance capacity x n m = m ≡ n
Balance (try_reserve k) x n m = m ≡ n
Balance (push f) x n m = m + placed_of x ≡ n
Balance (return f) x n m = m + placed_of x ≡ n
Balance peek x n m = m ≡ n
Balance pop x n m = m ≡ n + handed_of x

module _ {q : ArrayQueue} {a : List (List ℕ)} where
  places_balanced : {put : Frame → List Frame → List Frame} {f : Frame} {r : Pushed} {a' : List (List ℕ)} → Places put q a f r a' → free r.queue a' + after r.answer 1 0 ≡ free q a
  places_balanced {put} {f} {r} {a'} p = go r.answer p.answered p.left
    where
      go : (t : Result (Unit {0}) Refusal) → t ≡ placed (free q a) f → free r.queue a' ≡ after t (free q a - 1) (free q a) → free r.queue a' + after t 1 0 ≡ free q a
      go (Ok _) e l = omega (arith, (placed_fits (free q a) f (sym e)).spare)
      go (Err x) e l = omega arith

  pops_balanced : {r : Popped} → Pops q a r → free r.queue a ≡ free q a + cond (is_some r.held) 1 0
  pops_balanced {r} p = go (is_some r.held) p.left
    where
      go : (b : Bool) → free r.queue a ≡ cond b (suc (free q a)) (free q a) → free r.queue a ≡ free q a + cond b 1 0
      go true l = omega arith
      go false l = omega arith

  -- the free places never change but by push, return and pop
  pub balanced : {o : Call} {x : Answer} {q' : ArrayQueue} {a' : List (List ℕ)} → Kept q a o x q' a' → Balance o x (free q a) (free q' a')
  balanced (counted e) = refl
  balanced (emptied e) = refl
  balanced (sized e) = refl
  balanced (reserved e) = refl
  balanced (pushes p) = places_balanced p
  balanced (returns p) = places_balanced p
  balanced (peeks e) = refl
  balanced (pops p) = pops_balanced p
