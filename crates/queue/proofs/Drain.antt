-- A run of pops hands out what is queued, in order: each pop hands out the first and leaves the rest.
use Rattle.std.specs.Prelude.{Option, Some}
use mathlib.Core.Path.{◌≡◌, refl, ap, ap₂, ◌∙◌}
use mathlib.Core.List.{List, [], ◌∷◌, map}
use Prim.Native.Nat.{ℕ}
use native.Mathlib.Omega.{arith}
use lib.ListN.{length}
use Rattle.rules.specs.Frames.{Frame}
use Rattle.rules.specs.Queue.{first, rest}
use Rattle.queue.specs.Place.{shown}
use Rattle.queue.specs.Queue.{contents, Pops}
use Rattle.queue.specs.declared.ArrayQueue.{ArrayQueue}
use Rattle.queue.specs.declared.Popped.{Popped}
use Rattle.queue.proofs.Shown.{shown_first}

-- pops one after the other, from the queue q on
pub data Run (places : List (List ℕ)) : ArrayQueue → List Popped → Type 0 where
  stop : {q : ArrayQueue} → Run places q []
  next : {q : ArrayQueue} {r : Popped} {rs : List Popped} → Pops q places r → Run places r.queue rs → Run places q (r ∷ rs)

-- as many pops as there are frames hand out the frames
pub drained : {places : List (List ℕ)} {q : ArrayQueue} {rs : List Popped} → Run places q rs → (fs : List Frame) → contents q places ≡ fs → length rs ≡ length fs →
    map (λ (r : Popped). shown r.held) rs ≡ map Some fs
drained stop [] e l = refl
drained stop (f ∷ fs) e l = absurd (omega arith)
drained (next p r) [] e l = absurd (omega arith)
drained {places} {q} (next p r) (f ∷ fs) e l =
    ap₂ (λ (x : Option Frame) (xs : List (Option Frame)). x ∷ xs) (ap shown p.answered ∙ shown_first q places ∙ ap first e) (drained r fs (p.queued ∙ ap rest e) (omega arith))
