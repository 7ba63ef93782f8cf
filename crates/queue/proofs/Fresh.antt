-- A queue that was just made holds nothing, whatever places are lent, and has its whole capacity free where so many are lent.
use mathlib.Core.Path.{◌≡◌, refl, ap, ◌∙◌}
use mathlib.Core.Logic.{⊎_elim}
use mathlib.Core.Bool.{Bool, true, false, cond}
use mathlib.Core.List.{List, []}
use Prim.Native.Nat.{ℕ, ◌-◌, ◌≤◌, ◌<◌}
use native.Mathlib.Omega.{arith}
use lib.ListN.{length}
use Rattle.laws.proofs.Choose.{at_most_or_above}
use Rattle.rules.specs.Limits.{greatest_capacity}
use Rattle.queue.specs.Ring.{tab}
use Rattle.queue.specs.Queue.{sound, frame_at, contents, contents_is, free, free_is, capacity_of, capacity_is, fresh, fresh_is}
use Rattle.queue.specs.declared.ArrayQueue.{ArrayQueue}
use Rattle.queue.proofs.State.{sound_of, free_of}

-- the state by its fields
abbrev zeros : ℕ → ArrayQueue
zeros n = record { head = 0; length = 0; capacity = n }

pub fresh_contents : (n : ℕ) (places : List (List ℕ)) → contents (fresh n) places ≡ []
fresh_contents n places = ap (λ (q : ArrayQueue). contents q places) (fresh_is n) ∙ contents_is (zeros n) places ∙ go (sound (zeros n) (length places))
  where
    go : (b : Bool) → cond b (tab 0 (frame_at (zeros n) places)) [] ≡ []
    go true = refl
    go false = refl

pub fresh_free : (n : ℕ) (places : List (List ℕ)) → n ≤ greatest_capacity → n ≤ length places → free (fresh n) places ≡ n
fresh_free n places h hl =
    ap (λ (q : ArrayQueue). free q places) (fresh_is n)
    ∙ ⊎_elim
    (λ (z : n ≤ 0). free_is (zeros n) places ∙ go (sound (zeros n) (length places)) z)
    (λ (p : 0 < n). let s = sound_of (zeros n) (length places) (record { head = p; room = omega arith; small = h; enough = hl }) in omega (arith, free_of (zeros n) places s))
    (at_most_or_above n 0)
  where
    go : (b : Bool) → n ≤ 0 → cond b (n - 0) 0 ≡ n
    go true z = omega arith
    go false z = omega arith

pub fresh_capacity : (n : ℕ) → capacity_of (fresh n) ≡ n
fresh_capacity n = ap capacity_of (fresh_is n) ∙ capacity_is (zeros n)
