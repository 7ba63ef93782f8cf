-- What is handed out shows the frame: its stamp, ID, loopback and bytes, of which there are at most 64. So a frame that was placed in an empty queue comes
-- out of it as it went in.
use Rattle.std.specs.Prelude.{Ok, Option, None, Some}
use mathlib.Core.Path.{◌≡◌, refl, sym, ap, ◌∙◌, subst}
use mathlib.Core.Bool.{Bool, true, false, cond}
use mathlib.Core.List.{List, [], ◌∷◌, ◌++◌}
use Prim.Native.Nat.{ℕ, zero, suc, ◌≤◌, min}
use native.Mathlib.Omega.{arith}
use lib.ListN.{length, take, drop, get_or, replicate, length-take}
use lib.Seq.{take_all, take-append_seam}
use Rattle.rules.specs.Limits.{greatest_frame}
use Rattle.rules.specs.Frames.{Frame, frame}
use Rattle.rules.specs.Queue.{first, pushed, returned}
use Rattle.queue.specs.Place.{frame_of, held, held_of, shown}
use Rattle.queue.specs.Ring.{at, tab}
use Rattle.queue.specs.Queue.{sound, frame_at, contents, contents_is, free, Places, Pops}
use Rattle.queue.specs.declared.ArrayQueue.{ArrayQueue}
use Rattle.queue.specs.declared.Held.{Held}
use Rattle.queue.specs.declared.Pushed.{Pushed}
use Rattle.queue.specs.declared.Popped.{Popped}
use Rattle.queue.proofs.Putting.{placed_fits}

-- a frame of at most 64 bytes is shown as it is
pub shown_some : (f : Frame) → length f.bytes ≤ greatest_frame → shown (held_of (Some f)) ≡ Some f
shown_some f h =
    let zeros : List ℕ = replicate greatest_frame 0 in
    ap (λ (bs : List ℕ). Some (frame (held f).marks bs))
    (ap (λ (xs : List ℕ). take (length f.bytes) (xs ++ drop (length f.bytes) zeros)) (take_all (length zeros) f.bytes h) ∙ take-append_seam f.bytes (drop (length f.bytes) zeros))

-- the first frame of a queue, if there is one, has at most 64 bytes
abbrev Short : Option Frame → Type 0
Short None = Unit {0}
Short (Some f) = length f.bytes ≤ greatest_frame

first_short : (q : ArrayQueue) (places : List (List ℕ)) → Short (first (contents q places))
first_short q places = subst (λ (fs : List Frame). Short (first fs)) (sym (contents_is q places)) (go (sound q (length places)) q.length)
  where
    at_most : (place : List ℕ) → length (frame_of place).bytes ≤ greatest_frame
    at_most place = omega (arith, length-take (min (get_or place 9 0) greatest_frame) (drop 12 place))

    go : (b : Bool) (n : ℕ) → Short (first (cond b (tab n (frame_at q places)) []))
    go true zero = tt
    go true (suc n) = at_most (at q.head q.capacity places 0)
    go false n = tt

-- what is handed out shows the first frame
pub shown_first : (q : ArrayQueue) (places : List (List ℕ)) → shown (held_of (first (contents q places))) ≡ first (contents q places)
shown_first q places = go (first (contents q places)) (first_short q places)
  where
    go : (o : Option Frame) → Short o → shown (held_of o) ≡ o
    go None s = refl
    go (Some f) s = shown_some f s

-- and says no more bytes than a frame can have
pub held_short : (q : ArrayQueue) (places : List (List ℕ)) (h : Held) → held_of (first (contents q places)) ≡ Some h → h.length ≤ greatest_frame
held_short q places h = go (first (contents q places)) (first_short q places)
  where
    go : (o : Option Frame) → Short o → held_of o ≡ Some h → h.length ≤ greatest_frame
    go None s e = let z : ◌≡◌ {A = ℕ} 0 1 = cc in absurd (omega arith)
    go (Some f) s e = let l : h.length ≡ length f.bytes = cc in omega (arith, s)

-- a frame placed in an empty queue, by a rule that puts it alone there, leaves it as it came
pub comes_out : {put : Frame → List Frame → List Frame} {q : ArrayQueue} {places places' : List (List ℕ)} {f : Frame} {r : Pushed} {s : Popped} →
    put f [] ≡ f ∷ [] → contents q places ≡ [] → Places put q places f r places' → r.answer ≡ Ok tt → Pops r.queue places' s → shown s.held ≡ Some f
comes_out {put} {q} {places} {places'} {f} {r} {s} alone e p t o =
    let c : contents r.queue places' ≡ f ∷ [] = rw t at p.queued ∙ ap (put f) e ∙ alone in
    let b = placed_fits (free q places) f (sym p.answered ∙ t) in
    ap shown (o.answered ∙ ap (λ (fs : List Frame). held_of (first fs)) c) ∙ shown_some f b.short

pub pushed_comes_out : {q : ArrayQueue} {places places' : List (List ℕ)} {f : Frame} {r : Pushed} {s : Popped} →
    contents q places ≡ [] → Places pushed q places f r places' → r.answer ≡ Ok tt → Pops r.queue places' s → shown s.held ≡ Some f
pushed_comes_out e p t o = comes_out refl e p t o

pub returned_comes_out : {q : ArrayQueue} {places places' : List (List ℕ)} {f : Frame} {r : Pushed} {s : Popped} →
    contents q places ≡ [] → Places returned q places f r places' → r.answer ≡ Ok tt → Pops r.queue places' s → shown s.held ≡ Some f
returned_comes_out e p t o = comes_out refl e p t o
