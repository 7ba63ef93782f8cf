-- The first frame of a queue stands at its head; without it the queue is the ring that starts one place on.
use Rattle.std.specs.Prelude.{None, Option, Some, is_some}
use mathlib.Core.Path.{◌≡◌, refl, sym, ap, ◌∙◌}
use mathlib.Core.Bool.{true, false, true≢false, false≢true}
use mathlib.Core.List.{List, [], ◌∷◌}
use Prim.Native.Nat.{ℕ, suc, ◌-◌, ◌<◌}
use native.Mathlib.Omega.{arith}
use borrow.Author.Tests.{ne_eqb}
use lib.Dec.{eqb}
use lib.ListN.{length, get_or}
use Rattle.rules.specs.Frames.{Frame}
use Rattle.rules.specs.Queue.{first}
use Rattle.queue.specs.Place.{frame_of, held, held_of}
use Rattle.queue.specs.Ring.{slot_of, tab}
use Rattle.queue.specs.Queue.{sound, frame_at, contents, free, capacity_is, Pops}
use Rattle.queue.specs.declared.ArrayQueue.{ArrayQueue}
use Rattle.queue.specs.declared.Held.{Held}
use Rattle.queue.proofs.Slots.{slot_zero, slot_next, slot_one_below, tab_same}
use Rattle.queue.proofs.State.{Sound, sound_of, contents_of, free_of, none_of, with_frames}

-- the state without its first frame
abbrev next : ArrayQueue → ArrayQueue
next q = record { head = slot_of q.head q.capacity 1; length = q.length - 1; capacity = q.capacity }

module _ (q : ArrayQueue) (places : List (List ℕ)) (s : Sound q (length places)) (h : 0 < q.length) where
  next_sound : sound (next q) (length places) ≡ true
  next_sound = sound_of (next q) _ (record { head = slot_one_below q.head q.capacity s.head; room = omega (arith, s.room); small = s.small; enough = s.enough })

  split : contents q places ≡ frame_at q places 0 ∷ contents (next q) places
  split = contents_of q places (sound_of q _ s) ∙ apart ∙ ap (λ (l : List Frame). frame_at q places 0 ∷ l) (sym (contents_of (next q) places next_sound))
    where
      long : q.length ≡ suc (q.length - 1)
      long = omega arith

      apart : tab q.length (frame_at q places) ≡ frame_at q places 0 ∷ tab (q.length - 1) (frame_at (next q) places)
      apart =
          ap (λ (n : ℕ). tab n (frame_at q places)) long
          ∙ ap (λ (l : List Frame). frame_at q places 0 ∷ l)
          (tab_same (q.length - 1) (λ k. frame_at q places (suc k)) (frame_at (next q) places)
          (λ k hk. ap (λ (p : ℕ). frame_of (get_or places p [])) (sym (slot_next q.head q.capacity k s.head (omega (arith, s.room))))))

  -- what stands at the head is what leaves next
  pub at_head : Some (held (frame_of (get_or places q.head []))) ≡ held_of (first (contents q places))
  at_head =
      ap (λ (p : ℕ). Some (held (frame_of (get_or places p [])))) (sym (slot_zero q.head q.capacity s.head))
      ∙ ap (λ (l : List Frame). held_of (first l)) (sym split)

  pub pops_first :
      (out : Option Held) (head : ℕ) → out ≡ held_of (first (contents q places)) → head ≡ slot_of q.head q.capacity 1 →
      Pops q places (record { queue = record { head = head; length = q.length - 1; capacity = q.capacity }; held = out })
  pops_first out head e eh =
      rw (e, eh)
      (record {
        answered = refl;
        queued = rw split;
        left =
            let w : free (next q) places ≡ suc (free q places) = omega (arith, s.room, free_of q places (sound_of q _ s), free_of (next q) places next_sound) in
            rw split w;
        capacity = capacity_is (next q) ∙ sym (capacity_is q);
        kept = rw split;
      })

-- where there is no frame, none is handed out
pub at_none : (q : ArrayQueue) (places : List (List ℕ)) → eqb (length (contents q places)) 0 ≡ true → held_of None ≡ held_of (first (contents q places))
at_none q places e = rw (none_of (contents q places) e)

-- whether there is a frame, by what is handed out
none_held : (fs : List Frame) → is_some (held_of (first fs)) ≡ false → fs ≡ []
none_held [] e = refl
none_held (f ∷ fs) e = absurd (true≢false e)

some_held : (fs : List Frame) → is_some (held_of (first fs)) ≡ true → eqb (length fs) 0 ≡ false
some_held [] e = absurd (false≢true e)
some_held (f ∷ fs) e = ne_eqb (suc (length fs)) 0 (λ w. omega arith)

module _ (q : ArrayQueue) (places : List (List ℕ)) (h : Option Held) (e : h ≡ held_of (first (contents q places))) where
  -- where a frame is handed out one is queued
  pub found_queued : is_some h ≡ true → Sound q (length places) × (0 < q.length)
  found_queued t = with_frames q places (some_held (contents q places) (rw e at t))

  pub pops_nothing : is_some h ≡ false → Pops q places (record { queue = q; held = h })
  pops_nothing t =
      let n : contents q places ≡ [] = none_held (contents q places) (rw e at t) in
      rw e (record { answered = refl; queued = rw n; left = rw n; capacity = refl; kept = rw n })
