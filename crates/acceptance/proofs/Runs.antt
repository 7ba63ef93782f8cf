-- A run of `accept` calls over lent words is a run of the book's receiver, call by call: the tie of one call, lifted over the list.
use mathlib.Core.Path.{◌≡◌, refl, ap, ap₂, ◌∙◌}
use mathlib.Core.Bool.{Bool, cond}
use mathlib.Core.List.{List, [], ◌∷◌}
use Prim.Native.Nat.{ℕ}
use Rattle.rules.specs.declared.subscription.Settings.{Settings}
use Rattle.rules.specs.Frames.{Frame}
use Rattle.rules.specs.Receiver.{Receiver, Outcome, cell_at, received}
use Rattle.rules.specs.Histories.{Told, tells, heard_of, run, heard_by}
use Rattle.rx.specs.Accept.{viewed}
use Rattle.rx.proofs.Tied.{tied, slot_viewed}
use Rattle.acceptance.specs.Runs.{Lent, called, left_by, answered, calls, ran, slot_in}

-- the book's receiver that the lent memory stands for
abbrev pub book_of : Lent → Receiver
book_of m = viewed m.words m.store

module _ (s : Settings) where
  -- one call
  pub call_tied : (m : Lent) (f : Frame) → book_of (left_by (called s m f)) ≡ (received s (book_of m) f).receiver
  call_tied m f = ap (λ (o : Outcome). o.receiver) (tied s m.words m.store f)

  told_tied : (m : Lent) (f : Frame) → answered f (called s m f) ≡ tells f (received s (book_of m) f)
  told_tied m f = ap (tells f) (tied s m.words m.store f)

  -- a run
  pub ran_tied : (fs : List Frame) (m : Lent) → book_of (ran s m fs) ≡ run s (book_of m) fs
  ran_tied [] m = refl
  ran_tied (f ∷ fs) m = ran_tied fs (left_by (called s m f)) ∙ ap (λ (w : Receiver). run s w fs) (call_tied m f)

  -- what is heard in it
  pub heard_tied : (test : Frame → Bool) (fs : List Frame) (m : Lent) → heard_of (calls s) test m fs ≡ heard_by test s (book_of m) fs
  heard_tied test [] m = refl
  heard_tied test (f ∷ fs) m =
      ap₂ (λ (t : Told) (l : List Told). cond (test f) (t ∷ l) l) (told_tied m f)
      (heard_tied test fs (left_by (called s m f)) ∙ ap (λ (w : Receiver). heard_by test s w fs) (call_tied m f))

  -- the slot of a source
  pub slot_tied : (m : Lent) (n : ℕ) → (cell_at s.extent (book_of m) n).slot ≡ slot_in m n
  unfolding cell_at
  slot_tied m n = slot_viewed m.words m.store n
