-- ONE SOURCE AMONG ALL: what it hears, answers and bytes, and the cell that it is left with come of its own frames alone, by the rules for one source. For its
-- frames are its turns, and all others leave its cell as it was; so whatever is proved of one cell is proved of the whole receiver.
use Rattle.std.specs.Prelude.{None, Option, Some, Err, Ok, Result}
use Rattle.rules.specs.declared.refusal.Refusal.{Refusal}
use Rattle.std.proofs.Common.{◌≡◌, ℕ, ◌*◌, ◌%◌, ◌≤◌, Bool, true, false, leb, List, [], ◌∷◌, length, sym, refl, ap, ◌∙◌, subst, ap₂, ne_eqb, eqb-true, le-leb}
use borrow.Author.Tests.{eqb-false}
use Rattle.rules.specs.declared.types.CanNodeId.{CanNodeId}
use Rattle.rules.specs.declared.subscription.Port.{Port}
use Rattle.rules.specs.declared.subscription.Settings.{Settings}
use Rattle.rules.specs.declared.receive.Arrival.{Arrival}
use Rattle.rules.specs.Limits.{nodes}
use Rattle.rules.specs.Frames.{Frame}
use Rattle.rules.specs.Answers.{Answer, shown, answer_from}
use Rattle.rules.specs.Source.{Cell, Turn, turn}
use Rattle.rules.specs.Receiver.{before_tail, reading, Receiver as TheReceiver, cell_at, source_in, by_reading, judged, received}
use Rattle.rules.specs.Histories.{run, Told, tells, is_node, read_from, is_from, has_low, kept, heard_by}
use Rattle.rules.proofs.Receiver.{source_known, from_source, lengths_kept, others_kept, own_turn, own_shown}

-- ---- the cell of one source

-- a frame at a cell: its turn, where it is for this subscription and has a source; otherwise nothing changes but the answer
unfoldable pub turn_at : Settings → Cell → Frame → Turn
turn_at s c f =
    by_reading (reading s.port f) (before_tail f.bytes) (λ answer. record { answer = answer; cell = c }) (λ n a bytes. turn s.timeout c a bytes)

abbrev answered : Answer → List ℕ → Told
answered answer bytes = record { answer = answer; bytes = bytes }

-- what the frame is told, where the source's part lies in the store from start on
abbrev pub told_at : ℕ → Frame → Turn → Told
told_at start f t = record { answer = answer_from start t.answer; bytes = shown t.answer f.bytes t.cell.part }

-- all that a run of frames is told, and the cell that it leaves
pub record Course : Type 0 where
  pub told : List Told
  pub cell : Cell

-- a course, after one frame before it
abbrev pub after : Told → Course → Course
after t c = record { told = t ∷ c.told; cell = c.cell }

abbrev pub course : Settings → ℕ → Cell → List Frame → Course
course s start c [] = record { told = []; cell = c }
course s start c (f ∷ fs) = after (told_at start f (turn_at s c f)) (course s start (turn_at s c f).cell fs)

-- a frame for this subscription that has a source is a turn
pub turn_ours : (s : Settings) (c : Cell) (f : Frame) (a : Arrival) (m : CanNodeId) → reading s.port f ≡ Ok (Some a) → source_in a.header ≡ Some m
    → turn_at s c f ≡ turn s.timeout c a (before_tail f.bytes)
unfolding turn_at
turn_ours s c f a m e q = rw (e, q) refl

-- ---- tests that pick out one source

-- a test that every good frame of source n passes, and no other source's
pub record Picks (port : Port) (n : ℕ) (test : Frame → Bool) : Type 0 where
  pub every : (f : Frame) → test f ≡ false → is_from port n f ≡ false
  pub alone : (f : Frame) (a : Arrival) (m : CanNodeId) → test f ≡ true → reading port f ≡ Ok (Some a) → source_in a.header ≡ Some m → m.0 ≡ n

module _ (port : Port) (n : ℕ) where
  -- being a good frame of the source is such a test
  pub good_picks : Picks port n (is_from port n)
  good_picks = record { every = λ f e. e; alone = λ f a m t e q. eqb-true m.0 n (sym (from_source port f a m e q n) ∙ t) }

  not_from : (f : Frame) → ((a : Arrival) (m : CanNodeId) → reading port f ≡ Ok (Some a) → source_in a.header ≡ Some m → m.0 ≡ n → ⊥) → is_from port n f ≡ false
  unfolding is_from
  not_from f other = go (reading port f) refl
    where
      from : (o : Option CanNodeId) (a : Arrival) → reading port f ≡ Ok (Some a) → source_in a.header ≡ o → is_node n o ≡ false
      from None a e q = refl
      from (Some m) a e q = ne_eqb m.0 n (other a m e q)

      go : (r : Result (Option Arrival) Refusal) → reading port f ≡ r → read_from n r ≡ false
      go (Err r) e = refl
      go (Ok None) e = refl
      go (Ok (Some a)) e = from (source_in a.header) a e refl

  -- and so is having it in the low seven bits of the CAN ID
  pub low_picks : Picks port n (has_low n)
  low_picks = record {
    every = λ f t. not_from f (λ a m e q k. eqb-false (f.id % nodes) n t (sym (source_known port f a m e q).1 ∙ k));
    alone = λ f a m t e q. (source_known port f a m e q).1 ∙ eqb-true (f.id % nodes) n t;
  }

-- ---- the whole receiver

-- 128 slots, and a store with a part for each
pub record Roomy (s : Settings) (w : TheReceiver) : Type 0 where
  pub many : length w.slots ≡ nodes
  pub room : nodes * s.extent ≤ length w.store

module _ (s : Settings) where
  frame_roomy : (w : TheReceiver) (f : Frame) → Roomy s w → Roomy s (received s w f).receiver
  frame_roomy w f h =
      let l = lengths_kept s w f in
      record { many = l.0 ∙ h.many; room = subst (λ (k : ℕ). nodes * s.extent ≤ k) (sym l.1) h.room }

  -- a run of frames leaves 128 slots, and the store with its parts
  pub run_roomy : (w : TheReceiver) (fs : List Frame) → Roomy s w → Roomy s (run s w fs)
  run_roomy w [] h = h
  run_roomy w (f ∷ fs) h = run_roomy (received s w f).receiver fs (frame_roomy w f h)

  -- a frame is told what the cell of source n tells it, and leaves there what it leaves at the cell
  abbrev AsAtCell : TheReceiver → Frame → ℕ → Type 0
  AsAtCell w f n =
      (tells f (received s w f) ≡ told_at (n * s.extent) f (turn_at s (cell_at s.extent w n) f))
      × (cell_at s.extent (received s w f).receiver n ≡ (turn_at s (cell_at s.extent w n) f).cell)

  module _ (w : TheReceiver) (f : Frame) (h : Roomy s w) where
    -- so it is with a frame that is ours and has a source, at its source's cell
    at_source_lem : (a : Arrival) (m : CanNodeId) → reading s.port f ≡ Ok (Some a) → source_in a.header ≡ Some m → AsAtCell w f m.0
    at_source_lem a m e q =
        let t = own_turn s w f a m h.room e q h.many in
        let b = own_shown s w f a m h.room e q in
        rw (turn_ours s (cell_at s.extent w m.0) f a m e q)
        (ap₂ answered t.1 b, t.0)

    -- and with a frame that no source but n can have sent, at the cell of n
    at_own : (n : ℕ) → ((a : Arrival) (m : CanNodeId) → reading s.port f ≡ Ok (Some a) → source_in a.header ≡ Some m → m.0 ≡ n) → AsAtCell w f n
    unfolding received judged turn_at
    at_own n mine = go (reading s.port f) refl
      where
        fits : leb (nodes * s.extent) (length w.store) ≡ true
        fits = le-leb (nodes * s.extent) (length w.store) h.room

        from : (o : Option CanNodeId) (a : Arrival) → reading s.port f ≡ Ok (Some a) → source_in a.header ≡ o → AsAtCell w f n
        from None a e q = rw (fits, e, q) (refl, refl)
        from (Some m) a e q = subst (AsAtCell w f) (mine a m e q) (at_source_lem a m e q)

        go : (r : Result (Option Arrival) Refusal) → reading s.port f ≡ r → AsAtCell w f n
        go (Err r) e = rw (fits, e) (refl, refl)
        go (Ok None) e = rw (fits, e) (refl, refl)
        go (Ok (Some a)) e = from (source_in a.header) a e refl

  -- A SOURCE'S COURSE IS ITS OWN: what it hears of any frames, and the cell that they leave it, is the course of its own frames at its cell
  pub own_course_lem : (n : ℕ) (test : Frame → Bool) → Picks s.port n test → (fs : List Frame) (w : TheReceiver) → Roomy s w
      → record { told = heard_by test s w fs; cell = cell_at s.extent (run s w fs) n } ≡ course s (n * s.extent) (cell_at s.extent w n) (kept test fs)
  own_course_lem n test picks [] w h = refl
  own_course_lem n test picks (f ∷ fs) w h = go (test f) refl (own_course_lem n test picks fs (received s w f).receiver (frame_roomy w f h))
    where
      rest : Cell → Course
      rest c = course s (n * s.extent) c (kept test fs)

      go : (b : Bool) → test f ≡ b
          → record { told = heard_by test s (received s w f).receiver fs; cell = cell_at s.extent (run s (received s w f).receiver fs) n }
          ≡ rest (cell_at s.extent (received s w f).receiver n)
          → record { told = heard_by test s w (f ∷ fs); cell = cell_at s.extent (run s w (f ∷ fs)) n }
          ≡ course s (n * s.extent) (cell_at s.extent w n) (kept test (f ∷ fs))
      go true e ih =
          let o = at_own w f h n (λ a m. picks.alone f a m e) in
          rw e (ap₂ after o.0 (ih ∙ ap rest o.1))
      go false e ih = rw e (ih ∙ ap rest (others_kept s w f n (picks.every f e)))

  -- two runs with the same frames of a source tell it the same
  pub apart : (n : ℕ) (test : Frame → Bool) → Picks s.port n test → (w : TheReceiver) → Roomy s w → (fs gs : List Frame) → kept test fs ≡ kept test gs
      → heard_by test s w fs ≡ heard_by test s w gs
  apart n test picks w h fs gs e =
      ap (λ (c : Course). c.told)
      (own_course_lem n test picks fs w h ∙ ap (course s (n * s.extent) (cell_at s.extent w n)) e ∙ sym (own_course_lem n test picks gs w h))
