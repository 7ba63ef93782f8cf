-- The frames of a send stand together in an ordered queue: behind all whose ID is not above theirs, in front of all whose ID is.
use Rattle.std.proofs.Common.{◌≡◌, ℕ, ◌<◌, ◌≤◌, Bool, true, false, leb, List, [], ◌∷◌, ◌++◌, map, sym, refl, ap, ◌∙◌, append_assoc, arith, le-ltb, lt-ltb, leb-false, leb-true}
use Rattle.rules.specs.declared.frame.Marks.{Marks}
use Rattle.rules.specs.Frames.{Frame, frame}
use Rattle.rules.specs.Queue.{all_above, pushed, Ordered}
use Rattle.rules.specs.Sending.{all_pushed}
use Rattle.rules.proofs.Queue.{from_above}

-- no ID is above i
abbrev pub AtMost : ℕ → List Frame → Type 0
AtMost i [] = Unit {0}
AtMost i (f ∷ fs) = (f.id ≤ i) × AtMost i fs

-- a queue cut where the IDs rise above i
pub record CutAt (i : ℕ) (fs : List Frame) : Type 0 where
  pub front : List Frame
  pub back : List Frame
  pub whole : fs ≡ front ++ back
  pub low : AtMost i front
  pub high : all_above i back ≡ true

-- an ordered queue can be cut so
pub cut_at : (i : ℕ) (fs : List Frame) → Ordered fs → CutAt i fs
cut_at i [] o = record { front = []; back = []; whole = refl; low = tt; high = refl }
cut_at i (f ∷ fs) (o, os) = go (leb f.id i) refl (cut_at i fs os)
  where
    go : (b : Bool) → leb f.id i ≡ b → CutAt i fs → CutAt i (f ∷ fs)
    go true e c = record { front = f ∷ c.front; back = c.back; whole = ap (λ (l : List Frame). f ∷ l) c.whole; low = (leb-true f.id i e, c.low); high = c.high }
    go false e c =
        let h : i < f.id = leb-false f.id i e in
        record { front = []; back = f ∷ fs; whole = refl; low = tt; high = rw (lt-ltb i f.id h) (from_above i f.id fs h o) }

-- a frame goes between the two parts
between : (f : Frame) (front back : List Frame) → AtMost f.id front → all_above f.id back ≡ true → pushed f (front ++ back) ≡ front ++ (f ∷ back)
between f [] [] l h = refl
between f [] (g ∷ gs) l h = rw h refl
between f (g ∷ gs) back (l, ls) h = rw (le-ltb f.id g.id l) (ap (λ (fs : List Frame). g ∷ fs) (between f gs back ls h))

at_most_more : (i : ℕ) (f : Frame) (fs : List Frame) → f.id ≤ i → AtMost i fs → AtMost i (fs ++ (f ∷ []))
at_most_more i f [] h l = (h, tt)
at_most_more i f (g ∷ gs) h (l, ls) = (l, at_most_more i f gs h ls)

-- and so do all frames of a send, in their order
pub together : (marks : Marks) (fs : List (List ℕ)) (front back : List Frame) → AtMost marks.id front → all_above marks.id back ≡ true
    → all_pushed marks fs (front ++ back) ≡ front ++ (map (frame marks) fs ++ back)
together marks [] front back l h = refl
together marks (b ∷ bs) front back l h =
    let f : Frame = frame marks b in
    let k : marks.id ≤ marks.id = omega arith in
    ap (all_pushed marks bs) (between f front back l h ∙ sym (append_assoc front (f ∷ []) back))
    ∙ together marks bs (front ++ (f ∷ [])) back (at_most_more marks.id f front k l) h
    ∙ append_assoc front (f ∷ []) (map (frame marks) bs ++ back)
