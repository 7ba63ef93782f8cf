-- Laws of the queue's order: it is kept, a push is the textbook's insertion, equal IDs leave first in first out, and a returned frame leaves before its equals.
use Rattle.std.proofs.Common.{◌≡◌, ℕ, suc, ◌<◌, ◌≤◌, Bool, true, false, cond, ◌&&◌, eqb, ltb, leb, List, [], ◌∷◌, ◌++◌, length, sym, refl, ap, ◌∙◌, true≢false, arith, ltb-false, ltb-true, lt-ltb, eq-eqb, ne_eqb, leb-false, leb-true}
use Rattle.laws.proofs.Choose.{both_true}
use Rattle.rules.specs.Frames.{Frame}
use Rattle.rules.specs.Queue.{all_above, pushed, returned, rest, AllFrom, Ordered, having, inserted}

-- what holds of each side of a choice where it is taken holds of the choice
either : {A : Type 0} (P : A → Type 0) (b : Bool) (x y : A) → (b ≡ true → P x) → (b ≡ false → P y) → P (cond b x y)
either P true x y f g = f refl
either P false x y f g = g refl

-- ---- bounds on IDs

from_less : (i j : ℕ) (fs : List Frame) → i ≤ j → AllFrom j fs → AllFrom i fs
from_less i j [] h a = tt
from_less i j (f ∷ fs) h a = (omega (arith, a.0), from_less i j fs h a.1)

above_from : (i : ℕ) (fs : List Frame) → all_above i fs ≡ true → AllFrom i fs
above_from i [] e = tt
above_from i (f ∷ fs) e =
    let b = both_true (ltb i f.id) (all_above i fs) e in
    (omega (arith, ltb-true i f.id b.0), above_from i fs b.1)

-- where no ID is below j and not all are above i, j is not above i
some_from : (i j : ℕ) (fs : List Frame) → AllFrom j fs → all_above i fs ≡ false → j ≤ i
some_from i j [] a e = absurd (true≢false e)
some_from i j (f ∷ fs) a e = go (ltb i f.id) refl (λ w. some_from i j fs a.1 w) e
  where
    go : (b : Bool) → ltb i f.id ≡ b → (all_above i fs ≡ false → j ≤ i) → (b && all_above i fs) ≡ false → j ≤ i
    go true w r h = r h
    go false w r h = omega (arith, a.0, ltb-false i f.id w)

-- where no ID is below j, all are above any i below j
pub from_above : (i j : ℕ) (fs : List Frame) → i < j → AllFrom j fs → all_above i fs ≡ true
from_above i j [] h a = refl
from_above i j (f ∷ fs) h a = let l : i < f.id = omega (arith, a.0) in rw (lt-ltb i f.id l) (from_above i j fs h a.1)

-- ---- THE ORDER IS KEPT

from_pushed : (i : ℕ) (f : Frame) (fs : List Frame) → i ≤ f.id → AllFrom i fs → AllFrom i (pushed f fs)
from_pushed i f [] h a = (h, tt)
from_pushed i f (g ∷ gs) h a = either (AllFrom i) (all_above f.id (g ∷ gs)) _ _ (λ e. (h, a)) (λ e. (a.0, from_pushed i f gs h a.1))

pub push_ordered : (f : Frame) (fs : List Frame) → Ordered fs → Ordered (pushed f fs)
push_ordered f [] o = (tt, tt)
push_ordered f (g ∷ gs) o =
    either Ordered (all_above f.id (g ∷ gs)) _ _ (λ e. (above_from f.id (g ∷ gs) e, o))
    (λ e. (from_pushed g.id f gs (some_from f.id g.id (g ∷ gs) (omega arith, o.0) e) o.0, push_ordered f gs o.1))

from_returned : (i : ℕ) (f : Frame) (fs : List Frame) → i ≤ f.id → AllFrom i fs → AllFrom i (returned f fs)
from_returned i f [] h a = (h, tt)
from_returned i f (g ∷ gs) h a = either (AllFrom i) (leb f.id g.id) _ _ (λ e. (h, a)) (λ e. (a.0, from_returned i f gs h a.1))

pub return_ordered : (f : Frame) (fs : List Frame) → Ordered fs → Ordered (returned f fs)
return_ordered f [] o = (tt, tt)
return_ordered f (g ∷ gs) o =
    either Ordered (leb f.id g.id) _ _ (λ e. ((leb-true _ _ e, from_less f.id g.id gs (leb-true _ _ e) o.0), o))
    (λ e. (from_returned g.id f gs (omega (arith, leb-false f.id g.id e)) o.0, return_ordered f gs o.1))

pub rest_ordered : (fs : List Frame) → Ordered fs → Ordered (rest fs)
rest_ordered [] o = tt
rest_ordered (f ∷ fs) o = o.1

-- ---- A PUSH IS THE TEXTBOOK'S INSERTION

pub push_inserts : (f : Frame) (fs : List Frame) → Ordered fs → pushed f fs ≡ inserted f fs
push_inserts f [] o = refl
push_inserts f (g ∷ gs) o = go (ltb f.id g.id) refl (push_inserts f gs o.1)
  where
    go : (b : Bool) → ltb f.id g.id ≡ b → pushed f gs ≡ inserted f gs → pushed f (g ∷ gs) ≡ cond b (f ∷ g ∷ gs) (g ∷ inserted f gs)
    go true e ih = rw (e, from_above f.id g.id gs (ltb-true _ _ e) o.0) refl
    go false e ih = rw e (ap (λ (l : List Frame). g ∷ l) ih)

-- ---- EQUAL IDS: first in first out, a returned frame first, and no other frame moves

none_above : (i : ℕ) (fs : List Frame) → all_above i fs ≡ true → having i fs ≡ []
none_above i [] e = refl
none_above i (f ∷ fs) e =
    let b = both_true (ltb i f.id) (all_above i fs) e in
    let n = ltb-true i f.id b.0 in
    rw (ne_eqb f.id i (λ (q : f.id ≡ i). omega arith)) (none_above i fs b.1)

own : (f : Frame) → eqb f.id f.id ≡ true
own f = eq-eqb f.id f.id refl

pub push_last : (f : Frame) (fs : List Frame) → having f.id (pushed f fs) ≡ having f.id fs ++ (f ∷ [])
push_last f [] = rw (own f) refl
push_last f (g ∷ gs) = go (all_above f.id (g ∷ gs)) refl (push_last f gs)
  where
    behind : (b : Bool) → having f.id (pushed f gs) ≡ having f.id gs ++ (f ∷ [])
        → cond b (g ∷ having f.id (pushed f gs)) (having f.id (pushed f gs)) ≡ cond b (g ∷ having f.id gs) (having f.id gs) ++ (f ∷ [])
    behind true ih = ap (λ (l : List Frame). g ∷ l) ih
    behind false ih = ih

    go : (b : Bool) → all_above f.id (g ∷ gs) ≡ b → having f.id (pushed f gs) ≡ having f.id gs ++ (f ∷ [])
        → having f.id (cond b (f ∷ g ∷ gs) (g ∷ pushed f gs)) ≡ having f.id (g ∷ gs) ++ (f ∷ [])
    go true e ih = let n = none_above f.id (g ∷ gs) e in rw (own f) (ap (λ (l : List Frame). f ∷ l) n ∙ ap (λ (l : List Frame). l ++ (f ∷ [])) (sym n))
    go false e ih = behind (eqb g.id f.id) ih

pub return_first : (f : Frame) (fs : List Frame) → having f.id (returned f fs) ≡ f ∷ having f.id fs
return_first f [] = rw (own f) refl
return_first f (g ∷ gs) = go (leb f.id g.id) refl (return_first f gs)
  where
    go : (b : Bool) → leb f.id g.id ≡ b → having f.id (returned f gs) ≡ f ∷ having f.id gs
        → having f.id (cond b (f ∷ g ∷ gs) (g ∷ returned f gs)) ≡ f ∷ having f.id (g ∷ gs)
    go true e ih = rw (own f) refl
    go false e ih = let l = leb-false f.id g.id e in rw (ne_eqb g.id f.id (λ (q : g.id ≡ f.id). omega arith)) ih

-- frames with another ID keep their order, whichever way a frame was put
module _ (i : ℕ) (f : Frame) (ne : f.id ≡ i → ⊥) where
  kept : (b : Bool) (g : Frame) (xs ys : List Frame) → having i xs ≡ having i ys → having i (cond b (f ∷ g ∷ ys) (g ∷ xs)) ≡ having i (g ∷ ys)
  kept true g xs ys e = rw (ne_eqb f.id i ne) refl
  kept false g xs ys e = ap (λ (l : List Frame). cond (eqb g.id i) (g ∷ l) l) e

  pub push_others : (fs : List Frame) → having i (pushed f fs) ≡ having i fs
  push_others [] = rw (ne_eqb f.id i ne) refl
  push_others (g ∷ gs) = kept (all_above f.id (g ∷ gs)) g (pushed f gs) gs (push_others gs)

  pub return_others : (fs : List Frame) → having i (returned f fs) ≡ having i fs
  return_others [] = rw (ne_eqb f.id i ne) refl
  return_others (g ∷ gs) = kept (leb f.id g.id) g (returned f gs) gs (return_others gs)

-- ---- one frame more

module _ (f : Frame) where
  one_more : (b : Bool) (g : Frame) (xs ys : List Frame) → length xs ≡ suc (length ys) → length (cond b (f ∷ g ∷ ys) (g ∷ xs)) ≡ suc (suc (length ys))
  one_more true g xs ys e = refl
  one_more false g xs ys e = ap suc e

  pub push_length : (fs : List Frame) → length (pushed f fs) ≡ suc (length fs)
  push_length [] = refl
  push_length (g ∷ gs) = one_more (all_above f.id (g ∷ gs)) g (pushed f gs) gs (push_length gs)

  pub return_length : (fs : List Frame) → length (returned f fs) ≡ suc (length fs)
  return_length [] = refl
  return_length (g ∷ gs) = one_more (leb f.id g.id) g (returned f gs) gs (return_length gs)
