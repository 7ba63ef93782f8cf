-- A place that was filled with a frame says that frame, and what a place says is handed out with zeros behind it.
use Rattle.std.specs.Prelude.{Option, Some}
use mathlib.Core.Path.{◌≡◌, refl, sym, ap, ◌∙◌}
use mathlib.Core.Bool.{Bool, true, false, cond, not}
use mathlib.Core.List.{List, [], ◌∷◌, ◌++◌, append-nil}
use Prim.Native.Nat.{ℕ, suc, ◌+◌, ◌-◌, ◌/◌, ◌%◌, ◌≤◌, ◌<◌, min}
use native.Mathlib.Omega.{arith}
use lib.Dec.{eqb}
use lib.ListN.{length, get_or, set, take, drop, replicate, length-append, length-drop, drop_of_length-le}
use lib.Seq.{get_or-take, length-take-le, take_all, drop-cons, append_snoc, take-append_seam, set-append_seam, take-set-le, drop-set-add}
use borrow.Rule.Slice.PartMut.{put_mid}
use Rattle.laws.specs.Laid.{laid}
use Rattle.rules.specs.Limits.{greatest_frame}
use Rattle.rules.specs.Frames.{frame}
use Rattle.rules.specs.Transfer.{tailed}
use Rattle.rules.specs.declared.frame.Marks.{Marks}
use Rattle.queue.specs.Place.{joined, place_length, head_of, frame_of, held_of}
use Rattle.queue.specs.declared.Held.{Held}

-- the mark tells the loopback
told : (b : Bool) → not (eqb (cond b 1 0) 0) ≡ b
told true = refl
told false = refl

-- a place that begins with a frame's head and goes on with its bytes
pub framed : (marks : Marks) (bytes place : List ℕ) → take 12 place ≡ head_of marks (length bytes) → take (length bytes) (drop 12 place) ≡ bytes → length bytes ≤ greatest_frame →
    frame_of place ≡ frame marks bytes
framed marks bytes place e eb h =
    rw (byte 0 (omega arith), byte 1 (omega arith), byte 2 (omega arith), byte 3 (omega arith), byte 4 (omega arith), byte 5 (omega arith), byte 6 (omega arith), byte 7 (omega arith), byte 8 (omega arith), byte 9 (omega arith))
    (rw (whole marks.id, whole marks.stamp, told marks.loopback, least, eb))
  where
    byte : (k : ℕ) → k < 12 → get_or place k 0 ≡ get_or (head_of marks (length bytes)) k 0
    byte k w = sym (get_or-take 12 place k 0 w) ∙ ap (λ (l : List ℕ). get_or l k 0) e

    whole : (x : ℕ) → joined (x % 256) (x / 256 % 256) (x / 65536 % 256) (x / 16777216) ≡ x
    whole x = omega arith

    least : min (length bytes) greatest_frame ≡ length bytes
    least = omega arith

-- a list with its first twelve elements shown, as the stores of a head meet them
pub twelve : (l : List ℕ) → 12 ≤ length l →
    l ≡ get_or l 0 0 ∷ get_or l 1 0 ∷ get_or l 2 0 ∷ get_or l 3 0 ∷ get_or l 4 0 ∷ get_or l 5 0 ∷ get_or l 6 0 ∷ get_or l 7 0 ∷ get_or l 8 0 ∷ get_or l 9 0 ∷ get_or l 10 0 ∷ get_or l 11 0 ∷ drop 12 l
twelve l h =
    cc
    (drop-cons l 0 0 (omega arith), drop-cons l 1 0 (omega arith), drop-cons l 2 0 (omega arith), drop-cons l 3 0 (omega arith), drop-cons l 4 0 (omega arith), drop-cons l 5 0 (omega arith), drop-cons l 6 0 (omega arith), drop-cons l 7 0 (omega arith), drop-cons l 8 0 (omega arith), drop-cons l 9 0 (omega arith), drop-cons l 10 0 (omega arith), drop-cons l 11 0 (omega arith))

-- the bytes are copied behind the head
pub begun : (marks : Marks) (count : ℕ) (bytes place headed copied : List ℕ) → length place ≡ place_length → headed ≡ head_of marks count ++ drop 12 place →
    copied ≡ laid bytes (take 64 (drop 12 headed)) → put_mid 12 64 headed copied ≡ head_of marks count ++ laid bytes (drop 12 place)
begun marks count bytes place headed copied l eh ec = rw (ec, eh) (rw (all, None) (ap (λ (xs : List ℕ). head_of marks count ++ xs) (append-nil _)))
  where
    long : length (drop 12 place) ≡ 64
    long = omega (arith, length-drop 12 place)

    all : take 64 (drop 12 place) ≡ drop 12 place
    all = take_all 64 (drop 12 place) (omega (arith, long))

    None : drop 64 (drop 12 place) ≡ []
    None = drop_of_length-le (drop 12 place) {i = 64} (omega (arith, long))

-- as much of the bytes as a place has room for is all of them
laid_all : (bytes behind : List ℕ) → length behind ≡ 64 → length bytes ≤ greatest_frame → laid bytes behind ≡ bytes ++ drop (length bytes) behind
laid_all bytes behind l h = ap (λ (xs : List ℕ). xs ++ drop (length bytes) behind) (take_all (length behind) bytes (omega arith))

-- a place with its head and its frame's bytes
pub filled : (marks : Marks) (bytes behind place : List ℕ) → length behind ≡ 64 → length bytes ≤ greatest_frame → place ≡ head_of marks (length bytes) ++ laid bytes behind →
    frame_of place ≡ frame marks bytes
filled marks bytes behind place l h e =
    framed marks bytes place (ap (take 12) e) (ap (λ (xs : List ℕ). take (length bytes) (drop 12 xs)) e ∙ ap (take (length bytes)) (laid_all bytes behind l h) ∙ take-append_seam bytes _) h

-- and one whose last byte is written by itself
pub filled_tailed : (marks : Marks) (part behind place : List ℕ) (tail : ℕ) → length behind ≡ 64 → length part < greatest_frame → place ≡ head_of marks (length part + 1) ++ laid part behind →
    frame_of (set place (12 + length part) tail) ≡ frame marks (tailed part tail)
filled_tailed marks part behind place tail l h e =
    framed marks (tailed part tail) (set place (12 + length part) tail)
    (take-set-le 12 place (12 + length part) tail (omega arith) ∙ ap (take 12) e ∙ ap (head_of marks) (sym more))
    (ap (take (length (tailed part tail))) written ∙ take-append_seam (tailed part tail) (drop (suc (length part)) behind))
    (omega (arith, more))
  where
    more : length (tailed part tail) ≡ length part + 1
    more = length-append part (tail ∷ [])

    written : drop 12 (set place (12 + length part) tail) ≡ tailed part tail ++ drop (suc (length part)) behind
    written =
        drop-set-add 12 place (length part) tail
        ∙ ap (λ (xs : List ℕ). set (drop 12 xs) (length part) tail) e
        ∙ ap (λ (xs : List ℕ). set xs (length part) tail) (laid_all part behind l (omega arith) ∙ ap (λ (xs : List ℕ). part ++ xs) (drop-cons behind (length part) 0 (omega arith)))
        ∙ set-append_seam part _ _ tail
        ∙ sym (append_snoc part tail _)

-- what is read of a place and copied from it
pub fetched : (place bytes : List ℕ) (count id stamp : ℕ) → length place ≡ 76 →
    id ≡ joined (get_or place 0 0) (get_or place 1 0) (get_or place 2 0) (get_or place 3 0) →
    stamp ≡ joined (get_or place 4 0) (get_or place 5 0) (get_or place 6 0) (get_or place 7 0) →
    count ≡ min (get_or place 9 0) greatest_frame →
    bytes ≡ laid (take (12 + count - 12) (drop 12 place)) (replicate greatest_frame 0) →
    ◌≡◌ {A = Option Held} (Some record { marks = record { stamp = stamp; id = id; loopback = not (eqb (get_or place 8 0) 0) }; length = count; bytes = bytes })
    (held_of (Some (frame_of place)))
fetched place bytes count id stamp l ei es ec eb =
    let n : ℕ = min (get_or place 9 0) greatest_frame in
    let a : 12 + count - 12 ≡ n = omega arith in
    let k : count ≡ length (take n (drop 12 place)) = ec ∙ sym (length-take-le n (drop 12 place) (omega (arith, length-drop 12 place))) in
    let b : bytes ≡ laid (take n (drop 12 place)) (replicate greatest_frame 0) = eb ∙ ap (λ (x : ℕ). laid (take x (drop 12 place)) (replicate greatest_frame 0)) a in
    cc (ei, es, k, b)
