-- A part of the store that takes bytes behind those that it has.
use mathlib.Core.Path.{◌≡◌}
use mathlib.Core.List.{List, [], append-nil, append_assoc}
use Prim.Native.Nat.{ℕ, ◌+◌, ◌-◌, ◌≤◌}
use native.Mathlib.Omega.{arith}
use lib.ListN.{length, take, drop, length-drop, drop_of_length-le}
use lib.Seq.{take_all, drop-drop}
use borrow.Rule.Slice.PartMut.{put_mid, Post-is}
use Rattle.laws.specs.Laid.{laid}
use Rattle.rules.specs.Session.{stored}

-- a full part takes nothing
pub stored_full : (total : ℕ) (bytes part : List ℕ) → length part ≤ total → stored total bytes part ≡ part
unfolding stored
stored_full total bytes part h =
    let z : length part - total ≡ 0 = omega arith in
    let d : length part ≤ total + length bytes = omega arith in
    rw (take_all total part h, z, drop_of_length-le part d) (simp append-nil)

-- the rest of a list from a on, lent to a copy of bs, is back as that copy
pub lent_rest : (xs bs : List ℕ) (a : ℕ) {ys : List ℕ} → a ≤ length xs → ys ≡ laid bs (take (length xs - a) (drop a xs))
    → put_mid a (length xs - a) xs ys ≡ stored a bs xs
unfolding stored
lent_rest xs bs a {ys} h e =
    let l : length (drop a xs) ≡ length xs - a = length-drop a xs in
    let m : length (drop a xs) ≤ length xs - a = omega (arith, l) in
    let t : take (length xs - a) (drop a xs) ≡ drop a xs = take_all (length xs - a) (drop a xs) m in
    let n : length xs ≤ length xs = omega arith in
    let z : drop (length xs) xs ≡ [] = drop_of_length-le xs n in
    rw (e, t, l, Post-is a (length xs) xs h, z, drop-drop (length bs) a xs) (simp (append-nil, append_assoc))
