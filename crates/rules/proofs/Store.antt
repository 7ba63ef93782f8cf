-- The store as one row of parts: a part that is put in its place is found there, and nothing else moves, since parts of different sources lie apart.
use Rattle.std.proofs.Common.{◌≡◌, ℕ, ◌+◌, ◌-◌, ◌*◌, ◌<◌, ◌≤◌, ◌≢◌, List, ◌++◌, length, take, drop, sym, ap, ◌∙◌, ⊎_elim, append_assoc, mul-le-mul_right, arith, length-append, length-drop, take-append-drop, length-take, length-take-le, drop-drop, take_at, drop_at}
use lib.Seq.{take-append-le, drop-append-le, drop-append-add}
use Rattle.laws.proofs.Choose.{at_most_or_above}
use Rattle.rules.specs.Receiver.{part_of, with_part}

-- ---- one part put in its place

module _ (e n : ℕ) (store part : List ℕ) (room : n * e + e ≤ length store) (size : length part ≡ e) where
  front : length (take (n * e) store) ≡ n * e
  front = length-take-le (n * e) store (omega arith)

  -- the store is as long as before
  pub put_length : length (with_part e n store part) ≡ length store
  put_length = simp (length-append, length-take, length-drop) (omega arith)

  -- what lies from the part on
  pub put_from : drop (n * e) (with_part e n store part) ≡ part ++ drop (n * e + e) store
  put_from = rw (append_assoc (take (n * e) store) part (drop (n * e + e) store)) (drop_at (take (n * e) store) (part ++ drop (n * e + e) store) (n * e) front)

  -- the part is there
  pub put_same : part_of e n (with_part e n store part) ≡ part
  put_same = rw put_from (take_at part (drop (n * e + e) store) e size)

  -- what lies behind the part is as it was
  pub put_behind : (k : ℕ) → n * e + e ≤ k → drop k (with_part e n store part) ≡ drop k store
  put_behind k h =
      let l : length (take (n * e) store ++ part) ≡ n * e + e = simp length-append (omega (arith, front)) in
      let d : k ≡ length (take (n * e) store ++ part) + (k - (n * e + e)) = omega arith in
      let b : n * e + e + (k - (n * e + e)) ≡ k = omega arith in
      ap (λ (i : ℕ). drop i (with_part e n store part)) d ∙ drop-append-add (take (n * e) store ++ part) (drop (n * e + e) store) (k - (n * e + e))
      ∙ drop-drop (k - (n * e + e)) (n * e + e) store ∙ ap (λ (i : ℕ). drop i store) b

  -- what lies in front of the part has nothing to do with what follows
  before : (k : ℕ) (xs : List ℕ) → k + e ≤ n * e → take e (drop k (take (n * e) store ++ xs)) ≡ take e (drop k (take (n * e) store))
  before k xs h =
      let p : k ≤ length (take (n * e) store) = omega (arith, front) in
      let q : e ≤ length (drop k (take (n * e) store)) = simp length-drop (omega (arith, front)) in
      rw (drop-append-le k (take (n * e) store) xs p, take-append-le e (drop k (take (n * e) store)) xs q)

  -- the part of another source is as it was
  pub put_other : (m : ℕ) → m ≢ n → part_of e m (with_part e n store part) ≡ part_of e m store
  put_other m ne =
      ⊎_elim
      (λ (h : n ≤ m).
      let k : n < m = omega (arith, ne) in
      ap (take e) (put_behind (m * e) (omega (arith, mul-le-mul_right e k))))
      (λ (h : m < n).
      let k : m * e + e ≤ n * e = omega (arith, mul-le-mul_right e h) in
      ap (λ (l : List ℕ). part_of e m l) (append_assoc (take (n * e) store) part (drop (n * e + e) store)) ∙ before (m * e) (part ++ drop (n * e + e) store) k
      ∙ sym (before (m * e) (drop (n * e) store) k) ∙ ap (λ (l : List ℕ). part_of e m l) (take-append-drop (n * e) store))
      (at_most_or_above n m)

-- the part that lies there, put in its place, is no change
pub put_own : (e n : ℕ) (store : List ℕ) → with_part e n store (part_of e n store) ≡ store
put_own e n store =
    let rest : List ℕ = drop (n * e) store in
    append_assoc (take (n * e) store) (take e rest) (drop (n * e + e) store)
    ∙ ap (λ (l : List ℕ). take (n * e) store ++ (take e rest ++ l)) (sym (drop-drop e (n * e) store))
    ∙ ap (λ (l : List ℕ). take (n * e) store ++ l) (take-append-drop e rest) ∙ take-append-drop (n * e) store
