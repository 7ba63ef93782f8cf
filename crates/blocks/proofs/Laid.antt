-- Blocks of s laid over d from the start on: each may overlap what is there already, and leaves no gap.
use Rattle.std.proofs.Common.{◌≡◌, ◌+◌, ◌≤◌, ◌<◌, ◌++◌, ℕ, zero, suc, List, [], ◌∷◌, length, take, drop, ap, ap₂, ◌∙◌, sym, arith, append-nil, append_assoc, take-append-drop, length-take, length-take-le, length-drop}
use Rattle.std.specs.Prelude.{min}
use Rattle.std.proofs.lemmas.List.{take-append-le, take-take, drop_all, drop-drop, take_all}
use Rattle.std.proofs.lemmas.Slice.{drop-append-drop}
use Rattle.std.proofs.Math.Seq.{take-add, take-length, drop-nil, paste}
use Rattle.laws.proofs.Cuts.{take_min}
use Rattle.laws.specs.Laid.{laid}
use Rattle.blocks.specs.Laid.{Copied}
use borrow.Rule.Slice.PartMut.{put_mid}

-- the first i elements of s, and behind them d from there on
abbrev pub begun : List ℕ → List ℕ → ℕ → List ℕ
begun s d i = take i s ++ drop i d

-- the n elements of s from a on, laid over the n of what is begun up to i
pub reach : {e f : List ℕ} {w : ℕ} (s d : List ℕ) (n a i : ℕ) → w ≡ n → a ≤ i → i ≤ a + n → a + n ≤ length s → length s ≤ length d → e ≡ begun s d i
    → f ≡ take n (take w (drop a s)) ++ drop n (take w (drop a e)) → put_mid a w e f ≡ begun s d (a + n)
reach {e} {f} {w} s d n a i v h k m l p q =
    let len : length (take i s) ≡ i = length-take-le i s (omega arith) in
    let le : n ≤ n = omega arith in
    let front : take a e ≡ take a s = ap (take a) p ∙ take-append-le a (take i s) (drop i d) (omega arith) ∙ take-take a i s h in
    let none : drop n (take n (drop a e)) ≡ [] = drop_all n (take n (drop a e)) (simp length-take (omega arith)) in
    let back : drop n (drop a e) ≡ drop (a + n) d = drop-drop n a e ∙ ap (drop (a + n)) p ∙ drop-append-drop i d (take i s) (a + n) k len in
    rw (q, v, front, take-take n n (drop a s) le, none, append-nil, back, ← append_assoc, ← take-add a n s)

-- all of s is begun once its length is reached
pub all : {n : ℕ} (s d : List ℕ) → length s ≤ length d → n ≡ length s → begun s d n ≡ laid s d
all s d h e = ap (begun s d) e ∙ ap (λ (l : List ℕ). l ++ drop (length s) d) (take-length s ∙ sym (take_all (length d) s h))

-- what d has no room for does not count
pub cut : {n : ℕ} {e : List ℕ} (s d : List ℕ) → length d < length s → Copied (take (length d) s) d n e → Copied s d n e
cut s d h r =
    let l : length (take (length d) s) ≡ length d = length-take-le (length d) s (omega arith) in
    let m : length d ≤ length d = omega arith in
    let k : length d ≤ length s = omega arith in
    record {
      counted = omega (arith, r.counted);
      copied = r.copied ∙ ap₂ (λ (x y : List ℕ). x ++ y) (take-take (length d) (length d) s m)
          (ap (λ (n : ℕ). drop n d) l ∙ drop_all (length d) d m ∙ sym (drop_all (length s) d k));
    }

-- ---- for callers that lend a part of a list

-- what a copy of m left of a part of n, and what lies behind the part
behind : (n m : ℕ) (l : List ℕ) → drop m (take n l) ++ drop n l ≡ drop (min n m) l
behind zero m l =
    let z : 0 ≡ min 0 m = omega arith in
    ap (λ (k : List ℕ). k ++ l) (drop-nil m) ∙ ap (λ (k : ℕ). drop k l) z
behind (suc n) zero l =
    let z : 0 ≡ min (suc n) 0 = omega arith in
    take-append-drop (suc n) l ∙ ap (λ (k : ℕ). drop k l) z
behind (suc n) (suc m) [] = sym (drop-nil (min (suc n) (suc m)))
behind (suc n) (suc m) (x ∷ l) =
    let z : suc (min n m) ≡ min (suc n) (suc m) = omega arith in
    behind n m l ∙ ap (λ (k : ℕ). drop k (x ∷ l)) z

-- bs copied to the n places of xs from a on
pub lent : {ys : List ℕ} (xs bs : List ℕ) (a n : ℕ) → a + n ≤ length xs → ys ≡ laid bs (take n (drop a xs))
    → put_mid a n xs ys ≡ paste xs a bs (min n (length bs))
lent xs bs a n h e =
    let l : length (take n (drop a xs)) ≡ n = simp (length-take, length-drop) (omega arith) in
    rw (e, l, append_assoc (take n bs), behind n (length bs) (drop a xs), drop-drop, ← take_min n bs, append_assoc)
