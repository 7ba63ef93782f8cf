-- Lists of bytes in an array of zeros: a part laid at the front, zeros behind it, two bytes set behind those.
use Rattle.std.proofs.Common.{◌≡◌, ℕ, suc, ◌+◌, ◌-◌, ◌≤◌, List, [], ◌∷◌, ◌++◌, length, take, drop, set, replicate, sym, refl, ap, ◌∙◌, ap₂, append_assoc, arith, length-append, take_all, take_at, drop_at}
use lib.ListN.{length-replicate, replicate-append-replicate}
use lib.Seq.{set_at, append_snoc, take-append-add}
use Rattle.std.proofs.lemmas.List.{take-replicate, drop-replicate}
use Rattle.laws.specs.Laid.{laid}
use Rattle.rules.specs.Transfer.{padded}

-- a list that fits is laid whole
laid_whole : (s d : List ℕ) → length s ≤ length d → laid s d ≡ s ++ drop (length s) d
laid_whole s d h = ap (λ (l : List ℕ). l ++ drop (length s) d) (take_all (length d) s h)

-- n zeros
abbrev pub zeros : ℕ → List ℕ
zeros n = replicate n 0

-- a list laid over zeros has zeros behind it
pub laid_zeros : (s : List ℕ) (k : ℕ) → length s ≤ k → laid s (zeros k) ≡ padded (k - length s) s
laid_zeros s k h =
    let l : length s ≤ length (zeros k) = omega (arith, length-replicate {A = ℕ} k 0) in
    laid_whole s (zeros k) l ∙ ap (λ (z : List ℕ). s ++ z) (drop-replicate (length s) k 0)

length_padded : (s : List ℕ) (n : ℕ) → length (padded n s) ≡ length s + n
length_padded s n = length-append s (replicate n 0) ∙ ap (λ (k : ℕ). length s + k) (length-replicate n 0)

-- so many zeros as n, and the rest of them
more_zeros : (s : List ℕ) (n k : ℕ) → n ≤ k → padded k s ≡ padded n s ++ replicate (k - n) 0
more_zeros s n k h =
    let e : k ≡ n + (k - n) = omega arith in
    ap (λ (z : List ℕ). s ++ z) (ap (λ (j : ℕ). replicate j 0) e ∙ sym (replicate-append-replicate n (k - n) 0)) ∙ sym (append_assoc s (replicate n 0) (replicate (k - n) 0))

-- a part with n zeros, cut from one with more
pub padded_part : (s : List ℕ) (n k : ℕ) → n ≤ k → take (length s + n) (padded k s) ≡ padded n s
padded_part s n k h = take-append-add s (zeros k) n ∙ ap (λ (z : List ℕ). s ++ z) (take-replicate n k 0 h)

two : (p : List ℕ) (k n a b : ℕ) → length p ≡ n → set (set (p ++ replicate (suc (suc k)) 0) n a) (n + 1) b ≡ (p ++ (a ∷ b ∷ [])) ++ replicate k 0
two p k n a b e =
    let l : length (p ++ (a ∷ [])) ≡ n + 1 = length-append p (a ∷ []) ∙ ap (λ (j : ℕ). j + 1) e in
    rw (set_at p 0 (0 ∷ replicate k 0) a n e, ← append_snoc p a (0 ∷ replicate k 0), set_at (p ++ (a ∷ [])) 0 (replicate k 0) b (n + 1) l)
    (append_assoc p (a ∷ []) (b ∷ replicate k 0) ∙ sym (append_assoc p (a ∷ b ∷ []) (replicate k 0)))

-- n of the zeros behind a part
pub padding_part : (s : List ℕ) (n k : ℕ) → n ≤ k → take (length s + n - length s) (drop (length s) (padded k s)) ≡ zeros n
padding_part s n k h =
    let e : length s + n - length s ≡ n = omega arith in
    ap₂ take e (drop_at s (zeros k) (length s) refl) ∙ take-replicate n k 0 h

-- two bytes set behind n of the zeros
pub two_set : (s : List ℕ) (n k a b : ℕ) → n + 2 ≤ k → take (length s + n + 2) (set (set (padded k s) (length s + n) a) (length s + n + 1) b) ≡ s ++ (zeros n ++ (a ∷ b ∷ []))
two_set s n k a b h =
    let z : k - n ≡ suc (suc (k - (n + 2))) = omega arith in
    let l : length (padded n s ++ (a ∷ b ∷ [])) ≡ length s + n + 2 = length-append (padded n s) (a ∷ b ∷ []) ∙ ap (λ (j : ℕ). j + 2) (length_padded s n) in
    ap (λ (r : List ℕ). take (length s + n + 2) (set (set r (length s + n) a) (length s + n + 1) b))
    (more_zeros s n k (omega arith) ∙ ap (λ (j : ℕ). padded n s ++ zeros j) z)
    ∙ ap (take (length s + n + 2)) (two (padded n s) (k - (n + 2)) (length s + n) a b (length_padded s n))
    ∙ take_at (padded n s ++ (a ∷ b ∷ [])) (zeros (k - (n + 2))) (length s + n + 2) l
    ∙ append_assoc s (zeros n) (a ∷ b ∷ [])
