-- Digits next to each other write a remainder of a quotient; others put in their place change the number by the difference at that place. For a
-- number is what the digits from a place on write, at the power of that place, and what those below it write.
use mathlib.Core.Path.{◌≡◌, sym, ap, ap₂, ◌∙◌, subst}
use mathlib.Core.List.{List, [], ◌∷◌, ◌++◌, append_assoc}
use Prim.Native.Nat.{ℕ, zero, suc, ◌+◌, ◌*◌, ◌/◌, ◌%◌, ◌^◌, ◌≤◌, ◌<◌}
use native.Mathlib.Nat.{mul-zero, mul-suc, add-zero, add-mul, mul_assoc, mul-one, zero-mul, pow-zero, pow-suc}
use native.Mathlib.Omega.{arith}
use lib.Arith.{digits_div, digits_mod}
use lib.Pow.{pow-add}
use lib.ListN.{length, get_or, set, take, drop, take-append-drop, length-drop}
use lib.Seq.{sets, sets-eq, length-take-le, drop-cons, drop-drop}
use Rattle.laws.specs.Digits.{value_of, AreDigits}
use Rattle.laws.proofs.Digits.{value_lt}

-- a power of a power
pub pow_pow : (b j k : ℕ) → b ^ (j * k) ≡ (b ^ j) ^ k
pow_pow b j zero = ap (λ (x : ℕ). b ^ x) (mul-zero j) ∙ pow-zero b ∙ sym (pow-zero (b ^ j))
pow_pow b j (suc k) =
    ap (λ (x : ℕ). b ^ x) (mul-suc j k) ∙ pow-add b (j * k) j ∙ ap (λ (x : ℕ). x * b ^ j) (pow_pow b j k) ∙ sym (pow-suc (b ^ j) k)

module _ (b : ℕ) (pos : 0 < b) where
  -- digits behind others count at the power of so many
  pub value_append : (xs ys : List ℕ) → value_of b (xs ++ ys) ≡ value_of b ys * b ^ length xs + value_of b xs
  unfolding value_of
  value_append [] ys = sym (mul-one (value_of b ys)) ∙ ap (λ (x : ℕ). value_of b ys * x) (sym (pow-zero b)) ∙ sym (add-zero (value_of b ys * b ^ 0))
  value_append (x ∷ xs) ys =
      let Y = value_of b ys in
      let B = b ^ length xs in
      let e : Y * b ^ suc (length xs) ≡ Y * B * b = rw pow-suc (sym (mul_assoc Y B b)) in
      ap (λ (v : ℕ). v * b + x) (value_append xs ys) ∙ omega (arith, add-mul (Y * B) (value_of b xs) b)

  -- a number cut at digit n
  value_cut : (n : ℕ) (ds : List ℕ) → n ≤ length ds → value_of b ds ≡ value_of b (drop n ds) * b ^ n + value_of b (take n ds)
  value_cut n ds h =
      ap (value_of b) (sym (take-append-drop n ds)) ∙ value_append (take n ds) (drop n ds)
      ∙ ap (λ (k : ℕ). value_of b (drop n ds) * b ^ k + value_of b (take n ds)) (length-take-le n ds h)

  taken : (n : ℕ) (ds : List ℕ) → AreDigits b ds → AreDigits b (take n ds)
  taken zero ds w k = pos
  taken (suc n) [] w k = pos
  taken (suc n) (d ∷ ds) w zero = w 0
  taken (suc n) (d ∷ ds) w (suc k) = taken n ds (λ j. w (suc j)) k

  taken_lt : (n : ℕ) (ds : List ℕ) → AreDigits b ds → n ≤ length ds → value_of b (take n ds) < b ^ n
  taken_lt n ds w h = subst (λ (k : ℕ). value_of b (take n ds) < b ^ k) (length-take-le n ds h) (value_lt b pos (take n ds) (taken n ds w))

  dropped : (n : ℕ) (ds : List ℕ) → AreDigits b ds → AreDigits b (drop n ds)
  dropped zero ds w = w
  dropped (suc n) [] w = w
  dropped (suc n) (d ∷ ds) w = dropped n ds (λ k. w (suc k))

  -- n digits from place i on write a remainder of a quotient
  pub value_part : (ds : List ℕ) (i n : ℕ) → AreDigits b ds → i + n ≤ length ds → value_of b ds / b ^ i % b ^ n ≡ value_of b (take n (drop i ds))
  value_part ds i n w h =
      let hi : i ≤ length ds = omega arith in
      let hn : n ≤ length (drop i ds) = omega (arith, length-drop i ds) in
      ap (λ (v : ℕ). v % b ^ n)
      (ap (λ (v : ℕ). v / b ^ i) (value_cut i ds hi) ∙ digits_div (value_of b (drop i ds)) (taken_lt i ds w hi) ∙ value_cut n (drop i ds) hn)
      ∙ digits_mod (value_of b (drop n (drop i ds))) (taken_lt n (drop i ds) (dropped i ds w) hn)

  -- digits put in the place of as many change the number by the difference at that place
  pub value_sets : (ds : List ℕ) (i : ℕ) (vs : List ℕ) → i + length vs ≤ length ds
      → value_of b (sets ds i vs) + value_of b (take (length vs) (drop i ds)) * b ^ i ≡ value_of b ds + value_of b vs * b ^ i
  value_sets ds i vs h =
      let n = length vs in
      let H = value_of b (drop (i + n) ds) * b ^ n in
      let L = value_of b (take i ds) in
      let hi : i ≤ length ds = omega arith in
      let hn : n ≤ length (drop i ds) = omega (arith, length-drop i ds) in
      let put : value_of b (sets ds i vs) ≡ (H + value_of b vs) * b ^ i + L =
      ap (value_of b) (sets-eq vs ds i h ∙ append_assoc (take i ds) vs (drop (i + n) ds)) ∙ value_append (take i ds) (vs ++ drop (i + n) ds)
      ∙ ap₂ (λ (x k : ℕ). x * b ^ k + L) (value_append vs (drop (i + n) ds)) (length-take-le i ds hi) in
      let was : value_of b ds ≡ (H + value_of b (take n (drop i ds))) * b ^ i + L =
      value_cut i ds hi ∙ ap (λ (x : ℕ). x * b ^ i + L) (value_cut n (drop i ds) hn ∙ ap (λ (ys : List ℕ). value_of b ys * b ^ n + value_of b (take n (drop i ds))) (drop-drop n i ds)) in
      omega (arith, add-mul H (value_of b vs) (b ^ i), add-mul H (value_of b (take n (drop i ds))) (b ^ i))

  -- the digits from place k on begin with digit k
  pub value_at : (ds : List ℕ) (k n : ℕ) → k < length ds → value_of b (take (suc n) (drop k ds)) ≡ value_of b (take n (drop (suc k) ds)) * b + get_or ds k 0
  unfolding value_of
  value_at ds k n h = ap (λ (xs : List ℕ). value_of b (take (suc n) xs)) (drop-cons ds k 0 h)

  -- a single digit writes itself
  pub one_digit : (d : ℕ) → value_of b (d ∷ []) ≡ d
  unfolding value_of
  one_digit d = omega (arith, zero-mul b)

  -- one digit set
  pub value_set : (ds : List ℕ) (k d : ℕ) → k < length ds → value_of b (set ds k d) + get_or ds k 0 * b ^ k ≡ value_of b ds + d * b ^ k
  unfolding value_of
  value_set ds k d h =
      ap (λ (x : ℕ). value_of b (set ds k d) + x * b ^ k) (sym (value_at ds k 0 h ∙ one_digit (get_or ds k 0))) ∙ value_sets ds k (d ∷ []) (omega arith)
      ∙ ap (λ (x : ℕ). value_of b ds + x * b ^ k) (one_digit d)
