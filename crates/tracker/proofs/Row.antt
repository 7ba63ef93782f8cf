-- What the words and the numbers of a row say of each other: both write it, so words in which only one number is stepped are the words of the row
-- that the book steps.
use Rattle.std.specs.Prelude.{Ok}
use mathlib.Core.Path.{◌≡◌, sym, ap, ap₂, ◌∙◌}
use mathlib.Core.List.{List}
use Prim.Native.Nat.{ℕ, ◌+◌, ◌*◌, ◌/◌, ◌%◌, ◌^◌, ◌≤◌, ◌<◌}
use native.Mathlib.Nat.{mul_assoc, mul_comm, add-mul, div-div-eq-div-mul}
use native.Mathlib.Omega.{arith}
use lib.Dec.{lit<}
use lib.Pow.{pow-add}
use lib.ListN.{length, get_or, set, take, drop}
use lib.Seq.{sets, length-sets}
use borrow.Author.Tests.{le-leb}
use Rattle.laws.specs.Digits.{value_of, digits_of, AreDigits}
use Rattle.laws.proofs.Digits.{length_digits, digit, digits_value, sets_digits, other_base}
use Rattle.laws.proofs.Parts.{pow_pow, value_part, value_sets, value_set}
use Rattle.rules.specs.Limits.{greatest_node, nodes, transfer_ids, incremented}
use Rattle.rules.specs.declared.types.CanTransferId.{CanTransferId}
use Rattle.tracker.specs.declared.CanTransferIdTracker.{CanTransferIdTracker}
use Rattle.tracker.specs.Five.{five_at, with_five}
use Rattle.tracker.specs.Row.{words, word_base, numbers, row_of, asked, Sound}
use Rattle.tracker.proofs.Five.{five_within, put_change}

-- destination n's five bits begin at bit s of word k, if five times n says so
place : (n k s : ℕ) → 5 * n ≡ 32 * k + s → transfer_ids ^ n ≡ word_base ^ k * 2 ^ s
place n k s e = sym (pow_pow 2 5 n) ∙ ap (λ (x : ℕ). 2 ^ x) e ∙ pow-add 2 (32 * k) s ∙ ap (λ (x : ℕ). x * 2 ^ s) (pow_pow 2 32 k)

-- a number that is stepped is below 32
pub step_lt : (id next : CanTransferId) → next ≡ incremented id → next.0 < transfer_ids
step_lt id next e = omega (arith, ap (λ (i : CanTransferId). i.0) e)

-- an equation of windows at its place in the row
scaled : (p q y o x m : ℕ) → y + o * q ≡ x + m * q → y * p + o * (p * q) ≡ x * p + m * (p * q)
scaled p q y o x m e = lift y o ∙ ap (λ (a : ℕ). a * p) e ∙ sym (lift x m)
  where
    lift : (y o : ℕ) → y * p + o * (p * q) ≡ (y + o * q) * p
    lift y o =
        ap (λ (a : ℕ). y * p + a) (ap (λ (a : ℕ). o * a) (mul_comm p q) ∙ sym (mul_assoc o q p)) ∙ sym (add-mul y (o * q) p)

module _ (t : CanTransferIdTracker) (sound : Sound t) where
  -- a tracker's words and its numbers write the same number
  pub same_row : value_of transfer_ids (numbers t) ≡ value_of word_base t.ids
  unfolding numbers
  same_row = other_base word_base transfer_ids (lit< tt) (lit< tt) t.ids sound.fit nodes (ap (λ (k : ℕ). word_base ^ k) sound.twenty)

  -- a tracker is the row of any numbers that its words write
  pub row_is : (ns : List ℕ) → value_of word_base t.ids ≡ value_of transfer_ids ns → t ≡ row_of ns
  unfolding row_of
  row_is ns e = ap (λ (ids : List ℕ). record { ids = ids }) (sym (digits_value word_base (lit< tt) t.ids sound.fit) ∙ ap₂ (digits_of word_base) sound.twenty e)

-- there are as many numbers as nodes
pub length_numbers : (t : CanTransferIdTracker) → length (numbers t) ≡ nodes
unfolding numbers
length_numbers t = length_digits transfer_ids (lit< tt) nodes (value_of word_base t.ids)

-- Destination n's five bits begin at bit s of word k. The words vs stand in the place of as many from word k on, which write the window x,
-- and put the transfer ID next into the five bits of it.
module _ (t : CanTransferIdTracker) (sound : Sound t) (n k s : ℕ) (node : n ≤ greatest_node) (at : 5 * n ≡ 32 * k + s) (vs : List ℕ) (x : ℕ) (next : CanTransferId)
    (inside : k + length vs ≤ words) (holds : s + 5 ≤ 32 * length vs) (window : value_of word_base (take (length vs) (drop k t.ids)) ≡ x)
    (put : value_of word_base vs ≡ with_five x s next.0) where
  -- the destination's number is in the window
  number : get_or (numbers t) n 0 ≡ five_at x s
  unfolding numbers
  number =
      let row = value_of word_base t.ids in
      digit transfer_ids (lit< tt) nodes row n (omega arith)
      ∙ ap (λ (a : ℕ). a % transfer_ids) (ap (λ (a : ℕ). row / a) (place n k s at) ∙ sym (div-div-eq-div-mul row (word_base ^ k) (2 ^ s)))
      ∙ sym (five_within (row / word_base ^ k) (32 * length vs) s holds)
      ∙ ap (λ (a : ℕ). five_at a s)
      (ap (λ (a : ℕ). row / word_base ^ k % a) (pow_pow 2 32 (length vs))
      ∙ value_part word_base (lit< tt) t.ids k (length vs) sound.fit (omega (arith, sound.twenty)) ∙ window)

  -- the new words write the numbers with next in the destination's place
  written : value_of word_base (sets t.ids k vs) ≡ value_of transfer_ids (set (numbers t) n next.0)
  written =
      let W = word_base ^ k in
      let words-change : value_of word_base (sets t.ids k vs) + x * W ≡ value_of word_base t.ids + with_five x s next.0 * W =
      rw (← put, ← window) (value_sets word_base (lit< tt) t.ids k vs (omega (arith, sound.twenty))) in
      let numbers-change : value_of transfer_ids (set (numbers t) n next.0) + five_at x s * (W * 2 ^ s) ≡ value_of word_base t.ids + next.0 * (W * 2 ^ s) =
      rw (← number, ← place n k s at, ← same_row t sound) (value_set transfer_ids (lit< tt) (numbers t) n next.0 (omega (arith, length_numbers t))) in
      omega (arith, scaled W (2 ^ s) (with_five x s next.0) (five_at x s) x next.0 (put_change x s next.0))

  -- where next is one more, the new words and the number are what the book gives
  pub stepped : (id : CanTransferId) → AreDigits word_base vs → id ≡ record { 0 = five_at x s } → next ≡ incremented id
      → record { tracker = record { ids = sets t.ids k vs }; answer = Ok id } ≡ asked t n
  unfolding asked
  stepped id digits five step =
      let sound' : Sound (record { ids = sets t.ids k vs }) =
      record {
        twenty = length-sets t.ids k vs ∙ sound.twenty;
        fit = sets_digits word_base (lit< tt) t.ids k vs sound.fit digits;
      } in
      let e : next.0 ≡ (five_at x s + 1) % transfer_ids = ap (λ (i : CanTransferId). i.0) (step ∙ ap incremented five) in
      simp (le-leb n greatest_node node, number)
      (ap₂ (λ (r : CanTransferIdTracker) (i : CanTransferId). record { tracker = r; answer = Ok i })
      (row_is (record { ids = sets t.ids k vs }) sound' (set (numbers t) n next.0) written ∙ ap (λ (j : ℕ). row_of (set (numbers t) n j)) e) five)
