-- What asking does to a tracker. Its words and its numbers are two ways to write the row, so what the book says of the numbers holds of the tracker,
-- and no two trackers have the same numbers.
use Rattle.std.specs.Prelude.{Err}
use mathlib.Core.Path.{◌≡◌, refl, sym, ap, ◌∙◌}
use mathlib.Core.Logic.{◌≢◌}
use mathlib.Core.List.{List}
use Prim.Native.Nat.{ℕ, ◌+◌, ◌%◌, ◌^◌, ◌≤◌, ◌<◌}
use native.Mathlib.Nat.{mod-lt}
use native.Mathlib.Omega.{arith}
use lib.Dec.{leb, lit<}
use lib.ListN.{length, get_or}
use borrow.Author.Tests.{lt-leb}
use Rattle.laws.specs.Digits.{value_of, digits_of, AreDigits}
use Rattle.laws.proofs.Choose.{either_way}
use Rattle.laws.proofs.Digits.{length_digits, are_digits, set_digits, there_and_back}
use Rattle.rules.specs.Limits.{greatest_node, nodes, transfer_ids}
use Rattle.rules.specs.Tracker.{fresh_numbers, after_asking}
use Rattle.rules.specs.declared.refusal.Refusal.TheVariants.{Field}
use Rattle.rules.proofs.Tracker as book
use Rattle.tracker.specs.declared.CanTransferIdTracker.{CanTransferIdTracker}
use Rattle.tracker.specs.Row.{words, word_base, numbers, row_of, asked, Sound}
use Rattle.tracker.proofs.Row.{length_numbers, same_row, row_is}

-- every row is sound: so is a new tracker ..
pub row_sound : (ns : List ℕ) → Sound (row_of ns)
unfolding row_of
row_sound ns = record { twenty = length_digits word_base (lit< tt) words (value_of transfer_ids ns); fit = are_digits word_base (lit< tt) words (value_of transfer_ids ns) }

-- .. and every tracker after asking
pub asked_sound : (t : CanTransferIdTracker) (n : ℕ) → Sound (asked t n).tracker
unfolding asked
asked_sound t n = row_sound (after_asking (numbers t) n)

-- the numbers of a row are those it was made of
pub numbers_row : (ns : List ℕ) → length ns ≡ nodes → AreDigits transfer_ids ns → numbers (row_of ns) ≡ ns
unfolding numbers row_of
numbers_row ns l w =
    ap (λ (k : ℕ). digits_of transfer_ids k (value_of word_base (digits_of word_base words (value_of transfer_ids ns)))) (sym l)
    ∙ there_and_back transfer_ids word_base (lit< tt) (lit< tt) ns w words (ap (λ (k : ℕ). transfer_ids ^ k) l)

-- and the row of a tracker's numbers is the tracker
pub row_numbers : (t : CanTransferIdTracker) → Sound t → row_of (numbers t) ≡ t
row_numbers t s = sym (row_is t s (numbers t) (sym (same_row t s)))

-- two trackers with the same numbers are the same
pub one_tracker : (t u : CanTransferIdTracker) → Sound t → Sound u → numbers t ≡ numbers u → t ≡ u
one_tracker t u st su e = sym (row_numbers t st) ∙ ap row_of e ∙ row_numbers u su

-- a destination over the greatest node is refused, and the tracker is unchanged
pub refused : (t : CanTransferIdTracker) (n : ℕ) → Sound t → greatest_node < n → asked t n ≡ record { tracker = t; answer = Err Field }
unfolding asked
refused t n s h = simp (lt-leb n greatest_node h) (ap (λ (u : CanTransferIdTracker). record { tracker = u; answer = Err Field }) (row_numbers t s))

-- the numbers after asking are what the book says
pub numbers_after : (t : CanTransferIdTracker) (n : ℕ) → numbers (asked t n).tracker ≡ after_asking (numbers t) n
unfolding asked numbers
numbers_after t n =
    let v = value_of word_base t.ids in
    let w = are_digits transfer_ids (lit< tt) nodes v in
    let next = (get_or (numbers t) n 0 + 1) % transfer_ids in
    numbers_row (after_asking (numbers t) n) (book.length_kept (numbers t) n ∙ length_numbers t)
    (either_way (AreDigits transfer_ids) (leb n greatest_node) (set_digits transfer_ids (lit< tt) (numbers t) n next w (mod-lt (get_or (numbers t) n 0 + 1) (lit< tt))) w)

-- the destination's number is stepped by one modulo 32
pub own_stepped : (t : CanTransferIdTracker) (n : ℕ) → n ≤ greatest_node → get_or (numbers (asked t n).tracker) n 0 ≡ (get_or (numbers t) n 0 + 1) % transfer_ids
own_stepped t n h = rw numbers_after (book.own_stepped (numbers t) n h (omega (arith, length_numbers t)))

-- and no other destination's number changes
pub others_kept : (t : CanTransferIdTracker) (n m : ℕ) → m ≢ n → get_or (numbers (asked t n).tracker) m 0 ≡ get_or (numbers t) m 0
others_kept t n m ne = rw numbers_after (book.others_kept (numbers t) n m ne)

-- at first every number is 0
pub at_first : numbers (row_of fresh_numbers) ≡ fresh_numbers
unfolding numbers row_of value_of digits_of
at_first = refl
