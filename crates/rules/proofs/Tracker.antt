-- Asking steps the number of its destination by one modulo 32, and no other; the row keeps its length.
use Rattle.std.proofs.Common.{◌≡◌, ℕ, ◌+◌, ◌%◌, ◌<◌, ◌≤◌, Bool, true, false, cond, leb, ◌≢◌, List, length, get_or, set, refl, length-set, get_or-set_other, get_or-set_same, le-leb}
use borrow.Author.Tests.{lt-leb}
use Rattle.rules.specs.Limits.{greatest_node, transfer_ids}
use Rattle.rules.specs.Tracker.{after_asking}

pub own_stepped : (numbers : List ℕ) (n : ℕ) → n ≤ greatest_node → n < length numbers
    → get_or (after_asking numbers n) n 0 ≡ (get_or numbers n 0 + 1) % transfer_ids
own_stepped numbers n h l = rw (le-leb n greatest_node h) (get_or-set_same numbers n ((get_or numbers n 0 + 1) % transfer_ids) 0 l)

pub others_kept : (numbers : List ℕ) (n m : ℕ) → m ≢ n → get_or (after_asking numbers n) m 0 ≡ get_or numbers m 0
others_kept numbers n m ne = go (leb n greatest_node)
  where
    go : (t : Bool) → get_or (cond t (set numbers n ((get_or numbers n 0 + 1) % transfer_ids)) numbers) m 0 ≡ get_or numbers m 0
    go true = get_or-set_other numbers n m ((get_or numbers n 0 + 1) % transfer_ids) 0 ne
    go false = refl

pub length_kept : (numbers : List ℕ) (n : ℕ) → length (after_asking numbers n) ≡ length numbers
length_kept numbers n = go (leb n greatest_node)
  where
    go : (t : Bool) → length (cond t (set numbers n ((get_or numbers n 0 + 1) % transfer_ids)) numbers) ≡ length numbers
    go true = length-set numbers n ((get_or numbers n 0 + 1) % transfer_ids)
    go false = refl

-- a destination over the greatest node changes nothing
pub refused_kept : (numbers : List ℕ) (n : ℕ) → greatest_node < n → after_asking numbers n ≡ numbers
refused_kept numbers n h = rw (lt-leb n greatest_node h) refl
