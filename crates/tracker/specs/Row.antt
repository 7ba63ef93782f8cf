-- The tracker's row. Document 01: "Each destination owns five bits of a 640-bit row." The row is one number of 640 bits. Written in base 2^32 it is
-- the twenty words that the tracker keeps; written in base 2^5 it is the 128 destinations' numbers. The low digit is the first in both.
use Rattle.std.specs.Prelude.{◌≡◌, List, ℕ, ◌^◌, length}
use Rattle.laws.specs.Digits.{value_of, digits_of, AreDigits}
use Rattle.rules.specs.Limits.{nodes, transfer_ids}
use Rattle.rules.specs.Tracker.{given, after_asking}
use Rattle.tracker.specs.declared.CanTransferIdTracker.{CanTransferIdTracker}
use Rattle.tracker.specs.declared.Asked.{Asked}

-- the row is twenty words ..
abbrev pub words : ℕ
words = 20

-- .. of 32 bits
abbrev pub word_base : ℕ
word_base = 2 ^ 32

-- the numbers of the destinations, which a tracker's words write
unfoldable pub numbers : CanTransferIdTracker → List ℕ
numbers tracker = digits_of transfer_ids nodes (value_of word_base tracker.ids)

-- the tracker whose words write these numbers
unfoldable pub row_of : List ℕ → CanTransferIdTracker
row_of ns = record { ids = digits_of word_base words (value_of transfer_ids ns) }

-- asking a tracker for destination n is asking its numbers
unfoldable pub asked : CanTransferIdTracker → ℕ → Asked
asked tracker n = record { tracker = row_of (after_asking (numbers tracker) n); answer = given (numbers tracker) n }

-- twenty words of 32 bits, as every tracker of a program has
pub record Sound (tracker : CanTransferIdTracker) : Type 0 where
  pub twenty : length tracker.ids ≡ words
  pub fit : AreDigits word_base tracker.ids
