-- What a copy does: the source is laid over the destination.
use Rattle.std.specs.Prelude.{◌≡◌, List, ℕ, min, length}
use Rattle.laws.specs.Laid.{laid}

-- a copy of s to d: how many elements went over, and what d is after it
pub record Copied (s d : List ℕ) (count : ℕ) (after : List ℕ) : Type 0 where
  pub counted : count ≡ min (length s) (length d)
  pub copied : after ≡ laid s d
