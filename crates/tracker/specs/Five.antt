-- Five bits of a window of the row, from bit s on.
use Rattle.std.specs.Prelude.{ℕ, ◌+◌, ◌*◌, ◌/◌, ◌%◌, ◌^◌}
use Rattle.rules.specs.Limits.{transfer_ids}

-- the number in them
abbrev pub five_at : ℕ → ℕ → ℕ
five_at window s = window / 2 ^ s % transfer_ids

-- the window with the number v in them: what is above them, v, what is below them
abbrev pub with_five : ℕ → ℕ → ℕ → ℕ
with_five window s v = (window / 2 ^ s / transfer_ids * transfer_ids + v) * 2 ^ s + window % 2 ^ s
