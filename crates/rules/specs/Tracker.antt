-- The tracker of transfer IDs. Document 01: "Each destination owns five bits of a 640-bit row, all 0 at first. Asking gives the number and steps it by one
-- modulo 32; no other destination changes." Here the row is the list of the 128 destinations' numbers.
use Rattle.std.specs.Prelude.{ℕ, ◌+◌, ◌%◌, cond, List, replicate, nat_le, slice_index, slice_set, Err, Ok, Result}
use Rattle.rules.specs.declared.types.CanTransferId.{CanTransferId}
use Rattle.rules.specs.declared.refusal.Refusal.{Refusal}
use Rattle.rules.specs.declared.refusal.Refusal.TheVariants.{Field}
use Rattle.rules.specs.Limits.{greatest_node, nodes, transfer_ids}

-- every destination's number at first
abbrev pub fresh_numbers : List ℕ
fresh_numbers = replicate nodes 0

-- asking for destination n gives its number; a destination over the greatest node is refusal 12 ..
abbrev pub given : List ℕ → ℕ → Result CanTransferId Refusal
given numbers n = cond (nat_le n greatest_node) (Ok (record { 0 = slice_index numbers n })) (Err Field)

-- .. and its number is stepped by one modulo 32
abbrev pub after_asking : List ℕ → ℕ → List ℕ
after_asking numbers n = cond (nat_le n greatest_node) (slice_set numbers n ((slice_index numbers n + 1) % transfer_ids)) numbers
