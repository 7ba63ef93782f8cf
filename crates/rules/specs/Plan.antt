-- The frame plan. Document 01: "with payload p and room m = MTU − 1, CRC length c is 0 if p ≤ m, otherwise 2. Tails: max(1, (p + c)/m rounded up).
-- Total = p + c + tails. Frames = total/MTU rounded up. The remainder of total by MTU is raised to the next of 0 to 8, 12, 16, 20, 24, 32, 48, 64; the rise
-- is the padding, zeros after the payload."
use Rattle.std.specs.Prelude.{ℕ, ◌+◌, ◌-◌, ◌/◌, ◌%◌, max, cond, List, [], ◌∷◌, nat_le, Err, Ok, Result}
use Rattle.rules.specs.declared.refusal.Refusal.{Refusal}
use Rattle.rules.specs.declared.refusal.Refusal.TheVariants.{PayloadTooLong}
use Rattle.rules.specs.declared.data.Mtu.{Mtu}
use Rattle.rules.specs.declared.stats.FrameStats.{FrameStats}
use Rattle.rules.specs.Limits.{greatest_payload, size_of, room_of}

-- the lengths that a CAN FD frame can have
abbrev pub valid_lengths : List ℕ
valid_lengths = 0 ∷ 1 ∷ 2 ∷ 3 ∷ 4 ∷ 5 ∷ 6 ∷ 7 ∷ 8 ∷ 12 ∷ 16 ∷ 20 ∷ 24 ∷ 32 ∷ 48 ∷ 64 ∷ []

-- the first of a rising list that is n or more; n itself where there is none
abbrev pub first_from : List ℕ → ℕ → ℕ
first_from [] n = n
first_from (l ∷ ls) n = cond (nat_le n l) l (first_from ls n)

-- the length to which a frame of n bytes is raised
unfoldable pub next_length : ℕ → ℕ
next_length n = first_from valid_lengths n

-- x / m rounded up
abbrev pub up_to : ℕ → ℕ → ℕ
up_to x m = (x + (m - 1)) / m

-- a payload that fits one frame has no CRC
abbrev pub crc_length : Mtu → ℕ → ℕ
crc_length u p = cond (nat_le p (room_of u)) 0 2

unfoldable pub tails : Mtu → ℕ → ℕ
tails u p = max 1 (up_to (p + crc_length u p) (room_of u))

-- payload, CRC and tail bytes
abbrev pub total : Mtu → ℕ → ℕ
total u p = p + crc_length u p + tails u p

unfoldable pub frames : Mtu → ℕ → ℕ
frames u p = up_to (total u p) (size_of u)

unfoldable pub padding : Mtu → ℕ → ℕ
padding u p = next_length (total u p % size_of u) - total u p % size_of u

abbrev pub stats_of : Mtu → ℕ → FrameStats
stats_of u p = record { frames = frames u p; last_frame_padding = padding u p }

-- the plan for a payload of p bytes; one over the greatest is refusal 10
abbrev pub planned : Mtu → ℕ → Result FrameStats Refusal
planned u p = cond (nat_le p greatest_payload) (Ok (stats_of u p)) (Err PayloadTooLong)
