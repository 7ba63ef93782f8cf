-- The library's quotient that is rounded up is document 01's, for the divisors of the two MTUs.
use Rattle.std.proofs.Common.{◌≡◌, refl, ℕ, ◌+◌, ◌-◌, ◌/◌, ◌%◌, min, max, arith}
use Rattle.rules.specs.declared.data.Mtu.{Mtu}
use Rattle.rules.specs.declared.data.Mtu.TheVariants.{Can8, CanFd64}
use Rattle.rules.specs.declared.stats.FrameStats.{FrameStats}
use Rattle.rules.specs.Limits.{size_of}
use Rattle.rules.specs.Plan.{next_length, crc_length, up_to, tails, frames, padding, stats_of}

abbrev ceil : ℕ → ℕ → ℕ
ceil x m = x / m + min 1 (x % m)

ceil_room : (u : Mtu) (x : ℕ) → ceil x (size_of u - 1) ≡ up_to x (size_of u - 1)
ceil_room Can8 x = omega arith
ceil_room CanFd64 x = omega arith

ceil_size : (u : Mtu) (x : ℕ) → ceil x (size_of u) ≡ up_to x (size_of u)
ceil_size Can8 x = omega arith
ceil_size CanFd64 x = omega arith

at_least_one : (x : ℕ) → max x 1 ≡ max 1 x
at_least_one x = omega arith

-- the plan, from its parts
pub stats_by : (u : Mtu) (p size crc rooms tail_bytes all last : ℕ) → size ≡ size_of u → crc ≡ crc_length u p
    → rooms ≡ ceil (p + crc) (size - 1) → tail_bytes ≡ max rooms 1 → all ≡ ceil (p + crc + tail_bytes) size
    → last ≡ next_length ((p + crc + tail_bytes) % size)
    → ◌≡◌ {A = FrameStats} (record { frames = all; last_frame_padding = last - (p + crc + tail_bytes) % size }) (stats_of u p)
unfolding tails frames padding
stats_by u p size crc rooms tail_bytes all last s c r t a l =
    rw (l, a, t, r, c, s, ceil_room u (p + crc_length u p), at_least_one (up_to (p + crc_length u p) (size_of u - 1)), ceil_size u (p + crc_length u p + tails u p)) refl
