-- How bytes are shared among frames of m bytes.
use Rattle.std.specs.Prelude.{ℕ, ◌+◌, ◌-◌, ◌*◌, ◌<◌, ◌≤◌, cond, nat_le}

-- n full frames and one more hold so many bytes, and n frames do not
pub record Fits (m n bytes : ℕ) : Type 0 where
  pub more : n * m < bytes
  pub all : bytes ≤ n * m + m

-- so many bytes are the last frame, or the last two
pub record Last (m n bytes : ℕ) : Type 0 where
  pub fits : Fits m n bytes
  pub few : n ≤ 1
  pub room : m ≤ 63

-- the full frames in front of the last, where so many bytes are the last frame or the last two
abbrev pub over : ℕ → ℕ → ℕ
over m bytes = cond (nat_le bytes m) 0 1

-- p bytes of payload with their padding and CRC, in several frames
pub record Several (m frames padding p : ℕ) : Type 0 where
  pub fits : Fits m (frames - 1) (p + padding + 2)
  pub some : 0 < frames
  pub pads : padding + 1 ≤ m
  pub room : m ≤ 63
  pub long : 0 < m
