-- A list laid over another from the start, as far as both reach.
use Rattle.std.specs.Prelude.{List, ◌++◌, ℕ, length, take, drop}

-- as much of s as d has room for, and behind it what s leaves of d
abbrev pub laid : List ℕ → List ℕ → List ℕ
laid s d = take (length d) s ++ drop (length s) d
