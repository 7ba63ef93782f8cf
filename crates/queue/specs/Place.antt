-- What a place says. Its 76 bytes are the ID, the stamp, the loopback's mark, the number of the frame's bytes, two of no use, and 64 for the frame's bytes.
use Rattle.std.specs.Prelude.{cond, not, List, [], ◌∷◌, ℕ, ◌+◌, ◌*◌, ◌/◌, ◌%◌, min, eqb, length, get_or, take, drop, replicate, Option, option_map}
use Rattle.laws.specs.Laid.{laid}
use Rattle.rules.specs.Limits.{greatest_frame}
use Rattle.rules.specs.Frames.{Frame, frame}
use Rattle.rules.specs.declared.frame.Marks.{Marks}
use Rattle.queue.specs.declared.Held.{Held}

-- the number of four bytes, the low one first
abbrev pub joined : ℕ → ℕ → ℕ → ℕ → ℕ
joined a b c d = a + b * 256 + c * 65536 + d * 16777216

-- the number of bytes of a place, and of those in front of the frame's
abbrev pub place_length : ℕ
place_length = 76

abbrev pub head_length : ℕ
head_length = 12

-- the frame that stands in a place
abbrev pub frame_of : List ℕ → Frame
frame_of place = record {
  stamp = joined (get_or place 4 0) (get_or place 5 0) (get_or place 6 0) (get_or place 7 0);
  id = joined (get_or place 0 0) (get_or place 1 0) (get_or place 2 0) (get_or place 3 0);
  loopback = not (eqb (get_or place 8 0) 0);
  bytes = take (min (get_or place 9 0) greatest_frame) (drop head_length place);
}

-- the bytes of a place in front of those of its frame
abbrev pub head_of : Marks → ℕ → List ℕ
head_of marks count =
    (marks.id % 256) ∷ (marks.id / 256 % 256) ∷ (marks.id / 65536 % 256) ∷ (marks.id / 16777216)
    ∷ (marks.stamp % 256) ∷ (marks.stamp / 256 % 256) ∷ (marks.stamp / 65536 % 256) ∷ (marks.stamp / 16777216)
    ∷ cond marks.loopback 1 0 ∷ count ∷ 0 ∷ 0 ∷ []

-- a frame as it is handed out: behind its bytes are zeros
abbrev pub held : Frame → Held
held f = record {
  marks = record { stamp = f.stamp; id = f.id; loopback = f.loopback };
  length = length f.bytes;
  bytes = laid f.bytes (replicate greatest_frame 0);
}

abbrev pub held_of : Option Frame → Option Held
held_of o = option_map held o

-- the frame that was handed out, or none
abbrev pub shown : Option Held → Option Frame
shown o = option_map (λ (h : Held). frame h.marks (take h.length h.bytes)) o
