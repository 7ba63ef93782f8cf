-- A frame as it is queued and as it is received: when, under which CAN ID, whether it is a loopback, and its bytes.
use Rattle.std.specs.Prelude.{ℕ, Bool, List}
use Rattle.rules.specs.declared.frame.Marks.{Marks}

pub record Frame : Type 0 where
  pub stamp : ℕ
  pub id : ℕ
  pub loopback : Bool
  pub bytes : List ℕ

-- the frame with these marks and bytes
abbrev pub frame : Marks → List ℕ → Frame
frame marks bytes = record { stamp = marks.stamp; id = marks.id; loopback = marks.loopback; bytes = bytes }
