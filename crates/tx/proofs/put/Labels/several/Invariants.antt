-- The loop keeps: what is owed from here is what was owed at first, and so many frames as are counted hold what is left.
use Rattle.std.proofs.Common.{◌≡◌, ℕ, ◌+◌, ◌-◌, true, false, List, ◌++◌, length}
use Rattle.rules.specs.Limits.{room_of}
use Rattle.rules.specs.Transfer.{with_crc, cut}
use Rattle.tx.specs.Fits.{Fits}
use Rattle.tx.proofs.Parts.{zeros}
use Rattle.tx.proofs.Puts.{Owes}
use Rattle.tx.proofs.put.Labels.several.Given as goal

-- payload that is left, and behind it padding and CRC, from the register of the payload
abbrev pub whole : List ℕ → ℕ → ℕ → List ℕ
whole payload crc padding = payload ++ with_crc crc (zeros padding)

abbrev pub invariant-loop-part : goal.invariant-loop-part
invariant-loop-part l = record {
  count : ℕ;
  fits : Fits (room_of l.fn.outgoing.mtu) count (length l.left + l.padding + 2);
  owed : Owes l.self.marks (cut (room_of l.fn.outgoing.mtu) l.fn.id.0 l.tail.start l.tail.toggle count (whole l.left l.crc l.padding)) l.q l.places
      (cut (room_of l.fn.outgoing.mtu) l.fn.id.0 true true (l.fn.outgoing.stats.frames - 1) (whole l.payload l.crc l.padding)) l.initial.q l.initial.places;
  same : l.tail.transfer_id ≡ l.fn.id;
  not_last : l.tail.end ≡ false;
}

abbrev pub decreases-loop-part : goal.decreases-loop-part
decreases-loop-part l = length l.left
