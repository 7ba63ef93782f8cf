-- The head says how many bytes follow it, and the place then says the frame.
use Rattle.std.proofs.Common.{◌≡◌, arith, length, drop, length-drop}
use Rattle.queue.proofs.Bytes.{filled}
use Rattle.queue.proofs.place.fill.Goals as goal

pub returns : goal.returns
returns c =
    let l : length (drop 12 c.args.place.now) ≡ 64 = simp length-drop (omega arith) in
    filled c.args.marks c.args.bytes.now (drop 12 c.args.place.now) _ l c.requires c.begin.ensures
