-- The tail byte is the last of those that the head counts, and the place then says the frame.
use Rattle.std.proofs.Common.{◌≡◌, arith, length, drop, length-drop}
use Rattle.queue.proofs.Bytes.{filled_tailed}
use Rattle.queue.proofs.place.fill_tailed.Goals as goal

pub returns : goal.returns
returns c =
    let l : length (drop 12 c.args.place.now) ≡ 64 = simp length-drop (omega arith) in
    filled_tailed c.args.marks c.args.part.now (drop 12 c.args.place.now) _ c.args.tail l c.requires c.begin.ensures
