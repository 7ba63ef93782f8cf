-- A payload that fits one frame goes alone, a longer one in several, as the published rule has it.
use Rattle.std.proofs.Common.{◌<◌, ◌≤◌, length, arith}
use Rattle.rules.specs.Limits.{room_of}
use Rattle.rules.proofs.Plan.{alone, size_bounds}
use Rattle.tx.proofs.Cuts.{frames_alone, frames_several, alone_fits, several_fits}
use Rattle.tx.proofs.put.transfer.Goals as goal

pub alone-requires : goal.alone-requires
alone-requires c =
    let u = c.args.outgoing.mtu in
    let n = length c.args.payload.now in
    let h : n ≤ room_of u = omega arith in
    (rw c.requires.0 (alone_fits u n h), omega (arith, rw c.requires.0 at c.requires.2, alone n u h))

pub returns-then-payload-as_bytes : goal.returns-then-payload-as_bytes
returns-then-payload-as_bytes c =
    let h : length c.args.payload.now ≤ room_of c.args.outgoing.mtu = omega arith in
    rw (frames_alone c.args.outgoing.mtu c.args.id.0 c.args.payload.now h) (rw c.requires.0 at c.alone.ensures)

pub several-requires : goal.several-requires
several-requires c =
    let u = c.args.outgoing.mtu in
    let n = length c.args.payload.now in
    let h : room_of u < n = omega (arith, size_bounds u) in
    (rw c.requires.0 (several_fits u n h), c.requires.2)

pub returns : goal.returns
returns c =
    let u = c.args.outgoing.mtu in
    let h : room_of u < length c.args.payload.now = omega (arith, size_bounds u) in
    rw (frames_several u c.args.id.0 c.args.payload.now h) (rw c.requires.0 at c.several.ensures)
