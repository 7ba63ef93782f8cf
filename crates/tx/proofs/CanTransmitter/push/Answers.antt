-- The verdict is the judgement of the transfer and then of the places; a transfer that goes out is planned, and its frames have places.
use Rattle.std.proofs.Common.{sym}
use Rattle.rules.proofs.Granted.{granted_goes, sound}
use Rattle.queue.specs.Queue.{free}
use Rattle.rules.specs.Sending.{judged}
use Rattle.tx.proofs.Verdict.{sends_done}
use Rattle.tx.proofs.CanTransmitter.push.Goals as goal

pub transfer-filled-requires : goal.transfer-filled-requires
transfer-filled-requires c =
    let a = c.args in
    let o = c.in-Ok.outgoing in
    let f = free a.queue a.places.now in
    let s = sound f a.self.mtu a.transfer a.payload.now o (sym c.in-Ok.ensures) in
    (s.plan, s.id, (granted_goes f (judged a.self.mtu a.transfer a.payload.now) o (sym c.in-Ok.ensures)).1)

pub returns-in-Ok : goal.returns-in-Ok
returns-in-Ok c =
    let a = c.args in
    let o = c.in-Ok.outgoing in
    let goes = sym c.in-Ok.ensures in
    sends_done _ a.self a.queue a.places.now a.transfer a.payload.now c.done.result o c.transfer-filled.result _ goes
    (sound (free a.queue a.places.now) a.self.mtu a.transfer a.payload.now o goes) c.done.ensures c.transfer-filled.ensures
