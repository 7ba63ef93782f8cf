-- Where the bytes were taken, the short way has done what the rules do.
use Rattle.std.proofs.Common.{◌≡◌, true, [], get_or, sym, ap, ◌∙◌}
use Rattle.rules.specs.declared.tail.TailByte.{TailByte as Tail}
use Rattle.slots.specs.Words.{slot_of}
use Rattle.slots.specs.Middle.{slot_awaits}
use Rattle.rx.proofs.InMiddle.{short_way}
use Rattle.rx.proofs.subscription.Lent.lay.Goals as goal

pub returns-clause-left : goal.returns-clause-left
returns-clause-left c x p q =
    let l = c.args.self.now in
    let slot = slot_of (get_or l.slots.now c.args.node.0 []) in
    let b = ap (λ (y : Tail). y.start) p ∙ c.requires.1 in
    let e = ap (λ (y : Tail). y.end) p ∙ c.requires.2 in
    let on : c.awaits.result ≡ true = cc in
    let aw = ap (λ y. slot_awaits slot y x.loopback) p ∙ ap (slot_awaits slot c.args.tail) q ∙ sym c.awaits.ensures ∙ on in
    short_way
    x
    c.args.bytes.now
    b
    e
    l.settings
    l.slots.now
    l.store.now
    c.args.node.0
    c.start_of-start.result
    c.so_far-so_far.result
    c.digest_seven-crc.result
    c.into.result
    c.start_of-start.ensures.0
    c.so_far-so_far.ensures
    aw
    c.if-not-into.false
    c.into.ensures.taken
    c.into.ensures.part_after
    c.digest_seven-crc.ensures
    c.advance.ensures
