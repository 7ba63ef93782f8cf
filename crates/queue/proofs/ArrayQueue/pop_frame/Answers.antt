-- The queue without its first frame starts one place on.
use Rattle.std.proofs.Common.{ap, ◌∙◌, not}
use Rattle.queue.proofs.Popping.{pops_first, found_queued}
use Rattle.queue.proofs.ArrayQueue.pop_frame.Goals as goal

pub invariant_of-ring : goal.invariant_of-ring
invariant_of-ring c =
    let s = (found_queued c.args.self c.args.places.now c.peek_frame-held.result c.peek_frame-held.ensures (c.is_none.ensures ∙ ap not c.if-is_none.false)).0 in
    record { inside = s.head; small = s.small }

pub returns : goal.returns
returns c =
    let s = found_queued c.args.self c.args.places.now c.peek_frame-held.result c.peek_frame-held.ensures (c.is_none.ensures ∙ ap not c.if-is_none.false) in
    pops_first _ _ s.0 s.1 _ _ c.peek_frame-held.ensures c.slot-next.ensures.0
