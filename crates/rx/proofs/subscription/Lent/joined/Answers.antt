-- A frame whose ID speaks to the port is one of the source that its ID names, with the tail byte that was looked at.
use Rattle.std.proofs.Common.{◌≡◌, ◌-◌, ◌%◌, ◌<◌, ◌≤◌, true, cond, length, take, sym, refl, ap, ◌∙◌, subst, mod-lt, arith, lit<, length-take-le}
use Rattle.rules.specs.declared.types.CanNodeId.{CanNodeId}
use Rattle.rules.specs.Limits.{nodes, greatest_frame}
use Rattle.rules.specs.Frames.{frame}
use Rattle.rules.specs.Answers.{nothing}
use Rattle.rules.specs.Receiver.{arrival_of}
use Rattle.rx.specs.Accept.{closes, in_words}
use Rattle.rx.proofs.InMiddle.{of_source}
use Rattle.rx.proofs.subscription.Lent.joined.Goals as goal

pub returns-clause-left : goal.returns-clause-left
returns-clause-left c =
    let a = c.args.self.now in
    let m = c.args.heard.marks in
    let b = c.args.heard.bytes.now in
    let f = frame m b in
    let some : 0 < length b = omega arith in
    let few : length b ≤ greatest_frame = omega arith in
    let comes : c.comes_to.result ≡ true = cc in
    let o = of_source a.settings a.slots.now a.store.now f a.parts (some, few) (sym c.comes_to.ensures ∙ comes) in
    let x = arrival_of f o.0 in
    let same = closes nothing a.slots.now a.store.now in
    let low : m.id % 256 % nodes ≡ m.id % nodes = omega arith in
    let own = ap (λ (n : CanNodeId). n.0) c.from_truncating-node.ensures ∙ low in
    c.lay.ensures.left x (sym c.parse_tail_byte-tail.ensures) refl
    ∙ ap (λ n. cond c.lay.result (in_words a.settings a.slots.now a.store.now n x (take (length b - 1) b)) same) own
    ∙ ap (λ z. cond c.lay.result z same) (sym o.1)

-- what is laid is less than a frame
pub lay-requires : goal.lay-requires
lay-requires c =
    let b = c.args.heard.bytes.now in
    let h : length b - 1 ≤ length b = omega arith in
    let l : length (take (length b - 1) b) < greatest_frame = omega (arith, length-take-le (length b - 1) b h) in
    let own : c.from_truncating-node.result.0 < nodes = subst (λ (n : CanNodeId). n.0 < nodes) (sym c.from_truncating-node.ensures) (mod-lt _ (lit< tt)) in
    (own, c.if-tail.false, c.if-tail-2.false, l)
