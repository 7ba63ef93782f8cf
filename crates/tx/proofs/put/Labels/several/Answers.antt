-- When no full frame of payload is left, the rest with its padding and CRC is the last frame or the last two.
use Rattle.std.proofs.Common.{◌≡◌, ℕ, ◌+◌, ◌-◌, ◌<◌, true, length, take, sym, refl, ap, ◌∙◌, arith, length-take-le}
use Rattle.rules.specs.Limits.{room_of}
use Rattle.rules.specs.Crc.{crc_start}
use Rattle.rules.specs.Transfer.{padded, with_crc, cut}
use Rattle.rules.proofs.Transfer.{cut_count}
use Rattle.tx.proofs.Parts.{zeros}
use Rattle.tx.proofs.Cuts.{crc_behind, fits_some, fits_less, fits_last, over_is}
use Rattle.tx.proofs.Puts.{owes_all, owes_paid, owes_place, turn}
use Rattle.tx.proofs.put.Labels.several.Invariants.{whole}
use Rattle.tx.proofs.put.Labels.several.Goals as goal

pub loop-part-init : goal.loop-part-init
loop-part-init c =
    let a = c.args in
    let fs = cut (room_of a.outgoing.mtu) a.id.0 true true (a.outgoing.stats.frames - 1) (whole a.payload.now c.digest_bytes-crc.result a.outgoing.stats.last_frame_padding) in
    record {
      count = a.outgoing.stats.frames - 1;
      fits = c.requires.0.fits;
      owed = owes_all a.self.marks fs a.queue a.places.now (omega (arith, c.requires.0.some, cut_count (room_of a.outgoing.mtu) a.id.0 true true (a.outgoing.stats.frames - 1) (whole a.payload.now c.digest_bytes-crc.result a.outgoing.stats.last_frame_padding)));
      same = refl;
      not_last = refl;
    }

pub one-q-requires : goal.one-q-requires
one-q-requires c =
    let a = c.args in
    let i = c.loop-part.invariant in
    let t = c.loop-part.tail in
    (omega (arith, c.in-Some.ensures.cases, c.requires.0.room), omega (arith, owes_place a.self.marks (room_of a.outgoing.mtu) a.id.0 t.start t.toggle i.count _ i.owed))

pub loop-part-preserved : goal.loop-part-preserved
loop-part-preserved c =
    let a = c.args in
    let l = c.loop-part in
    let i = l.invariant in
    let m = room_of a.outgoing.mtu in
    let p = a.outgoing.stats.last_frame_padding in
    let e : c.as_bytes-room.result - 1 ≡ room_of a.outgoing.mtu = omega arith in
    let s = rw e at c.in-Some.ensures.cases in
    let k : length l.left.now - m ≡ length c.in-Some.behind.now = omega (arith, s.4) in
    record {
      count = i.count - 1;
      fits = rw k at (fits_less m i.count (length l.left.now) p i.fits s.0);
      owed = turn a.self.marks a.id.0 m i.count l.left.now c.in-Some.part.now c.in-Some.behind.now (with_crc c.digest_bytes-crc.result (zeros p)) l.tail.start l.tail.toggle s.0 s.1 s.2
          (fits_some m i.count (length l.left.now) p i.fits s.0) i.owed (rw (i.not_last, i.same) at c.one-q.ensures);
      same = i.same;
      not_last = i.not_last;
    }

pub returns : goal.returns
returns c =
    let a = c.args in
    let i = c.loop-part.invariant in
    let d = c.digest_bytes-crc in
    let m = room_of a.outgoing.mtu in
    let p = a.outgoing.stats.last_frame_padding in
    let n = length c.loop-part.left.now in
    let v = c.requires.0 in
    let e : c.as_bytes-room.result - 1 ≡ room_of a.outgoing.mtu = omega arith in
    let f : n < room_of a.outgoing.mtu = omega (arith, c.in_default.ensures.cases) in
    let t = fits_last m i.count n p i.fits f v.pads v.room in
    let k : length (take (n + p + 2) c.close.new.rest) ≡ n + p + 2 = length-take-le (n + p + 2) c.close.new.rest (omega (arith, v.pads, v.room)) in
    let w : whole a.payload.now d.result p ≡ with_crc crc_start (padded p a.payload.now) = ap (λ (x : ℕ). whole a.payload.now x p) d.ensures ∙ sym (crc_behind crc_start p a.payload.now) in
    rw (← w) (owes_paid i.owed (rw (e, i.same, k, over_is m i.count (n + p + 2) t, c.close.ensures) at c.last.ensures))
