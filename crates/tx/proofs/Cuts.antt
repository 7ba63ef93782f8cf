-- How a transfer is cut: padding and CRC stand behind the payload, so that a frame full of payload leaves the rest of both; and when one frame or two are left.
use Rattle.std.proofs.Common.{◌≡◌, ℕ, zero, suc, ◌+◌, ◌-◌, ◌*◌, ◌<◌, ◌≤◌, Bool, true, false, not, List, [], ◌∷◌, ◌++◌, length, take, drop, refl, ap, ◌∙◌, ap₂, append_assoc, suc-mul, one-mul, zero-mul, arith}
use lib.Seq.{take-append-le, drop-append-le}
use borrow.Author.Tests.{lt-leb, le-leb}
use Rattle.rules.specs.declared.data.Mtu.{Mtu}
use Rattle.rules.specs.Limits.{room_of}
use Rattle.rules.specs.Crc.{crc_start, crc_from, crc_bytes}
use Rattle.rules.specs.TailByte.{tail_byte}
use Rattle.rules.specs.Plan.{crc_length, frames, padding}
use Rattle.rules.specs.Transfer.{padded, with_crc, content, tailed, cut, frames_of}
use Rattle.rules.proofs.Crc.{from_append}
use Rattle.rules.proofs.Plan.{size_bounds, alone, several, needed, last_frame, padding_small}
use Rattle.rules.proofs.Transfer.{carried_alone, carried_several}
use Rattle.tx.specs.Fits.{Fits, Last, Several, over}
use Rattle.tx.proofs.Parts.{zeros}

-- ---- a frame that is full of payload

-- padding and CRC stand behind the payload, and the register of both starts from that of the payload
pub crc_behind : (c n : ℕ) (ys : List ℕ) → with_crc c (padded n ys) ≡ ys ++ with_crc (crc_from c ys) (zeros n)
crc_behind c n ys = append_assoc ys (zeros n) (crc_bytes (crc_from c (padded n ys))) ∙ ap (λ (x : ℕ). ys ++ (zeros n ++ crc_bytes x)) (from_append c ys (zeros n))

pub cut_on : (m id : ℕ) (start toggle : Bool) (n : ℕ) (ys zs : List ℕ) → m ≤ length ys
    → cut m id start toggle (suc n) (ys ++ zs) ≡ tailed (take m ys) (tail_byte start false toggle id) ∷ cut m id false (not toggle) n (drop m ys ++ zs)
cut_on m id start toggle n ys zs h =
    ap₂ (λ (x y : List ℕ). tailed x (tail_byte start false toggle id) ∷ cut m id false (not toggle) n y) (take-append-le m ys zs h) (drop-append-le m ys zs h)

-- ---- how many frames are left

-- while a frame's worth of payload is left, the frame is not the last
pub fits_some : (m n p k : ℕ) → Fits m n (p + k + 2) → m ≤ p → 0 < n
fits_some m zero p k f h = omega (arith, f.all, zero-mul m)
fits_some m (suc n) p k f h = omega arith

pub fits_less : (m n p k : ℕ) → Fits m n (p + k + 2) → m ≤ p → Fits m (n - 1) (p - m + k + 2)
fits_less m zero p k f h = absurd (omega (arith, f.all, zero-mul m))
fits_less m (suc n) p k f h =
    let e : suc n - 1 ≡ n = omega arith in
    rw e (record { more = omega (arith, f.more, suc-mul n m); all = omega (arith, f.all, suc-mul n m) })

-- when no frame's worth of payload is left, one frame is left or two
pub fits_last : (m n p k : ℕ) → Fits m n (p + k + 2) → p < m → k + 1 ≤ m → m ≤ 63 → Last m n (p + k + 2)
fits_last m zero p k f s h r = record { fits = f; few = omega arith; room = r }
fits_last m (suc zero) p k f s h r = record { fits = f; few = omega arith; room = r }
fits_last m (suc (suc n)) p k f s h r = absurd (omega (arith, f.more, suc-mul (suc n) m, suc-mul n m))

pub last_one : (m n b : ℕ) → Last m n b → n ≡ 0 → b ≤ 63
last_one m n b r e = omega (arith, r.fits.all, r.room, ap (λ (x : ℕ). x * m) e, zero-mul m)

pub last_two : (m n b : ℕ) → Last m n b → (n ≡ 0 → ⊥) → (n ≡ 1) × (m < b) × (b ≤ m + m)
last_two m n b r h =
    let e : n ≡ 1 = omega (arith, r.few, nonzero n h) in
    (e, omega (arith, r.fits.more, ap (λ (x : ℕ). x * m) e, one-mul m), omega (arith, r.fits.all, ap (λ (x : ℕ). x * m) e, one-mul m))
  where
    nonzero : (n : ℕ) → (n ≡ 0 → ⊥) → 0 < n
    nonzero zero f = absurd (f refl)
    nonzero (suc n) f = omega arith

-- which of both it is, is told by whether they fit one frame
pub over_is : (m n b : ℕ) → Last m n b → over m b ≡ n
over_is m zero b r = rw (le-leb b m (omega (arith, r.fits.all, zero-mul m)))
over_is m (suc zero) b r = rw (lt-leb b m (omega (arith, r.fits.more, one-mul m)))
over_is m (suc (suc n)) b r = absurd (omega (arith, r.few))

-- ---- a whole transfer

module _ (u : Mtu) (id : ℕ) (payload : List ℕ) where
  abbrev p : ℕ
  p = length payload

  pub frames_alone : p ≤ room_of u → frames_of u id payload ≡ tailed (content u payload) (tail_byte true true true id) ∷ []
  unfolding frames_of
  frames_alone h =
      let e : frames u p - 1 ≡ 0 = omega (arith, alone p u h) in
      rw (e, carried_alone u payload h) refl

  pub frames_several : room_of u < p → frames_of u id payload ≡ cut (room_of u) id true true (frames u p - 1) (with_crc crc_start (content u payload))
  unfolding frames_of
  frames_several h = ap (cut (room_of u) id true true (frames u p - 1)) (carried_several u payload h)

-- a payload with its padding fits one frame ..
pub alone_fits : (u : Mtu) (p : ℕ) → p ≤ room_of u → p + padding u p ≤ 63
alone_fits u p h =
    let b = size_bounds u in
    let f = (last_frame u p).0 in
    let one : frames u p * room_of u ≡ room_of u = ap (λ (n : ℕ). n * room_of u) (alone p u h) ∙ one-mul (room_of u) in
    omega arith

-- .. or several
pub several_fits : (u : Mtu) (p : ℕ) → room_of u < p → Several (room_of u) (frames u p) (padding u p) p
several_fits u p h =
    let b = size_bounds u in
    let s = several p u h in
    let n = needed p u h in
    let c : crc_length u p ≡ 2 = rw (lt-leb p (room_of u) h) refl in
    let e : frames u p ≡ suc (frames u p - 1) = omega arith in
    let f : frames u p * room_of u ≡ (frames u p - 1) * room_of u + room_of u = ap (λ (k : ℕ). k * room_of u) e ∙ suc-mul (frames u p - 1) (room_of u) in
    record {
      fits = record { more = omega arith; all = omega (arith, (last_frame u p).0) };
      some = omega arith;
      pads = padding_small u p;
      room = omega arith;
      long = omega arith;
    }
