-- Laws of the published rule: how many frames, that their bytes before the tails join to payload, padding and CRC, and how long each is.
use Rattle.std.proofs.Common.{◌≡◌, ℕ, zero, suc, ◌+◌, ◌-◌, ◌*◌, ◌<◌, ◌≤◌, Bool, true, false, not, List, [], ◌∷◌, ◌++◌, length, get_or, take, drop, replicate, refl, ap, ◌∙◌, ap₂, ⊎_elim, append-nil, le_of_suc-le-suc, not-suc-le-zero, suc-mul, zero-mul, arith, length-append, length-drop, take-append-drop, length-take-le, take_at, le-leb}
use mathlib.Core.List.{flat_map}
use borrow.Author.Tests.{lt-leb}
use lib.ListN.{length-replicate, get_or-eq_default}
use Rattle.laws.proofs.Choose.{at_most_or_above}
use Rattle.rules.specs.declared.data.Mtu.{Mtu}
use Rattle.rules.specs.declared.data.Mtu.TheVariants.{Can8, CanFd64}
use Rattle.rules.specs.Limits.{size_of, room_of}
use Rattle.rules.specs.Crc.{crc_start, crc_from, crc, crc_bytes}
use Rattle.rules.specs.TailByte.{tail_byte}
use Rattle.rules.specs.Plan.{next_length, crc_length, frames, padding}
use Rattle.rules.specs.Transfer.{with_crc, content, carried, tailed, cut, frames_of}
use Rattle.rules.proofs.Crc.{residue}
use Rattle.rules.proofs.Plan.{full_length, alone, several, needed, last_length, last_frame}

-- the bytes of a frame before its tail
abbrev pub body : List ℕ → List ℕ
body frame = take (length frame - 1) frame

length_tailed : (bytes : List ℕ) (tail : ℕ) → length (tailed bytes tail) ≡ length bytes + 1
length_tailed bytes tail = length-append bytes (tail ∷ [])

pub body_tailed : (bytes : List ℕ) (tail : ℕ) → body (tailed bytes tail) ≡ bytes
body_tailed bytes tail =
    let n : length (tailed bytes tail) - 1 ≡ length bytes = omega (arith, length_tailed bytes tail) in
    ap (λ (k : ℕ). take k (tailed bytes tail)) n ∙ take_at bytes (tail ∷ []) (length bytes) refl

-- ---- a cut

module _ (m id : ℕ) where
  pub cut_count : (start toggle : Bool) (n : ℕ) (bytes : List ℕ) → length (cut m id start toggle n bytes) ≡ suc n
  cut_count start toggle zero bytes = refl
  cut_count start toggle (suc n) bytes = ap suc (cut_count false (not toggle) n (drop m bytes))

  cut_joins : (start toggle : Bool) (n : ℕ) (bytes : List ℕ) → flat_map body (cut m id start toggle n bytes) ≡ bytes
  unfolding flat_map
  cut_joins start toggle zero bytes = append-nil (body (tailed bytes (tail_byte start true toggle id))) ∙ body_tailed bytes (tail_byte start true toggle id)
  cut_joins start toggle (suc n) bytes =
      ap₂ ◌++◌ (body_tailed (take m bytes) (tail_byte start false toggle id)) (cut_joins false (not toggle) n (drop m bytes)) ∙ take-append-drop m bytes

  -- every part but the last has m bytes
  cut_full : (start toggle : Bool) (n : ℕ) (bytes : List ℕ) → n * m ≤ length bytes → (k : ℕ) → k < n
      → length (get_or (cut m id start toggle n bytes) k []) ≡ m + 1
  cut_full start toggle zero bytes h k l = absurd (not-suc-le-zero l)
  cut_full start toggle (suc n) bytes h zero l =
      length_tailed (take m bytes) (tail_byte start false toggle id)
      ∙ ap (λ (j : ℕ). j + 1) (length-take-le m bytes (omega (arith, suc-mul n m)))
  cut_full start toggle (suc n) bytes h (suc k) l =
      cut_full false (not toggle) n (drop m bytes) (omega (arith, suc-mul n m, length-drop m bytes)) k (le_of_suc-le-suc l)

  -- the last has what is left
  cut_last : (start toggle : Bool) (n : ℕ) (bytes : List ℕ) → n * m ≤ length bytes
      → length (get_or (cut m id start toggle n bytes) n []) ≡ length bytes - n * m + 1
  cut_last start toggle zero bytes h = length_tailed bytes (tail_byte start true toggle id) ∙ omega (arith, zero-mul m)
  cut_last start toggle (suc n) bytes h =
      cut_last false (not toggle) n (drop m bytes) (omega (arith, suc-mul n m, length-drop m bytes))
      ∙ omega (arith, suc-mul n m, length-drop m bytes)

-- ---- a transfer

room_and_tail : (u : Mtu) → room_of u + 1 ≡ size_of u
room_and_tail Can8 = refl
room_and_tail CanFd64 = refl

module _ (u : Mtu) (payload : List ℕ) where
  abbrev p : ℕ
  p = length payload

  length_content : length (content u payload) ≡ p + padding u p
  length_content = length-append payload (replicate (padding u p) 0) ∙ ap (λ (n : ℕ). p + n) (length-replicate (padding u p) 0)

  -- in one frame, payload and padding ..
  pub carried_alone : p ≤ room_of u → carried u payload ≡ content u payload
  unfolding carried
  carried_alone h = rw (le-leb p (room_of u) h) refl

  -- .. in several, and their CRC
  pub carried_several : room_of u < p → carried u payload ≡ with_crc crc_start (content u payload)
  unfolding carried
  carried_several h = rw (lt-leb p (room_of u) h) refl

  -- what several frames carry leaves residue 0
  pub residue_zero : room_of u < p → crc (carried u payload) ≡ 0
  residue_zero h = ap crc (carried_several h) ∙ residue (content u payload)

  pub length_carried : length (carried u payload) ≡ p + crc_length u p + padding u p
  length_carried =
      ⊎_elim
      (λ (h : p ≤ room_of u). rw (le-leb p (room_of u) h) (ap length (carried_alone h) ∙ length_content ∙ omega arith))
      (λ (h : room_of u < p).
      rw (lt-leb p (room_of u) h)
      (ap length (carried_several h) ∙ length-append (content u payload) (crc_bytes (crc_from crc_start (content u payload))) ∙ omega (arith, length_content)))
      (at_most_or_above p (room_of u))

  some : 1 ≤ frames u p
  some =
      ⊎_elim (λ (h : p ≤ room_of u). omega (arith, alone p u h)) (λ (h : room_of u < p). omega (arith, several p u h))
      (at_most_or_above p (room_of u))

  -- all frames but the last are filled
  filled : (frames u p - 1) * room_of u ≤ length (carried u payload)
  filled =
      ⊎_elim
      (λ (h : p ≤ room_of u). let e : frames u p - 1 ≡ 0 = omega (arith, alone p u h) in rw e (omega (arith, zero-mul (room_of u))))
      (λ (h : room_of u < p). let e : crc_length u p ≡ 2 = rw (lt-leb p (room_of u) h) refl in omega (arith, needed p u h, length_carried))
      (at_most_or_above p (room_of u))

  last_fits : last_length u p ≤ size_of u
  last_fits =
      let e : frames u p ≡ suc (frames u p - 1) = omega (arith, some) in
      let f : frames u p * room_of u ≡ (frames u p - 1) * room_of u + room_of u = ap (λ (n : ℕ). n * room_of u) e ∙ suc-mul (frames u p - 1) (room_of u) in
      omega (arith, (last_frame u p).0, room_and_tail u)

  module _ (id : ℕ) where
    abbrev fs : List (List ℕ)
    fs = frames_of u id payload

    -- HOW MANY FRAMES: as many as the plan says
    pub frames_count : length fs ≡ frames u p
    unfolding frames_of
    frames_count = cut_count (room_of u) id true true (frames u p - 1) (carried u payload) ∙ omega (arith, some)

    -- THE PARTS JOIN to payload, padding and CRC
    pub frames_join : flat_map body fs ≡ carried u payload
    unfolding frames_of
    frames_join = cut_joins (room_of u) id true true (frames u p - 1) (carried u payload)

    -- every frame but the last is full
    pub frame_full : (k : ℕ) → suc k < frames u p → length (get_or fs k []) ≡ size_of u
    unfolding frames_of
    frame_full k h = cut_full (room_of u) id true true (frames u p - 1) (carried u payload) filled k (omega arith) ∙ room_and_tail u

    -- the last has the rest, and a length that CAN FD has
    pub frame_last : length (get_or fs (frames u p - 1) []) ≡ last_length u p
    unfolding frames_of
    frame_last = cut_last (room_of u) id true true (frames u p - 1) (carried u payload) filled ∙ ap (λ (n : ℕ). n - (frames u p - 1) * room_of u + 1) length_carried

    -- NO FRAME IS OVER THE MTU
    pub frame_fits : (k : ℕ) → length (get_or fs k []) ≤ size_of u
    frame_fits k =
        ⊎_elim (λ (h : suc (suc k) ≤ frames u p). omega (arith, frame_full k h))
        (λ (h : frames u p < suc (suc k)).
        ⊎_elim (λ (l : suc k ≤ frames u p). let e : k ≡ frames u p - 1 = omega arith in rw e (omega (arith, frame_last, last_fits)))
        (λ (l : frames u p < suc k).
        let past : length fs ≤ k = omega (arith, frames_count) in
        rw (get_or-eq_default fs [] past) (omega arith)) (at_most_or_above (suc k) (frames u p)))
        (at_most_or_above (suc (suc k)) (frames u p))

    -- every frame has a length that CAN FD has
    pub frame_valid : (k : ℕ) → k < frames u p → next_length (length (get_or fs k [])) ≡ length (get_or fs k [])
    frame_valid k l =
        ⊎_elim (λ (h : suc (suc k) ≤ frames u p). rw (frame_full k h) (full_length u))
        (λ (h : frames u p < suc (suc k)). let e : k ≡ frames u p - 1 = omega arith in rw (e, frame_last) (last_frame u p).1)
        (at_most_or_above (suc (suc k)) (frames u p))
