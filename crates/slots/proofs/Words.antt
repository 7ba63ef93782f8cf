-- A slot that is written as four words and read again is that slot, since each field has bits of its own; and whatever is read from words can be written again.
use Rattle.std.specs.Prelude.{None, Option, Some}
use Rattle.rules.specs.declared.slots.Session.{Session}
use mathlib.Core.Path.{◌≡◌, refl}
use mathlib.Core.Bool.{true, false}
use mathlib.Core.List.{List, []}
use Prim.Native.Nat.{ℕ, ◌+◌, ◌/◌, ◌%◌, ◌^◌, ◌≤◌, ◌<◌}
use native.Mathlib.Omega.{arith}
use lib.ListN.{get_or}
use Rattle.laws.proofs.Bits.{flag_le, flag_read}
use Rattle.laws.proofs.Choose.{either_way}
use Rattle.rules.specs.declared.slots.Slot.{Slot}
use Rattle.rules.specs.Slot.{fresh_slot}
use Rattle.slots.specs.Words.{time_words, session_marks, session_words, words_of, flag_of, last_time_in, session_in, slot_of}

-- a session's CRC fits its 16 bits
abbrev pub OpenFits : Option Session → Type 0
OpenFits None = Unit {0}
OpenFits (Some s) = s.crc < 2 ^ 16

-- a slot's expected ID fits its 8 bits, and its session's CRC, if it has one, its 16
abbrev pub SlotFits : Slot → Type 0
SlotFits s = (s.expected.0 < 256) × OpenFits s.session

-- ---- written and read

-- a session has no bits below the tenth
high_marks : (o : Option Session) → (session_words o).marks % 512 ≡ 0
unfolding session_marks
high_marks None = refl
high_marks (Some s) = omega arith

mark_le : (t : Option ℕ) → (time_words t).mark ≤ 256
mark_le None = omega arith
mark_le (Some t) = omega arith

module _ (a e : ℕ) (high : a % 512 ≡ 0) (low : e < 256) where
  id_read : (t : Option ℕ) → (a + (time_words t).mark + e) % 256 ≡ e
  id_read None = omega arith
  id_read (Some t) = omega arith

  time_read : (t : Option ℕ) → last_time_in (time_words t).time (a + (time_words t).mark + e) ≡ t
  time_read None = simp (flag_read false ((a + 0 + e) / 256 % 2) (omega arith))
  time_read (Some t) = simp (flag_read true ((a + 256 + e) / 256 % 2) (omega arith))

module _ (m e : ℕ) (h : m + e < 512) where
  session_read : (o : Option Session) → OpenFits o → session_in (session_words o).stamp ((session_words o).marks + m + e) (session_words o).total ≡ o
  unfolding session_marks
  session_read None k = simp (flag_read false ((0 + m + e) / 512 % 2) (omega arith))
  session_read (Some s) k =
      let w : ℕ = session_marks s + m + e in
      let l = flag_le s.loopback in
      let b = flag_le s.expect_start in
      let t = flag_le s.expect_toggle in
      let c : w / 65536 % 65536 ≡ s.crc = omega arith in
      rw (
        flag_read true (w / 512 % 2) (omega arith),
        flag_read s.loopback (w / 1024 % 2) (omega arith),
        flag_read s.expect_start (w / 2048 % 2) (omega arith),
        flag_read s.expect_toggle (w / 4096 % 2) (omega arith),
        c,
      ) refl

-- a slot that is loaded after it was saved is that slot
pub words_read : (s : Slot) → SlotFits s → slot_of (words_of s) ≡ s
unfolding slot_of words_of
words_read s (h, k) =
    let a : ℕ = (session_words s.session).marks in
    let m : ℕ = (time_words s.last_time).mark in
    let e : ℕ = s.expected.0 in
    let l : m + e < 512 = omega (arith, mark_le s.last_time) in
    rw (
      id_read a e (high_marks s.session) h s.last_time,
      time_read a e (high_marks s.session) h s.last_time,
      session_read m e l s.session k,
    ) refl

-- ---- from any words

-- whatever words are read, the slot fits
pub slot_fits : (w : List ℕ) → SlotFits (slot_of w)
unfolding slot_of
slot_fits w =
    let c : get_or w 2 0 / 65536 % 65536 < 2 ^ 16 = omega arith in
    (omega arith, either_way OpenFits (flag_of (get_or w 2 0 / 512)) c tt)

-- a fresh slot is read as it was written, and where there are no words
pub fresh_words : (slot_of (words_of fresh_slot) ≡ fresh_slot) × (slot_of [] ≡ fresh_slot)
unfolding slot_of words_of
fresh_words = (refl, refl)
