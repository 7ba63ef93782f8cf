-- A session that is looked at and moved on in its words: the four bits from its own on are awaited as one number, and the marks of the session one frame further
-- are the old ones but for the CRC, the start bit and the toggle.
use Rattle.std.specs.Prelude.{None, Option, Some, unwrap_or}
use mathlib.Core.Path.{◌≡◌, refl, sym, ap, ◌∙◌}
use mathlib.Core.Bool.{Bool, true, false, not, cond, false≢true}
use mathlib.Core.List.{List, [], ◌∷◌}
use Prim.Native.Nat.{ℕ, ◌+◌, ◌-◌, ◌*◌, ◌/◌, ◌%◌}
use native.Mathlib.Omega.{arith}
use lib.Dec.{eqb}
use lib.ListN.{get_or, set}
use borrow.Author.Tests.{eqb-true, eqb-false}
use Rattle.std.proofs.lemmas.List.{set-get_or}
use Rattle.laws.proofs.Choose.{first_chosen, both_true}
use Rattle.rules.specs.declared.tail.TailByte.{TailByte as Tail}
use Rattle.rules.specs.declared.slots.Session.{Session}
use Rattle.rules.specs.declared.slots.Slot.{Slot}
use Rattle.rules.specs.CanId.{bit}
use Rattle.rules.specs.Slot.{with_session}
use Rattle.slots.specs.declared.Progress.{Progress}
use Rattle.slots.specs.Words.{time_words, session_marks, words_of, flag_of, last_time_in, session_in, slot_of}
use Rattle.slots.specs.Middle.{session_awaits, slot_awaits, progress_in, session_on, open_on, words_on}

-- a time that does not count is written as 0
pub kept : (t : Option ℕ) → unwrap_or t 0 ≡ (time_words t).time
kept (Some t) = refl
kept None = refl

-- ---- bits as numbers

flag_bit : (n : ℕ) → bit (flag_of n) ≡ n % 2
flag_bit n = go (flag_of n) refl
  where
    go : (t : Bool) → flag_of n ≡ t → bit t ≡ n % 2
    go true e = sym (eqb-true (n % 2) 1 e)
    go false e = omega (arith, eqb-false (n % 2) 1 e)

other_bit : (b : Bool) → bit (not b) ≡ 1 - bit b
other_bit true = refl
other_bit false = refl

-- ---- awaited

-- the session that is read, if one is
abbrev read : ℕ → ℕ → ℕ → Session
read stamp m total =
    record {
      stamp = stamp;
      loopback = flag_of (m / 1024);
      expect_start = flag_of (m / 2048);
      expect_toggle = flag_of (m / 4096);
      crc = m / 65536 % 65536;
      total = total;
    }

-- whether a session awaits a frame is told by its marks alone
pub by_marks : (stamp total m : ℕ) (l t : Bool) → session_awaits (session_in stamp m total) l t ≡ session_awaits (session_in 0 m 0) l t
by_marks stamp total m l t = go (flag_of (m / 512))
  where
    go : (a : Bool) → session_awaits (cond a (Some (read stamp m total)) None) l t ≡ session_awaits (cond a (Some (read 0 m 0)) None) l t
    go true = refl
    go false = refl

pub marks_awaited : (m : ℕ) (l t : Bool) → eqb (m / 512 % 16) (1 + 2 * bit l + 8 * bit t) ≡ session_awaits (session_in 0 m 0) l t
marks_awaited m l t = grind arith

-- ---- one frame further

time_mark : (time m : ℕ) → (time_words (last_time_in time m)).mark ≡ 256 * (m / 256 % 2)
time_mark time m = go (flag_of (m / 256)) ∙ ap (λ (n : ℕ). 256 * n) (flag_bit (m / 256))
  where
    go : (b : Bool) → (time_words (cond b (Some time) None)).mark ≡ 256 * bit b
    go true = refl
    go false = refl

-- the marks of the session with another CRC, its start and the other toggle
marks_on : (time m crc : ℕ)
    → 512 + 1024 * bit (flag_of (m / 1024)) + 2048 * bit false + 4096 * bit (not (flag_of (m / 4096))) + 65536 * crc + (time_words (last_time_in time m)).mark
    + m % 256
    ≡ crc * 65536 + 4096 * (1 - m / 4096 % 2) + 1024 * (m / 1024 % 2) + 512 + m % 512
marks_on time m crc = rw (flag_bit (m / 1024), other_bit (flag_of (m / 4096)), flag_bit (m / 4096), time_mark time m) (omega arith)

pub words_on_lem : (w : List ℕ) (p : Progress) → flag_of (get_or w 2 0 / 512) ≡ true
    → words_on w p
    ≡ (time_words (last_time_in (get_or w 0 0) (get_or w 2 0))).time ∷ get_or w 1 0
    ∷ (p.crc * 65536 + 4096 * (1 - get_or w 2 0 / 4096 % 2) + 1024 * (get_or w 2 0 / 1024 % 2) + 512 + get_or w 2 0 % 512) ∷ p.total ∷ []
unfolding words_on slot_of words_of session_marks
words_on_lem w p h =
    let m : ℕ = get_or w 2 0 in
    rw h
    (ap (λ (n : ℕ). (time_words (last_time_in (get_or w 0 0) m)).time ∷ get_or w 1 0 ∷ n ∷ p.total ∷ []) (marks_on (get_or w 0 0) m p.crc))

-- with no session the words are as they were
pub words_kept : (w : List ℕ) (p : Progress) → flag_of (get_or w 2 0 / 512) ≡ false → words_on w p ≡ w
unfolding words_on slot_of
words_kept w p h = rw h

-- and so are the words of all
pub all_kept : (slots : List (List ℕ)) (i : ℕ) (p : Progress) → flag_of (get_or (get_or slots i []) 2 0 / 512) ≡ false
    → set slots i (words_on (get_or slots i []) p) ≡ slots
all_kept slots i p h = ap (set slots i) (words_kept (get_or slots i []) p h) ∙ set-get_or slots i []

-- ---- for those who go by the slot

-- a slot that awaits a frame expects its ID, and has a session that awaits it
pub awaited : (slot : Slot) (tail : Tail) (l : Bool) → slot_awaits slot tail l ≡ true
    → (s : Session) × (slot.session ≡ Some s) × (eqb tail.transfer_id.0 slot.expected.0 ≡ true) × (session_awaits (Some s) l tail.toggle ≡ true)
unfolding slot_awaits
awaited slot tail l e =
    let b = both_true (eqb tail.transfer_id.0 slot.expected.0) (session_awaits slot.session l tail.toggle) e in
    go slot.session b.0 b.1
  where
    go : (o : Option Session) → eqb tail.transfer_id.0 slot.expected.0 ≡ true → session_awaits o l tail.toggle ≡ true
        → (s : Session) × (o ≡ Some s) × (eqb tail.transfer_id.0 slot.expected.0 ≡ true) × (session_awaits (Some s) l tail.toggle ≡ true)
    go None d f = absurd (false≢true f)
    go (Some s) d f = (s, refl, d, f)

-- a slot with a session is as far as the session is
pub progress_of : (w : List ℕ) (s : Session) → (slot_of w).session ≡ Some s → progress_in w ≡ record { crc = s.crc; total = s.total }
unfolding slot_of progress_in
progress_of w s e =
    let r : Session = read (get_or w 1 0) (get_or w 2 0) (get_or w 3 0) in
    let c = first_chosen (flag_of (get_or w 2 0 / 512)) (Some r) None (Some s) e (λ y. let z : ◌≡◌ {A = ℕ} 0 1 = cc in omega arith) in
    let f : r ≡ s = cc in
    ap (λ (x : Session). record { crc = x.crc; total = x.total }) f

-- and its words one frame further are those of the slot with the session one frame further
pub words_with : (w : List ℕ) (p : Progress) (s : Session) → (slot_of w).session ≡ Some s → words_on w p ≡ words_of (with_session (slot_of w) (Some (session_on s p)))
unfolding words_on
words_with w p s e = ap (λ (o : Option Session). open_on o w p) e
