-- A session is named by the bytes that came: its CRC and its byte total are functions of them, and they lie over the front of the source's part as far as it
-- reaches. So a frame's bytes join by being appended, wherever the part ends.
use Rattle.std.proofs.Common.{◌≡◌, ℕ, ◌+◌, ◌-◌, ◌<◌, ◌≤◌, min, Bool, false, not, List, [], ◌++◌, length, take, drop, sym, refl, ap, ◌∙◌, ⊎_elim, append-nil, zero-add, arith, length-append, length-drop, drop_of_length-le, length-take, take_all, drop-drop, take_at}
use native.Mathlib.Nat.{sub-zero}
use lib.Seq.{drop-append-add}
use Rattle.laws.proofs.Choose.{at_most_or_above}
use Rattle.laws.proofs.Cuts.{take_append}
use Rattle.laws.specs.Laid.{laid}
use Rattle.rules.specs.declared.receive.Arrival.{Arrival}
use Rattle.rules.specs.declared.slots.Session.{Session as TheSession}
use Rattle.rules.specs.Crc.{crc_start, crc}
use Rattle.rules.specs.Session.{opened, joined, stored}
use Rattle.rules.proofs.Crc.{from_append}

-- a part with a frame's bytes in it is as long as before
pub length_stored : (total : ℕ) (bytes part : List ℕ) → length (stored total bytes part) ≡ length part
unfolding stored
length_stored total bytes part = simp (length-append, length-take, length-drop) (omega arith)

-- ---- what came

-- the session of these bytes, whose first frame had this stamp and loopback flag, and which awaits this toggle
abbrev pub session_of : ℕ → ℕ → Bool → Bool → List ℕ → TheSession
session_of extent stamp loopback toggle came = record {
  stamp = stamp;
  loopback = loopback;
  expect_start = false;
  expect_toggle = toggle;
  crc = crc came;
  total = min (extent + 2) (length came);
}

-- bytes laid over a part leave its length
pub length_laid : (came part : List ℕ) → length (laid came part) ≡ length part
length_laid came part = simp (length-append, length-take, length-drop) (omega arith)

-- a first frame's bytes are what came, in the session that it opened ..
pub joined_first : (extent : ℕ) (a : Arrival) (bytes : List ℕ) → joined extent (opened a) bytes ≡ session_of extent a.stamp a.loopback false bytes
unfolding joined
joined_first extent a bytes = rw (zero-add (length bytes)) refl

-- .. and in the part
pub stored_first : (bytes part : List ℕ) → stored 0 bytes part ≡ laid bytes part
unfolding stored
stored_first bytes part = rw (sub-zero (length part), zero-add (length bytes)) refl

-- A FRAME'S BYTES JOIN: the session is that of all bytes, and awaits the other toggle ..
pub joined_came : (extent stamp : ℕ) (loopback toggle : Bool) (came bytes : List ℕ)
    → joined extent (session_of extent stamp loopback toggle came) bytes ≡ session_of extent stamp loopback (not toggle) (came ++ bytes)
unfolding joined
joined_came extent stamp loopback toggle came bytes =
    let t : min (extent + 2) (min (extent + 2) (length came) + length bytes) ≡ min (extent + 2) (length (came ++ bytes)) = simp length-append (omega arith) in
    rw (t, from_append crc_start came bytes) refl

-- the bytes that lie there end where the total says, or fill the part
laid_front : (came part : List ℕ) → take (min (length part + 2) (length came)) (laid came part) ≡ take (length part) came
laid_front came part =
    let front = length-take (length part) came in
    ⊎_elim
    (λ (h : length came ≤ length part). take_at (take (length part) came) (drop (length came) part) (min (length part + 2) (length came)) (omega arith))
    (λ (h : length part < length came).
    let all : length (laid came part) ≤ min (length part + 2) (length came) = omega (arith, length_laid came part) in
    let none : drop (length came) part ≡ [] = drop_of_length-le part {i = length came} (omega arith) in
    take_all (min (length part + 2) (length came)) (laid came part) all ∙ ap (λ (l : List ℕ). take (length part) came ++ l) none
    ∙ append-nil (take (length part) came))
    (at_most_or_above (length came) (length part))

laid_behind : (came part : List ℕ) (n : ℕ) → drop (min (length part + 2) (length came) + n) (laid came part) ≡ drop (length came + n) part
laid_behind came part n =
    let front = length-take (length part) came in
    ⊎_elim
    (λ (h : length came ≤ length part).
    let d : min (length part + 2) (length came) + n ≡ length (take (length part) came) + n = omega arith in
    ap (λ (k : ℕ). drop k (laid came part)) d ∙ drop-append-add (take (length part) came) (drop (length came) part) n ∙ drop-drop n (length came) part)
    (λ (h : length part < length came).
    let past : length (laid came part) ≤ min (length part + 2) (length came) + n = omega (arith, length_laid came part) in
    drop_of_length-le (laid came part) past ∙ sym (drop_of_length-le part {i = length came + n} (omega arith)))
    (at_most_or_above (length came) (length part))

-- .. and all bytes lie over the front of the part
pub stored_came : (came bytes part : List ℕ) → stored (min (length part + 2) (length came)) bytes (laid came part) ≡ laid (came ++ bytes) part
unfolding stored
stored_came came bytes part =
    let room : length (laid came part) - min (length part + 2) (length came) ≡ length part - length came = omega (arith, length_laid came part) in
    rw (laid_front came part, laid_behind came part (length bytes), room, take_append (length part) came bytes, length-append came bytes) refl
