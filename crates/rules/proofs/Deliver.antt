-- A WHOLE TRANSFER IS DELIVERED at its last frame, under the stamp of its first, and its slot then waits for the next ID: the first frame opens a session, each
-- middle one joins it, and the last has the CRC that leaves residue 0; or the one frame is all. It is said of the cell of the transfer's source.
use Rattle.std.specs.Prelude.{Option}
use Rattle.std.proofs.Common.{◌≡◌, ℕ, zero, suc, ◌+◌, ◌-◌, ◌<◌, ◌≤◌, min, Bool, true, false, not, List, [], ◌∷◌, ◌++◌, map, length, take, drop, replicate, refl, ap, ◌∙◌, subst, ⊎_elim, append_assoc, arith, length-append, take-append-drop, length-take, take-take, le-leb}
use lib.Seq.{take-append-le}
use Rattle.laws.proofs.Choose.{at_most_or_above}
use Rattle.laws.proofs.Cuts.{take_min}
use Rattle.rules.specs.declared.subscription.Settings.{Settings}
use Rattle.rules.specs.declared.slots.Slot.{Slot}
use Rattle.rules.specs.Limits.{greatest_frame, room_of}
use Rattle.rules.specs.Crc.{crc_start, crc, crc_bytes}
use Rattle.rules.specs.TailByte.{tail_byte}
use Rattle.rules.specs.Plan.{frames}
use Rattle.rules.specs.Transfer.{with_crc, content, tailed, cut, frames_of}
use Rattle.rules.specs.Frames.{Frame}
use Rattle.rules.specs.Answers.{leading}
use Rattle.rules.specs.Source.{Cell, Turn, turn}
use Rattle.rules.specs.Demand3.{arriving, Sent, SentTo, frames_sent, IsRepeat, NoException, Plain, delivery, silence, plain, owed, at_the_last}
use Rattle.rules.proofs.Crc.{residue}
use Rattle.rules.proofs.Plan.{alone, several}
use Rattle.laws.specs.Laid.{laid}
use Rattle.rules.proofs.Session.{length_laid}
use Rattle.rules.proofs.Steps.{arrival, delivered, under_way, Free, meets_none, first_opens, single_delivers, middle_joins, last_delivers}
use Rattle.rules.proofs.OwnCourse.{told_at, Course, after, course}
use Rattle.rules.proofs.Sent.{frame_sent, Fits, sent_turn, frames_fit, framed_alone, framed_several}

-- ---- the bytes that a delivery shows

-- of a single frame: its bytes before the tail, cut to the extent
leading_tailed : (e : ℕ) (xs : List ℕ) (tail : ℕ) → leading (min e (length xs)) (tailed xs tail) ≡ take e xs
leading_tailed e xs tail =
    let within : min e (length xs) ≤ length xs = omega arith in
    let fits : min e (length xs) ≤ length (tailed xs tail) = omega (arith, length-append xs (tail ∷ [])) in
    rw (le-leb (min e (length xs)) (length (tailed xs tail)) fits, take-append-le (min e (length xs)) xs (tail ∷ []) within) (take_min e xs)

-- of a part: what came before the CRC, cut to the extent
leading_laid : (part xs : List ℕ) → leading (min (length part) (length (with_crc crc_start xs) - 2)) (laid (with_crc crc_start xs) part) ≡ take (length part) xs
leading_laid part xs =
    let all : List ℕ = with_crc crc_start xs in
    let e : ℕ = length part in
    let long : length all ≡ length xs + 2 = length-append xs (crc_bytes (crc xs)) in
    let len : min e (length all - 2) ≡ min e (length xs) = omega arith in
    let shown : min e (length xs) ≤ length (laid all part) = omega (arith, length_laid all part) in
    let front : min e (length xs) ≤ length (take e all) = omega (arith, length-take e all) in
    rw (len, le-leb (min e (length xs)) (length (laid all part)) shown)
    (take-append-le (min e (length xs)) (take e all) (drop (length all) part) front ∙ take-take (min e (length xs)) e all (omega arith)
    ∙ take-append-le (min e (length xs)) xs (crc_bytes (crc xs)) (omega arith) ∙ take_min e xs)

-- ---- the course of a transfer

-- what came, with the next m bytes and the rest
pub comes : (m : ℕ) (came bytes : List ℕ) → (came ++ take m bytes) ++ drop m bytes ≡ came ++ bytes
comes m came bytes = append_assoc came (take m bytes) (drop m bytes) ∙ ap (λ (l : List ℕ). came ++ l) (take-append-drop m bytes)

-- what is heard in a course, and the slot that it leaves
abbrev pub gist : Course → List Plain × Slot
gist c = (map plain c.told, c.cell.slot)

-- one answer before a gist
abbrev pub hearing : Plain → List Plain × Slot → List Plain × Slot
hearing p g = (p ∷ g.0, g.1)

module _ (s : Settings) (n : ℕ) (t : Sent) (to : SentTo s.port n t) (begin : ℕ) where
  -- a frame of the transfer whose turn is known, and the frames behind it
  pub sent_next : (c : Cell) (stamp : ℕ) (bytes : List ℕ) (start end toggle : Bool) → length (tailed bytes (tail_byte start end toggle t.transfer_id)) ≤ greatest_frame
      → (x : Turn) → turn s.timeout c (arrival t.header stamp t.loopback t.transfer_id start end toggle) bytes ≡ x → (fs : List Frame)
      → course s begin c (frame_sent t stamp bytes start end toggle ∷ fs) ≡ after (told_at begin (frame_sent t stamp bytes start end toggle) x) (course s begin x.cell fs)
  sent_next c stamp bytes start end toggle fits x e fs =
      ap (λ (y : Turn). after (told_at begin (frame_sent t stamp bytes start end toggle) y) (course s begin y.cell fs))
      (sent_turn s n t to stamp bytes start end toggle fits c ∙ e)

  -- the delivery of these bytes under this stamp
  abbrev pub handed : ℕ → List ℕ → Plain
  handed stamp bytes = delivery t.header (record { 0 = t.transfer_id }) stamp t.loopback bytes

  -- a single frame hands over its bytes, cut to the extent
  pub one_ends : (c : Cell) (stamp : ℕ) (xs : List ℕ) → (IsRepeat s.timeout c.slot t.transfer_id stamp → ⊥)
      → length (tailed xs (tail_byte true true true t.transfer_id)) ≤ greatest_frame → (fs : List Frame)
      → gist (course s begin c (frame_sent t stamp xs true true true ∷ fs))
      ≡ hearing (handed stamp (take (length c.part) xs)) (gist (course s begin (record { slot = delivered t.transfer_id stamp; part = c.part }) fs))
  one_ends c stamp xs new fits fs =
      ap gist
      (sent_next c stamp xs true true true fits _ (single_delivers s.timeout c t.header stamp t.loopback t.transfer_id xs true new) fs)
      ∙ ap
      (λ (l : List ℕ). hearing (handed stamp l) (gist (course s begin (record { slot = delivered t.transfer_id stamp; part = c.part }) fs)))
      (leading_tailed (length c.part) xs (tail_byte true true true t.transfer_id))

  -- the first of several opens the session
  pub first_begins : (c : Cell) (stamp : ℕ) (bytes : List ℕ) → (IsRepeat s.timeout c.slot t.transfer_id stamp → ⊥) → Free t.transfer_id c.slot
      → length (tailed bytes (tail_byte true false true t.transfer_id)) ≤ greatest_frame → (fs : List Frame)
      → gist (course s begin c (frame_sent t stamp bytes true false true ∷ fs))
      ≡ hearing silence (gist (course s begin (under_way t.transfer_id c.slot.last_time stamp t.loopback false bytes c.part) fs))
  first_begins c stamp bytes new free fits fs =
      ap gist (sent_next c stamp bytes true false true fits _ (first_opens s.timeout c t.header stamp t.loopback t.transfer_id bytes new free) fs)

  module _ (last : Option ℕ) (stamp : ℕ) (part : List ℕ) where
    -- the transfer is under way, and these bytes came
    abbrev pub sofar : Bool → List ℕ → Cell
    sofar toggle came = under_way t.transfer_id last stamp t.loopback toggle came part

    -- a middle frame joins
    pub next_joins : (toggle : Bool) (came bytes : List ℕ) (now : ℕ) → length (tailed bytes (tail_byte false false toggle t.transfer_id)) ≤ greatest_frame
        → (fs : List Frame)
        → gist (course s begin (sofar toggle came) (frame_sent t now bytes false false toggle ∷ fs))
        ≡ hearing silence (gist (course s begin (sofar (not toggle) (came ++ bytes)) fs))
    next_joins toggle came bytes now fits fs =
        ap gist
        (sent_next (sofar toggle came) now bytes false false toggle fits _
        (middle_joins s.timeout t.header now t.transfer_id last stamp t.loopback toggle came part bytes) fs)

    -- the last hands over all bytes before the CRC, cut to the extent
    pub last_ends : (xs : List ℕ) (toggle : Bool) (came bytes : List ℕ) (now : ℕ) → came ++ bytes ≡ with_crc crc_start xs
        → length (tailed bytes (tail_byte false true toggle t.transfer_id)) ≤ greatest_frame → (fs : List Frame)
        → gist (course s begin (sofar toggle came) (frame_sent t now bytes false true toggle ∷ fs))
        ≡ hearing (handed stamp (take (length part) xs)) (gist (course s begin (record { slot = delivered t.transfer_id stamp; part = laid (with_crc crc_start xs) part }) fs))
    last_ends xs toggle came bytes now all fits fs =
        let two : 2 ≤ length (came ++ bytes) = omega (arith, ap length all, length-append xs (crc_bytes (crc xs))) in
        ap gist
        (sent_next (sofar toggle came) now bytes false true toggle fits _
        (last_delivers s.timeout t.header now t.transfer_id last stamp t.loopback toggle came part bytes (ap crc all ∙ residue xs) two) fs)
        ∙ ap
        (λ (l : List ℕ). hearing (handed stamp (leading (min (length part) (length l - 2)) (laid l part)))
        (gist (course s begin (record { slot = delivered t.transfer_id stamp; part = laid l part }) fs))) all
        ∙ ap
        (λ (l : List ℕ). hearing (handed stamp l)
        (gist (course s begin (record { slot = delivered t.transfer_id stamp; part = laid (with_crc crc_start xs) part }) fs))) (leading_laid part xs)

    -- THE FRAMES BEHIND THE FIRST: nothing, until the last delivers
    rest_delivers : (m : ℕ) (xs : List ℕ) (toggle : Bool) (k : ℕ) (came bytes : List ℕ) (at : ℕ → ℕ) → came ++ bytes ≡ with_crc crc_start xs
        → Fits (cut m t.transfer_id false toggle k bytes)
        → gist (course s begin (sofar toggle came) (arriving t.can_id t.loopback at (cut m t.transfer_id false toggle k bytes)))
        ≡ (replicate k silence ++ (handed stamp (take (length part) xs) ∷ []), delivered t.transfer_id stamp)
    rest_delivers m xs toggle zero came bytes at all fits = last_ends xs toggle came bytes (at 0) all (fits 0) []
    rest_delivers m xs toggle (suc k) came bytes at all fits =
        next_joins toggle came (take m bytes) (at 0) (fits 0) (arriving t.can_id t.loopback (λ j. at (suc j)) (cut m t.transfer_id false (not toggle) k (drop m bytes)))
        ∙ ap (hearing silence)
        (rest_delivers m xs (not toggle) k (came ++ take m bytes) (drop m bytes) (λ j. at (suc j)) (comes m came bytes ∙ all) (λ j. fits (suc j)))

  -- A TRANSFER THAT MEETS NO EXCEPTION: nothing at each frame but the last, what is owed at the last, and the slot waits for the next ID
  pub transfer_delivers : (c : Cell) → length c.part ≡ s.extent → NoException s.timeout t c.slot
      → gist (course s begin c (frames_sent t)) ≡ (at_the_last (frames t.mtu (length t.payload)) (owed s.extent t), delivered t.transfer_id (t.at 0))
  transfer_delivers c size clear = ⊎_elim one more (at_most_or_above p (room_of t.mtu))
    where
      p : ℕ
      p = length t.payload

      xs : List ℕ
      xs = content t.mtu t.payload

      told : List (List ℕ) → List Plain × Slot
      told bs = gist (course s begin c (arriving t.can_id t.loopback t.at bs))

      Delivers : List Plain × Slot → Type 0
      Delivers g = g ≡ (at_the_last (frames t.mtu p) (owed s.extent t), delivered t.transfer_id (t.at 0))

      one : p ≤ room_of t.mtu → Delivers (told (frames_of t.mtu t.transfer_id t.payload))
      one h =
          let none : frames t.mtu p - 1 ≡ 0 = omega (arith, alone p t.mtu h) in
          ap told (framed_alone t h) ∙ one_ends c (t.at 0) xs clear.new (subst Fits (framed_alone t h) (frames_fit t) 0) [] ∙ rw (none, size) refl

      more : room_of t.mtu < p → Delivers (told (frames_of t.mtu t.transfer_id t.payload))
      more h =
          let m : ℕ = room_of t.mtu in
          let all : List ℕ = with_crc crc_start xs in
          let k : ℕ = frames t.mtu p - 2 in
          let fits = subst Fits (framed_several t h) (frames_fit t) in
          let some : frames t.mtu p - 1 ≡ suc k = omega (arith, several p t.mtu h) in
          ap told (framed_several t h)
          ∙ first_begins c (t.at 0) (take m all) clear.new (meets_none c.slot t.transfer_id (clear.free h)) (fits 0)
          (arriving t.can_id t.loopback (λ j. t.at (suc j)) (cut m t.transfer_id false false k (drop m all)))
          ∙ ap (hearing silence)
          (rest_delivers c.slot.last_time (t.at 0) c.part m xs false k (take m all) (drop m all) (λ j. t.at (suc j)) (take-append-drop m all) (λ j. fits (suc j)))
          ∙ rw (some, size) refl
