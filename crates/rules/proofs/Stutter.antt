-- EACH FRAME AGAIN RIGHT AFTER ITSELF: a transfer whose frames all stutter is delivered once. A copy of any frame but the last is not awaited by the session that
-- the frame left, since the start bit or the toggle is another; and the copy of the last meets the slot of a delivery, at which it is a repeat if it is in time.
use Rattle.std.specs.Prelude.{Option}
use Rattle.std.proofs.Common.{◌≡◌, ℕ, zero, suc, ◌-◌, ◌*◌, ◌<◌, ◌≤◌, Bool, true, false, not, List, [], ◌∷◌, ◌++◌, length, take, drop, replicate, refl, ap, ◌∙◌, subst, ⊎_elim, arith, take-append-drop}
use Rattle.laws.proofs.Choose.{at_most_or_above}
use Rattle.rules.specs.declared.subscription.Settings.{Settings}
use Rattle.rules.specs.declared.slots.Slot.{Slot}
use Rattle.rules.specs.Limits.{greatest_frame, room_of}
use Rattle.rules.specs.Crc.{crc_start}
use Rattle.rules.specs.TailByte.{tail_byte}
use Rattle.rules.specs.Plan.{frames}
use Rattle.rules.specs.Transfer.{with_crc, content, tailed, cut, frames_of}
use Rattle.rules.specs.Frames.{Frame}
use Rattle.rules.specs.Answers.{nothing}
use Rattle.rules.specs.Source.{Cell, turn}
use Rattle.rules.specs.Demand3.{Sent, SentTo, IsRepeat, NoException, Plain, silence, owed}
use Rattle.rules.specs.Beyond.{Young, stuttering}
use Rattle.rules.proofs.Plan.{alone, several}
use Rattle.rules.proofs.Steps.{arrival, delivered, meets_none, repeat_passes, second_start, other_toggle}
use Rattle.rules.proofs.OwnCourse.{course}
use Rattle.rules.proofs.Sent.{frame_sent, Fits, frames_fit, framed_alone, framed_several}
use Rattle.rules.proofs.Deliver.{comes, gist, hearing, sent_next, handed, sofar, one_ends, first_begins, next_joins, last_ends}

-- at a slot that a delivery left, the same ID in time is a repeat
pub delivered_again : (timeout id from stamp : ℕ) → Young timeout from stamp → IsRepeat timeout (delivered id from) id stamp
delivered_again timeout id from stamp y = record { before = refl; last = from; seen = refl; counts = y.counts; young = y.young }

module _ (s : Settings) (n : ℕ) (t : Sent) (to : SentTo s.port n t) (begin : ℕ) where
  -- a copy in time of the last frame
  copy_repeats : (stamp now : ℕ) (part bytes : List ℕ) (start toggle : Bool) → length (tailed bytes (tail_byte start true toggle t.transfer_id)) ≤ greatest_frame
      → Young s.timeout stamp now
      → gist (course s begin (record { slot = delivered t.transfer_id stamp; part = part }) (frame_sent t now bytes start true toggle ∷ []))
      ≡ (silence ∷ [], delivered t.transfer_id stamp)
  copy_repeats stamp now part bytes start toggle fits y =
      let c : Cell = record { slot = delivered t.transfer_id stamp; part = part } in
      ap gist
      (sent_next s n t to begin c now bytes start true toggle fits _
      (repeat_passes s.timeout c (arrival t.header now t.loopback t.transfer_id start true toggle) bytes (delivered_again s.timeout t.transfer_id stamp now y)) [])

  module _ (last : Option ℕ) (stamp : ℕ) (part : List ℕ) where
    abbrev running : Bool → List ℕ → Cell
    running = sofar s n t to begin last stamp part

    -- a copy of another frame, which the session does not await
    copy_passes : (awaited : Bool) (came bytes : List ℕ) (now : ℕ) (start toggle : Bool) → length (tailed bytes (tail_byte start false toggle t.transfer_id)) ≤ greatest_frame
        → turn s.timeout (running awaited came) (arrival t.header now t.loopback t.transfer_id start false toggle) bytes
        ≡ record { answer = nothing; cell = running awaited came }
        → (fs : List Frame)
        → gist (course s begin (running awaited came) (frame_sent t now bytes start false toggle ∷ fs)) ≡ hearing silence (gist (course s begin (running awaited came) fs))
    copy_passes awaited came bytes now start toggle fits same fs = ap gist (sent_next s n t to begin (running awaited came) now bytes start false toggle fits _ same fs)

    -- the frames behind the first, each twice
    rest_stutters : (m : ℕ) (xs : List ℕ) (toggle : Bool) (k : ℕ) (came bytes : List ℕ) (at copied : ℕ → ℕ) → came ++ bytes ≡ with_crc crc_start xs
        → Fits (cut m t.transfer_id false toggle k bytes) → Young s.timeout stamp (copied k)
        → gist (course s begin (running toggle came) (stuttering t.can_id t.loopback at copied (cut m t.transfer_id false toggle k bytes)))
        ≡ (replicate (2 * k) silence ++ (handed s n t to begin stamp (take (length part) xs) ∷ silence ∷ []), delivered t.transfer_id stamp)
    rest_stutters m xs toggle zero came bytes at copied all fits y =
        last_ends s n t to begin last stamp part xs toggle came bytes (at 0) all (fits 0) (frame_sent t (copied 0) bytes false true toggle ∷ [])
        ∙ ap (hearing (handed s n t to begin stamp (take (length part) xs))) (copy_repeats stamp (copied 0) _ bytes false toggle (fits 0) y)
    rest_stutters m xs toggle (suc k) came bytes at copied all fits y =
        let body : List ℕ = take m bytes in
        let rest : List Frame = stuttering t.can_id t.loopback (λ j. at (suc j)) (λ j. copied (suc j)) (cut m t.transfer_id false (not toggle) k (drop m bytes)) in
        let same =
        other_toggle s.timeout t.header (copied 0) t.transfer_id last stamp t.loopback (not toggle) (came ++ body) part
        t.loopback false false toggle body refl refl in
        let two : suc (suc (2 * k)) ≡ 2 * suc k = omega arith in
        next_joins s n t to begin last stamp part toggle came body (at 0) (fits 0) (frame_sent t (copied 0) body false false toggle ∷ rest)
        ∙ ap (hearing silence)
        (copy_passes (not toggle) (came ++ body) body (copied 0) false toggle (fits 0) same rest
        ∙ ap (hearing silence)
        (rest_stutters m xs (not toggle) k (came ++ body) (drop m bytes) (λ j. at (suc j)) (λ j. copied (suc j)) (comes m came bytes ∙ all) (λ j. fits (suc j)) y))
        ∙ ap (λ (j : ℕ). (replicate j silence ++ (handed s n t to begin stamp (take (length part) xs) ∷ silence ∷ []), delivered t.transfer_id stamp)) two

  -- A TRANSFER THAT STUTTERS is delivered once, at its last frame
  pub transfer_stutters : (c : Cell) (copied : ℕ → ℕ) → length c.part ≡ s.extent → NoException s.timeout t c.slot
      → Young s.timeout (t.at 0) (copied (frames t.mtu (length t.payload) - 1))
      → gist (course s begin c (stuttering t.can_id t.loopback t.at copied (frames_of t.mtu t.transfer_id t.payload)))
      ≡ (replicate (2 * frames t.mtu (length t.payload) - 2) silence ++ (owed s.extent t ∷ silence ∷ []), delivered t.transfer_id (t.at 0))
  transfer_stutters c copied size clear y = ⊎_elim one more (at_most_or_above p (room_of t.mtu))
    where
      p : ℕ
      p = length t.payload

      xs : List ℕ
      xs = content t.mtu t.payload

      told : List (List ℕ) → List Plain × Slot
      told bs = gist (course s begin c (stuttering t.can_id t.loopback t.at copied bs))

      Delivers : List Plain × Slot → Type 0
      Delivers g = g ≡ (replicate (2 * frames t.mtu p - 2) silence ++ (owed s.extent t ∷ silence ∷ []), delivered t.transfer_id (t.at 0))

      one : p ≤ room_of t.mtu → Delivers (told (frames_of t.mtu t.transfer_id t.payload))
      one h =
          let fits = subst Fits (framed_alone t h) (frames_fit t) in
          let first : frames t.mtu p - 1 ≡ 0 = omega (arith, alone p t.mtu h) in
          let none : 2 * frames t.mtu p - 2 ≡ 0 = omega (arith, alone p t.mtu h) in
          let young : Young s.timeout (t.at 0) (copied 0) = subst (λ (k : ℕ). Young s.timeout (t.at 0) (copied k)) first y in
          ap told (framed_alone t h)
          ∙ one_ends s n t to begin c (t.at 0) xs clear.new (fits 0) (frame_sent t (copied 0) xs true true true ∷ [])
          ∙ ap (hearing (handed s n t to begin (t.at 0) (take (length c.part) xs))) (copy_repeats (t.at 0) (copied 0) c.part xs true true (fits 0) young)
          ∙ rw (none, size) refl

      more : room_of t.mtu < p → Delivers (told (frames_of t.mtu t.transfer_id t.payload))
      more h =
          let m : ℕ = room_of t.mtu in
          let all : List ℕ = with_crc crc_start xs in
          let k : ℕ = frames t.mtu p - 2 in
          let fits = subst Fits (framed_several t h) (frames_fit t) in
          let some : frames t.mtu p - 1 ≡ suc k = omega (arith, several p t.mtu h) in
          let count : 2 * frames t.mtu p - 2 ≡ suc (suc (2 * k)) = omega (arith, several p t.mtu h) in
          let young : Young s.timeout (t.at 0) (copied (suc k)) = subst (λ (j : ℕ). Young s.timeout (t.at 0) (copied j)) some y in
          let rest : List Frame = stuttering t.can_id t.loopback (λ j. t.at (suc j)) (λ j. copied (suc j)) (cut m t.transfer_id false false k (drop m all)) in
          let same =
          second_start s.timeout t.header (copied 0) t.transfer_id c.slot.last_time (t.at 0) t.loopback false (take m all) c.part
          t.loopback true (take m all) in
          ap told (framed_several t h)
          ∙ first_begins s n t to begin c (t.at 0) (take m all) clear.new (meets_none c.slot t.transfer_id (clear.free h)) (fits 0)
          (frame_sent t (copied 0) (take m all) true false true ∷ rest)
          ∙ ap (hearing silence)
          (copy_passes c.slot.last_time (t.at 0) c.part false (take m all) (take m all) (copied 0) true true (fits 0) same rest
          ∙ ap (hearing silence)
          (rest_stutters c.slot.last_time (t.at 0) c.part m xs false k (take m all) (drop m all) (λ j. t.at (suc j)) (λ j. copied (suc j))
          (take-append-drop m all) (λ j. fits (suc j)) young))
          ∙ rw (count, size) refl
