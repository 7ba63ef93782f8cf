-- WHAT THE RECEIVER READS IN A TRANSFER: each frame of the published rule is ours, from its source, with the fields and bytes that were put in it. For a tail byte
-- that was made is read back, and no frame is over the MTU.
use Rattle.std.specs.Prelude.{Ok, Some}
use Rattle.std.proofs.Common.{◌≡◌, ℕ, zero, suc, ◌-◌, ◌<◌, ◌≤◌, Bool, true, false, not, eqb, List, [], ◌∷◌, length, get_or, take, drop, refl, ap, ◌∙◌, arith, length-append, eq-eqb, ne_eqb, le-leb}
use lib.Seq.{get_or_at}
use Rattle.rules.specs.declared.subscription.Port.{Port}
use Rattle.rules.specs.declared.subscription.Settings.{Settings}
use Rattle.rules.specs.Limits.{greatest_frame, room_of}
use Rattle.rules.specs.Crc.{crc_start}
use Rattle.rules.specs.TailByte.{tail_byte}
use Rattle.rules.specs.Plan.{frames}
use Rattle.rules.specs.Transfer.{with_crc, content, carried, tailed, cut, frames_of}
use Rattle.rules.specs.Frames.{Frame}
use Rattle.rules.specs.Source.{Cell, turn}
use Rattle.rules.specs.Receiver.{tail_of, reading}
use Rattle.rules.specs.Histories.{is_from, only}
use Rattle.rules.specs.Demand3.{arriving, Sent, SentTo, frames_sent}
use Rattle.rules.proofs.TailByte.{tail_back}
use Rattle.rules.proofs.Plan.{size_bounds, alone, several}
use Rattle.rules.proofs.Transfer.{body_tailed, carried_alone, carried_several, frame_fits}
use Rattle.rules.proofs.Receiver.{from_source}
use Rattle.rules.proofs.Steps.{arrival}
use Rattle.rules.proofs.OwnCourse.{turn_at, turn_ours}

-- ---- one frame of a transfer

tail_there : (bytes : List ℕ) (tail : ℕ) → tail_of (tailed bytes tail) ≡ tail
tail_there bytes tail =
    let n : length (tailed bytes tail) - 1 ≡ length bytes = omega (arith, length-append bytes (tail ∷ [])) in
    ap (λ (k : ℕ). get_or (tailed bytes tail) k 0) n ∙ get_or_at bytes tail [] 0 (length bytes) refl

-- the frame of a transfer that has these bytes and bits, at this time
abbrev pub frame_sent : Sent → ℕ → List ℕ → Bool → Bool → Bool → Frame
frame_sent t stamp bytes start end toggle =
    record { stamp = stamp; id = t.can_id; loopback = t.loopback; bytes = tailed bytes (tail_byte start end toggle t.transfer_id) }

-- its frames fit
abbrev pub Fits : List (List ℕ) → Type 0
Fits frames = (k : ℕ) → length (get_or frames k []) ≤ greatest_frame

module _ (port : Port) (n : ℕ) (t : Sent) (to : SentTo port n t) (stamp : ℕ) (bytes : List ℕ) (start end toggle : Bool)
    (fits : length (tailed bytes (tail_byte start end toggle t.transfer_id)) ≤ greatest_frame) where
  -- it is ours, and is read as it was made
  pub sent_read : reading port (frame_sent t stamp bytes start end toggle) ≡ Ok (Some (arrival t.header stamp t.loopback t.transfer_id start end toggle))
  unfolding reading
  sent_read =
      let tail : ℕ = tail_byte start end toggle t.transfer_id in
      let some : eqb (length (tailed bytes tail)) 0 ≡ false = ne_eqb (length (tailed bytes tail)) 0 (omega (arith, length-append bytes (tail ∷ []))) in
      rw (
        some,
        le-leb (length (tailed bytes tail)) greatest_frame fits,
        to.addressed.read,
        to.addressed.wanted,
        tail_there bytes tail,
        tail_back start end toggle t.transfer_id to.id,
      )
      refl

  -- it is a frame of its source
  pub sent_from : is_from port n (frame_sent t stamp bytes start end toggle) ≡ true
  sent_from =
      from_source port (frame_sent t stamp bytes start end toggle) (arrival t.header stamp t.loopback t.transfer_id start end toggle) (record { 0 = n }) sent_read
      to.addressed.source n
      ∙ eq-eqb n n refl

-- at its source's cell it is a turn with its bytes
pub sent_turn : (s : Settings) (n : ℕ) (t : Sent) → SentTo s.port n t → (stamp : ℕ) (bytes : List ℕ) (start end toggle : Bool)
    → length (tailed bytes (tail_byte start end toggle t.transfer_id)) ≤ greatest_frame → (c : Cell)
    → turn_at s c (frame_sent t stamp bytes start end toggle)
    ≡ turn s.timeout c (arrival t.header stamp t.loopback t.transfer_id start end toggle) bytes
sent_turn s n t to stamp bytes start end toggle fits c =
    turn_ours s c (frame_sent t stamp bytes start end toggle) (arrival t.header stamp t.loopback t.transfer_id start end toggle) (record { 0 = n })
    (sent_read s.port n t to stamp bytes start end toggle fits) to.addressed.source
    ∙ ap (turn s.timeout c (arrival t.header stamp t.loopback t.transfer_id start end toggle)) (body_tailed bytes (tail_byte start end toggle t.transfer_id))

-- ---- all of its frames

module _ (t : Sent) where
  -- no frame of a transfer is too long to be received
  pub frames_fit : Fits (frames_of t.mtu t.transfer_id t.payload)
  frames_fit k = omega (arith, frame_fits t.mtu t.payload t.transfer_id k, (size_bounds t.mtu).1)

  -- a payload that fits one frame goes as one
  pub framed_alone : length t.payload ≤ room_of t.mtu
      → frames_of t.mtu t.transfer_id t.payload ≡ tailed (content t.mtu t.payload) (tail_byte true true true t.transfer_id) ∷ []
  unfolding frames_of
  framed_alone h =
      let one : frames t.mtu (length t.payload) - 1 ≡ 0 = omega (arith, alone (length t.payload) t.mtu h) in
      rw (one, carried_alone t.mtu t.payload h) refl

  -- a longer one is cut with its CRC
  pub framed_several : room_of t.mtu < length t.payload
      → frames_of t.mtu t.transfer_id t.payload
      ≡ cut (room_of t.mtu) t.transfer_id true true (suc (frames t.mtu (length t.payload) - 2)) (with_crc crc_start (content t.mtu t.payload))
  unfolding frames_of
  framed_several h =
      let more : frames t.mtu (length t.payload) - 1 ≡ suc (frames t.mtu (length t.payload) - 2) = omega (arith, several (length t.payload) t.mtu h) in
      rw (more, carried_several t.mtu t.payload h) refl

module _ (port : Port) (n : ℕ) (t : Sent) (to : SentTo port n t) where
  cut_own : (m : ℕ) (start toggle : Bool) (k : ℕ) (bytes : List ℕ) (at : ℕ → ℕ) → Fits (cut m t.transfer_id start toggle k bytes)
      → only port n (arriving t.can_id t.loopback at (cut m t.transfer_id start toggle k bytes))
      ≡ arriving t.can_id t.loopback at (cut m t.transfer_id start toggle k bytes)
  cut_own m start toggle zero bytes at fits = rw (sent_from port n t to (at 0) bytes start true toggle (fits 0)) refl
  cut_own m start toggle (suc k) bytes at fits =
      rw (sent_from port n t to (at 0) (take m bytes) start false toggle (fits 0), cut_own m false (not toggle) k (drop m bytes) (λ j. at (suc j)) (λ j. fits (suc j)))
      refl

  -- THE FRAMES OF A TRANSFER ARE FRAMES OF ITS SOURCE
  pub sent_own : only port n (frames_sent t) ≡ frames_sent t
  unfolding frames_of
  sent_own = cut_own (room_of t.mtu) true true (frames t.mtu (length t.payload) - 1) (carried t.mtu t.payload) t.at (frames_fit t)
