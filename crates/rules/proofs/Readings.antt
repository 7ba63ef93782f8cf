-- Inputs that tell document 01 from wrong readings of it, beside those of the bench sheet and of Worked.antt. Each claim is an answer by 01's rule, by
-- computation; an edit of must-fail/ puts the wrong reading into the book, and the claim is then a false equation. docs/PROMISES.md has both answers.
use Rattle.std.specs.Prelude.{Err, Ok, Some}
use Rattle.std.proofs.Common.{◌≡◌, ℕ, ◌-◌, ◌^◌, true, false, List, [], ◌∷◌, ◌++◌, map, get_or, take, drop, replicate, refl}
use Rattle.rules.specs.declared.refusal.Refusal.TheVariants.{Field, ReservedBit}
use Rattle.rules.specs.declared.data.Mtu.TheVariants.{Can8, CanFd64}
use Rattle.rules.specs.declared.header.Header.TheVariants.{Message, Request}
use Rattle.rules.specs.Crc.{crc_bytes, crc_bit, crc_bits, crc_byte}
use Rattle.rules.specs.CanId.{parsed_can_id}
use Rattle.rules.specs.TailByte.{tail_byte, parsed_tail}
use Rattle.rules.specs.Plan.{next_length, tails, frames, padding}
use Rattle.rules.specs.Transfer.{carried, frames_of}
use Rattle.rules.specs.Tracker.{fresh_numbers, after_asking}
use Rattle.rules.specs.Frames.{Frame}
use Rattle.rules.specs.Queue.{pushed, returned}
use Rattle.rules.specs.Sending.{counted}
use Rattle.rules.specs.Slot.{fresh_slot, age, admitted}
use Rattle.rules.specs.Session.{joined, stored}
use Rattle.rules.specs.Answers.{Answer, delivers, not_ours, refuses, nothing as tellsNothing}
use Rattle.rules.specs.Source.{ended, continued, in_session, goes_on, turn}
use Rattle.rules.specs.Receiver.{tail_of, reading, cell_at, at_source, judged, received}
use Rattle.rules.specs.Histories.{Told, told, run}
use Rattle.rules.specs.Bench.{Shown, answers, delivered, nothing, refusal, settings, fresh, came, middle, service, zeros, answered}

-- ---- receiving: frames come to the fresh slots of the bench sheet, from case 4's source 42, with a timeout of 5 and an extent of two bytes

-- case 6's two frames, at stamps 0 and 9: a start and an end, the bytes FF FF between them
abbrev begins : Frame
begins = came 0 (0xFF ∷ 0xA0 ∷ [])

abbrev ends : Frame
ends = came 9 (0xFF ∷ 0x40 ∷ [])

-- what the frames are answered
unfoldable pub answers_to : List Frame → Shown
unfolding crc_bit crc_bits crc_byte parsed_can_id tail_byte age admitted joined stored ended continued in_session goes_on turn reading cell_at at_source judged received
answers_to fs = answered 5 fs

-- the stamp of an answer, which a delivery alone has
abbrev stamp_of : Answer → List ℕ
stamp_of (delivers d) = d.stamp ∷ []
stamp_of tellsNothing = []
stamp_of not_ours = []
stamp_of (refuses n) = []

-- the stamps of the answers
unfoldable pub stamps : List Frame → List (List ℕ)
unfolding answers_to
stamps fs = map (λ (t : Told). stamp_of t.answer) (told (settings 5) fresh fs)

-- what lies afterwards in the source's part of the store, bytes 84 and 85
unfoldable pub in_part : List Frame → List ℕ
unfolding answers_to
in_part fs = take 2 (drop 84 (run (settings 5) fresh fs).store)

-- a strange ID drops the session: after a start with ID 0, a middle frame with ID 5 finds none
pub strange_id : answers_to (begins ∷ middle 1 5 ∷ []) ≡ answers (nothing ∷ refusal 5 ∷ [])
unfolding answers_to
strange_id = refl

-- a single frame of three bytes is cut to the extent
pub single_cut : answers_to (came 0 (7 ∷ 8 ∷ 9 ∷ 0xE0 ∷ []) ∷ []) ≡ answers (delivered (7 ∷ 8 ∷ []) ∷ [])
unfolding answers_to
single_cut = refl

-- a session does not await a frame of the other loopback flag, though it is an end with the right toggle
pub other_loopback :
    answers_to (begins ∷ record { stamp = 9; id = ends.id; loopback = true; bytes = ends.bytes } ∷ []) ≡ answers (nothing ∷ nothing ∷ [])
unfolding answers_to
other_loopback = refl

-- nor a second start, though it has the awaited toggle 0: the end is still to come
pub second_start : answers_to (begins ∷ came 1 (0xFF ∷ 0x80 ∷ []) ∷ ends ∷ []) ≡ answers (nothing ∷ nothing ∷ delivered [] ∷ [])
unfolding answers_to
second_start = refl

-- nor the toggle 1 again
pub other_toggle : answers_to (begins ∷ came 9 (0xFF ∷ 0x60 ∷ []) ∷ []) ≡ answers (nothing ∷ nothing ∷ [])
unfolding answers_to
other_toggle = refl

-- the stamp of a delivery is that of its first frame ..
pub first_stamp : stamps (begins ∷ ends ∷ []) ≡ [] ∷ (0 ∷ []) ∷ []
unfolding stamps
first_stamp = refl

-- .. and so is the last time after it
pub last_time : (get_or (run (settings 5) fresh (begins ∷ ends ∷ [])).slots 42 fresh_slot).last_time ≡ Some 0
unfolding answers_to
last_time = refl

-- case 12: a start with toggle 0 opens the session, and a proper start after it does not open another
pub one_session : stamps (came 3 (0xFF ∷ 0x80 ∷ []) ∷ came 4 (0xFF ∷ 0xA0 ∷ []) ∷ ends ∷ []) ≡ [] ∷ [] ∷ (3 ∷ []) ∷ []
unfolding stamps
one_session = refl

-- a delivery closes its session: a middle frame with the next ID finds none
pub session_closed : answers_to (begins ∷ ends ∷ middle 10 1 ∷ []) ≡ answers (nothing ∷ delivered [] ∷ refusal 5 ∷ [])
unfolding answers_to
session_closed = refl

-- refusal 6 drops it too: an end that comes again finds none
pub session_dropped :
    answers_to (begins ∷ came 9 (0x07 ∷ 0x40 ∷ []) ∷ came 10 (0x07 ∷ 0x40 ∷ []) ∷ []) ≡ answers (nothing ∷ refusal 6 ∷ refusal 5 ∷ [])
unfolding answers_to
session_dropped = refl

-- a source's bytes are laid in its own part of the store ..
pub own_part : in_part (came 0 (1 ∷ 2 ∷ 0xA0 ∷ []) ∷ []) ≡ 1 ∷ 2 ∷ []
unfolding in_part
own_part = refl

-- .. each frame's behind those of the frame before ..
pub one_behind_the_other : in_part (came 0 (1 ∷ 0xA0 ∷ []) ∷ came 1 (2 ∷ 0x00 ∷ []) ∷ []) ≡ 1 ∷ 2 ∷ []
unfolding in_part
one_behind_the_other = refl

-- .. and a delivery shows them from there: 01 02 and their CRC, 0E7C, then an end with no bytes
pub own_bytes :
    answers_to (came 0 (1 ∷ 2 ∷ 0x0E ∷ 0x7C ∷ 0xA0 ∷ []) ∷ came 1 (0x40 ∷ []) ∷ []) ≡ answers (nothing ∷ delivered (1 ∷ 2 ∷ []) ∷ [])
unfolding answers_to
own_bytes = refl

-- a frame may have 64 bytes
pub longest_frame : answers_to (came 0 (replicate 63 7 ++ (0xE0 ∷ [])) ∷ []) ≡ answers (delivered (7 ∷ 7 ∷ []) ∷ [])
unfolding answers_to
longest_frame = refl

-- ---- the wire

-- bits 7 and 23 of a message's ID are looked at
pub bit_7 : parsed_can_id 0x1061_00AA ≡ Err ReservedBit
unfolding parsed_can_id
bit_7 = refl

pub bit_23 : parsed_can_id 0x1081_002A ≡ Err ReservedBit
unfolding parsed_can_id
bit_23 = refl

-- a subject has thirteen bits: this one is 4096
pub subject_bits :
    parsed_can_id 0x1070_002A
    ≡ Ok (Message (record { priority = record { 0 = 4 }; subject = record { 0 = 4096 }; source = Some (record { 0 = 42 }) }))
unfolding parsed_can_id
subject_bits = refl

-- case 4's request, read: its service is 430
pub service_bits : parsed_can_id 0x076B_8289 ≡ Ok (Request service)
unfolding parsed_can_id
service_bits = refl

-- a transfer ID has five bits: start, end, toggle and ID 16
pub id_bits : parsed_tail 0xF0 ≡ record { start = true; end = true; toggle = true; transfer_id = record { 0 = 16 } }
id_bits = refl

-- the toggle is not the end bit
pub toggle_bit : parsed_tail 0x40 ≡ record { start = false; end = true; toggle = false; transfer_id = record { 0 = 0 } }
toggle_bit = refl

-- 9 bytes are raised to 12, and not lowered to 8
pub raised : next_length 9 ≡ 12
unfolding next_length
raised = refl

-- 33 bytes are raised to 48
pub length_48 : next_length 33 ≡ 48
unfolding next_length
length_48 = refl

-- the tail bytes of case 2's 13 zeros at MTU 8: start and toggle 1, toggle 0, end and toggle 1
pub tail_bytes : map tail_of (zeros Can8 13) ≡ 0xA0 ∷ 0x00 ∷ 0x60 ∷ []
unfolding crc_bit crc_bits crc_byte tail_byte next_length tails frames padding carried frames_of
tail_bytes = refl

-- the CRC of case 14 goes out high byte first
pub high_byte_first : crc_bytes 0x29B1 ≡ 0x29 ∷ 0xB1 ∷ []
high_byte_first = refl

-- the CRC covers the padding: 70 zeros go out with two more, and the CRC of all 72, 040E
pub padding_covered : drop 1 (zeros CanFd64 70) ≡ (replicate 9 0 ++ (0x04 ∷ 0x0E ∷ 0x40 ∷ [])) ∷ []
unfolding crc_bit crc_bits crc_byte tail_byte next_length tails frames padding carried frames_of
padding_covered = refl

-- ---- sending

-- asking for destination 5 steps its number by one, and no neighbour's
pub asked_once : take 3 (drop 4 (after_asking fresh_numbers 5)) ≡ 0 ∷ 1 ∷ 0 ∷ []
asked_once = refl

-- a frame with ID 5 that is known by its stamp
abbrev five : ℕ → Frame
five stamp = record { stamp = stamp; id = 5; loopback = false; bytes = [] }

-- case 13: 5, 5 pushed, a 5 returned: the returned one leaves first, then the two in their order
pub equals_in_order : map (λ (f : Frame). f.stamp) (returned (five 3) (pushed (five 2) (pushed (five 1) []))) ≡ 3 ∷ 1 ∷ 2 ∷ []
equals_in_order = refl

-- a refused send steps its count by one, beyond 32 bits too
pub count_goes_on : counted (Err Field) (record { done = 0; refused = 2 ^ 32 - 1 }) ≡ record { done = 0; refused = 2 ^ 32 }
count_goes_on = refl
