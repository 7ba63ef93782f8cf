-- The bench sheet of document 01: ONE table, with a row for each thing that a case marked P says, and three rows for what the document says elsewhere of such
-- frames. `book` is what the definitions of this book answer, `sheet` what the sheet says. The one claim about the table, that the two columns are equal, is proved
-- by computation in proofs/Bench.antt.
use Rattle.std.specs.Prelude.{ℕ, ◌-◌, ◌*◌, true, false, List, [], ◌∷◌, map, length, get_or, drop, replicate, slice_index_or, Ok, Result, Some}
use Rattle.rules.specs.declared.data.CanId.{CanId}
use Rattle.rules.specs.declared.refusal.Refusal.{Refusal}
use Rattle.rules.specs.declared.data.Mtu.{Mtu}
use Rattle.rules.specs.declared.data.Mtu.TheVariants.{Can8, CanFd64}
use Rattle.rules.specs.declared.header.ServiceHeader.{ServiceHeader}
use Rattle.rules.specs.declared.header.Header.{Header}
use Rattle.rules.specs.declared.header.Header.TheVariants.{Message, Request, Response}
use Rattle.rules.specs.declared.subscription.Port.TheVariants.{Message as Messages}
use Rattle.rules.specs.declared.subscription.Settings.{Settings}
use Rattle.rules.specs.Limits.{nodes}
use Rattle.rules.specs.CanId.{can_id_of, pseudo_source}
use Rattle.rules.specs.TailByte.{tail_byte}
use Rattle.rules.specs.Plan.{frames, padding, crc_length}
use Rattle.rules.specs.Transfer.{frames_of}
use Rattle.rules.specs.Frames.{Frame}
use Rattle.rules.specs.Slot.{fresh_slot, age}
use Rattle.rules.specs.Answers.{Answer, delivers, refuses, nothing as tellsNothing, not_ours as tellsNotOurs}
use Rattle.rules.specs.Receiver.{Receiver, fresh_slots}
use Rattle.rules.specs.Histories.{Told, told, run}

-- what the sheet says of the answer to a frame
pub data Said : Type 0 where
  delivered : List ℕ → Said
  nothing : Said
  not_ours : Said
  refusal : ℕ → Said

-- what a row shows: a number, the bytes of frames, a CAN ID or its refusal, or the answers to frames that came one after the other
pub data Shown : Type 0 where
  number : ℕ → Shown
  bytes : List (List ℕ) → Shown
  can_id : Result CanId Refusal → Shown
  answers : List Said → Shown

pub record Row : Type 0 where
  pub case : ℕ
  pub book : Shown
  pub sheet : Shown

abbrev row : ℕ → Shown → Shown → Row
row n b s = record { case = n; book = b; sheet = s }

-- the frames of a payload of p zeros with transfer ID 0, and the length of the last
abbrev pub zeros : Mtu → ℕ → List (List ℕ)
zeros u p = frames_of u 0 (replicate p 0)

abbrev last_length : Mtu → ℕ → ℕ
last_length u p = length (slice_index_or (zeros u p) (frames u p - 1) [])

-- case 4's headers
abbrev message : Header
message = Message (record { priority = record { 0 = 4 }; subject = record { 0 = 256 }; source = Some (record { 0 = 42 }) })

abbrev pub service : ServiceHeader
service = record { priority = record { 0 = 1 }; service = record { 0 = 430 }; destination = record { 0 = 5 }; source = Some (record { 0 = 9 }) }

abbrev id : ℕ → Shown
id n = can_id (Ok (record { 0 = n }))

-- ---- what comes to fresh slots: a subscription to case 4's messages, with an extent of two bytes

abbrev pub settings : ℕ → Settings
settings timeout = record { port = Messages (record { 0 = 256 }); timeout = timeout; extent = 2 }

abbrev pub fresh : Receiver
fresh = record { slots = fresh_slots; store = replicate (nodes * 2) 0 }

-- a frame from case 4's source, with this stamp and these bytes
abbrev pub came : ℕ → List ℕ → Frame
came stamp xs = record { stamp = stamp; id = 0x1061_002A; loopback = false; bytes = xs }

-- a single frame and a middle frame, with this stamp and this transfer ID, that carry the byte 7
abbrev single : ℕ → ℕ → Frame
single stamp transfer = came stamp (7 ∷ tail_byte true true true transfer ∷ [])

abbrev pub middle : ℕ → ℕ → Frame
middle stamp transfer = came stamp (7 ∷ tail_byte false false true transfer ∷ [])

abbrev seven : List ℕ
seven = 7 ∷ []

abbrev said : Answer → List ℕ → Said
said (delivers d) xs = delivered xs
said tellsNothing xs = nothing
said tellsNotOurs xs = not_ours
said (refuses n) xs = refusal n

-- the answers to these frames, with this timeout
abbrev pub answered : ℕ → List Frame → Shown
answered timeout fs = answers (map (λ (t : Told). said t.answer t.bytes) (told (settings timeout) fresh fs))

-- the transfer ID that the source's slot expects after them
abbrev expecting : ℕ → List Frame → Shown
expecting timeout fs = number (get_or (run (settings timeout) fresh fs).slots 42 fresh_slot).expected.0

abbrev pub bench : List Row
bench =
    row 1 (number (padding CanFd64 9)) (number 2)
    ∷ row 1 (number (padding CanFd64 62)) (number 1)
    ∷ row 1 (number (frames CanFd64 63)) (number 1)
    ∷ row 1 (number (padding CanFd64 63)) (number 0)
    ∷ row 1 (number (crc_length CanFd64 63)) (number 0)
    ∷ row 1 (number (frames CanFd64 64)) (number 2)
    ∷ row 1 (number (last_length CanFd64 64)) (number 4)
    ∷ row 2 (number (frames Can8 7)) (number 1)
    ∷ row 2 (number (frames Can8 8)) (number 2)
    ∷ row 2 (number (frames Can8 13)) (number 3)
    ∷ row 2 (number (last_length Can8 13)) (number 2)
    -- the CRC of 13 zeros, 0x280C, split: its high byte ends the second frame, its low byte is the third
    ∷ row 2 (bytes (drop 1 (zeros Can8 13))) (bytes ((0 ∷ 0 ∷ 0 ∷ 0 ∷ 0 ∷ 0 ∷ 0x28 ∷ 0x00 ∷ []) ∷ (0x0C ∷ 0x60 ∷ []) ∷ []))
    ∷ row 2 (number (frames Can8 1024)) (number 147)
    ∷ row 3 (bytes (frames_of CanFd64 3 (1 ∷ 2 ∷ 3 ∷ 4 ∷ 5 ∷ 6 ∷ 7 ∷ 8 ∷ 9 ∷ []))) (bytes ((1 ∷ 2 ∷ 3 ∷ 4 ∷ 5 ∷ 6 ∷ 7 ∷ 8 ∷ 9 ∷ 0 ∷ 0 ∷ 0xE3 ∷ []) ∷ []))
    ∷ row 4 (can_id (can_id_of message [])) (id 0x1061_002A)
    ∷ row 4 (can_id (can_id_of (Request service) [])) (id 0x076B_8289)
    ∷ row 4 (can_id (can_id_of (Response service) [])) (id 0x066B_8289)
    ∷ row 5 (number (pseudo_source [])) (number 85)
    ∷ row 5 (number (pseudo_source (0x2A ∷ []))) (number 125)
    ∷ row 5 (number (pseudo_source (0x2B ∷ []))) (number 125)
    ∷ row 5 (number (pseudo_source (0xAB ∷ []))) (number 125)
    ∷ row 6 (answered 5 (came 0 (0xFF ∷ 0xA0 ∷ []) ∷ came 9 (0xFF ∷ 0x40 ∷ []) ∷ [])) (answers (nothing ∷ delivered [] ∷ []))
    ∷ row 7 (answered 5 (came 0 (0xA0 ∷ []) ∷ came 9 (0x07 ∷ 0x40 ∷ []) ∷ [])) (answers (nothing ∷ refusal 6 ∷ []))
    ∷ row 8 (answered 5 (single 0 31 ∷ [])) (answers (delivered seven ∷ []))
    ∷ row 9 (number (age 0x10 0xFFFF_FFF0)) (number 32)
    ∷ row 9 (answered 32 (single 0xFFFF_FFF0 0 ∷ single 0x10 0 ∷ [])) (answers (delivered seven ∷ nothing ∷ []))
    ∷ row 9 (answered 31 (single 0xFFFF_FFF0 0 ∷ single 0x10 0 ∷ [])) (answers (delivered seven ∷ delivered seven ∷ []))
    ∷ row 10 (answered 5 (single 0 3 ∷ middle 1 9 ∷ single 2 8 ∷ [])) (answers (delivered seven ∷ refusal 5 ∷ nothing ∷ []))
    ∷ row 10 (expecting 5 (single 0 3 ∷ middle 1 9 ∷ [])) (number 9)
    ∷ row 11 (answered 5 (single 0 3 ∷ middle 1 9 ∷ single 2 3 ∷ [])) (answers (delivered seven ∷ refusal 5 ∷ delivered seven ∷ []))
    -- after case 6: the last time of a long transfer is its first frame's stamp, so that at stamp 10 its ID is new
    ∷ row 6 (answered 5 (came 0 (0xFF ∷ 0xA0 ∷ []) ∷ came 9 (0xFF ∷ 0x40 ∷ []) ∷ single 10 0 ∷ [])) (answers (nothing ∷ delivered [] ∷ delivered seven ∷ []))
    -- case 7 after ID 31: refusal 6 drops the session, and keeps the expected ID and the last time, so that 31 is a repeat
    ∷ row 7 (answered 5 (single 0 31 ∷ came 1 (0xA0 ∷ []) ∷ came 2 (0x07 ∷ 0x40 ∷ []) ∷ came 3 (0x07 ∷ 0x40 ∷ []) ∷ single 4 31 ∷ []))
    (answers (delivered seven ∷ nothing ∷ refusal 6 ∷ refusal 5 ∷ nothing ∷ []))
    -- as case 9, at the longest timeout: an age below 2^31 counts, and at 2^31 the stamp went back and is timed out
    ∷ row 9 (answered 0xFFFF_FFFF (single 0 0 ∷ single 0x7FFF_FFFF 0 ∷ single 0x8000_0000 0 ∷ [])) (answers (delivered seven ∷ nothing ∷ delivered seven ∷ []))
    ∷ []
