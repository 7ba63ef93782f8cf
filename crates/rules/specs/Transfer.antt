-- THE PUBLISHED RULE: the frames of a whole transfer. A payload that fits one frame goes as one, with its padding. Otherwise, in document 01's words, "CRC-16/
-- CCITT-FALSE over payload and padding follows, high byte first, and may be split by a frame boundary. Every frame but the last carries exactly m bytes before
-- its tail: a part of the payload that starts where the last frame stopped, then padding, then CRC."
use Rattle.std.specs.Prelude.{ℕ, zero, suc, ◌-◌, Bool, true, false, cond, not, List, [], ◌∷◌, ◌++◌, length, take, drop, replicate, nat_le}
use Rattle.rules.specs.declared.data.Mtu.{Mtu}
use Rattle.rules.specs.Limits.{room_of}
use Rattle.rules.specs.Crc.{crc_start, crc_from, crc_bytes}
use Rattle.rules.specs.TailByte.{tail_byte}
use Rattle.rules.specs.Plan.{frames, padding}

-- n zeros behind a list
abbrev pub padded : ℕ → List ℕ → List ℕ
padded n xs = xs ++ replicate n 0

-- a list with its CRC behind it, counted from the register c
abbrev pub with_crc : ℕ → List ℕ → List ℕ
with_crc c xs = xs ++ crc_bytes (crc_from c xs)

-- payload and padding
abbrev pub content : Mtu → List ℕ → List ℕ
content u payload = padded (padding u (length payload)) payload

-- all bytes that the frames carry before their tails: payload and padding, and where one frame is not enough, the CRC of both
unfoldable pub carried : Mtu → List ℕ → List ℕ
carried u payload = cond (nat_le (length payload) (room_of u)) (content u payload) (with_crc crc_start (content u payload))

-- a frame: bytes, and the tail byte behind them
abbrev pub tailed : List ℕ → ℕ → List ℕ
tailed bytes tail = bytes ++ (tail ∷ [])

-- n frames of m bytes each and one with the rest; only the first may have the start bit, only the last has the end bit, and toggles alternate
abbrev pub cut : ℕ → ℕ → Bool → Bool → ℕ → List ℕ → List (List ℕ)
cut m id start toggle zero bytes = tailed bytes (tail_byte start true toggle id) ∷ []
cut m id start toggle (suc n) bytes = tailed (take m bytes) (tail_byte start false toggle id) ∷ cut m id false (not toggle) n (drop m bytes)

-- the frames of a transfer, from MTU, transfer ID and payload
unfoldable pub frames_of : Mtu → ℕ → List ℕ → List (List ℕ)
frames_of u id payload = cut (room_of u) id true true (frames u (length payload) - 1) (carried u payload)
