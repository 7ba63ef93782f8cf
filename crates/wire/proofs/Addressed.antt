-- To whom an ID speaks, told off its bits in the order in which they are looked at.
use Rattle.std.specs.Prelude.{Err, None, Ok, Result, Some}
use Rattle.rules.specs.declared.header.Header.{Header}
use Rattle.rules.specs.declared.refusal.Refusal.{Refusal}
use mathlib.Core.Path.{◌≡◌, refl}
use mathlib.Core.Bool.{Bool, true, false, not, cond, ◌&&◌, ◌||◌, beq}
use Prim.Native.Nat.{ℕ}
use lib.Dec.{leb, eqb}
use Rattle.rules.specs.declared.refusal.Refusal.TheVariants.{CanId as CanIdTooLarge, ReservedBit}
use Rattle.rules.specs.declared.types.CanNodeId.{CanNodeId}
use Rattle.rules.specs.declared.types.ServiceId.{ServiceId}
use Rattle.rules.specs.declared.types.SubjectId.{SubjectId}
use Rattle.rules.specs.declared.header.Header.TheVariants.{Message, Request, Response}
use Rattle.rules.specs.Limits.{greatest_can_id}
use Rattle.rules.specs.CanId.{bits_at, is_set, service_header_of, parsed_can_id}
use Rattle.wire.specs.Addressed.{message_to, service_to}

-- what an ID says, where these are its tests: 29 bits, bits 23, 25, 7 and 24
abbrev said : ℕ → Bool → Bool → Bool → Bool → Bool → Result Header Refusal
said id v r s q a =
    cond v
    (cond (r || (not s && q)) (Err ReservedBit)
    (Ok
    (cond s (cond a (Request (service_header_of id)) (Response (service_header_of id)))
    (Message
    record {
      priority = record { 0 = bits_at id 26 3 };
      subject = record { 0 = bits_at id 8 13 };
      source = cond a None (Some (record { 0 = bits_at id 0 7 }));
    }))))
    (Err CanIdTooLarge)

pub message_said : (id : ℕ) (subject : SubjectId) → message_to subject (parsed_can_id id)
    ≡ (leb id greatest_can_id && not (is_set id 23) && not (is_set id 25) && not (is_set id 7) && not (is_set id 24) && eqb subject.0 (bits_at id 8 13))
unfolding parsed_can_id
message_said id subject = go (leb id greatest_can_id) (is_set id 23) (is_set id 25) (is_set id 7) (is_set id 24)
  where
    go : (v r s q a : Bool) → message_to subject (said id v r s q a) ≡ (v && not r && not s && not q && not a && eqb subject.0 (bits_at id 8 13))
    go false r s q a = refl
    go true true s q a = refl
    go true false true q true = refl
    go true false true q false = refl
    go true false false true a = refl
    go true false false false true = refl
    go true false false false false = refl

pub service_said : (id : ℕ) (request : Bool) (service : ServiceId) (node : CanNodeId) → service_to request service node (parsed_can_id id)
    ≡ (leb id greatest_can_id && not (is_set id 23) && is_set id 25 && beq request (is_set id 24) && eqb service.0 (bits_at id 14 9)
    && eqb node.0 (bits_at id 7 7))
unfolding parsed_can_id
service_said id request service node = go request (leb id greatest_can_id) (is_set id 23) (is_set id 25) (is_set id 7) (is_set id 24)
  where
    go : (t v r s q a : Bool) → service_to t service node (said id v r s q a)
        ≡ (v && not r && s && beq t a && eqb service.0 (bits_at id 14 9) && eqb node.0 (bits_at id 7 7))
    go t false r s q a = refl
    go t true true s q a = refl
    go t true false false true a = refl
    go true true false false false true = refl
    go true true false false false false = refl
    go false true false false false true = refl
    go false true false false false false = refl
    go true true false true q true = refl
    go true true false true q false = refl
    go false true false true q true = refl
    go false true false true q false = refl
