-- Reading a CAN ID that was made gives the header back, for each kind.
use Rattle.std.specs.Prelude.{None, Ok, Option, Some}
use Rattle.std.proofs.Common.{◌≡◌, ℕ, ◌+◌, ◌*◌, ◌^◌, ◌≤◌, Bool, true, false, cond, ◌&&◌, leb, List, refl, ap, ◌∙◌, arith, le-leb, leb-true}
use Rattle.laws.proofs.Choose.{both_true}
use Rattle.laws.proofs.Bits.{field_of, flag_le, flag_read}
use Rattle.rules.specs.declared.types.Priority.{Priority}
use Rattle.rules.specs.declared.types.SubjectId.{SubjectId}
use Rattle.rules.specs.declared.types.ServiceId.{ServiceId}
use Rattle.rules.specs.declared.types.CanNodeId.{CanNodeId}
use Rattle.rules.specs.declared.data.CanId.{CanId as Id}
use Rattle.rules.specs.declared.header.ServiceHeader.{ServiceHeader}
use Rattle.rules.specs.declared.header.Header.{Header}
use Rattle.rules.specs.declared.header.Header.TheVariants.{Message, Request, Response}
use Rattle.rules.specs.Limits.{greatest_priority, greatest_subject, greatest_service, greatest_node, greatest_can_id}
use Rattle.rules.specs.CanId.{bit, message_id, service_id, pseudo_source, made_where, message_made, service_made, message_from, service_from, can_id_of, bits_at, parsed_can_id}

-- the kind of a service transfer
abbrev kind : Bool → ServiceHeader → Header
kind request h = cond request (Request h) (Response h)

-- ---- fields within their limits

message_read : (p s n : ℕ) (a : Bool) → p ≤ greatest_priority → s ≤ greatest_subject → n ≤ greatest_node
    → parsed_can_id (message_id p s n a)
    ≡ Ok (Message (record { priority = record { 0 = p }; subject = record { 0 = s }; source = cond a None (Some (record { 0 = n })) }))
unfolding parsed_can_id
message_read p s n a hp hs hn =
    let o = flag_le a in
    let b : ℕ = bit a in
    let id : ℕ = message_id p s n a in
    let small : id ≤ greatest_can_id = omega arith in
    let priority = field_of id 0 p (b * 2 ^ 24 + 2 ^ 22 + 2 ^ 21 + s * 2 ^ 8 + n) 26 3 (omega arith) (omega arith) (omega arith) in
    let bit25 = flag_read false (bits_at id 25 1) (field_of id p 0 (b * 2 ^ 24 + 2 ^ 22 + 2 ^ 21 + s * 2 ^ 8 + n) 25 1 (omega arith) (omega arith) (omega arith)) in
    let bit24 = flag_read a (bits_at id 24 1) (field_of id (p * 2) b (2 ^ 22 + 2 ^ 21 + s * 2 ^ 8 + n) 24 1 (omega arith) (omega arith) (omega arith)) in
    let bit23 = flag_read false (bits_at id 23 1) (field_of id (p * 4 + b) 0 (2 ^ 22 + 2 ^ 21 + s * 2 ^ 8 + n) 23 1 (omega arith) (omega arith) (omega arith)) in
    let subject = field_of id (p * 2 ^ 5 + b * 8 + 3) s n 8 13 (omega arith) (omega arith) (omega arith) in
    let bit7 = flag_read false (bits_at id 7 1) (field_of id (p * 2 ^ 18 + b * 2 ^ 16 + 2 ^ 14 + 2 ^ 13 + s) 0 n 7 1 (omega arith) (omega arith) (omega arith)) in
    let source = field_of id (p * 2 ^ 19 + b * 2 ^ 17 + 2 ^ 15 + 2 ^ 14 + s * 2) n 0 0 7 (omega arith) (omega arith) (omega arith) in
    simp (le-leb _ _ small, bit23, bit25, bit7, bit24, priority, subject, source)

service_read : (p s d n : ℕ) (r : Bool) → p ≤ greatest_priority → s ≤ greatest_service → d ≤ greatest_node → n ≤ greatest_node
    → parsed_can_id (service_id p s d n r)
    ≡ Ok (kind r (record { priority = record { 0 = p }; service = record { 0 = s }; destination = record { 0 = d }; source = Some (record { 0 = n }) }))
unfolding parsed_can_id
service_read p s d n r hp hs hd hn =
    let o = flag_le r in
    let b : ℕ = bit r in
    let id : ℕ = service_id p s d n r in
    let small : id ≤ greatest_can_id = omega arith in
    let priority = field_of id 0 p (2 ^ 25 + b * 2 ^ 24 + s * 2 ^ 14 + d * 2 ^ 7 + n) 26 3 (omega arith) (omega arith) (omega arith) in
    let bit25 = flag_read true (bits_at id 25 1) (field_of id p 1 (b * 2 ^ 24 + s * 2 ^ 14 + d * 2 ^ 7 + n) 25 1 (omega arith) (omega arith) (omega arith)) in
    let bit24 = flag_read r (bits_at id 24 1) (field_of id (p * 2 + 1) b (s * 2 ^ 14 + d * 2 ^ 7 + n) 24 1 (omega arith) (omega arith) (omega arith)) in
    let bit23 = flag_read false (bits_at id 23 1) (field_of id (p * 4 + 2 + b) 0 (s * 2 ^ 14 + d * 2 ^ 7 + n) 23 1 (omega arith) (omega arith) (omega arith)) in
    let service = field_of id (p * 8 + 4 + b * 2) s (d * 2 ^ 7 + n) 14 9 (omega arith) (omega arith) (omega arith) in
    let destination = field_of id (p * 2 ^ 12 + 2 ^ 11 + b * 2 ^ 10 + s) d n 7 7 (omega arith) (omega arith) (omega arith) in
    let source = field_of id (p * 2 ^ 19 + 2 ^ 18 + b * 2 ^ 17 + s * 2 ^ 7 + d) n 0 0 7 (omega arith) (omega arith) (omega arith) in
    simp (le-leb _ _ small, bit23, bit25, bit24, priority, service, destination, source)

-- ---- any header of which a CAN ID was made

-- the ID that was made, and that every field was within its limit
pub made_where_lem : (id : Id) (valid : Bool) (n : ℕ) → made_where valid n ≡ Ok id → (valid ≡ true) × (id.0 ≡ n)
made_where_lem id true n e = let f : id ≡ record { 0 = n } = cc in (refl, ap (λ (i : Id). i.0) f)
made_where_lem id false n e = let z : ◌≡◌ {A = ℕ} 0 1 = cc in absurd (omega arith)

message_back : (id : Id) (p s n : ℕ) (a : Bool) → message_made p s n a ≡ Ok id
    → parsed_can_id id.0
    ≡ Ok (Message (record { priority = record { 0 = p }; subject = record { 0 = s }; source = cond a None (Some (record { 0 = n })) }))
message_back id p s n a e =
    let m = made_where_lem id (leb p greatest_priority && leb s greatest_subject && leb n greatest_node) (message_id p s n a) e in
    let bs = both_true (leb p greatest_priority && leb s greatest_subject) (leb n greatest_node) m.0 in
    let ps = both_true (leb p greatest_priority) (leb s greatest_subject) bs.0 in
    ap parsed_can_id m.1 ∙ message_read p s n a (leb-true _ _ ps.0) (leb-true _ _ ps.1) (leb-true _ _ bs.1)

service_back : (id : Id) (p s d n : ℕ) (r : Bool) → service_made p s d n r ≡ Ok id
    → parsed_can_id id.0
    ≡ Ok (kind r (record { priority = record { 0 = p }; service = record { 0 = s }; destination = record { 0 = d }; source = Some (record { 0 = n }) }))
service_back id p s d n r e =
    let m = made_where_lem id (leb p greatest_priority && leb s greatest_service && leb d greatest_node && leb n greatest_node) (service_id p s d n r) e in
    let bs = both_true (leb p greatest_priority && leb s greatest_service && leb d greatest_node) (leb n greatest_node) m.0 in
    let cs = both_true (leb p greatest_priority && leb s greatest_service) (leb d greatest_node) bs.0 in
    let ps = both_true (leb p greatest_priority) (leb s greatest_service) cs.0 in
    ap parsed_can_id m.1 ∙ service_read p s d n r (leb-true _ _ ps.0) (leb-true _ _ ps.1) (leb-true _ _ cs.1) (leb-true _ _ bs.1)

-- by the source, since a header's fields are what they are
message_from_lem : (id : Id) (p : Priority) (s : SubjectId) (o : Option CanNodeId) (payload : List ℕ) → message_from o p.0 s.0 payload ≡ Ok id
    → parsed_can_id id.0 ≡ Ok (Message (record { priority = p; subject = s; source = o }))
message_from_lem id p s (Some n) payload e = message_back id p.0 s.0 n.0 false e
message_from_lem id p s None payload e = message_back id p.0 s.0 (pseudo_source payload) true e

service_from_lem : (id : Id) (p : Priority) (s : ServiceId) (d : CanNodeId) (o : Option CanNodeId) (r : Bool) → service_from o p.0 s.0 d.0 r ≡ Ok id
    → parsed_can_id id.0 ≡ Ok (kind r (record { priority = p; service = s; destination = d; source = o }))
service_from_lem id p s d (Some n) r e = service_back id p.0 s.0 d.0 n.0 r e
service_from_lem id p s d None r e = let z : ◌≡◌ {A = ℕ} 0 1 = cc in absurd (omega arith)

-- READING AN ID THAT WAS MADE gives the header back
pub read_back : (h : Header) (payload : List ℕ) (id : Id) → can_id_of h payload ≡ Ok id → parsed_can_id id.0 ≡ Ok h
unfolding can_id_of
read_back (Message h) payload id e = message_from_lem id h.priority h.subject h.source payload e
read_back (Request h) payload id e = service_from_lem id h.priority h.service h.destination h.source true e
read_back (Response h) payload id e = service_from_lem id h.priority h.service h.destination h.source false e
