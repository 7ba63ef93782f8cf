-- What a judgement that lets a transfer go says: its plan is that of its payload, its CAN ID is the one that its header makes, of 29 bits, and its transfer ID is
-- one of 32.
use Rattle.std.specs.Prelude.{Err, None, Ok, Option, Result, Some}
use Rattle.rules.specs.declared.types.CanNodeId.{CanNodeId}
use Rattle.rules.specs.declared.types.CanTransferId.{CanTransferId}
use Rattle.rules.specs.declared.stats.FrameStats.{FrameStats}
use Rattle.rules.specs.declared.refusal.Refusal.{Refusal}
use Rattle.std.proofs.Common.{◌≡◌, ℕ, ◌≤◌, Bool, true, false, ◌&&◌, ltb, leb, List, length, refl, subst, arith, leb-true}
use Rattle.laws.proofs.Bits.{flag_le}
use Rattle.laws.proofs.Choose.{both_true, first_chosen, second_chosen}
use Rattle.rules.specs.declared.refusal.Refusal.TheVariants.{PayloadTooLong, AnonymousTooLong, Field}
use Rattle.rules.specs.declared.data.CanId.{CanId as Id}
use Rattle.rules.specs.declared.data.Mtu.{Mtu}
use Rattle.rules.specs.declared.header.Header.{Header}
use Rattle.rules.specs.declared.header.Header.TheVariants.{Message, Request, Response}
use Rattle.rules.specs.declared.send.Transfer.{Transfer}
use Rattle.rules.specs.declared.send.Outgoing.{Outgoing}
use Rattle.rules.specs.Limits.{greatest_priority, greatest_subject, greatest_service, greatest_node, greatest_can_id, greatest_transfer_id, greatest_payload, room_of, tried_mtu, tried_transfer_id}
use Rattle.rules.specs.CanId.{message_id, service_id, pseudo_source, message_made, service_made, message_from, service_from, can_id_of}
use Rattle.rules.specs.Plan.{stats_of, planned}
use Rattle.rules.specs.Sending.{anonymous, judged_fit, judged_plan, judged_id, judged_transfer_id, judged_mtu, judged}
use Rattle.rules.proofs.CanId.{made_where_lem}

-- ---- a CAN ID that was made has 29 bits

message_small : (id : Id) (p s n : ℕ) (a : Bool) → message_made p s n a ≡ Ok id → id.0 ≤ greatest_can_id
message_small id p s n a e =
    let m = made_where_lem id (leb p greatest_priority && leb s greatest_subject && leb n greatest_node) (message_id p s n a) e in
    let bs = both_true (leb p greatest_priority && leb s greatest_subject) (leb n greatest_node) m.0 in
    let ps = both_true (leb p greatest_priority) (leb s greatest_subject) bs.0 in
    omega (arith, leb-true p greatest_priority ps.0, leb-true s greatest_subject ps.1, leb-true n greatest_node bs.1, m.1, flag_le a)

service_small : (id : Id) (p s d n : ℕ) (r : Bool) → service_made p s d n r ≡ Ok id → id.0 ≤ greatest_can_id
service_small id p s d n r e =
    let m = made_where_lem id (leb p greatest_priority && leb s greatest_service && leb d greatest_node && leb n greatest_node) (service_id p s d n r) e in
    let bs = both_true (leb p greatest_priority && leb s greatest_service && leb d greatest_node) (leb n greatest_node) m.0 in
    let cs = both_true (leb p greatest_priority && leb s greatest_service) (leb d greatest_node) bs.0 in
    let ps = both_true (leb p greatest_priority) (leb s greatest_service) cs.0 in
    omega (arith, leb-true p greatest_priority ps.0, leb-true s greatest_service ps.1, leb-true d greatest_node cs.1, leb-true n greatest_node bs.1, m.1, flag_le r)

from_message : (id : Id) (o : Option CanNodeId) (p s : ℕ) (payload : List ℕ) → message_from o p s payload ≡ Ok id → id.0 ≤ greatest_can_id
from_message id (Some n) p s payload e = message_small id p s n.0 false e
from_message id None p s payload e = message_small id p s (pseudo_source payload) true e

from_service : (id : Id) (o : Option CanNodeId) (p s d : ℕ) (r : Bool) → service_from o p s d r ≡ Ok id → id.0 ≤ greatest_can_id
from_service id (Some n) p s d r e = service_small id p s d n.0 r e
from_service id None p s d r e = let z : ◌≡◌ {A = ℕ} 0 1 = cc in absurd (omega arith)

pub id_small : (h : Header) (payload : List ℕ) (id : Id) → can_id_of h payload ≡ Ok id → id.0 ≤ greatest_can_id
unfolding can_id_of
id_small (Message h) payload id e = from_message id h.source h.priority.0 h.subject.0 payload e
id_small (Request h) payload id e = from_service id h.source h.priority.0 h.service.0 h.destination.0 true e
id_small (Response h) payload id e = from_service id h.source h.priority.0 h.service.0 h.destination.0 false e

-- ---- what goes

pub record Sound (t : Transfer) (payload : List ℕ) (o : Outgoing) : Type 0 where
  pub plan : o.stats ≡ stats_of o.mtu (length payload)
  pub made : can_id_of t.header payload ≡ Ok o.id
  pub id : o.id.0 ≤ greatest_can_id
  pub transfer_id : t.transfer_id.0 ≤ greatest_transfer_id

module _ (t : Transfer) (payload : List ℕ) (o : Outgoing) where
  fit_goes : (x : Outgoing) → judged_fit t payload x ≡ Ok o → x ≡ o
  fit_goes x e =
      let c = second_chosen (anonymous t.header && ltb (room_of x.mtu) (length payload)) (Err AnonymousTooLong) (Ok x) (Ok o) e (λ y. let z : ◌≡◌ {A = ℕ} 0 1 = cc in omega arith) in
      cc

  plan_goes : (u : Mtu) (id : Id) (p : Result FrameStats Refusal) → t.transfer_id.0 ≤ greatest_transfer_id → can_id_of t.header payload ≡ Ok id
      → planned u (length payload) ≡ p → judged_plan t payload u id p ≡ Ok o → Sound t payload o
  plan_goes u id (Ok s) i m q e =
      let c = first_chosen (leb (length payload) greatest_payload) (Ok (stats_of u (length payload))) (Err PayloadTooLong) (Ok s) q (λ x. let z : ◌≡◌ {A = ℕ} 0 1 = cc in omega arith) in
      let f : s ≡ stats_of u (length payload) = cc in
      subst (Sound t payload) (fit_goes (record { mtu = u; id = id; stats = s }) e)
      (record { plan = f; made = m; id = id_small t.header payload id m; transfer_id = i })
  plan_goes u id (Err r) i m q e = let z : ◌≡◌ {A = ℕ} 0 1 = cc in absurd (omega arith)

  id_goes : (u : Mtu) (m : Result Id Refusal) → t.transfer_id.0 ≤ greatest_transfer_id → can_id_of t.header payload ≡ m → judged_id t payload u m ≡ Ok o
      → Sound t payload o
  id_goes u (Ok id) i q e = plan_goes u id (planned u (length payload)) i q refl e
  id_goes u (Err r) i q e = let z : ◌≡◌ {A = ℕ} 0 1 = cc in absurd (omega arith)

  transfer_id_goes : (u : Mtu) (i : Result CanTransferId Refusal) → tried_transfer_id t.transfer_id.0 ≡ i → judged_transfer_id t payload u i ≡ Ok o → Sound t payload o
  transfer_id_goes u (Ok i) q e =
      let n : ℕ = t.transfer_id.0 in
      let c = first_chosen (leb n greatest_transfer_id) (Ok (record { 0 = n })) (Err Field) (Ok i) q (λ x. let z : ◌≡◌ {A = ℕ} 0 1 = cc in omega arith) in
      id_goes u (can_id_of t.header payload) (leb-true n greatest_transfer_id c.0) refl e
  transfer_id_goes u (Err r) q e = let z : ◌≡◌ {A = ℕ} 0 1 = cc in absurd (omega arith)

  mtu_goes : (m : Result Mtu Refusal) → judged_mtu t payload m ≡ Ok o → Sound t payload o
  mtu_goes (Ok u) e = transfer_id_goes u (tried_transfer_id t.transfer_id.0) refl e
  mtu_goes (Err r) e = let z : ◌≡◌ {A = ℕ} 0 1 = cc in absurd (omega arith)

pub goes_sound : (mtu : ℕ) (t : Transfer) (payload : List ℕ) (o : Outgoing) → judged mtu t payload ≡ Ok o → Sound t payload o
unfolding judged
goes_sound mtu t payload o e = mtu_goes t payload o (tried_mtu mtu) e
