-- The whole receiver: who sent a frame that was read, which way it is judged, and that it touches its source's slot and part alone.
use Rattle.std.specs.Prelude.{Err, None, Ok, Option, Result, Some}
use Rattle.rules.specs.declared.refusal.Refusal.{Refusal}
use Rattle.std.proofs.Common.{◌≡◌, ℕ, zero, suc, ◌+◌, ◌*◌, ◌%◌, ◌<◌, ◌≤◌, Bool, true, false, cond, eqb, leb, ◌≢◌, List, [], ◌∷◌, length, get_or, drop, set, sym, refl, ap, ◌∙◌, mul-le-mul_right, arith, length-drop, length-set, length-take, get_or-set_other, get_or-set_same, le-leb, leb-true}
use borrow.Author.Tests.{eqb-false}
use Rattle.laws.proofs.Choose.{either_way, first_chosen, second_chosen}
use Rattle.rules.specs.declared.refusal.Refusal.TheVariants.{CanId as CanIdTooLarge, ReservedBit, NoBytes, FrameTooLong, StoreTooSmall}
use Rattle.rules.specs.declared.types.CanNodeId.{CanNodeId}
use Rattle.rules.specs.declared.header.Header.{Header}
use Rattle.rules.specs.declared.subscription.Port.{Port}
use Rattle.rules.specs.declared.subscription.Settings.{Settings}
use Rattle.rules.specs.declared.receive.Arrival.{Arrival}
use Rattle.rules.specs.declared.slots.Slot.{Slot}
use Rattle.rules.specs.Limits.{greatest_can_id, greatest_frame, transfer_ids, nodes}
use Rattle.rules.specs.CanId.{bits_at, is_set, reserved, header_of, said_by, parsed_can_id}
use Rattle.rules.specs.Frames.{Frame}
use Rattle.rules.specs.Slot.{fresh_slot}
use Rattle.rules.specs.Answers.{Answer, refused_by, shown, answer_from}
use Rattle.rules.specs.Source.{Turn, turn}
use Rattle.rules.specs.Receiver.{wants, before_tail, tail_of, arrival_of, addressed, reading, Receiver as TheReceiver, Outcome, cell_at, at_source, source_in, by_source, by_reading, judged, received}
use Rattle.rules.specs.Histories.{is_node, read_from, is_from}
use Rattle.rules.proofs.Store.{put_length, put_same, put_other, put_behind}
use Rattle.rules.proofs.Source.{part_length, expected_below, shown_in_part}

-- ---- who sent a frame that was read

module _ (id : ℕ) (n : CanNodeId) where
  -- a source field that is read names the low seven bits
  low_bits : Some (record { 0 = bits_at id 0 7 }) ≡ Some n → n.0 ≡ id % nodes
  low_bits e = let f : n ≡ record { 0 = bits_at id 0 7 } = cc in ap (λ (k : CanNodeId). k.0) f ∙ omega arith

  header_source : source_in (header_of id) ≡ Some n → n.0 ≡ id % nodes
  header_source =
      let From : Option CanNodeId → Type 0 = λ o. o ≡ Some n → n.0 ≡ id % nodes in
      let P : Header → Type 0 = λ h. From (source_in h) in
      either_way P (is_set id 25) (either_way P (is_set id 24) low_bits low_bits)
      (either_way From (is_set id 24) (λ e. let z : ◌≡◌ {A = ℕ} 0 1 = cc in absurd (omega arith)) low_bits)

  -- the source that a header read from an ID names is the low seven bits of the ID
  pub source_read : (h : Header) → parsed_can_id id ≡ Ok h → source_in h ≡ Some n → n.0 ≡ id % nodes
  unfolding parsed_can_id
  source_read h e q =
      let c = first_chosen (leb id greatest_can_id) (said_by id) (Err CanIdTooLarge) (Ok h) e (λ y. let z : ◌≡◌ {A = ℕ} 0 1 = cc in omega arith) in
      let d = second_chosen (reserved id) (Err ReservedBit) (Ok (header_of id)) (Ok h) c.1 (λ y. let z : ◌≡◌ {A = ℕ} 0 1 = cc in omega arith) in
      let f : header_of id ≡ h = cc in
      header_source (ap source_in f ∙ q)

  -- and thus one of the 128
  pub source_below : (h : Header) → parsed_can_id id ≡ Ok h → source_in h ≡ Some n → n.0 < nodes
  source_below h e q = omega (arith, source_read h e q)

module _ (port : Port) (f : Frame) (a : Arrival) where
  addressed_ours : (p : Result Header Refusal) → addressed port f p ≡ Ok (Some a) → (p ≡ Ok a.header) × (a ≡ arrival_of f a.header)
  addressed_ours (Err r) e = let z : ◌≡◌ {A = ℕ} 0 1 = cc in absurd (omega arith)
  addressed_ours (Ok h) e =
      let c = first_chosen (wants port h) (Ok (Some (arrival_of f h))) (Ok None) (Ok (Some a)) e (λ y. let z : ◌≡◌ {A = ℕ} 0 1 = cc in omega arith) in
      let q : arrival_of f h ≡ a = cc in
      (ap (λ (b : Arrival). Ok b.header) q, sym q ∙ ap (λ (b : Arrival). arrival_of f b.header) q)

  -- a frame that is ours has a header, which its ID says, and the fields of its last byte
  pub ours_read : reading port f ≡ Ok (Some a) → (parsed_can_id f.id ≡ Ok a.header) × (a ≡ arrival_of f a.header)
  unfolding reading
  ours_read e =
      let c = second_chosen (eqb (length f.bytes) 0) (Err NoBytes) _ (Ok (Some a)) e (λ y. let z : ◌≡◌ {A = ℕ} 0 1 = cc in omega arith) in
      let d = first_chosen (leb (length f.bytes) greatest_frame) _ (Err FrameTooLong) (Ok (Some a)) c.1 (λ y. let z : ◌≡◌ {A = ℕ} 0 1 = cc in omega arith) in
      addressed_ours (parsed_can_id f.id) d.1

  -- the source of a frame that is ours is one of the 128: the low seven bits of its ID
  pub source_known : (n : CanNodeId) → reading port f ≡ Ok (Some a) → source_in a.header ≡ Some n → (n.0 < nodes) × (n.0 ≡ f.id % nodes)
  source_known n e q =
      let r = (ours_read e).0 in
      (source_below f.id n a.header r q, source_read f.id n a.header r q)

  -- its transfer ID is one of the 32
  pub id_below : reading port f ≡ Ok (Some a) → a.tail.transfer_id.0 < transfer_ids
  id_below e =
      let q : a.tail.transfer_id.0 ≡ tail_of f.bytes % transfer_ids = ap (λ (b : Arrival). b.tail.transfer_id.0) (ours_read e).1 in
      omega arith

  -- it is a frame from that source and from no other
  pub from_source : (n : CanNodeId) → reading port f ≡ Ok (Some a) → source_in a.header ≡ Some n → (m : ℕ) → is_from port m f ≡ eqb n.0 m
  unfolding is_from
  from_source n e q m = ap (read_from m) e ∙ ap (is_node m) q

-- ---- the judgement

module _ {A : Type 0} (s : Settings) (room : ℕ) (f : Frame) (same : Answer → A) (slot : ℕ → Arrival → List ℕ → A) where
  -- what holds wherever nothing changes but the answer, and of the rules for each source where the store has its part, holds of the judgement
  pub judged_either : (P : A → Type 0) → ((answer : Answer) → P (same answer))
      → ((n : ℕ) (a : Arrival) → n < nodes → nodes * s.extent ≤ room → reading s.port f ≡ Ok (Some a) → source_in a.header ≡ Some (record { 0 = n })
      → P (slot n a (before_tail f.bytes)))
      → P (judged s room f same slot)
  unfolding judged
  judged_either P kept turns = go (leb (nodes * s.extent) room) refl
    where
      from : (o : Option CanNodeId) (a : Arrival) → nodes * s.extent ≤ room → reading s.port f ≡ Ok (Some a) → source_in a.header ≡ o
          → P (by_source o a (before_tail f.bytes) same slot)
      from None a h e q = kept _
      from (Some n) a h e q = turns n.0 a (source_known s.port f a n e q).0 h e q

      read : (r : Result (Option Arrival) Refusal) → nodes * s.extent ≤ room → reading s.port f ≡ r → P (by_reading r (before_tail f.bytes) same slot)
      read (Err r) h e = kept _
      read (Ok None) h e = kept _
      read (Ok (Some a)) h e = from (source_in a.header) a h e refl

      go : (t : Bool) → leb (nodes * s.extent) room ≡ t
          → P (cond t (by_reading (reading s.port f) (before_tail f.bytes) same slot) (same (refused_by StoreTooSmall)))
      go true e = read (reading s.port f) (leb-true (nodes * s.extent) room e) refl
      go false e = kept _

  -- a function of the judgement is the judgement of that function
  pub judged_map : {B : Type 0} (g : A → B) → g (judged s room f same slot) ≡ judged s room f (λ x. g (same x)) (λ n a bytes. g (slot n a bytes))
  unfolding judged
  judged_map g = go (leb (nodes * s.extent) room)
    where
      bytes : List ℕ
      bytes = before_tail f.bytes

      from : (o : Option CanNodeId) (a : Arrival) → g (by_source o a bytes same slot) ≡ by_source o a bytes (λ x. g (same x)) (λ n b bs. g (slot n b bs))
      from None a = refl
      from (Some n) a = refl

      read : (r : Result (Option Arrival) Refusal) → g (by_reading r bytes same slot) ≡ by_reading r bytes (λ x. g (same x)) (λ n b bs. g (slot n b bs))
      read (Err r) = refl
      read (Ok None) = refl
      read (Ok (Some a)) = from (source_in a.header) a

      go : (t : Bool) → g (cond t (by_reading (reading s.port f) bytes same slot) (same (refused_by StoreTooSmall)))
          ≡ cond t (by_reading (reading s.port f) bytes (λ x. g (same x)) (λ n b bs. g (slot n b bs))) (g (same (refused_by StoreTooSmall)))
      go true = read (reading s.port f)
      go false = refl

-- ---- a turn put in its place

-- a source's part lies within a store that has room for all
pub part_within : (e room n : ℕ) → n < nodes → nodes * e ≤ room → n * e + e ≤ room
part_within e room n h k = omega (arith, mul-le-mul_right e h)

-- and is as long as the extent
pub cell_size : (e : ℕ) (w : TheReceiver) (n : ℕ) → n * e + e ≤ length w.store → length (cell_at e w n).part ≡ e
unfolding cell_at
cell_size e w n room = simp (length-take, length-drop) (omega arith)

module _ (e : ℕ) (w : TheReceiver) (n : ℕ) (t : Turn) where
  at_slots : length (at_source e w n t).receiver.slots ≡ length w.slots
  unfolding at_source
  at_slots = length-set w.slots n t.cell.slot

  module _ (room : n * e + e ≤ length w.store) (size : length t.cell.part ≡ e) where
    at_store : length (at_source e w n t).receiver.store ≡ length w.store
    unfolding at_source
    at_store = put_length e n w.store t.cell.part room size

    at_behind : (k : ℕ) → n * e + e ≤ k → drop k (at_source e w n t).receiver.store ≡ drop k w.store
    unfolding at_source
    at_behind = put_behind e n w.store t.cell.part room size

    at_other : (m : ℕ) → m ≢ n → cell_at e (at_source e w n t).receiver m ≡ cell_at e w m
    unfolding at_source cell_at
    at_other m ne = rw (get_or-set_other w.slots n m t.cell.slot fresh_slot ne, put_other e n w.store t.cell.part room size m ne)

    at_own : n < length w.slots → cell_at e (at_source e w n t).receiver n ≡ t.cell
    unfolding at_source cell_at
    at_own h = rw (get_or-set_same w.slots n t.cell.slot fresh_slot h, put_same e n w.store t.cell.part room size)

-- what holds of the new element and of the one that is read holds of the one that is read afterwards
set_either : {A : Type 0} (P : A → Type 0) (l : List A) (n m : ℕ) (x d : A) → P x → P (get_or l m d) → P (get_or (set l n x) m d)
set_either P [] n m x d p q = q
set_either P (y ∷ l) zero zero x d p q = p
set_either P (y ∷ l) zero (suc m) x d p q = q
set_either P (y ∷ l) (suc n) zero x d p q = q
set_either P (y ∷ l) (suc n) (suc m) x d p q = set_either P l n m x d p q

-- ---- a received frame

module _ (s : Settings) (w : TheReceiver) (f : Frame) where
  -- the turn of source n at this frame
  abbrev pub turn_of : ℕ → Arrival → Turn
  turn_of n a = turn s.timeout (cell_at s.extent w n) a (before_tail f.bytes)

  turn_size : (n : ℕ) (a : Arrival) → n * s.extent + s.extent ≤ length w.store → length (turn_of n a).cell.part ≡ s.extent
  turn_size n a room = part_length s.timeout (cell_at s.extent w n) a (before_tail f.bytes) ∙ cell_size s.extent w n room

  -- what holds of an unchanged receiver and of each source's turn in its place holds of what a frame leaves
  received_either : (P : TheReceiver → Type 0) → P w
      → ((n : ℕ) (a : Arrival) → n < nodes → n * s.extent + s.extent ≤ length w.store → length (turn_of n a).cell.part ≡ s.extent
      → reading s.port f ≡ Ok (Some a) → source_in a.header ≡ Some (record { 0 = n })
      → P (at_source s.extent w n (turn_of n a)).receiver)
      → P (received s w f).receiver
  unfolding received
  received_either P kept turns =
      judged_either s (length w.store) f _ _ (λ (o : Outcome). P o.receiver) (λ answer. kept)
      (λ n a h k.
      let room : n * s.extent + s.extent ≤ length w.store = part_within s.extent (length w.store) n h k in
      turns n a h room (turn_size n a room))

  -- the slots are as many as before, and the store is as long
  pub lengths_kept : (length (received s w f).receiver.slots ≡ length w.slots) × (length (received s w f).receiver.store ≡ length w.store)
  lengths_kept =
      received_either (λ v. (length v.slots ≡ length w.slots) × (length v.store ≡ length w.store)) (refl, refl)
      (λ n a h room size e q. (at_slots s.extent w n (turn_of n a), at_store s.extent w n (turn_of n a) room size))

  -- what lies behind the last part is as it was
  pub beyond_kept : drop (nodes * s.extent) (received s w f).receiver.store ≡ drop (nodes * s.extent) w.store
  beyond_kept =
      received_either (λ v. drop (nodes * s.extent) v.store ≡ drop (nodes * s.extent) w.store) refl
      (λ n a h room size e q.
      at_behind s.extent w n (turn_of n a) room size (nodes * s.extent) (part_within s.extent (nodes * s.extent) n h (omega arith)))

  -- every cell but that of the frame's source is as it was
  pub others_kept : (m : ℕ) → is_from s.port m f ≡ false → cell_at s.extent (received s w f).receiver m ≡ cell_at s.extent w m
  others_kept m other =
      received_either (λ v. cell_at s.extent v m ≡ cell_at s.extent w m) refl
      (λ n a h room size e q.
      at_other s.extent w n (turn_of n a) room size m (λ (k : m ≡ n). eqb-false n m (sym (from_source s.port f a (record { 0 = n }) e q m) ∙ other) (sym k)))

  -- the expected IDs stay among the 32
  pub expected_kept : ((m : ℕ) → m < nodes → (cell_at s.extent w m).slot.expected.0 < transfer_ids)
      → (m : ℕ) → m < nodes → (cell_at s.extent (received s w f).receiver m).slot.expected.0 < transfer_ids
  unfolding cell_at at_source
  expected_kept all m i =
      received_either (λ v. (cell_at s.extent v m).slot.expected.0 < transfer_ids) (all m i)
      (λ n a h room size e q.
      set_either (λ (x : Slot). x.expected.0 < transfer_ids) w.slots n m (turn_of n a).cell.slot fresh_slot
      (expected_below s.timeout (cell_at s.extent w n) a (before_tail f.bytes) (id_below s.port f a e) (all n h)) (all m i))

  module _ (a : Arrival) (n : CanNodeId) (fits : nodes * s.extent ≤ length w.store) (ours : reading s.port f ≡ Ok (Some a))
      (known : source_in a.header ≡ Some n) where
    -- a frame that is ours and has a source is that source's turn
    pub received_own : received s w f ≡ at_source s.extent w n.0 (turn_of n.0 a)
    unfolding received judged
    received_own = rw (le-leb (nodes * s.extent) (length w.store) fits, ours, known) refl

    own_room : n.0 * s.extent + s.extent ≤ length w.store
    own_room = part_within s.extent (length w.store) n.0 (source_known s.port f a n ours known).0 fits

    -- the source's cell has its turn, and the answer is that of the turn, moved to the source's part
    pub own_turn : length w.slots ≡ nodes
        → (cell_at s.extent (received s w f).receiver n.0 ≡ (turn_of n.0 a).cell)
        × ((received s w f).answer ≡ answer_from (n.0 * s.extent) (turn_of n.0 a).answer)
    unfolding at_source
    own_turn many =
        let h : n.0 < length w.slots = omega (arith, (source_known s.port f a n ours known).0) in
        rw received_own (at_own s.extent w n.0 (turn_of n.0 a) own_room (turn_size n.0 a own_room) h, refl)

    -- and it shows the bytes that the turn shows
    pub own_shown : shown (received s w f).answer f.bytes (received s w f).receiver.store
        ≡ shown (turn_of n.0 a).answer f.bytes (turn_of n.0 a).cell.part
    unfolding at_source
    own_shown =
        rw received_own
        (shown_in_part s.extent n.0 f.bytes w.store own_room s.timeout (cell_at s.extent w n.0) a (before_tail f.bytes)
        (cell_size s.extent w n.0 own_room))
