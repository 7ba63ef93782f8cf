-- What the doors of receiving give.
use Rattle.std.specs.Prelude.{ℕ, ◌-◌, cond, List, eqb, leb, take, drop, Err, Ok, Result}
use Rattle.rules.specs.CanId.{bit}
use Rattle.rules.specs.Refusals.{number_of}
use Rattle.rules.specs.Answers.{Answer, delivers, nothing, not_ours, refuses}
use Rattle.rules.specs.declared.refusal.Refusal.{Refusal}
use Rattle.rules.specs.declared.receive.Part.{Part}
use Rattle.rules.specs.declared.receive.Part.TheVariants.{OfFrame, OfStore}
use Rattle.rules.specs.declared.receive.Delivery.{Delivery}
use Rattle.rules.specs.declared.subscription.Settings.{Settings}
use Rattle.rx.specs.Accept.{Closing}
use Rattle.dolomisc.specs.declared.receiving.FlatSubscription.{FlatSubscription}
use Rattle.dolomisc.specs.declared.receiving.FlatSubscribed.{FlatSubscribed}
use Rattle.dolomisc.specs.declared.receiving.Span.{Span}
use Rattle.dolomisc.specs.declared.receiving.FlatReceived.{FlatReceived}
use Rattle.dolomisc.specs.Flat.{port_from, header_told}

-- ---- making

abbrev pub settings_from : FlatSubscription → Settings
settings_from s = record { port = port_from s.kind s.port s.node; timeout = s.timeout; extent = s.extent }

-- in the place of a subscription that was refused: one of no kind, to which every frame is not ours
abbrev pub not_subscribed : Refusal → FlatSubscribed
not_subscribed r =
    record { subscription = record { timeout = 0; port = 0; extent = 0; kind = 255; node = 0 }; what = 4; refusal = number_of r }

abbrev pub subscribed_told : ℕ → ℕ → ℕ → Result Settings Refusal → FlatSubscribed
subscribed_told kind port node (Ok s) =
    record { subscription = record { timeout = s.timeout; port = port; extent = s.extent; kind = kind; node = node }; what = 0; refusal = 0 }
subscribed_told kind port node (Err r) = not_subscribed r

-- ---- what a frame is answered

-- no bytes
abbrev pub empty : Span
empty = record { start = 0; length = 0; memory = 0 }

-- the bytes of a delivery: memory 0 is the frame, 1 the store
abbrev pub span_of : Part → Span
span_of (OfFrame len) = record { start = 0; length = len; memory = 0 }
span_of (OfStore start len) = record { start = start; length = len; memory = 1 }

abbrev pub delivered_told : Delivery → FlatReceived
delivered_told d = record {
  span = span_of d.part;
  stamp = d.stamp;
  header = header_told d.header;
  transfer_id = d.transfer_id.0;
  loopback = bit d.loopback;
  what = 1;
  refusal = 0;
}

-- an answer that names no bytes
abbrev pub nothing_named : ℕ → ℕ → FlatReceived
nothing_named what refusal = record {
  span = empty;
  stamp = 0;
  header = record { port = 0; kind = 0; priority = 0; source = 0; destination = 0 };
  transfer_id = 0;
  loopback = 0;
  what = what;
  refusal = refusal;
}

abbrev pub received_told : Answer → FlatReceived
received_told (delivers d) = delivered_told d
received_told nothing = nothing_named 2 0
received_told not_ours = nothing_named 3 0
received_told (refuses n) = nothing_named 4 n

-- the answer, and the words and the store after it
pub record Receives : Type 0 where
  pub received : FlatReceived
  pub words : List (List ℕ)
  pub store : List ℕ

abbrev pub receives : FlatReceived → List (List ℕ) → List ℕ → Receives
receives r words store = record { received = r; words = words; store = store }

abbrev pub received_of : Closing → Receives
received_of c = receives (received_told c.answer) c.words c.store

-- ---- the bytes that an answer names

-- a span of a memory of so many bytes, if it lies within
abbrev pub span_within : Span → ℕ → Span
span_within s room = cond (leb s.start room) (cond (leb s.length (room - s.start)) s empty) empty

-- a span of a frame or a store of so many bytes
abbrev pub span_for : Span → ℕ → ℕ → Span
span_for s frame store = cond (eqb s.memory 0) (span_within s frame) (span_within s store)

-- the span that an answer names
abbrev pub span_in : FlatReceived → ℕ → ℕ → Span
span_in r frame store = cond (eqb r.what 1) (span_for r.span frame store) empty

-- the bytes of a span
abbrev pub spanned : Span → List ℕ → List ℕ → List ℕ
spanned s frame store = take s.length (drop s.start (cond (eqb s.memory 0) frame store))
