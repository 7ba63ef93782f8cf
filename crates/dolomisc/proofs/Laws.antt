-- Nothing is lost at the doors: what is told of a header or of a frame's marks is read back as it was, and the span that a door tells has the bytes that the answer
-- shows.
use Rattle.std.specs.Prelude.{None, Option, Some}
use Rattle.rules.specs.declared.types.CanNodeId.{CanNodeId}
use mathlib.Core.Path.{◌≡◌, refl, ap}
use mathlib.Core.Bool.{Bool, cond}
use mathlib.Core.List.{List}
use Prim.Native.Nat.{ℕ, ◌<◌}
use native.Mathlib.Omega.{arith}
use Rattle.std.proofs.lemmas.Grind.{common_steps}
use lib.Dec.{eqb}
use lib.ListN.{length, drop}
use Rattle.rules.specs.CanId.{bit}
use Rattle.rules.specs.Limits.{nodes}
use Rattle.rules.specs.Answers.{Answer, delivers, nothing, not_ours, refuses, leading, part_shown, shown}
use Rattle.rules.specs.declared.frame.Marks.{Marks}
use Rattle.rules.specs.declared.header.Header.{Header}
use Rattle.rules.specs.declared.header.Header.TheVariants.{Message, Request, Response}
use Rattle.rules.specs.declared.receive.Part.{Part}
use Rattle.rules.specs.declared.receive.Part.TheVariants.{OfFrame, OfStore}
use Rattle.rules.specs.Receiver.{source_in}
use Rattle.dolomisc.specs.Flat.{yes, marks_from, marks_told, source_from, node_told, header_from, header_told}
use Rattle.dolomisc.specs.Received.{span_of, span_within, span_for, span_in, received_told, spanned}

-- ---- read back

yes_bit : (b : Bool) → yes (bit b) ≡ b
yes_bit b = grind arith

pub marks_back : (m : Marks) → marks_from (marks_told m) ≡ m
marks_back m = ap (λ (b : Bool). record { stamp = m.stamp; id = m.id; loopback = b }) (yes_bit m.loopback)

-- a source that is one of the 128 nodes, or none
abbrev pub IsSource : Option CanNodeId → Type 0
IsSource (Some n) = n.0 < nodes
IsSource None = Unit {0}

source_back : (s : Option CanNodeId) → IsSource s → source_from (node_told s) ≡ s
source_back None h = refl
source_back (Some n) h = grind arith

pub header_back : (h : Header) → IsSource (source_in h) → header_from (header_told h) ≡ h
header_back (Message h) k = rw (source_back h.source k) refl
header_back (Request h) k = rw (source_back h.source k) refl
header_back (Response h) k = rw (source_back h.source k) refl

-- ---- shown

module _ (memory start len : ℕ) (frame store : List ℕ) where
  abbrev xs : List ℕ
  xs = cond (eqb memory 0) frame store

  abbrev Shows : Type 0
  Shows = spanned (span_within (record { start = start; length = len; memory = memory }) (length xs)) frame store ≡ leading len (drop start xs)

  within : Shows
  within = grind (arith, common_steps)

part_within : (p : Part) (frame store : List ℕ) → spanned (span_for (span_of p) (length frame) (length store)) frame store ≡ part_shown p frame store
part_within (OfFrame len) = within 0 0 len
part_within (OfStore start len) = within 1 start len

-- the bytes of the span that a door tells are those that the answer shows
pub span_shown : (a : Answer) (frame store : List ℕ) → spanned (span_in (received_told a) (length frame) (length store)) frame store ≡ shown a frame store
span_shown (delivers d) frame store = part_within d.part frame store
span_shown nothing frame store = refl
span_shown not_ours frame store = refl
span_shown (refuses n) frame store = refl
