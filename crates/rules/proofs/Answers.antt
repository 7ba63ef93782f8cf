-- An answer is that of one case of the enum alone, so a contract that is stated through answers admits no second result: each refusal's number names it.
use Rattle.std.specs.Prelude.{Err, Ok, Result}
use Rattle.std.proofs.Common.{◌≡◌, ℕ, ◌-◌, List, [], ◌∷◌, get_or, sym, refl, ap, ◌∙◌}
use Rattle.rules.specs.declared.refusal.Refusal.{Refusal}
use Rattle.rules.specs.declared.refusal.Refusal.TheVariants.{CanId, NoBytes, FrameTooLong, ReservedBit, NoSession, Residue, StoreTooSmall, ExtentTooLarge, Mtu, PayloadTooLong, AnonymousTooLong, Field, NoPlace, CapacityTooLarge}
use Rattle.rules.specs.declared.receive.Received.{Received}
use Rattle.rules.specs.declared.receive.Received.TheVariants.{Delivered, Nothing, NotOurs}
use Rattle.rules.specs.Refusals.{number_of}
use Rattle.rules.specs.Answers.{Answer, delivers, nothing, not_ours, refuses, answer_of}

-- the refusals in the order of their numbers, which start at 1
abbrev refusals : List Refusal
refusals =
    CanId ∷ NoBytes ∷ FrameTooLong ∷ ReservedBit ∷ NoSession ∷ Residue ∷ StoreTooSmall ∷ ExtentTooLarge ∷ Mtu ∷ PayloadTooLong ∷ AnonymousTooLong ∷ Field ∷ NoPlace
    ∷ CapacityTooLarge ∷ []

abbrev named : ℕ → Refusal
named n = get_or refusals (n - 1) CanId

named_back : (r : Refusal) → named (number_of r) ≡ r
named_back CanId = refl
named_back NoBytes = refl
named_back FrameTooLong = refl
named_back ReservedBit = refl
named_back NoSession = refl
named_back Residue = refl
named_back StoreTooSmall = refl
named_back ExtentTooLarge = refl
named_back Mtu = refl
named_back PayloadTooLong = refl
named_back AnonymousTooLong = refl
named_back Field = refl
named_back NoPlace = refl
named_back CapacityTooLarge = refl

-- a number is that of one refusal
pub one_number : (q r : Refusal) → number_of q ≡ number_of r → q ≡ r
one_number q r e = sym (named_back q) ∙ ap named e ∙ named_back r

abbrev case_of : Answer → Result Received Refusal
case_of (delivers d) = Ok (Delivered d)
case_of nothing = (Ok Nothing)
case_of not_ours = (Ok NotOurs)
case_of (refuses n) = Err (named n)

case_back : (a : Result Received Refusal) → case_of (answer_of a) ≡ a
case_back (Ok (Delivered d)) = refl
case_back (Ok Nothing) = refl
case_back (Ok NotOurs) = refl
case_back (Err r) = ap Err (named_back r)

-- an answer is that of one case
pub one_answer : (a b : Result Received Refusal) → answer_of a ≡ answer_of b → a ≡ b
one_answer a b e = sym (case_back a) ∙ ap case_of e ∙ case_back b
