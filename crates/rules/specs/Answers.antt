-- What a receiver answers, in document 01's numbers and values, and the bytes that an answer shows. Document 01: "In a delivery the bytes lie either in the frame
-- or in the store .. An answer asked for bytes it doesn't name, or that don't fit, shows an empty part."
use Rattle.std.specs.Prelude.{ℕ, cond, List, [], length, take, drop, nat_le, Err, Ok, Result}
use Rattle.rules.specs.declared.refusal.Refusal.{Refusal}
use Rattle.rules.specs.declared.receive.Part.{Part}
use Rattle.rules.specs.declared.receive.Part.TheVariants.{OfFrame, OfStore}
use Rattle.rules.specs.declared.receive.Delivery.{Delivery}
use Rattle.rules.specs.declared.receive.Received.{Received}
use Rattle.rules.specs.declared.receive.Received.TheVariants.{Delivered, Nothing, NotOurs}
use Rattle.rules.specs.Refusals.{number_of}

-- a delivery, nothing, "not ours", or a refusal by its number
pub data Answer : Type 0 where
  delivers : Delivery → Answer
  nothing : Answer
  not_ours : Answer
  refuses : ℕ → Answer

-- the answer that each case of the enum stands for
abbrev pub answer_of : Result Received Refusal → Answer
answer_of (Ok (Delivered d)) = delivers d
answer_of (Ok Nothing) = nothing
answer_of (Ok NotOurs) = not_ours
answer_of (Err r) = refuses (number_of r)

-- a refusal by the name that its number has
abbrev pub refused_by : Refusal → Answer
refused_by r = refuses (number_of r)

-- the first len bytes; none where there are not so many
abbrev pub leading : ℕ → List ℕ → List ℕ
leading len xs = cond (nat_le len (length xs)) (take len xs) []

-- the bytes that a part names
abbrev pub part_shown : Part → List ℕ → List ℕ → List ℕ
part_shown (OfFrame len) frame store = leading len frame
part_shown (OfStore start len) frame store = leading len (drop start store)

-- the bytes that an answer shows, of the frame and of the store
abbrev pub shown : Answer → List ℕ → List ℕ → List ℕ
shown (delivers d) frame store = part_shown d.part frame store
shown nothing frame store = []
shown not_ours frame store = []
shown (refuses n) frame store = []

-- an answer whose bytes, if they lie in a store, lie from start on
abbrev pub part_from : ℕ → Part → Part
part_from start (OfFrame len) = OfFrame len
part_from start (OfStore at len) = OfStore start len

abbrev pub answer_from : ℕ → Answer → Answer
answer_from start (delivers d) =
    delivers (record { header = d.header; transfer_id = d.transfer_id; stamp = d.stamp; loopback = d.loopback; part = part_from start d.part })
answer_from start nothing = nothing
answer_from start not_ours = not_ours
answer_from start (refuses n) = refuses n
