-- What a subscription hears a frame with, and what hearing it leaves of that.
use Rattle.std.specs.Prelude.{◌≡◌, ℕ, List}
use Rattle.rx.specs.declared.subscription.Heard.{Heard}
use Rattle.rx.specs.declared.subscription.Lent.{Lent}
use Rattle.rules.specs.declared.receive.Arrival.{Arrival}
use Rattle.rules.specs.Frames.{Frame, frame}
use Rattle.rules.specs.Answers.{Answer}
use Rattle.rx.specs.Accept.{Closing, closes, in_words, accepted}

-- the frame that was heard
abbrev pub frame_of : Heard → Frame
frame_of heard = frame heard.marks heard.bytes.now

-- the settings are the same, and the slots and the store are still those that were lent
abbrev pub Stays : Lent → Lent → Type 0
Stays old new = (new.settings ≡ old.settings) × (new.slots.ghost_name ≡ old.slots.ghost_name) × (new.store.ghost_name ≡ old.store.ghost_name)

-- the answer beside the words and the store that stand there
abbrev pub closing : Answer → Lent → Closing
closing answer lent = closes answer lent.slots.now lent.store.now

-- what is due to a frame ..
abbrev pub due : Lent → Frame → Closing
due lent f = accepted lent.settings lent.slots.now lent.store.now f

-- .. and to one of source n
abbrev pub due_from : Lent → ℕ → Arrival → List ℕ → Closing
due_from lent n a bytes = in_words lent.settings lent.slots.now lent.store.now n a bytes
