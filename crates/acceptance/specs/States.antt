-- What the statements need of states: making gives it, and every call keeps it, refused ones too. Any other state value is taken as well, and each call ends.
use Rattle.std.specs.Prelude.{◌≡◌, List, ℕ, ◌+◌, ◌*◌, ◌<◌, ◌≤◌, length}
use Rattle.laws.specs.Digits.{AreDigits}
use Rattle.rules.specs.declared.subscription.Settings.{Settings}
use Rattle.rules.specs.Limits.{nodes, transfer_ids}
use Rattle.rules.specs.Queue.{Ordered}
use Rattle.queue.specs.declared.ArrayQueue.{ArrayQueue}
use Rattle.queue.specs.Queue.{contents, free, capacity_of}
use Rattle.tracker.specs.declared.CanTransferIdTracker.{CanTransferIdTracker}
use Rattle.tracker.specs.Row.{numbers}
use Rattle.acceptance.specs.Runs.{Lent, slot_in}

-- a queue: its frames stand in the order of their IDs, and each of its places is free or holds one of them
pub record QueueState (q : ArrayQueue) (places : List (List ℕ)) : Type 0 where
  pub ordered : Ordered (contents q places)
  pub filled : free q places + length (contents q places) ≡ capacity_of q

-- a tracker: 128 numbers below 32
pub record TrackerState (t : CanTransferIdTracker) : Type 0 where
  pub many : length (numbers t) ≡ nodes
  pub small : AreDigits transfer_ids (numbers t)

-- a receiver: 128 slots, each expecting an ID below 32, and a store of document 01's size
pub record ReceiverState (s : Settings) (m : Lent) : Type 0 where
  pub many : length m.words ≡ nodes
  pub small : (n : ℕ) → n < nodes → (slot_in m n).expected.0 < transfer_ids
  pub room : nodes * s.extent ≤ length m.store
