-- The slot of a source: the transfer ID that it expects (0 at first), the last time (none at first), perhaps a session. Document 01's ID rule, "for a frame with
-- ID t from a source expecting e: t = e: go on. t + 1 = e modulo 32 and not timed out: nothing, no change. Otherwise: session dropped, e becomes t, go on." Its
-- age rule: "Age is the 32-bit difference of the two stamps, taken with wrapping: frame's minus last time. Below 2^31 it counts, and only age > timeout is timed
-- out. No last time, or a difference of 2^31 or more, is timed out."
use Rattle.std.specs.Prelude.{ℕ, ◌+◌, ◌-◌, ◌%◌, ◌^◌, Bool, true, cond, ◌||◌, ◌==◌, nat_le, nat_lt, None, Option, Some}
use Rattle.rules.specs.declared.slots.Session.{Session}
use Rattle.rules.specs.declared.types.CanTransferId.{CanTransferId}
use Rattle.rules.specs.declared.slots.Slot.{Slot as TheSlot}
use Rattle.rules.specs.Limits.{incremented}

-- a slot that has heard nothing yet
abbrev pub fresh_slot : TheSlot
fresh_slot = record { expected = record { 0 = 0 }; last_time = None; session = None }

-- the frame's stamp minus the last time, with wrapping at 32 bits
unfoldable pub age : ℕ → ℕ → ℕ
age stamp last = (stamp + 2 ^ 32 - last) % 2 ^ 32

-- no last time, an age that does not count, or an age over the timeout; an age equal to it is young
abbrev pub timed_out : ℕ → Option ℕ → ℕ → Bool
timed_out timeout None stamp = true
timed_out timeout (Some last) stamp = nat_le (2 ^ 31) (age stamp last) || nat_lt timeout (age stamp last)

-- the slot with another session, or with none
abbrev pub with_session : TheSlot → Option Session → TheSlot
with_session s o = record { expected = s.expected; last_time = s.last_time; session = o }

-- the slot after the ID rule reset it: it expects this ID, and its session is dropped
abbrev pub restarted : TheSlot → CanTransferId → TheSlot
restarted s id = record { expected = id; last_time = s.last_time; session = None }

-- the slot after a delivery: the ID steps, the last time is this, the session is dropped
abbrev pub settled : TheSlot → ℕ → TheSlot
settled s time = record { expected = incremented s.expected; last_time = Some time; session = None }

-- the ID rule, at a frame with this ID that has this stamp
unfoldable pub admitted : ℕ → TheSlot → CanTransferId → ℕ → Option TheSlot
admitted timeout s id stamp =
    cond (id.0 == s.expected.0) (Some s)
    (cond ((incremented id).0 == s.expected.0)
    (cond (timed_out timeout s.last_time stamp) (Some (restarted s id)) None)
    (Some (restarted s id)))
