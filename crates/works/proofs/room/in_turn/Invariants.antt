use Rattle.std.proofs.Common.{◌≡◌, ◌≤◌, length}
use Rattle.works.specs.Room.{up_to, room_view}
use Rattle.works.proofs.room.in_turn.Given as goal

abbrev pub invariant-loop-n : goal.invariant-loop-n
invariant-loop-n l = (room_view l.room l.t ≡ up_to l.n l.records (room_view l.initial.room l.initial.t)) × (length l.room ≡ length l.initial.room) × (l.initial.t.used ≤ l.t.used) × (l.t.used ≤ length l.room)
