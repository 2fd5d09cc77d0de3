-- `read_lanes` meets its contract: the lanes so far hold their messages. Assumes nothing.
use mathlib.Core.Path.{◌≡◌}
use mathlib.Core.List.{List}
use Prim.Native.Nat.{ℕ, ◌*◌}
use lib.ListN.{length}
use Rattle.codes.specs.Given.{coding_in}
use Rattle.codes.specs.declared.WordLayout.{WordLayout}
use Rattle.lanes.specs.Interleaving.{lane}
use Rattle.lanes_roundtrip.specs.LaneByLane.{ReadsLanes}
use Rattle.lanes_roundtrip.proofs.Filling.{Filled}
use Rattle.lanes_roundtrip.proofs.lane_by_lane.read_lanes.Given as goal

-- that the words read as messages
abbrev pub Reads : WordLayout → ℕ → List ℕ → List ℕ → Type 0
Reads l d words messages = ReadsLanes (coding_in l) l.n l.message_len d words messages

-- the first j lanes hold these
abbrev pub Read : WordLayout → ℕ → List ℕ → List ℕ → ℕ → List ℕ → Type 0
Read l d messages before j now = Filled l.message_len d (λ i. lane l.message_len i messages) before j now

abbrev pub invariant-loop-j : goal.invariant-loop-j
invariant-loop-j l =
    (length l.read ≡ l.depth * l.layout.message_len)
    × ((messages : List ℕ) → Reads l.layout l.depth l.words messages → Read l.layout l.depth messages l.initial.read l.j l.read)
