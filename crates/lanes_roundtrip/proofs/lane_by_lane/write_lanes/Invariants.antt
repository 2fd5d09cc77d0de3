-- `write_lanes` meets its contract: the lanes so far hold their words, and the others their maps. Assumes nothing.
use mathlib.Core.List.{List}
use Prim.Native.Nat.{ℕ}
use Rattle.codes.specs.Given.{coding_in}
use Rattle.codes.specs.declared.WordLayout.{WordLayout}
use Rattle.lanes.specs.Interleaving.{lane}
use Rattle.lanes_roundtrip.specs.LaneByLane.{cover_word}
use Rattle.lanes_roundtrip.proofs.Filling.{Filled}
use Rattle.lanes_roundtrip.proofs.lane_by_lane.write_lanes.Given as goal

-- the word of lane j
abbrev pub word_of : WordLayout → List ℕ → List ℕ → ℕ → List ℕ
word_of l messages maps j = cover_word (coding_in l) (lane l.message_len j messages) (lane l.n j maps)

abbrev pub invariant-loop-j : goal.invariant-loop-j
invariant-loop-j l = Filled l.layout.n l.depth (word_of l.layout l.messages l.initial.words) l.initial.words l.j l.words
