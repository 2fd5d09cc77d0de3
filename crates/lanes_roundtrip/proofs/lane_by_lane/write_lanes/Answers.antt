-- `write_lanes` meets its contract: the lanes so far hold their words, and the others their maps. Assumes nothing.
use mathlib.Core.Path.{ap₂, ◌∙◌}
use mathlib.Core.List.{List}
use Prim.Native.Nat.{ℕ}
use native.Mathlib.Omega.{arith}
use Rattle.codes.specs.Given.{coding_in}
use Rattle.lanes_roundtrip.specs.LaneByLane.{cover_word}
use Rattle.lanes_roundtrip.proofs.Filling.{part-is-lane, filled_on, filled-words}
use Rattle.lanes_roundtrip.proofs.lane_by_lane.write_lanes.Goals as goal
use Rattle.lanes_roundtrip.proofs.lane_by_lane.write_lanes.Invariants.{word_of}

pub loop-j-preserved : goal.loop-j-preserved
loop-j-preserved c =
    let a = c.args in
    let l = c.loop-j in
    let n = a.layout.n in
    let k = a.layout.message_len in
    let g = word_of a.layout a.messages.now a.words.now in
    let map_is = part-is-lane n l.j l.words ∙ l.invariant.rest l.j (omega arith) (omega (arith, c.loop-j-test.true)) in
    filled_on n a.depth g a.words.now l.j l.words c.write_lane.new.word (omega (arith, c.loop-j-test.true))
    l.invariant c.write_lane.ensures.size
    (c.write_lane.ensures.word
    ∙ ap₂ (λ (message map : List ℕ). cover_word (coding_in a.layout) message map) (part-is-lane k l.j a.messages.now) map_is)

pub returns : goal.returns
returns c =
    let a = c.args in
    filled-words a.layout.n a.depth (word_of a.layout a.messages.now a.words.now) a.words.now c.loop-j.j c.loop-j.words (omega arith)
    c.loop-j.invariant
