-- `read_lanes` meets its contract: the lanes so far hold their messages. Assumes nothing.
use mathlib.Core.Path.{◌≡◌, refl, sym, ap, ◌∙◌}
use mathlib.Core.List.{List}
use Prim.Native.Nat.{ℕ, ◌+◌, ◌*◌, ◌≤◌, ◌<◌}
use native.Mathlib.Omega.{arith}
use lib.ListN.{length}
use Rattle.refusals.specs.Refusals.{served}
use Rattle.std.specs.Prelude.{Result}
use Rattle.refusals.specs.declared.Refusal.{Refusal}
use Rattle.refusals.proofs.Numbers.{never-served}
use Rattle.decoder.specs.Answer.{answer_as}
use Rattle.cells.specs.Outcomes.{Decoded, answer_number, decode_under}
use Rattle.codes.specs.Given.{coding_in}
use Rattle.codes.specs.declared.WordLayout.{WordLayout}
use Rattle.lanes.specs.Interleaving.{lane}
use Rattle.lanes_roundtrip.proofs.Filling.{lane-within, part-is-lane, part-len, filled_on, filled-all}
use Rattle.lanes_roundtrip.proofs.lane_by_lane.read_lanes.Goals as goal
use Rattle.lanes_roundtrip.proofs.lane_by_lane.read_lanes.Goals.{After-decode_fitting, In-loop-j}
use Rattle.lanes_roundtrip.proofs.lane_by_lane.read_lanes.Invariants.{Reads}

within-read : (c : In-loop-j) → (let a = c.args in let k = a.layout.message_len in
    let j = c.loop-j.j in
    j * k + k ≤ length c.loop-j.read)
within-read c =
    omega (arith, lane-within c.args.layout.message_len c.args.depth c.loop-j.j (omega arith), c.loop-j.invariant.0)

-- what word read answers of lane j: the message, whatever the buffer held
read_here : (l : WordLayout) (d j : ℕ) (words messages part lent : List ℕ) → Reads l d words messages → j < d → length lent ≡ l.message_len
    → part ≡ lane l.n j words
    → (answer_number (decode_under (coding_in l) part lent).answer ≡ served)
    × ((decode_under (coding_in l) part lent).message ≡ lane l.message_len j messages)
read_here l d j words messages part lent reads hj e is =
    let outcome = ap (λ (w : List ℕ). decode_under (coding_in l) w lent) is ∙ reads.reads j hj lent e in
    (ap (λ (o : Decoded). answer_number o.answer) outcome, ap (λ (o : Decoded). o.message) outcome)

here : (c : After-decode_fitting) (messages : List ℕ)
    → (let a = c.args in
    Reads a.layout a.depth a.words.now messages
    → (answer_number (answer_as c.decode_fitting.result.answer) ≡ served)
    × (c.decode_fitting.new.message ≡ lane a.layout.message_len c.loop-j.j messages))
here c messages reads =
    let a = c.args in
    let l = c.loop-j in
    let n = a.layout.n in
    let k = a.layout.message_len in
    let so = read_here a.layout a.depth l.j a.words.now messages _ _ reads c.loop-j-test.true
    (part-len k l.j l.read (within-read (goal.at.After-decode_fitting c).In-loop-j)) (part-is-lane n l.j a.words.now) in
    (ap (λ (o : Decoded). answer_number o.answer) c.decode_fitting.ensures ∙ so.0, ap (λ (o : Decoded). o.message) c.decode_fitting.ensures ∙ so.1)

pub returns-in_err-decode_fitting : goal.returns-in_err-decode_fitting
returns-in_err-decode_fitting c = λ messages reads.
    absurd (never-served _ (sym (ap (λ (r : Result ℕ Refusal). answer_number (answer_as r)) c.in_err-decode_fitting.was)
    ∙ (here (goal.at.returns-in_err-decode_fitting c).After-decode_fitting messages reads).0))

pub loop-j-preserved : goal.loop-j-preserved
loop-j-preserved c =
    let a = c.args in
    let l = c.loop-j in
    let k = a.layout.message_len in (
      c.read-1.given.1 ∙ l.invariant.0,
      λ messages reads.
          filled_on k a.depth (λ i. lane k i messages) a.read.now l.j l.read c.decode_fitting.new.message c.loop-j-test.true
          (l.invariant.1 messages reads) c.read-1.given.0 (here (goal.at.loop-j-preserved c).After-decode_fitting messages reads).1,
    )

pub returns : goal.returns
returns c =
    let a = c.args in
    let k = a.layout.message_len in
    λ messages reads. (
      refl,
      filled-all k a.depth (λ i. lane k i messages) a.read.now c.loop-j.j c.loop-j.read messages (omega arith) (c.loop-j.invariant.1 messages reads)
          reads.size (λ i l. refl),
    )
