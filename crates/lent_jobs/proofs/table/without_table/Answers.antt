-- `without_table` meets its contract. Assumes nothing.
use mathlib.Core.Path.{◌≡◌, refl, sym, ap₂}
use mathlib.Core.Bool.{true}
use native.Mathlib.Omega.{arith}
use Rattle.std.specs.Prelude.{Ok}
use Rattle.refusals.specs.Numbers.{number_of}
use Rattle.cells.specs.Bytes.{payload_len}
use Rattle.cells.specs.Outcomes.{Coding}
use Rattle.codes.specs.Given.{HasNumbers}
use Rattle.params.specs.Answer.{Small}
use Rattle.codes.specs.Bridge.{coding_of}
use Rattle.codes.proofs.Answered.{laid-learnt}
use Rattle.lent_jobs.proofs.WithTable.{without-unfit, without-payload, without-length}
use Rattle.lent_jobs.proofs.table.without_table.Goals as goal
use Rattle.lent_jobs.proofs.table.without_table.Goals.{In-Ok, Start}

abbrev d : Start → Coding
d s = coding_of s.args.figures

-- the layout that was answered
learnt : (c : In-Ok) → ((d (goal.at.In-Ok c).Start).in_range ≡ true) × ((d (goal.at.In-Ok c).Start).fits ≡ true)
    × HasNumbers (d (goal.at.In-Ok c).Start) c.in-Ok.layout × Small (d (goal.at.In-Ok c).Start)
learnt c = laid-learnt c.args.figures (Ok c.in-Ok.layout) c.in-Ok.layout refl c.in-Ok.ensures.answer c.in-Ok.ensures.layout

-- its payloads are those of the figures
same : (c : In-Ok)
    → payload_len c.in-Ok.layout.q c.in-Ok.layout.message_len
    ≡ payload_len (d (goal.at.In-Ok c).Start).codec.alphabet (d (goal.at.In-Ok c).Start).codec.message_len_of
same c = ap₂ payload_len (learnt c).2.alphabet-is (learnt c).2.len_is

pub payload_len-requires : goal.payload_len-requires
payload_len-requires c = let known = learnt (goal.at.payload_len-requires c).In-Ok in omega (arith, known.2.alphabet-is, known.3.alphabet-most)

pub returns-then-payload_len-lt-MIN_PAYLOAD : goal.returns-then-payload_len-lt-MIN_PAYLOAD
returns-then-payload_len-lt-MIN_PAYLOAD c =
    let known = learnt (goal.at.returns-then-payload_len-lt-MIN_PAYLOAD c).In-Ok in
    without-payload (d (goal.at.returns-then-payload_len-lt-MIN_PAYLOAD c).Start) known.0 known.1
    (omega (arith, same (goal.at.returns-then-payload_len-lt-MIN_PAYLOAD c).In-Ok, c.payload_len.ensures))

pub returns-in-Err : goal.returns-in-Err
returns-in-Err c = without-unfit (d (goal.at.returns-in-Err c).Start) (number_of c.in-Err.refusal) (sym c.in-Err.ensures.answer)

pub returns-else-payload_len-lt-MIN_PAYLOAD : goal.returns-else-payload_len-lt-MIN_PAYLOAD
returns-else-payload_len-lt-MIN_PAYLOAD c =
    let known = learnt (goal.at.returns-else-payload_len-lt-MIN_PAYLOAD c).In-Ok in
    without-length (d (goal.at.returns-else-payload_len-lt-MIN_PAYLOAD c).Start) known.0 known.1
    (omega (arith, same (goal.at.returns-else-payload_len-lt-MIN_PAYLOAD c).In-Ok, c.payload_len.ensures))
