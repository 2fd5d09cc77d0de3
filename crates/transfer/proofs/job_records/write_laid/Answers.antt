-- `write_laid` meets its contract: the starts and the payload of the record, and a word that holds 0. Assumes nothing.
use mathlib.Core.Path.{ap, ◌∙◌}
use mathlib.Core.List.{List}
use Prim.Native.Nat.{ℕ, ◌+◌, ◌-◌, ◌*◌, ◌≤◌}
use native.Mathlib.Omega.{arith}
use lib.ListN.{length, take, drop, replicate}
use Rattle.cells.specs.Figures.{max_word}
use Rattle.combinatorics.specs.Stretch.{tabulate}
use Rattle.cells.specs.Outcomes.{held}
use Rattle.codes.specs.Bridge.{coding_of}
use Rattle.codes.specs.Given.{coding_in}
use Rattle.placements.specs.Bridge.{held_as}
use Rattle.jobs.specs.Slots.{entries}
use Rattle.jobcodec.specs.JobWrite.{job_write_under}
use Rattle.records.specs.Records.{record_head_len, two_bytes, record_starts, payload_of}
use Rattle.transfer.specs.Steps.{write_step}
use Rattle.transfer.specs.Bridge.{Put}
use Rattle.lines.proofs.Fields.{rest_all}
use Rattle.transfer.proofs.Serving.{put-write}
use Rattle.transfer.proofs.job_records.write_laid.Goals as goal
use Rattle.transfer.proofs.job_records.write_laid.Goals.{After-placement_in-at, Start}

longest : (s : Start) → s.args.laid.layout.n ≤ max_word
longest s = omega (arith, s.requires.numbers.word-is, s.requires.small.word-most)

-- what was shown is the record's line, whatever array the word stood in
line-is : (c : After-placement_in-at) (r : ℕ) (line : List ℕ)
    → (let a = c.args in let l = a.laid.layout in let from = record_head_len + 2 * l.m in let bytes = a.received.now in let es = entries a.table in
    Put r a.line.now line (λ s. write_step s (job_write_under (coding_in l) es (held_as c.placement_in-at.result)
    (take (length bytes - from) (drop from bytes)) (replicate {A = ℕ} l.n 0)))
    → Put r a.line.now line (λ s. write_step s (job_write_under (coding_of a.laid.figures) es (record_starts a.laid.figures bytes)
    (payload_of a.laid.figures bytes) (replicate {A = ℕ} (coding_of a.laid.figures).codec.word_len 0))))
line-is c r line =
    let a = c.args in
    let l = a.laid.layout in
    let bytes = a.received.now in
    let from = record_head_len + 2 * l.m in
    let m = c.requires.numbers.bursts-is in
    put-write r a.line.now line (entries a.table) (coding_in l) (coding_of a.laid.figures) (held_as c.placement_in-at.result)
    (record_starts a.laid.figures bytes)
    (take (length bytes - from) (drop from bytes)) (payload_of a.laid.figures bytes) (replicate {A = ℕ} l.n 0)
    (replicate {A = ℕ} (coding_of a.laid.figures).codec.word_len 0) c.requires.same
    (c.placement_in-at.ensures ∙ ap (λ (k : ℕ). held (tabulate k 0 (λ i. two_bytes bytes (record_head_len + 2 * i)))) m)
    (rest_all from bytes ∙ ap (λ (k : ℕ). drop (record_head_len + 2 * k) bytes) m)
    (ap (λ (k : ℕ). replicate {A = ℕ} k 0) c.requires.numbers.word-is)

pub returns-then-n-le-SHORT_WORD : goal.returns-then-n-le-SHORT_WORD
returns-then-n-le-SHORT_WORD c =
    let put = c.write_in in
    line-is (goal.at.returns-then-n-le-SHORT_WORD c).After-placement_in-at put.result put.new.line put.ensures

pub returns : goal.returns
returns c =
    let put = c.write_in-2 in
    line-is (goal.at.returns c).After-placement_in-at put.result put.new.line put.ensures
