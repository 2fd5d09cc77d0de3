-- `read_laid` meets its contract: the word of the record, and a payload that holds 0. Assumes nothing.
use mathlib.Core.Path.{◌≡◌, sym, ap, ap₂, ◌∙◌}
use mathlib.Core.List.{List}
use Prim.Native.Nat.{ℕ, ◌-◌, ◌≤◌}
use native.Mathlib.Omega.{arith}
use lib.ListN.{length, take, drop, replicate, length-replicate}
use lib.Seq.{length-take-le}
use Rattle.cells.specs.Bytes.{payload_len}
use Rattle.cells.specs.Figures.{max_word}
use Rattle.codes.specs.Bridge.{coding_of}
use Rattle.codes.specs.Given.{coding_in}
use Rattle.params.specs.Given.{short_word}
use Rattle.jobs.specs.Slots.{entries}
use Rattle.jobcodec.specs.JobRead.{job_read_under}
use Rattle.records.specs.Records.{record_head_len, payload_len_of}
use Rattle.transfer.specs.Steps.{read_step}
use Rattle.transfer.specs.Bridge.{Put}
use Rattle.lines.proofs.Fields.{rest_all}
use Rattle.records.proofs.Lengths.{payload-within}
use Rattle.transfer.proofs.Serving.{zeros, put-read}
use Rattle.transfer.proofs.job_records.read_laid.Goals as goal
use Rattle.transfer.proofs.job_records.read_laid.Goals.{After-payload_len-count}

longest : (c : After-payload_len-count) → c.payload_len-count.result ≤ max_word
longest c =
    let k = c.args.laid.layout.message_len in
    omega (
      arith,
      payload-within c.args.laid.layout.q k,
      c.payload_len-count.ensures,
      c.requires.numbers.len_is,
      c.requires.small.message-most,
      c.requires.small.word-most,
    )

-- what was shown is the record's line, whatever array the payload stood in
line-is : (c : After-payload_len-count) (r : ℕ) (line : List ℕ)
    → (let a = c.args in let bytes = a.received.now in let es = entries a.table in
    Put r a.line.now line
    (λ s. read_step s (job_read_under (coding_in a.laid.layout) es (take (length bytes - record_head_len) (drop record_head_len bytes))
    (replicate {A = ℕ} c.payload_len-count.result 0)))
    → Put r a.line.now line
    (λ s. read_step s (job_read_under (coding_of a.laid.figures) es (drop record_head_len bytes) (replicate {A = ℕ} (payload_len_of a.laid.figures) 0))))
line-is c r line =
    let a = c.args in
    let l = a.laid.layout in
    let bytes = a.received.now in
    let count = c.payload_len-count in
    let is = c.requires.numbers in
    put-read r a.line.now line (entries a.table) (coding_in l) (coding_of a.laid.figures) (take (length bytes - record_head_len) (drop record_head_len bytes))
    (drop record_head_len bytes)
    (replicate {A = ℕ} count.result 0) (replicate {A = ℕ} (payload_len_of a.laid.figures) 0) c.requires.same (rest_all record_head_len bytes)
    (ap (λ (k : ℕ). replicate {A = ℕ} k 0) (count.ensures ∙ ap₂ payload_len is.alphabet-is is.len_is))

pub returns-then-count-le-SHORT_WORD : goal.returns-then-count-le-SHORT_WORD
returns-then-count-le-SHORT_WORD c =
    let read = c.read_in in
    line-is (goal.at.returns-then-count-le-SHORT_WORD c).After-payload_len-count read.result read.new.line read.ensures

pub read_in-requires-2 : goal.read_in-requires-2
read_in-requires-2 c = (c.requires.room, longest (goal.at.read_in-requires-2 c).After-payload_len-count, omega arith, c.requires.table)

pub returns : goal.returns
returns c =
    let read = c.read_in-2 in
    line-is (goal.at.returns c).After-payload_len-count read.result read.new.line read.ensures
