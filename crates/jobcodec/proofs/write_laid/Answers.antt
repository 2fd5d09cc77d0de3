-- `write_laid` meets its contract: what is refused keeps the word, and what is not is written. Assumes nothing.
use mathlib.Core.Path.{◌≡◌, sym, ap₂, ◌∙◌}
use Prim.Native.Nat.{ℕ, ◌≤◌}
use native.Mathlib.Omega.{arith}
use lib.ListN.{length, replicate, length-replicate}
use Rattle.combinatorics.proofs.Lists.{at-below}
use Rattle.cells.specs.Bytes.{byte_values, payload_len}
use Rattle.cells.specs.Outcomes.{encode_under}
use Rattle.cells.specs.Figures.{max_word}
use Rattle.codes.specs.Given.{coding_in}
use Rattle.codes.proofs.Layouts.{numbers-in, small-in}
use Rattle.placements.specs.Bridge.{held_as}
use Rattle.jobs.specs.Slots.{entries}
use Rattle.payloads.specs.Payload.{message_of}
use Rattle.jobcodec.specs.Given.{PayloadFits}
use Rattle.jobcodec.specs.JobWrite.{job_write_under}
use Rattle.jobcodec.proofs.Outcomes.{write-encodes}
use Rattle.jobcodec.proofs.RoundTrip.{WrittenUnder, written-under}
use Rattle.jobcodec.proofs.Calls.{message-short, kept}
use Rattle.std.proofs.lemmas.Result.{err_from_is_err_and}
use Rattle.jobcodec.proofs.write_laid.Goals as goal
use Rattle.jobcodec.proofs.write_laid.Goals.{In_ok-may_write, Start}

-- no test refused
passed : (c : In_ok-may_write) → WrittenUnder (coding_in c.args.layout)
    (entries c.args.table) (held_as c.args.at)
    c.args.payload.now c.args.word.now
passed c =
    let a = c.args in
    written-under (coding_in a.layout) (entries a.table) (held_as a.at) a.payload.now a.word.now
    (sym c.in_ok-may_write.ensures)

zeros-are : (c : In_ok-may_write) → length (replicate {A = ℕ} c.args.layout.message_len 0) ≡ (coding_in c.args.layout).codec.message_len_of
zeros-are c = length-replicate {A = ℕ} c.args.layout.message_len 0 ∙ (numbers-in c.args.layout c.requires.serves).len_is

holds : (c : In_ok-may_write) → PayloadFits c.args.layout c.args.payload.now (replicate {A = ℕ} c.args.layout.message_len 0)
holds c =
    record {
      serves = c.requires.serves;
      count = (passed c).long ∙ ap₂ payload_len (sym (numbers-in c.args.layout c.requires.serves).alphabet-is) (sym (zeros-are c));
    }

word-is : (c : In_ok-may_write) → (let a = c.args in let d = coding_in a.layout in
    encode_under d (held_as a.at) (message_of a.layout.q a.layout.message_len a.payload.now) a.word.now
    ≡ job_write_under d (entries a.table) (held_as a.at) a.payload.now a.word.now)
word-is c =
    let a = c.args in
    let d = coding_in a.layout in
    let y = a.payload.now in
    let p = passed c in
    let is = numbers-in a.layout c.requires.serves in
    ap₂ (λ (q k : ℕ). encode_under d (held_as a.at) (message_of q k y) a.word.now) is.alphabet-is is.len_is
    ∙ sym (write-encodes d (entries a.table) (held_as a.at) y a.word.now p.ready (small-in a.layout c.requires.serves) p.count
    (record { count = p.long; bytes = at-below byte_values y (λ x _. omega (arith, c.type_inv.payload x)) })
    p.lent p.placed p.job p.is_open)

pub write_in-requires : goal.write_in-requires
write_in-requires c = (omega arith, omega arith, holds (goal.at.write_in-requires c).In_ok-may_write)

pub returns-then-layout-le-SHORT_MESSAGE : goal.returns-then-layout-le-SHORT_MESSAGE
returns-then-layout-le-SHORT_MESSAGE c = c.write_in.ensures ∙ word-is (goal.at.returns-then-layout-le-SHORT_MESSAGE c).In_ok-may_write

pub write_in-requires-2 : goal.write_in-requires-2
write_in-requires-2 c =
    (message-short c.args.layout (entries c.args.table) c.requires, omega arith, holds (goal.at.write_in-requires-2 c).In_ok-may_write)

pub returns : goal.returns
returns c = c.write_in-2.ensures ∙ word-is (goal.at.returns c).In_ok-may_write

pub returns-in_err-may_write : goal.returns-in_err-may_write
returns-in_err-may_write c =
    let a = c.args in
    let p = err_from_is_err_and c.from_residual.result c.from_residual.ensures.1 in
    rw (p.1, p.2) (kept a.word.now (coding_in a.layout) (entries a.table) (held_as a.at) a.payload.now _ c.in_err-may_write.ensures)
