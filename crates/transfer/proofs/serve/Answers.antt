-- `serve` meets its contract, letter by letter. Assumes nothing.
use mathlib.Core.Path.{sym, ap, subst, ◌∙◌}
use mathlib.Core.List.{List}
use Prim.Native.Nat.{ℕ}
use native.Mathlib.Omega.{arith}
use lib.ListN.{length, length-drop}
use Rattle.cells.specs.Outcomes.{figures_under}
use Rattle.codes.specs.Bridge.{coding_of}
use Rattle.codes.specs.declared.Figures.{Figures}
use Rattle.jobs.specs.Letters.{kind_of, call_by}
use Rattle.payloads.specs.Payload.{job_number}
use Rattle.records.specs.Records.{record_head_len, letter_of, record_len, is_whole}
use Rattle.transfer.specs.Steps.{Step, figures_step, call_step}
use Rattle.records.specs.Bridge.{session_of}
use Rattle.transfer.specs.Bridge.{Shown}
use Rattle.lines.proofs.Fields.{rest_all}
use Rattle.records.proofs.Readable.{whole-len, whole_long, len-S, len-L, len-W, len-R, len-call}
use Rattle.transfer.proofs.Serving.{serve-S, serve-L, serve-W, serve-R, serve-call-is}
use Rattle.transfer.proofs.serve.Goals as goal

pub bounds-received-2 : goal.bounds-received-2
bounds-received-2 c =
    omega (arith, whole_long (session_of c.args.session) (letter_of c.args.received.now) c.args.received.now c.requires.whole)

pub figures_in-requires : goal.figures_in-requires
figures_in-requires c =
    let bytes = c.args.received.now in
    let from = session_of c.args.session in
    whole-len bytes (record_len from (letter_of bytes)) 9 (len-S from (letter_of bytes) c.in-83.is) c.requires.whole

pub long_figures_in-requires : goal.long_figures_in-requires
long_figures_in-requires c =
    let bytes = c.args.received.now in
    let from = session_of c.args.session in
    whole-len bytes (record_len from (letter_of bytes)) 8 (len-L from (letter_of bytes) c.in-76.is) c.requires.whole

pub serve_write-requires : goal.serve_write-requires
serve_write-requires c =
    let bytes = c.args.received.now in
    record {
      ready = c.requires.ready;
      knows = c.requires.knows;
      whole = ap (is_whole bytes) (sym (len-W (session_of c.args.session) (letter_of bytes) c.in-87.is))
          ∙ c.requires.whole;
    }

pub serve_read-requires : goal.serve_read-requires
serve_read-requires c =
    let bytes = c.args.received.now in
    record {
      ready = c.requires.ready;
      knows = c.requires.knows;
      whole = ap (is_whole bytes) (sym (len-R (session_of c.args.session) (letter_of bytes) c.in-82.is))
          ∙ c.requires.whole;
    }

pub slice_bounds-job_number-count : goal.slice_bounds-job_number-count
slice_bounds-job_number-count c =
    omega (arith, whole_long (session_of c.args.session) (letter_of c.args.received.now) c.args.received.now c.requires.whole)

pub slice_bounds-job_number-start : goal.slice_bounds-job_number-start
slice_bounds-job_number-start c =
    omega (arith, whole_long (session_of c.args.session) (letter_of c.args.received.now) c.args.received.now c.requires.whole)

pub job_number-number-requires : goal.job_number-number-requires
job_number-number-requires c =
    let bytes = c.args.received.now in
    let from = session_of c.args.session in
    let other = c.in_default.in_default-own.rest in
    let is = len-call from (letter_of bytes) bytes other.0.0.0.1 other.0.0.1 other.0.1 other.1 c.requires.whole in
    omega (
      arith,
      whole-len bytes (record_len from (letter_of bytes)) 7 is.0 c.requires.whole,
      ap (λ (x : List ℕ). length x)
          (rest_all record_head_len bytes),
      length-drop record_head_len bytes,
    )

pub returns-in-83 : goal.returns-in-83
returns-in-83 c =
    let a = c.args in
    let from = session_of a.session in
    let bytes = a.received.now in
    let done = c.serve_figures in
    subst (λ (o : Step). Shown done.result a.line.now done.new.line o)
    (sym (serve-S from (letter_of bytes) bytes c.in-83.is))
    (subst (λ (f : Figures). Shown done.result a.line.now done.new.line (figures_step from (letter_of bytes) f (figures_under (coding_of f))))
    c.figures_in.ensures done.ensures)

pub returns-in-76 : goal.returns-in-76
returns-in-76 c =
    let a = c.args in
    let from = session_of a.session in
    let bytes = a.received.now in
    let done = c.serve_figures-in-76 in
    subst (λ (o : Step). Shown done.result a.line.now done.new.line o)
    (sym (serve-L from (letter_of bytes) bytes c.in-76.is))
    (subst (λ (f : Figures). Shown done.result a.line.now done.new.line (figures_step from (letter_of bytes) f (figures_under (coding_of f))))
    c.long_figures_in.ensures done.ensures)

pub returns-in-87 : goal.returns-in-87
returns-in-87 c =
    let a = c.args in
    let bytes = a.received.now in
    let done = c.serve_write in
    subst (λ (o : Step). Shown done.result a.line.now done.new.line o)
    (sym (serve-W (session_of a.session) (letter_of bytes) bytes c.in-87.is)) done.ensures

pub returns-in-82 : goal.returns-in-82
returns-in-82 c =
    let a = c.args in
    let bytes = a.received.now in
    let done = c.serve_read in
    subst (λ (o : Step). Shown done.result a.line.now done.new.line o)
    (sym (serve-R (session_of a.session) (letter_of bytes) bytes c.in-82.is)) done.ensures

pub returns-in_default : goal.returns-in_default
returns-in_default c =
    let a = c.args in
    let from = session_of a.session in
    let bytes = a.received.now in
    let letter = letter_of bytes in
    let other = c.in_default.in_default-own.rest in
    let done = c.serve_call in
    let is = len-call from letter bytes other.0.0.0.1 other.0.0.1 other.0.1 other.1 c.requires.whole in
    subst (λ (o : Step). Shown done.result a.line.now done.new.line o)
    (sym (serve-call-is from letter bytes other.0.0.0.1 other.0.0.1 is.1))
    (subst (λ (n : ℕ). Shown done.result a.line.now done.new.line (call_step from letter (call_by (kind_of letter) from.table n)))
    (c.job_number-number.ensures ∙ ap job_number (rest_all record_head_len bytes)) done.ensures)
