-- The whole transfer program: from the bytes of standard input to the bytes it prints. Assumes nothing.
use Rattle.std.specs.Prelude.{◌≡◌, true, false, cond, List, ◌++◌, ℕ, zero, suc, take, drop}
use Rattle.refusals.specs.Refusals.{must}
use Rattle.records.specs.Session.{Session, at_start, max_records}
use Rattle.lines.specs.Lines.{stop_line, end_line}
use Rattle.records.specs.Records.{letter_of, is_empty, record_len, readable, reach}
use Rattle.transfer.specs.Steps.{serve_out, step_out}

-- the next record of what is left of the input, and what is left behind it
abbrev pub next_record : Session → List ℕ → List ℕ
next_record s input = take (reach (record_len s (letter_of input))) input

abbrev pub behind : Session → List ℕ → List ℕ
behind s input = drop (reach (record_len s (letter_of input))) input

-- What is printed for the input that is left, where so many records may still be served. "It prints one line a record .. A wrong mark, unknown
-- letter, cut record, W or R before an accepted S, or any record after the 4294967295th prints "stop 11" and ends; end of input prints "end"." The
-- last line is that of an input without any bytes.
unfoldable pub printed_from : List ℕ → ℕ → Session → List ℕ → List ℕ
printed_from last zero s input = cond (is_empty input) last stop_line
printed_from last (suc left) s input =
    let bytes = next_record s input in
    let out = serve_out s (letter_of bytes) bytes in
    let served = out.line ++ printed_from last left out.next (behind s input) in
    cond (is_empty input) last
    (must (readable s bytes) stop_line
    served)

unfoldable pub printed : List ℕ → List ℕ
printed input = printed_from end_line max_records at_start input

-- .. where a read fails behind these bytes, so that the next record is unreadable: "stop 11" stands where "end" would
unfoldable pub printed_unread : List ℕ → List ℕ
printed_unread input = printed_from stop_line max_records at_start input

-- ---- The same by steps

-- the input cut into records, one step for each until a step stops: what is printed then
pub data Steps : Session → List ℕ → List ℕ → Type 0 where
  last_step : {s : Session} {input : List ℕ} → (step_out s (next_record s input)).stops ≡ true → Steps s input (step_out s (next_record s input)).line
  step : {s : Session} {input out : List ℕ} → (step_out s (next_record s input)).stops ≡ false
      → Steps (step_out s (next_record s input)).next (behind s input) out
      → Steps s input ((step_out s (next_record s input)).line ++ out)

-- the steps of every input end, and print exactly that
abbrev pub StepsPrint : Type 0
StepsPrint = (input : List ℕ) → (Steps at_start input (printed input)) × ((out : List ℕ) → Steps at_start input out → out ≡ printed input)
