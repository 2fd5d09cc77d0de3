-- `put_word` meets its contract: letter and 0, the word in hex, the line feed. Assumes nothing.
use mathlib.Core.List.{[], ◌∷◌, ◌++◌}
use native.Mathlib.Omega.{arith}
use Rattle.text.specs.Text.{decimal, hex}
use Rattle.text.proofs.Hex.{length-hex}
use Rattle.text.proofs.Line.{put_then}
use Rattle.lines.specs.Lines.{space, line_feed, letter_w}
use Rattle.lines.proofs.Fields.{put_first, put_as, field_end, zero-short}
use Rattle.lines.proofs.put_word.Goals as goal

pub put_bytes-at_end-requires : goal.put_bytes-at_end-requires
put_bytes-at_end-requires c =
    let h = c.put_head-at in
    omega (arith, c.requires.0, c.requires.1, h.ensures.behind, h.auto.line, zero-short)

pub put_byte-requires : goal.put_byte-requires
put_byte-requires c =
    let h = c.put_head-at in
    let w = c.put_bytes-at_end in
    omega (arith, c.requires.0, c.requires.1, h.ensures.behind, h.auto.line, w.ensures.behind, w.auto.line, zero-short)

pub returns : goal.returns
returns c =
    let h = c.put_head-at in
    let w = c.put_bytes-at_end in
    let e = c.put_byte in
    let head = letter_w ∷ space ∷ decimal 0 in
    let t = hex c.args.word.now in
    let line = c.args.line.now in
    let long = length-hex c.args.word.now in
    let p = put_first head line h.new.line h.result (omega (arith, c.requires.0, zero-short)) h.ensures.line h.ensures.behind in
    let q = put_then 0 head (space ∷ t) line h.new.line w.new.line h.result w.result
    (omega (arith, c.requires.0, c.requires.1, h.ensures.behind, zero-short, long)) p w.ensures.line (omega (arith, w.ensures.behind, long)) in
    let r = put_then 0 (head ++ space ∷ t) (line_feed ∷ []) line w.new.line e.new.line w.result e.result
    (omega (arith, c.requires.0, c.requires.1, h.ensures.behind, w.ensures.behind, zero-short)) q e.ensures.line e.ensures.behind in
    let f = put_as r (field_end head t) in
    record { line = f.0; len = f.1 }
