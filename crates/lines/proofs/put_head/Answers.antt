-- `put_head` meets its contract: the letter, then the answer. Assumes nothing.
use mathlib.Core.List.{[], ◌∷◌}
use native.Mathlib.Omega.{arith}
use Rattle.text.specs.Text.{decimal}
use Rattle.text.proofs.Line.{put_then}
use Rattle.lines.specs.Lines.{space}
use Rattle.lines.proofs.Fields.{put_first}
use Rattle.lines.proofs.put_head.Goals as goal

pub returns-clause-line : goal.returns-clause-line
returns-clause-line c =
    let one = c.put_byte-at in
    let two = c.put_number in
    let letter = c.args.letter in
    let v = c.args.answer in
    let line = c.args.line.now in
    let p = put_first (letter ∷ []) line one.new.line one.result (omega (arith, c.requires)) one.ensures.line (omega (arith, one.ensures.behind)) in
    let q = put_then 0 (letter ∷ []) (space ∷ decimal v) line one.new.line two.new.line one.result two.result
    (omega (arith, c.requires, one.ensures.behind, two.ensures.behind, two.ensures.most)) p two.ensures.line two.ensures.behind in
    q.put
