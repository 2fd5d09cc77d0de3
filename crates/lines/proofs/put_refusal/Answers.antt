-- `put_refusal` meets its contract: letter and answer, then the line feed. Assumes nothing.
use mathlib.Core.List.{[], ◌∷◌}
use native.Mathlib.Omega.{arith}
use Rattle.text.specs.Text.{decimal}
use Rattle.text.proofs.Line.{put_then}
use Rattle.lines.specs.Lines.{space, line_feed}
use Rattle.lines.proofs.Fields.{put_first}
use Rattle.lines.proofs.put_refusal.Goals as goal

pub returns-clause-line : goal.returns-clause-line
returns-clause-line c =
    let one = c.put_head-at in
    let two = c.put_byte in
    let head = c.args.letter ∷ space ∷ decimal c.args.answer in
    let line = c.args.line.now in
    let p = put_first head line one.new.line one.result (omega (arith, c.requires, one.ensures.behind, one.ensures.most)) one.ensures.line
    one.ensures.behind in
    let q = put_then 0 head (line_feed ∷ []) line one.new.line two.new.line one.result two.result (omega (arith, c.requires, one.ensures.most)) p
    two.ensures.line two.ensures.behind in
    q.put
