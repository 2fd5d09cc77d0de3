-- `put_figures` meets its contract: letter and 0, three numbers, the line feed. Assumes nothing.
use mathlib.Core.List.{[], ◌∷◌, ◌++◌}
use native.Mathlib.Omega.{arith}
use Rattle.text.specs.Text.{decimal}
use Rattle.text.proofs.Line.{put_then}
use Rattle.lines.specs.Lines.{space, line_feed}
use Rattle.lines.proofs.Fields.{put_first, put_as, three-fields}
use Rattle.lines.proofs.put_figures.Goals as goal

pub returns : goal.returns
returns c =
    let h = c.put_head-at in
    let one = c.put_number-at_tail in
    let two = c.put_number-at_len in
    let three = c.put_number-at_end in
    let e = c.put_byte in
    let line = c.args.line.now in
    let head = c.args.letter ∷ space ∷ decimal 0 in
    let t = space ∷ decimal c.args.placements in
    let u = space ∷ decimal c.args.tail in
    let v = space ∷ decimal c.args.message_len in
    let p₀ = put_first head line h.new.line h.result (omega (arith, c.requires, h.ensures.behind, h.ensures.most)) h.ensures.line h.ensures.behind in
    let p₁ = put_then 0 head t line h.new.line one.new.line h.result one.result
    (omega (arith, c.requires, h.ensures.most, one.ensures.behind, one.ensures.most)) p₀ one.ensures.line one.ensures.behind in
    let p₂ = put_then 0 (head ++ t) u line one.new.line two.new.line one.result two.result
    (omega (arith, c.requires, h.ensures.most, one.ensures.most, two.ensures.behind, two.ensures.most)) p₁ two.ensures.line two.ensures.behind in
    let p₃ = put_then 0 ((head ++ t) ++ u) v line two.new.line three.new.line two.result three.result
    (omega (arith, c.requires, h.ensures.most, one.ensures.most, two.ensures.most, three.ensures.behind, three.ensures.most)) p₂ three.ensures.line
    three.ensures.behind in
    let p₄ = put_then 0 (((head ++ t) ++ u) ++ v) (line_feed ∷ []) line three.new.line e.new.line three.result e.result
    (omega (arith, c.requires, h.ensures.most, one.ensures.most, two.ensures.most, three.ensures.most)) p₃ e.ensures.line e.ensures.behind in
    let f = put_as p₄ (three-fields head (decimal c.args.placements) (decimal c.args.tail) (decimal c.args.message_len)) in
    record { line = f.0; len = f.1 }
