-- `put_number` meets its contract: a space, then the digits. Assumes nothing.
use mathlib.Core.List.{[], ◌∷◌}
use native.Mathlib.Omega.{arith}
use Rattle.text.specs.Text.{decimal}
use Rattle.text.proofs.Digits.{decimal-room}
use Rattle.text.proofs.Line.{put-none, put_then}
use Rattle.lines.specs.Lines.{space}
use Rattle.lines.proofs.put_number.Goals as goal

pub put_decimal-requires : goal.put_decimal-requires
put_decimal-requires c =
    omega (arith, c.requires, decimal-room c.args.value (omega arith), c.put_byte-next.ensures.behind)

pub returns-clause-line : goal.returns-clause-line
returns-clause-line c =
    let one = c.put_byte-next in
    let two = c.put_decimal in
    let at = c.args.at in
    let v = c.args.value in
    let line = c.args.line.now in
    let short = decimal-room v (omega arith) in
    let p = put_then at [] (space ∷ []) line line one.new.line at one.result (omega (arith, c.requires)) (put-none at line) one.ensures.line
    one.ensures.behind in
    let q = put_then at (space ∷ []) (decimal v) line one.new.line two.new.line one.result two.result
    (omega (arith, c.requires, short, one.ensures.behind)) p two.ensures.line two.ensures.behind in
    q.put

pub returns-clause-most : goal.returns-clause-most
returns-clause-most c =
    let one = c.put_byte-next in
    let two = c.put_decimal in
    let at = c.args.at in
    let v = c.args.value in
    let line = c.args.line.now in
    let short = decimal-room v (omega arith) in
    let p = put_then at [] (space ∷ []) line line one.new.line at one.result (omega (arith, c.requires)) (put-none at line) one.ensures.line
    one.ensures.behind in
    let q = put_then at (space ∷ []) (decimal v) line one.new.line two.new.line one.result two.result
    (omega (arith, c.requires, short, one.ensures.behind)) p two.ensures.line two.ensures.behind in
    omega (arith, short, one.ensures.behind, two.ensures.behind)
