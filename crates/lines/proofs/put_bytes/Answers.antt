-- `put_bytes` meets its contract: a space, then the hex digits. Assumes nothing.
use mathlib.Core.List.{[], ◌∷◌}
use native.Mathlib.Omega.{arith}
use Rattle.text.specs.Text.{hex}
use Rattle.text.proofs.Hex.{length-hex}
use Rattle.text.proofs.Line.{put-none, put_then}
use Rattle.lines.specs.Lines.{space}
use Rattle.lines.proofs.put_bytes.Goals as goal

pub returns-clause-line : goal.returns-clause-line
returns-clause-line c =
    let one = c.put_byte-next in
    let two = c.put_hex in
    let at = c.args.at in
    let bytes = c.args.bytes.now in
    let line = c.args.line.now in
    let p = put_then at [] (space ∷ []) line line one.new.line at one.result (omega (arith, c.requires)) (put-none at line) one.ensures.line
    one.ensures.behind in
    let q = put_then at (space ∷ []) (hex bytes) line one.new.line two.new.line one.result two.result
    (omega (arith, c.requires, length-hex bytes, one.ensures.behind)) p two.ensures.line (omega (arith, two.ensures.behind, length-hex bytes)) in
    q.put
