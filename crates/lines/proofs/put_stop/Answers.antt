-- `put_stop` meets its contract: 11 in decimal is two ones. Assumes nothing.
use mathlib.Core.Path.{sym, ap, ◌∙◌}
use mathlib.Core.List.{List, [], ◌∷◌, ◌++◌}
use Prim.Native.Nat.{ℕ}
use lib.ListN.{length}
use Rattle.text.specs.Text.{overwrite}
use Rattle.lines.specs.Lines.{space, line_feed}
use Rattle.lines.proofs.Fields.{eleven}
use Rattle.lines.proofs.put_stop.Goals as goal

pub returns-clause-len : goal.returns-clause-len
returns-clause-len c =
    let one = c.put_text in
    let line = c.args.line.now in one.ensures.behind ∙ ap (λ (t : List ℕ). length (115 ∷ 116 ∷ 111 ∷ 112 ∷ space ∷ (t ++ line_feed ∷ []))) (sym eleven)

pub returns-clause-line : goal.returns-clause-line
returns-clause-line c =
    let one = c.put_text in
    let line = c.args.line.now in one.ensures.line ∙ ap (λ (t : List ℕ). overwrite 0 (115 ∷ 116 ∷ 111 ∷ 112 ∷ space ∷ (t ++ line_feed ∷ [])) line) (sym eleven)
