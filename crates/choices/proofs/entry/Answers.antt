-- `entry` meets its contract: the rule at the entry that is read. Assumes nothing.
use mathlib.Core.Path.{◌∙◌}
use native.Mathlib.Omega.{arith}
use Rattle.choices.proofs.Entries.{entry-is}
use Rattle.choices.proofs.entry.Goals as goal

pub returns : goal.returns
returns c =
    let a = c.args in
    c.number_at.ensures ∙ entry-is a.c a.i (omega arith) (omega arith) (omega arith)
