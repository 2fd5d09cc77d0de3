-- `clear_first` meets its contract. Assumes nothing.
use mathlib.Core.Path.{◌∙◌}
use Rattle.std.proofs.lemmas.List.{take-replicate}
use borrow.Author.Rules.{rules}
use Rattle.symbols.proofs.clear_first.Goals as goal

pub returns : goal.returns
returns c = c.copy_first.ensures ∙ take-replicate c.args.len 32 0 (search rules)
