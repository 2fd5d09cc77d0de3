-- `copy_pair` meets its contract: the second move starts where the first has been, or right behind. Assumes nothing.
use borrow.Author.Rules.{rules}
use Rattle.symbols.proofs.Copied.{copied-last}
use Rattle.symbols.proofs.copy_pair.Goals as goal

pub returns : goal.returns
returns c =
    let a = c.args in
    let first = c.copy_by in
    let second = c.copy_by-2 in
    copied-last a.size a.size a.len first.new.to a.from.now second.new.to (search rules) (search rules) (search rules) (search rules)
    first.ensures second.ensures
