-- `same_figures` meets its contract: the layouts' own numbers are the codes'. Assumes nothing.
use borrow.Author.Rules.{rules}
use Rattle.moving.proofs.FitBoth.{by-numbers}
use Rattle.moving.proofs.both.same_figures.Goals as goal

pub returns-then-source-target-3 : goal.returns-then-source-target-3
returns-then-source-target-3 c = rw (by-numbers c.args.source c.args.target c.requires.0 c.requires.1) (search rules)

pub returns-else-source-target-3 : goal.returns-else-source-target-3
returns-else-source-target-3 c = rw (by-numbers c.args.source c.args.target c.requires.0 c.requires.1) (search rules)
