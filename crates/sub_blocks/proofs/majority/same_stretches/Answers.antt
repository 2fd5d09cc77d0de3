-- `same_stretches` meets its contract. Assumes nothing.
use mathlib.Core.Path.{◌∙◌}
use Rattle.sub_blocks.proofs.Voting.{stretches-alike}
use Rattle.sub_blocks.proofs.majority.same_stretches.Goals as goal

pub returns : goal.returns
returns c = let a = c.args in c.eq.ensures ∙ stretches-alike a.word.now a.a a.b a.len c.requires.0 c.requires.1
