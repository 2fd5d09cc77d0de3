-- `is_letter` meets its contract. Assumes nothing.
use Rattle.std.proofs.Common.{arith}
use Rattle.std.proofs.lemmas.Bool.Decides.{nat_tests}
use Rattle.jobs.specs.Letters.{kind_of}
use Rattle.jobs.proofs.by_letter.is_letter.Goals as goal

pub returns-in-79 : goal.returns-in-79
unfolding kind_of
returns-in-79 c = grind (arith, nat_tests)

pub returns-in_default : goal.returns-in_default
unfolding kind_of
returns-in_default c = grind (arith, nat_tests)
