-- `JobTable::call` meets its contract. Assumes nothing.
use Rattle.refusals.specs.Numbers.{answer_of}
use Rattle.std.proofs.Common.{◌≡◌, arith}
use Rattle.std.proofs.Math.Option.{none}
use Rattle.std.proofs.lemmas.Bool.Decides.{nat_tests}
use Rattle.jobs.specs.Letters.{kind_of}
use Rattle.jobs.proofs.JobTable.call.Goals as goal

pub returns-in-79 : goal.returns-in-79
unfolding kind_of
returns-in-79 c = rw c.in-79.is c.«open».ensures

pub returns-in-67 : goal.returns-in-67
unfolding kind_of
returns-in-67 c = rw c.in-67.is c.cancel.ensures

pub returns-in-70 : goal.returns-in-70
unfolding kind_of
returns-in-70 c = rw c.in-70.is c.finish.ensures

pub returns-in_default : goal.returns-in_default
unfolding kind_of
returns-in_default c = let other : kind_of c.args.letter ≡ none = grind (arith, nat_tests) in rw other (c.refuse.ensures answer_of)
