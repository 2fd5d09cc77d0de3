-- `is_list_letter` meets its contract. Assumes nothing.
use Rattle.std.proofs.Common.{arith}
use Rattle.std.proofs.lemmas.Bool.Decides.{nat_tests}
use Rattle.jobs.specs.Letters.{kind_of, list_kind}
use Rattle.jobs.proofs.by_letter.is_list_letter.Goals as goal

pub returns-then-is_letter : goal.returns-then-is_letter
unfolding kind_of list_kind
returns-then-is_letter c = grind (arith, nat_tests)

pub returns-in_default : goal.returns-in_default
unfolding kind_of list_kind
returns-in_default c = grind (arith, nat_tests)

pub returns-in_default-2 : goal.returns-in_default-2
unfolding kind_of list_kind
returns-in_default-2 c = grind (arith, nat_tests)

pub returns-in-73 : goal.returns-in-73
unfolding kind_of list_kind
returns-in-73 c = grind (arith, nat_tests)

pub returns-in-73-2 : goal.returns-in-73-2
unfolding kind_of list_kind
returns-in-73-2 c = grind (arith, nat_tests)
