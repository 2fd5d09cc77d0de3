-- `JobTable::list_call` meets its contract. Assumes nothing.
use Rattle.std.proofs.Common.{◌≡◌, arith}
use Rattle.std.proofs.lemmas.Bool.Decides.{nat_tests}
use Rattle.jobs.specs.Letters.{kind_of, list_kind}
use Rattle.jobs.proofs.JobTable.list_call.Goals as goal

pub returns-in-73 : goal.returns-in-73
unfolding list_kind
returns-in-73 c = rw c.in-73.is c.reinstate.ensures

pub returns-in-72 : goal.returns-in-72
unfolding list_kind
returns-in-72 c = rw c.in-72.is c.hold.ensures

pub returns-in-85 : goal.returns-in-85
unfolding list_kind
returns-in-85 c = rw c.in-85.is c.release.ensures

pub returns-in_default : goal.returns-in_default
unfolding list_kind
returns-in_default c = let other : list_kind c.args.letter ≡ kind_of c.args.letter = grind (arith, nat_tests) in rw other c.call.ensures
