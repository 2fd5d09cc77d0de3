-- `without_table` meets its contract. Assumes nothing.
use Rattle.refusals.specs.Numbers.{number_of}
use Rattle.codes.specs.Bridge.{coding_of}
use Rattle.lent_moving.proofs.MoveLaws.{without-refused, without-fit}
use Rattle.lent_moving.proofs.without_table.Goals as goal

pub returns-in-Err : goal.returns-in-Err
returns-in-Err c =
    let a = c.args in
    without-refused (coding_of a.from) (coding_of a.to) a.strip a.moved (number_of c.in-Err.refusal) c.in-Err.ensures

pub returns-in-Ok : goal.returns-in-Ok
returns-in-Ok c =
    let a = c.args in
    let own = c.in-Ok.ensures in
    without-fit (coding_of a.from) (coding_of a.to) _ _ a.strip a.moved own.0 own.1 own.2
