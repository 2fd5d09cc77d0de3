-- `write_stored` meets its contract: the distance decides. Assumes nothing.
use Rattle.prescription.proofs.Writing.{short-distance, long-distance, right-distance}
use Rattle.prescription.proofs.texts.write_stored.Goals as goal
use Rattle.prescription.proofs.texts.write_stored.Goals.{then-halves-via-then-halves, then-halves-via-else-halves+then-halves-2}

pub returns-then-halves : goal.returns-then-halves
returns-then-halves c =
    let a = c.args in
    elim c.then-halves.branch [
      | then-halves-via-then-halves w ↦ short-distance a.text.now a.right a.left a.halves w.if-halves.true
      | then-halves-via-else-halves+then-halves-2 w ↦ long-distance a.text.now a.right a.left a.halves w.if-halves-2.true
    ]

pub returns : goal.returns
returns c =
    let a = c.args in
    right-distance a.text.now c.put_stored.new.text a.right a.left a.halves
    c.if-halves.false c.if-halves-2.false c.put_stored.ensures
