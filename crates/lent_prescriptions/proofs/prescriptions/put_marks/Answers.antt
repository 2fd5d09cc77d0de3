-- `put_marks` meets its contract: the number's bytes, then both eyes' marks. Assumes nothing.
use Rattle.lent_prescriptions.proofs.PrescriptionLaws.{marks-put}
use Rattle.lent_prescriptions.proofs.prescriptions.put_marks.Goals as goal

pub returns : goal.returns
returns c =
    let call = c.spell_value in
    marks-put c.args.marks.now c.requires c.args.number call.new.symbols call.ensures c.args.prescription
    c.kind_of.ensures c.axis_of.ensures c.kind_of-2.ensures c.axis_of-2.ensures
