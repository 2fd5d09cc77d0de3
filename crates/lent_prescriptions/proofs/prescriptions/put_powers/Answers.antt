-- `put_powers` meets its contract. Assumes nothing.
use Rattle.lent_prescriptions.proofs.PrescriptionLaws.{powers-put}
use Rattle.lent_prescriptions.proofs.prescriptions.put_powers.Goals as goal

pub returns : goal.returns
returns c =
    powers-put c.args.powers.now c.requires c.args.prescription c.sphere_of.ensures c.cylinder_of.ensures
    c.sphere_of-2.ensures c.cylinder_of-2.ensures
