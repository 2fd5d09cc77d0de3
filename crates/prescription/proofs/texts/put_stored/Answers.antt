-- `put_stored` meets its contract: zeros, then both eyes and the distance. Assumes nothing.
use Rattle.std.proofs.Common.{◌≡◌, ℕ, List, length, set, replicate, ap, ◌∙◌}
use Rattle.prescription.specs.Counts.{with_eye}
use Rattle.prescription.proofs.Writing.{laid}
use Rattle.prescription.proofs.texts.put_stored.Goals as goal
use Rattle.prescription.proofs.texts.put_stored.Goals.{After-put_eye-2}

-- both eyes, over zeros
eyes : (p : After-put_eye-2)
    → let a = p.args in
    p.put_eye-2.new.text ≡ with_eye (with_eye (replicate (length a.text.now) 0) 0 a.right) 6 a.left
eyes p =
    let a = p.args in
    let zeros = p.clear.ensures in
    p.put_eye-2.ensures
    ∙ ap (λ (t : List ℕ). with_eye t 6 a.left) (p.put_eye.ensures ∙ ap (λ (t : List ℕ). with_eye t 0 a.right) zeros)

pub returns : goal.returns
returns c =
    let a = c.args in
    ap (λ (t : List ℕ). set t 12 a.halves) (eyes (goal.at.returns c).After-put_eye-2) ∙ laid (length a.text.now) a.right a.left a.halves c.requires
