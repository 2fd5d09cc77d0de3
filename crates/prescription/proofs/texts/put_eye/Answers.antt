-- `put_eye` meets its contract: the kind, two bytes of each count, and the axis. Assumes nothing.
use Rattle.std.proofs.Common.{ℕ, ◌+◌, ◌-◌, ◌/◌, ◌%◌, List, set, ap, ◌∙◌, arith, length-set, rules}
use borrow.Rule.Slice.PartMut.{put_mid}
use Rattle.prescription.proofs.Bytes.{bytes-put}
use Rattle.prescription.proofs.texts.put_eye.Goals as goal

pub returns : goal.returns
returns c =
    let at = c.args.at in
    let e = c.args.eye in
    let kind = set c.args.text.now at e.kind in
    let sphere = set (set kind (at + 1) (e.sphere / 256)) (at + 2) (e.sphere % 256) in
    ap (λ (t : List ℕ). set t (at + 5) e.axis)
    (ap (λ (t : List ℕ). put_mid (at + 3) (at + 5 - (at + 3)) t c.copy_from_slice-2.new.self)
    (bytes-put kind (at + 1) (at + 2) _ e.sphere c.copy_from_slice.new.self (omega arith) (omega arith)
    (c.copy_from_slice.ensures.after ∙ c.to_be_bytes.ensures) (search rules) (omega (arith, length-set {A = ℕ})))
    ∙ bytes-put sphere (at + 3) (at + 4) _ e.cylinder c.copy_from_slice-2.new.self (omega arith) (omega arith)
    (c.copy_from_slice-2.ensures.after ∙ c.to_be_bytes-2.ensures) (search rules) (omega (arith, length-set {A = ℕ})))
