-- `take_cells` meets its contract. Assumes nothing.
use mathlib.Core.Path.{◌≡◌, refl, ap, ◌∙◌}
use Prim.Native.Nat.{◌+◌, ◌-◌}
use native.Mathlib.Omega.{arith}
use lib.ListN.{take, drop}
use Rattle.cells.proofs.Walk.{rest-is}
use Rattle.stretches.proofs.Part.{part-put}
use borrow.Author.Rules.{rules}
use Rattle.stretches.proofs.taking.take_cells.Goals as goal

pub returns : goal.returns
returns c =
    let a = c.args in
    let x = a.from.at in
    let taken = a.from.taken in
    let len = a.to - x in
    let part = c.copy_first in
    let long : taken + len - taken ≡ len = omega arith in
    let put = part-put taken (taken + len) a.message.now part.new.to (take len (drop x a.word.now)) (omega arith) (omega arith) (search rules)
    (rw long (part.ensures ∙ ap (take len) (rest-is x a.word.now))) in
    record { at-is = refl; taken_is = refl; passed_is = refl; stop_is = refl; made = put.0; size = put.1 }
