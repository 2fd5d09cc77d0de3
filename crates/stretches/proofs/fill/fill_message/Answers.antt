-- `fill_message` meets its contract. Assumes nothing.
use mathlib.Core.Path.{refl, ap, ◌∙◌}
use Prim.Native.Nat.{◌-◌}
use native.Mathlib.Omega.{arith}
use lib.ListN.{take, drop}
use Rattle.cells.proofs.Walk.{rest-is}
use Rattle.stretches.proofs.Part.{part-put}
use borrow.Author.Rules.{rules}
use Rattle.stretches.proofs.fill.fill_message.Goals as goal

pub returns : goal.returns
returns c =
    let a = c.args in
    let len = a.to - a.from.at in
    let part = c.copy_first in
    let put = part-put a.from.at a.to a.word.now part.new.to (take len (drop a.from.sent a.message.now)) (omega arith) (omega arith)
    (search rules)
    (part.ensures ∙ ap (take len) (rest-is a.from.sent a.message.now)) in
    record { at-is = refl; indexed-is = refl; sent_is = refl; passed_is = refl; stop_is = refl; made = put.0; size = put.1 }
