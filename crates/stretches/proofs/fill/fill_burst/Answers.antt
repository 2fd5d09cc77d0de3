-- `fill_burst` meets its contract. Assumes nothing.
use mathlib.Core.Path.{◌≡◌, refl}
use Prim.Native.Nat.{◌+◌, ◌-◌}
use native.Mathlib.Omega.{arith}
use lib.ListN.{replicate}
use Rattle.stretches.proofs.Part.{part-put}
use borrow.Author.Rules.{rules}
use Rattle.stretches.proofs.fill.fill_burst.Goals as goal

pub returns-clause-filled : goal.returns-clause-filled
returns-clause-filled c =
    let a = c.args in
    let to = a.from.at + a.walk.b in
    let len : to - a.from.at ≡ a.walk.b = omega arith in
    let part = c.clear_first in
    let put = part-put a.from.at to a.word.now part.new.to (replicate a.walk.b 0) (omega arith) (omega arith) (search rules)
    (rw len part.ensures) in
    record { at-is = refl; indexed-is = refl; sent_is = refl; passed_is = refl; made = put.0; size = put.1 }
