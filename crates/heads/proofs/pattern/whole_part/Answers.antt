-- `whole_part` meets its contract: the first j blocks of the part stand in the answer. Assumes nothing.
use Prim.Native.Nat.{◌*◌}
use native.Mathlib.Omega.{arith}
use Rattle.combinatorics.proofs.Members.{take-is}
use Rattle.heads.proofs.pattern.whole_part.Goals as goal

pub returns : goal.returns
returns c =
    let t = c.loop-j in
    let a = c.args in
    take-is a.m (a.part * a.m) t.blocks (λ x. x) (omega arith) (λ x l. t.invariant.2 x (omega arith))
