-- `spoil` meets its contract: the word is damaged before position x, and as it was from there on. Assumes nothing.
use mathlib.Core.Bool.{Bool}
use Prim.Native.Nat.{ℕ}
use native.Mathlib.Omega.{arith}
use Rattle.combinatorics.specs.Bursts.{in_burst}
use Rattle.placements.specs.Bridge.{starts_in}
use Rattle.roundtrip.proofs.Damaging.{damage-done}
use Rattle.roundtrip.proofs.spoil.Goals as goal
use Rattle.roundtrip.proofs.spoil.Goals.{Start}

-- the positions that are damaged
abbrev spoilt : Start → ℕ → Bool
spoilt s = in_burst s.args.b (starts_in s.args.at)

pub returns : goal.returns
returns c =
    let t = c.loop-x in
    damage-done (spoilt (goal.at.returns c).Start) c.args.damage.now c.args.word.now t.x t.word t.invariant (omega (arith, t.invariant.size, c.loop-x-test.false))
