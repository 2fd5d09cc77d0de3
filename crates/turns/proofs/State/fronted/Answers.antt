-- `fronted` meets its contract: what waits is moved, or all stays. Assumes nothing.
use mathlib.Core.Path.{◌≡◌, refl, ◌∙◌}
use Rattle.std.proofs.Common.{ℕ, ◌+◌, ◌-◌, ◌≤◌, List, length, take, drop, arith}
use Rattle.std.proofs.Math.Seq.{paste, length-take-le}
use Rattle.std.proofs.Math.ListN.{length-drop}
use Rattle.text.specs.Text.{overwrite}
use Rattle.turns.proofs.Views.{front-waits}
use Rattle.turns.proofs.State.fronted.Goals as goal

-- the first k bytes from a position on, at the front
moved-is : (input : List ℕ) (from k : ℕ) → from + k ≤ length input → paste input 0 (drop from input) k ≡ overwrite 0 (take k (drop from input)) input
unfolding overwrite
moved-is input from k h =
    let e : length (take k (drop from input)) ≡ k = length-take-le k (drop from input) (omega (arith, length-drop from input)) in
    rw e

pub returns-in-Read-clause-waits : goal.returns-in-Read-clause-waits
returns-in-Read-clause-waits c =
    let s = c.args.self in
    let input = c.args.input.now in
    front-waits s input c.copy_within.new.self _ c.requires.1 c.requires.0 refl
    (c.copy_within.ensures.after ∙ moved-is input s.from (s.to - s.from) (omega arith))
