-- `copy_long` meets its contract: the symbols so far are copied, and the last move starts among them or right behind. Assumes nothing.
use mathlib.Core.Path.{◌≡◌, ◌∙◌}
use Prim.Native.Nat.{ℕ, ◌+◌, ◌-◌, ◌≤◌}
use native.Mathlib.Omega.{arith}
use borrow.Author.Rules.{rules}
use lib.ListN.{length, take}
use borrow.Rule.Slice.PartMut.{same_len_mid}
use Rattle.symbols.proofs.Copied.{copied-turn, copied-last}
use Rattle.symbols.proofs.copy_long.Goals as goal
use Rattle.symbols.proofs.copy_long.Goals.{else-loop-done-test, then-loop-done-test+else-size-rest}

pub loop-done-preserved : goal.loop-done-preserved
loop-done-preserved c =
    let part = c.copy_by in (
      omega arith,
      same_len_mid c.loop-done.done (length c.loop-done.to - c.loop-done.done) c.loop-done.to part.new.to (search rules) ∙ c.loop-done.invariant.1,
      copied-turn c.loop-done.done c.args.size c.loop-done.to c.args.from.now part.new.to
          (search rules) (search rules) c.loop-done.invariant.2 part.ensures,
    )

pub returns : goal.returns
returns c =
    let a = c.args in
    let out = c.loop-done-test.to in
    let part = c.copy_by-2 in
    let last = λ (d : ℕ) (h : a.len - a.size ≤ d) (e : take d out ≡ take d a.from.now).
    copied-last d a.size a.len out a.from.now part.new.to (search rules) h (search rules) (search rules) e part.ensures in
    elim c.loop-done-test.branch [
      | else-loop-done-test w ↦ last c.loop-done.done (omega arith) (rw w.to-is c.loop-done.invariant.2)
      | then-loop-done-test+else-size-rest w ↦
          last (c.loop-done.done + a.size) (omega arith)
          (rw w.to-is (copied-turn c.loop-done.done a.size c.loop-done.to a.from.now w.copy_by.new.to
          (search rules) (search rules) c.loop-done.invariant.2 w.copy_by.ensures))
    ]
