-- `all_below` meets its contract: every byte is below 256, no symbol below 0, and a bound over the largest is one over all. Assumes nothing.
use mathlib.Core.Path.{◌≡◌, sym, ap, ◌∙◌}
use Prim.Native.Nat.{ℕ}
use native.Mathlib.Omega.{arith}
use borrow.Author.Rules.{rules}
use Rattle.combinatorics.specs.Lists.{all_below}
use Rattle.combinatorics.proofs.Lists.{at-below}
use Rattle.symbols.proofs.Bound.{none_below}
use Rattle.symbols.proofs.all_below.Goals as goal

pub returns-then-bound-ge-BYTE_VALUES : goal.returns-then-bound-ge-BYTE_VALUES
returns-then-bound-ge-BYTE_VALUES c =
    sym (at-below c.args.bound c.args.symbols.now (λ x h. search rules))

pub returns-then-bound-eq0 : goal.returns-then-bound-eq0
returns-then-bound-eq0 c =
    let xs = c.args.symbols.now in
    let none : c.args.bound ≡ 0 = omega arith in
    none_below xs ∙ ap (λ (q : ℕ). all_below q xs) (sym none)
