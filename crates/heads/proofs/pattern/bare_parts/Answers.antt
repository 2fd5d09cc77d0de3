-- `bare_parts` meets its contract: `bare` holds those among the first i parts. Assumes nothing.
use mathlib.Core.Path.{◌≡◌, sym, ap, ◌∙◌}
use mathlib.Core.Bool.{Bool, not}
use mathlib.Core.List.{List}
use Prim.Native.Nat.{ℕ}
use native.Mathlib.Omega.{arith}
use Rattle.combinatorics.specs.Stretch.{has, members}
use Rattle.construction_a.specs.Writing.{row}
use Rattle.construction_a.specs.Reading.{looks_fixed, bare_parts}
use Rattle.params.proofs.Shape.{bound}
use Rattle.params.specs.declared.Layout.{Layout}
use Rattle.params.specs.Given.{figures_of}
use Rattle.heads.specs.Patterns.{candidates_of}
use Rattle.heads.proofs.Listed.{candidates-few, candidates-in, candidates-out}
use Rattle.heads.proofs.pattern.bare_parts.Goals as goal
use Rattle.heads.proofs.pattern.bare_parts.Goals.{then-is_bare, else-is_bare}

-- the parts without a block that looks fixed
abbrev Bare : Layout → List ℕ → ℕ → Bool
Bare l w = λ x. not (has l.m 0 (row l.m (looks_fixed (figures_of l) w) x))

pub loop-i-init : goal.loop-i-init
unfolding members
loop-i-init c = (omega arith, c.none-bare.ensures)

pub with_next-bare-requires : goal.with_next-bare-requires
with_next-bare-requires c =
    let t = c.loop-i in
    omega (arith, candidates-few t.bare t.i (Bare c.args.layout c.args.word.now) t.invariant.1, bound c.args.layout c.requires.0.layout)

-- part i is bare as its test says
pub loop-i-preserved : goal.loop-i-preserved
loop-i-preserved c =
    let w = Bare c.args.layout c.args.word.now in
    let t = c.loop-i in
    let e : w t.i ≡ c.is_bare.result = sym c.is_bare.ensures in
    elim c.if-is_bare.branch [
      | then-is_bare u ↦ (omega arith, u.bare-is ∙ u.with_next-bare.ensures (members t.i 0 w) t.invariant.1 ∙ candidates-in t.i w (e ∙ u.if-is_bare.true))
      | else-is_bare u ↦ (omega arith, u.bare-is ∙ candidates-out t.bare t.i w t.invariant.1 (e ∙ u.if-is_bare.false))
    ]

pub returns : goal.returns
unfolding bare_parts
returns c =
    let t = c.loop-i in
    let e : t.i ≡ c.args.layout.parts = omega arith in
    t.invariant.1 ∙ ap (λ (y : ℕ). candidates_of (members y 0 (Bare c.args.layout c.args.word.now))) e
