-- `agrees` meets its contract: no bearer before j has other symbols. Assumes nothing.
use mathlib.Core.Path.{◌≡◌, sym, ap, ◌∙◌}
use mathlib.Core.Bool.{Bool, true, false, not}
use Prim.Native.Nat.{ℕ, ◌+◌, ◌*◌, ◌-◌}
use native.Mathlib.Numerals.{add-one}
use native.Mathlib.Omega.{arith}
use Rattle.combinatorics.specs.Stretch.{has}
use Rattle.combinatorics.proofs.StretchLoops.{has_here, has_on, has-over}
use Rattle.cells.proofs.Figures.{Ranged}
use Rattle.larsson.specs.Figures.{sub_blocks}
use Rattle.blocks.specs.declared.Kind.TheVariants.{Index}
use Rattle.blocks.specs.Numbers.{kind_numbers}
use Rattle.blocks.proofs.Numbers.{kind-tested}
use Rattle.larsson_params.specs.Given.{larsson_figures_of}
use Rattle.larsson_params.proofs.Shape.{bound}
use Rattle.sub_blocks.proofs.Holding.{Other, agrees-by}
use Rattle.sub_blocks.proofs.held.agrees.Goals as goal
use Rattle.sub_blocks.proofs.held.agrees.Goals.{Start, else-eq-via-else-eq, else-eq-via-then-eq+else-not-same_symbols}

limits : (s : Start) → Ranged (larsson_figures_of s.args.layout)
limits s = bound s.args.layout s.requires.found.0.layout

-- the bearers with other symbols
abbrev Off : Start → ℕ → Bool
Off s = Other s.args.layout s.args.word.now s.args.i (kind_numbers s.args.kinds.now)

-- the loop's number of sub-blocks is the definition's
by-blocks : (s : Start) → has (2 * s.args.layout.m + 1) 0 (Off s) ≡ has (sub_blocks (larsson_figures_of s.args.layout)) 0 (Off s)
by-blocks s = ap (λ (n : ℕ). has n 0 (Off s)) (add-one (2 * s.args.layout.m))

pub overflow_mul-blocks : goal.overflow_mul-blocks
overflow_mul-blocks c = omega (arith, limits (goal.at.overflow_mul-blocks c).Start)

pub overflow_add-blocks : goal.overflow_add-blocks
overflow_add-blocks c = omega (arith, limits (goal.at.overflow_add-blocks c).Start)

pub bounds-kinds-j : goal.bounds-kinds-j
bounds-kinds-j c = omega (arith, c.loop-j-test.true, limits (goal.at.bounds-kinds-j c).Start)

pub returns-then-not-same_symbols : goal.returns-then-not-same_symbols
returns-then-not-same_symbols c =
    let a = c.args in
    let j = c.loop-j.j in
    let off : Off (goal.at.returns-then-not-same_symbols c).Start j ≡ true =
    rw (kind-tested a.kinds.now j Index ∙ sym c.if-eq.ensures, ← c.same_symbols.ensures) (ap not c.if-not-same_symbols.true) in
    let told = ap not (sym (has_here (2 * a.layout.m + 1) j (Off (goal.at.returns-then-not-same_symbols c).Start) (omega (arith, c.loop-j-test.true)) off)
    ∙ c.loop-j.invariant ∙ by-blocks (goal.at.returns-then-not-same_symbols c).Start) in
    λ ss is. told ∙ agrees-by a.layout a.word.now a.i c.requires.found.0 c.requires.found.2 ss (kind_numbers a.kinds.now) is

pub loop-j-preserved : goal.loop-j-preserved
loop-j-preserved c =
    let a = c.args in
    let j = c.loop-j.j in
    let n = 2 * a.layout.m + 1 in
    let on : Off (goal.at.loop-j-preserved c).Start j ≡ false → has (n - (j + 1)) (j + 1) (Off (goal.at.loop-j-preserved c).Start) ≡ has n 0 (Off (goal.at.loop-j-preserved c).Start) =
    λ e. sym (has_on n j (Off (goal.at.loop-j-preserved c).Start) (omega (arith, c.loop-j-test.true)) e) ∙ c.loop-j.invariant in
    elim c.else-eq.branch [
      | else-eq-via-then-eq+else-not-same_symbols u ↦
          on (rw (kind-tested a.kinds.now j Index ∙ sym u.if-eq.ensures, ← u.same_symbols.ensures) (ap not u.if-not-same_symbols.false))
      | else-eq-via-else-eq u ↦ on (rw (kind-tested a.kinds.now j Index ∙ sym u.if-eq.ensures))
    ]

pub returns : goal.returns
returns c =
    let a = c.args in
    let told = ap not (sym (has-over (2 * a.layout.m + 1) c.loop-j.j (Off (goal.at.returns c).Start) (omega (arith, c.loop-j-test.false))) ∙ c.loop-j.invariant ∙ by-blocks (goal.at.returns c).Start) in
    λ ss is. told ∙ agrees-by a.layout a.word.now a.i c.requires.found.0 c.requires.found.2 ss (kind_numbers a.kinds.now) is
