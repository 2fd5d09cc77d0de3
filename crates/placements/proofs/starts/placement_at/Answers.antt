-- `placement_at` meets its contract: the first j starts are filled in, and the others are 0. Assumes nothing.
use mathlib.Core.Path.{◌≡◌, ap, ap₂, ◌∙◌}
use mathlib.Core.List.{List}
use Prim.Native.Nat.{ℕ}
use native.Mathlib.Omega.{arith}
use borrow.Author.Rules.{rules}
use lib.ListN.{set}
use Rattle.construction_a.specs.Outcomes.{Held}
use Rattle.placements.proofs.Begun.{begun, begun-none, begun-next, begun_all}
use Rattle.placements.proofs.starts.placement_at.Goals as goal
use Rattle.placements.proofs.starts.placement_at.Invariants.{start}

abbrev the-held : List ℕ → ℕ → Held
the-held s n = record { starts = s; count = n }

pub loop-j-init : goal.loop-j-init
loop-j-init c = (search rules, begun-none _)

pub loop-j-preserved : goal.loop-j-preserved
loop-j-preserved c =
    let a = c.args in
    let l = c.loop-j in
    let f : ℕ → ℕ = start a.bytes.now a.from in
    (l.invariant.0, ap₂ (λ (s : List ℕ) (v : ℕ). set s l.j v) l.invariant.1 c.two_bytes.ensures ∙ begun-next f l.j (omega arith))

pub returns : goal.returns
returns c =
    let a = c.args in
    let l = c.loop-j in
    let f : ℕ → ℕ = start a.bytes.now a.from in
    let e : l.j ≡ a.m = omega arith in
    ap₂ (λ (s : List ℕ) (n : ℕ). the-held s n) (l.invariant.1 ∙ ap (begun f) e) l.invariant.0 ∙ begun_all f a.m
