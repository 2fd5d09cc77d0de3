-- Where the burst of Construction B ends in its part, as it is worked out. Assumes nothing.
use mathlib.Core.Path.{◌≡◌, sym}
use Prim.Native.Nat.{ℕ, suc, ◌+◌, ◌-◌, ◌≤◌, ◌<◌}
use native.Mathlib.Omega.{arith}
use lib.ListN.{get_or}
use Rattle.cells.specs.Cut.{piece_start}
use Rattle.construction_b.specs.Figures.{LongParams, parts, head_of}
use Rattle.construction_b.specs.Writing.{start_in, burst_part, end_offset}
use Rattle.construction_b.proofs.Plan.{in-part}
use Rattle.params.specs.Given.{LongLayoutFits}
use Rattle.params.specs.declared.Layout.{Layout}
use Rattle.placements.specs.Bridge.{starts_in, PlacesBursts}
use Rattle.placements.specs.declared.Placement.{Placement}
use Rattle.placements.proofs.Placing.{start_is, start-in}

-- the offset from the first position of the part that has the last one
pub offset-is : (f : LongParams) (s p e head : ℕ) → p ≡ parts → head ≡ piece_start f.n p e → e < p
    → piece_start f.n p e ≤ s + f.b - 1 → s + f.b - 1 < piece_start f.n p (suc e) → s + f.b - 1 - head ≡ end_offset f s
unfolding end_offset burst_part
offset-is f s p e head same h =
    rw (h, same) (λ (l : e < parts) (a : head_of f e ≤ s + f.b - 1) (c : s + f.b - 1 < head_of f (suc e)). rw (in-part f e (s + f.b - 1) l a c))

module _ (l : Layout) (at : Placement) (g : LongLayoutFits l) (p : PlacesBursts l at) where
  -- its one start
  pub first-start : get_or at.starts 0 0 ≡ start_in (starts_in at)
  first-start = sym (start_is l at p 0 (omega (arith, g.laid.m-is)))

  pub first-in : get_or at.starts 0 0 + l.b ≤ l.n
  first-in = start-in l at p 0 (omega (arith, g.laid.m-is))
