-- Laws of a message that is taken so far, for a walk in code: how it goes on. Assumes nothing.
use mathlib.Core.Path.{◌≡◌, refl}
use mathlib.Core.Bool.{false}
use mathlib.Core.List.{List}
use Prim.Native.Nat.{ℕ, suc, ◌+◌, ◌-◌, ◌≤◌, ◌<◌}
use native.Mathlib.Omega.{arith}
use lib.ListN.{length}
use Rattle.combinatorics.proofs.Cases.{by_bool}
use Rattle.cells.specs.Cells.{Cell, fixed, digit, message, is}
use Rattle.cells.specs.Plan.{Frame, kind_in}
use Rattle.placements.specs.declared.Placement.{Placement}
use Rattle.placements.specs.Bridge.{starts_in}
use Rattle.stretches.specs.declared.Walk.{Walk}
use Rattle.stretches.specs.declared.taking.Taking.{Taking}
use Rattle.stretches.specs.Walk.{head_cells, frame_by}
use Rattle.stretches.specs.ByBlock.{Cells, EntersBlock}
use Rattle.stretches.specs.Take.{Takes, TakenTo, CellsTaken}
use Rattle.stretches.proofs.ByBlock.{walkable, fixed-cells, index-cells, head-past}
use Rattle.stretches.proofs.Picking.{taken-room, taken-other, taken-turn}

module _ {w : Walk} {at : Placement} {heads kinds ws out : List ℕ} {x taken : ℕ} (R : Takes w at heads kinds ws out x taken) where
  abbrev g : Frame
  g = frame_by w heads kinds (starts_in at)

  module _ (to : ℕ) (up : x ≤ to) (in-word : to ≤ w.n) where
    -- cells of another kind hold nothing of it
    pub passes : (kind : Cell) → Cells g kind x to → is message kind ≡ false → Takes w at heads kinds ws out to taken
    passes kind same other =
        record { walks = R.walks; whole = R.whole; so_far = taken-other w.n (kind_in g) ws x to taken out R.so_far up in-word kind same other }

    -- there is room for message cells
    pub room : Cells g message x to → taken + (to - x) ≤ length out
    room same = taken-room w.n (kind_in g) ws x to taken out R.so_far up in-word same

  -- a block's head is no message
  pub passes-head : (k i : ℕ) → k < w.blocks → EntersBlock g w.b (starts_in at) k x i → Takes w at heads kinds ws out (x + head_cells g k) taken
  unfolding head_cells
  passes-head k i l e =
      let v = walkable R.walks in
      let within = (head-past v k x i l e).between.within in
      by_bool (g.is_index k) (λ t. rw t (passes (x + suc g.tail) (omega arith) (rw t at within) digit (index-cells v k x i l e t) refl))
      (λ t. by_bool (g.is_burst k)
      (λ d. let none : x + 0 ≡ x = omega arith in rw (t, d, none) R)
      (λ d. rw (t, d) (passes (x + 1) (omega arith) (rw (t, d) at within) fixed (fixed-cells v k x i l e t d) refl)))

-- by what the function that takes cells gives back
pub cells-taken : {w : Walk} {at : Placement} {heads kinds ws out out' : List ℕ} {from here : Taking} → TakenTo w at heads kinds ws out from
    → (to : ℕ) → from.at ≤ to → to ≤ w.n → Cells (frame_by w heads kinds (starts_in at)) message from.at to → CellsTaken ws out out' to from here
    → TakenTo w at heads kinds ws out' here
cells-taken {w} {at} {heads} {kinds} {ws} {out} {out'} {from} {here} R to up in-word same m =
    rw (m.at-is, m.taken_is)
    record {
      walks = R.walks;
      whole = R.whole;
      so_far =
          taken-turn w.n (kind_in (frame_by w heads kinds (starts_in at))) ws from.at to from.taken out R.so_far up in-word message same refl
          R.whole out' m.size m.made;
    }
