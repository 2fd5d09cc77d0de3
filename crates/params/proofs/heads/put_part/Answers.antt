-- `put_part` meets its contract: the first j blocks of the part have their entries, and those before the part stand. Assumes nothing.
use mathlib.Core.Path.{◌≡◌, refl, ◌∙◌}
use Prim.Native.Nat.{ℕ, ◌+◌, ◌≤◌}
use native.Mathlib.Numerals.{add-one}
use native.Mathlib.Omega.{arith}
use lib.ListN.{length-set}
use Rattle.cells.specs.Cut.{piece_start}
use Rattle.cells.proofs.Cut.{piece-zero, piece-next, piece-most}
use Rattle.cells.specs.Figures.{max_word}
use Rattle.params.proofs.Starting.{set-stays, entry_more}
use Rattle.params.proofs.heads.put_part.Goals as goal
use Rattle.params.proofs.heads.put_part.Goals.{After-piece_len-head, In-loop-j}

pub loop-j-init : goal.loop-j-init
loop-j-init c = (omega (arith, piece-zero c.args.len c.args.m), c.requires.3, λ k h. refl, λ x h. absurd (omega arith))

-- no block of the part starts past the word's end, nor ends there
small : (c : In-loop-j) (i : ℕ) → i ≤ c.args.m
    → c.args.from + piece_start c.args.len c.args.m i ≤ max_word
small c i h =
    omega (arith, piece-most c.args.len c.args.m i c.requires.0 h, c.requires.2)

pub overflow_cast-heads : goal.overflow_cast-heads
overflow_cast-heads c = omega (arith, c.loop-j.invariant.0, small (goal.at.overflow_cast-heads c).In-loop-j c.loop-j.j (omega arith))

-- the next block starts behind this one
step : (c : After-piece_len-head)
    → (let a = c.args in c.loop-j.head + c.piece_len-head.result ≡ a.from + piece_start a.len a.m (c.loop-j.j + 1))
step c =
    let a = c.args in
    rw (add-one c.loop-j.j) (omega (arith, c.loop-j.invariant.0, c.piece_len-head.ensures, piece-next a.len a.m c.loop-j.j))

pub overflow_add-head : goal.overflow_add-head
overflow_add-head c = omega (arith, step (goal.at.overflow_add-head c).After-piece_len-head, small (goal.at.overflow_add-head c).In-loop-j (c.loop-j.j + 1) (omega arith))

pub loop-j-preserved : goal.loop-j-preserved
loop-j-preserved c =
    let a = c.args in
    let l = c.loop-j.invariant.1 in (
      step (goal.at.loop-j-preserved c).After-piece_len-head,
      simp length-set l,
      λ k h. set-stays c.loop-j.heads (a.first + c.loop-j.j) c.loop-j.head k (omega arith) ∙ c.loop-j.invariant.2 k h,
      entry_more c.loop-j.heads a.first c.loop-j.j c.loop-j.head (λ x. a.from + piece_start a.len a.m x)
          (omega (arith, c.requires.1, l)) c.loop-j.invariant.0 c.loop-j.invariant.3,
    )
