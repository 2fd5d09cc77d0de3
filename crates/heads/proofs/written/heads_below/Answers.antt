-- `heads_below` meets its contract: the blocks from j on decide. Assumes nothing.
use mathlib.Core.Path.{◌≡◌, sym, ap, ◌∙◌}
use mathlib.Core.List.{List}
use Prim.Native.Nat.{ℕ, suc, ◌+◌, ◌-◌, ◌*◌, ◌≤◌, ◌<◌}
use native.Mathlib.Omega.{arith}
use lib.ListN.{length, get_or, take, drop, length-drop}
use lib.Seq.{get_or-take, get_or-drop, length-take-le}
use Rattle.cells.specs.Cut.{block_head}
use Rattle.construction_a.specs.Figures.{head_of}
use Rattle.params.specs.declared.Layout.{Layout}
use Rattle.params.specs.Given.{figures_of}
use Rattle.params.proofs.Shape.{bound, block_in, head-room, head-is}
use Rattle.heads.specs.Written.{OpenHeads}
use Rattle.heads.proofs.Whole.{tested-on, tested-fails, tested-all}
use Rattle.heads.proofs.written.heads_below.Goals as goal

-- block j is one of the word's, and its head lies within
module _ {l : Layout} {w ks : List ℕ} (h : OpenHeads l w ks) (j : ℕ) (g : j < l.m) where
  is_block : get_or ks j 0 < l.parts * l.m
  is_block = block_in l h.finding.layout (h.within j g)

  head-within : block_head l.n l.parts l.m (get_or ks j 0) + suc l.index_tail ≤ length w
  head-within = omega (arith, head-room l h.finding.layout (get_or ks j 0) is_block, h.finding.complete)

  -- its first r + 1 symbols, lent as a part of the word
  module _ (at : ℕ) (e : at ≡ block_head l.n l.parts l.m (get_or ks j 0)) where
    abbrev part : List ℕ
    part = take (at + l.index_tail + 1 - at) (drop at w)

    part-size : length part ≡ suc l.index_tail
    part-size = length-take-le (at + l.index_tail + 1 - at) (drop at w) (omega (arith, e, head-within, length-drop at w)) ∙ omega arith

    part-cells : (i : ℕ) → i < suc l.index_tail → get_or part i 0 ≡ get_or w (head_of (figures_of l) (get_or ks j 0) + i) 0
    part-cells i b =
        let is : at ≡ head_of (figures_of l) (get_or ks j 0) = e ∙ head-is l h.finding.layout (get_or ks j 0) in
        get_or-take (at + l.index_tail + 1 - at) (drop at w) i 0 (omega arith)
        ∙ get_or-drop at w i 0 ∙ ap (λ (y : ℕ). get_or w (y + i) 0) is

pub bounds-blocks-j : goal.bounds-blocks-j
bounds-blocks-j c =
    omega (arith, (bound c.args.layout c.requires.0.finding.layout).m-most)

pub slice_bounds-all_below-end : goal.slice_bounds-all_below-end
slice_bounds-all_below-end c =
    omega (arith, c.block_head-head.ensures, head-within c.requires.0 c.loop-j.j c.loop-j-test.true)

pub returns-then-not-all_below : goal.returns-then-not-all_below
returns-then-not-all_below c =
    let t = c.loop-j in
    let l = c.loop-j-test.true in
    let h = c.block_head-head in
    sym (tested-fails c.args.layout.index_tail (figures_of c.args.layout) c.args.word.now c.args.blocks t.j
    (part c.requires.0 t.j l h.result h.ensures) l (omega (arith, (bound c.args.layout c.requires.0.finding.layout).m-most))
    (part-size c.requires.0 t.j l h.result h.ensures) (part-cells c.requires.0 t.j l h.result h.ensures)
    (sym c.all_below.ensures ∙ c.if-not-all_below.true) t.invariant)

pub loop-j-preserved : goal.loop-j-preserved
loop-j-preserved c =
    let t = c.loop-j in
    let l = c.loop-j-test.true in
    let h = c.block_head-head in
    tested-on c.args.layout.index_tail (figures_of c.args.layout) c.args.word.now c.args.blocks t.j
    (part c.requires.0 t.j l h.result h.ensures) l (omega (arith, (bound c.args.layout c.requires.0.finding.layout).m-most))
    (part-size c.requires.0 t.j l h.result h.ensures) (part-cells c.requires.0 t.j l h.result h.ensures)
    (sym c.all_below.ensures ∙ c.if-not-all_below.false) t.invariant

pub returns : goal.returns
returns c =
    let t = c.loop-j in
    sym (tested-all c.args.layout.index_tail (figures_of c.args.layout) c.args.word.now c.args.blocks t.j (omega arith) t.invariant)
