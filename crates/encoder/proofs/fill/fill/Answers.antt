-- `fill` meets its contract: what the blocks' kinds and the digits of the index blocks give is the word. Assumes nothing.
use mathlib.Core.Path.{◌≡◌, ap}
use Prim.Native.Nat.{ℕ, ◌+◌, ◌*◌}
use native.Mathlib.Numerals.{add-one}
use native.Mathlib.Omega.{arith}
use borrow.Author.Rules.{rules}
use lib.ListN.{length, take}
use Rattle.params.specs.Given.{max_blocks}
use Rattle.params.specs.declared.Layout.{Layout}
use Rattle.params.proofs.Either.{in-shape}
use Rattle.params.proofs.Shape.{bound}
use Rattle.placements.specs.Bridge.{starts_in}
use Rattle.stretches.specs.ByBlock.{Tables}
use Rattle.stretches.proofs.ByLayout.{walks-of, plan-of, message-of, digits-lent, digits-of}
use Rattle.blocks.specs.Numbers.{kind_numbers}
use Rattle.encoder.proofs.Room.{count_most, spelled_count, spellable, word_of}
use Rattle.encoder.proofs.fill.fill.Goals as goal
use Rattle.encoder.proofs.fill.fill.Goals.{Start}

-- ---- What the contract lends

abbrev l : Start → Layout
l s = s.args.layout

pub spelled-digits-requires : goal.spelled-digits-requires
spelled-digits-requires c =
    spellable (l (goal.at.spelled-digits-requires c).Start) c.requires.0 (starts_in c.args.at) _ c.requires.1.placing.placed c.index_value-value.ensures

pub overflow_add-count : goal.overflow_add-count
overflow_add-count c = omega (arith, (bound (l (goal.at.overflow_add-count c).Start) (in-shape (l (goal.at.overflow_add-count c).Start) c.requires.0)).tail-room, (bound (l (goal.at.overflow_add-count c).Start) (in-shape (l (goal.at.overflow_add-count c).Start) c.requires.0)).n-most)

pub overflow_mul-count : goal.overflow_mul-count
overflow_mul-count c = rw (add-one (l (goal.at.overflow_mul-count c).Start).index_tail) (omega (arith, count_most (l (goal.at.overflow_mul-count c).Start) c.requires.0))

pub slice_bounds-digits-end : goal.slice_bounds-digits-end
slice_bounds-digits-end c = rw (add-one (l (goal.at.slice_bounds-digits-end c).Start).index_tail) (omega (arith, count_most (l (goal.at.slice_bounds-digits-end c).Start) c.requires.0))

pub slice_bounds-fill_cells-end : goal.slice_bounds-fill_cells-end
slice_bounds-fill_cells-end c =
    let spelled = c.spelled-digits in
    let count = spelled_count (l (goal.at.slice_bounds-fill_cells-end c).Start).q (l (goal.at.slice_bounds-fill_cells-end c).Start).m (l (goal.at.slice_bounds-fill_cells-end c).Start).index_tail _ spelled.result spelled.ensures in
    omega (arith, count, ap (λ (y : ℕ). (l (goal.at.slice_bounds-fill_cells-end c).Start).m * y) (add-one (l (goal.at.slice_bounds-fill_cells-end c).Start).index_tail))

pub slice_bounds-fill_cells-end-2 : goal.slice_bounds-fill_cells-end-2
slice_bounds-fill_cells-end-2 c =
    let spelled = c.spelled-digits in
    let count = spelled_count (l (goal.at.slice_bounds-fill_cells-end-2 c).Start).q (l (goal.at.slice_bounds-fill_cells-end-2 c).Start).m (l (goal.at.slice_bounds-fill_cells-end-2 c).Start).index_tail _ spelled.result spelled.ensures in
    omega (arith, count, ap (λ (y : ℕ). (l (goal.at.slice_bounds-fill_cells-end-2 c).Start).m * y) (add-one (l (goal.at.slice_bounds-fill_cells-end-2 c).Start).index_tail))

pub fill_cells-requires : goal.fill_cells-requires
fill_cells-requires c =
    let p = c.requires.1.placing in
    let spelled = c.spelled-digits in
    let ds = take ((l (goal.at.fill_cells-requires c).Start).m * ((l (goal.at.fill_cells-requires c).Start).index_tail + 1)) spelled.result in
    let count = spelled_count (l (goal.at.fill_cells-requires c).Start).q (l (goal.at.fill_cells-requires c).Start).m (l (goal.at.fill_cells-requires c).Start).index_tail _ spelled.result spelled.ensures in
    let heads = c.put_heads in
    let kinds = c.kinds_of-kinds in
    let tables : Tables (l (goal.at.fill_cells-requires c).Start) c.args.at heads.new.heads (kind_numbers kinds.result) = (heads.ensures, kinds.ensures) in
    let walks = walks-of (l (goal.at.fill_cells-requires c).Start) c.args.at heads.new.heads (kind_numbers kinds.result) p tables in
    let all : length kinds.result ≡ max_blocks = search rules in
    rw c.walk_of.ensures
    record {
      tables = record {
        walks = walks;
        digits-lent = digits-lent (l (goal.at.fill_cells-requires c).Start) c.args.at heads.new.heads (kind_numbers kinds.result) p tables ds count;
        message-lent = message-of (l (goal.at.fill_cells-requires c).Start) c.args.at heads.new.heads (kind_numbers kinds.result) p tables c.args.message.now c.requires.1.sent;
        room = c.requires.1.room;
      };
      known = omega (arith, walks.blocks-most, all);
    }

pub returns : goal.returns
returns c =
    let at = c.args.at in
    let p = c.requires.1.placing in
    let spelled = c.spelled-digits in
    let value = c.index_value-value in
    let ds = take ((l (goal.at.returns c).Start).m * ((l (goal.at.returns c).Start).index_tail + 1)) spelled.result in
    let count = spelled_count (l (goal.at.returns c).Start).q (l (goal.at.returns c).Start).m (l (goal.at.returns c).Start).index_tail _ spelled.result spelled.ensures in
    let heads = c.put_heads in
    let kinds = c.kinds_of-kinds in
    let tables : Tables (l (goal.at.returns c).Start) at heads.new.heads (kind_numbers kinds.result) = (heads.ensures, kinds.ensures) in
    let filled = rw (
      c.walk_of.ensures,
      plan-of (l (goal.at.returns c).Start) at heads.new.heads (kind_numbers kinds.result) p tables,
      digits-of (l (goal.at.returns c).Start) at heads.new.heads (kind_numbers kinds.result) p tables ds count,
    ) at c.fill_cells.ensures in
    word_of (l (goal.at.returns c).Start) c.requires.0 (starts_in at) spelled.result c.args.message.now _ value.result p.placed value.ensures spelled.ensures filled
