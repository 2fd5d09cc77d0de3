-- `fill_borne` meets its contract: the tables and the digits are those of the placement. Assumes nothing.
use mathlib.Core.Path.{◌≡◌, ap}
use mathlib.Core.List.{◌∷◌}
use Prim.Native.Nat.{◌+◌}
use native.Mathlib.Omega.{arith}
use lib.ListN.{length, take}
use Rattle.larsson.specs.Writing.{rank_digits}
use Rattle.larsson.proofs.Complete.{length-rank}
use Rattle.placements.specs.Bridge.{starts_in}
use Rattle.larsson_params.specs.declared.LarssonLayout.{LarssonLayout}
use Rattle.larsson_params.specs.Given.{larsson_figures_of}
use Rattle.larsson_params.proofs.Shape.{bound, long}
use Rattle.larsson_encoder.proofs.Spelling.{can-rank, few, can-spell, behind-lead}
use Rattle.larsson_encoder.proofs.fill.fill_borne.Goals as goal
use Rattle.larsson_encoder.proofs.fill.fill_borne.Goals.{After-spelled-digits, Start}

abbrev l : Start → LarssonLayout
l s = s.args.layout

-- the digits that were spelled
digits_are : (c : After-spelled-digits)
    → (take ((l (goal.at.After-spelled-digits c).Start).sub_len + 1) c.spelled-digits.result ≡ 1 ∷ rank_digits (larsson_figures_of (l (goal.at.After-spelled-digits c).Start)) (starts_in c.args.at))
digits_are c =
    let r = c.rank-rank in
    behind-lead (l (goal.at.After-spelled-digits c).Start) c.args.at c.args.message.now c.args.word.now c.requires.0 r.result c.spelled-digits.result r.ensures c.spelled-digits.ensures

pub overflow_cast-layout : goal.overflow_cast-layout
overflow_cast-layout c =
    omega (arith, long (l (goal.at.overflow_cast-layout c).Start) c.requires.0.layout, bound (l (goal.at.overflow_cast-layout c).Start) c.requires.0.layout)

pub rank-rank-requires : goal.rank-rank-requires
rank-rank-requires c =
    can-rank (l (goal.at.rank-rank-requires c).Start) c.args.at c.args.message.now c.args.word.now c.requires.0

pub spelled-digits-requires : goal.spelled-digits-requires
spelled-digits-requires c =
    can-spell (l (goal.at.spelled-digits-requires c).Start) c.args.at c.args.message.now c.args.word.now c.requires.0 c.rank-rank.result c.rank-rank.ensures

pub overflow_add-count : goal.overflow_add-count
overflow_add-count c =
    omega (arith, few (l (goal.at.overflow_add-count c).Start) c.args.at c.args.message.now c.args.word.now c.requires.0)

pub slice_bounds-digits-end : goal.slice_bounds-digits-end
slice_bounds-digits-end c =
    omega (arith, few (l (goal.at.slice_bounds-digits-end c).Start) c.args.at c.args.message.now c.args.word.now c.requires.0)

pub slice_bounds-fill_digits-end : goal.slice_bounds-fill_digits-end
slice_bounds-fill_digits-end c =
    omega (arith, ap length (digits_are (goal.at.slice_bounds-fill_digits-end c).After-spelled-digits), length-rank (larsson_figures_of (l (goal.at.slice_bounds-fill_digits-end c).Start)) (starts_in c.args.at), c.requires.0.layout.laid.sub_is)

pub fill_digits-requires : goal.fill_digits-requires
fill_digits-requires c =
    (c.requires.0, c.requires.1, c.starts_of-starts.ensures, c.bearers_of.ensures, digits_are (goal.at.fill_digits-requires c).After-spelled-digits)
