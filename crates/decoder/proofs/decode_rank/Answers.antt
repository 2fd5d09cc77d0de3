-- `decode_rank` meets its contract: 8, 9, or what the rank's placement gives. Assumes nothing.
use Rattle.refusals.specs.Numbers.{number_of}
use mathlib.Core.Path.{◌≡◌, sym, ap, ◌∙◌, subst}
use mathlib.Core.List.{List}
use Prim.Native.Nat.{ℕ, ◌*◌, ◌≤◌, ◌<◌}
use native.Mathlib.Nat.{div-le_self}
use native.Mathlib.Omega.{arith}
use lib.ListN.{take}
use Rattle.cells.specs.Outcomes.{held, decoded_from}
use Rattle.cells.specs.Figures.{Params, max_word, placement_count_of, rank, placement_of}
use Rattle.construction_a.specs.Figures.{parts}
use Rattle.construction_a.specs.Reading.{written, read_rank}
use Rattle.construction_a.proofs.Figures.{Served}
use Rattle.construction_a.proofs.Ranking.{rank-bijection}
use Rattle.params.specs.Given.{figures_of}
use Rattle.params.specs.declared.Layout.{Layout}
use Rattle.params.proofs.Fitting.{served}
use Rattle.placements.specs.Bridge.{starts_in}
use Rattle.placements.proofs.Calls.{room_of, starts-held}
use Rattle.blocks.specs.Blocks.{KindsOf}
use Rattle.blocks.specs.Numbers.{kind_numbers}
use Rattle.decoder.specs.Reader.{read_message}
use Rattle.decoder.proofs.Calls.{too_large, disagreeing, agreeing, ranked-read, placing}
use Rattle.decoder.proofs.decode_rank.Goals as goal
use Rattle.decoder.proofs.decode_rank.Goals.{After-kinds_of-kinds, Else-layout-rank, Else-not-agrees, Start}

abbrev l : Start → Layout
l s = s.args.layout

abbrev f : Start → Params
f s = figures_of s.args.layout

-- the index blocks that were read
abbrev ks : Start → List ℕ
ks s = take s.args.layout.m s.args.index

-- the rank's placement
abbrev ss : Start → List ℕ
ss s = placement_of (f s) s.args.rank

ok : (s : Start) → Served (f s)
ok s = served (l s) s.requires.0.fitting

burst-fits : (s : Start) → s.args.layout.b ≤ max_word
burst-fits s = omega (arith, (ok s).short, (ok s).range.n-most, div-le_self (f s).n (parts (f s) * (f s).m))

below : (c : Else-layout-rank) → c.args.rank < placement_count_of (f (goal.at.Else-layout-rank c).Start)
below c = omega (arith, c.if-layout-rank.false, c.requires.0.fitting.laid.count-is)

-- it is the whole value
rank-is : (c : Else-layout-rank) → c.args.rank ≡ written (f (goal.at.Else-layout-rank c).Start) c.args.word.now (ks (goal.at.Else-layout-rank c).Start)
rank-is c = omega (arith, c.if-layout-rank.false, c.requires.0.spelled)

pub returns-then-layout-rank : goal.returns-then-layout-rank
returns-then-layout-rank c =
    c.unread.ensures number_of c.args.message.now
    ∙ sym (ap (decoded_from (l (goal.at.returns-then-layout-rank c).Start).b c.args.message.now)
    (too_large (f (goal.at.returns-then-layout-rank c).Start) c.args.word.now (ks (goal.at.returns-then-layout-rank c).Start) (omega (arith, c.if-layout-rank.true, c.requires.0.spelled, c.requires.0.fitting.laid.count-is))))

pub overflow_cast-layout : goal.overflow_cast-layout
overflow_cast-layout c = omega (arith, (ok (goal.at.overflow_cast-layout c).Start).range.n-most)

pub overflow_cast-layout-2 : goal.overflow_cast-layout-2
overflow_cast-layout-2 c = omega (arith, (ok (goal.at.overflow_cast-layout-2 c).Start).range.m-most)

pub overflow_cast-layout-3 : goal.overflow_cast-layout-3
overflow_cast-layout-3 c = omega (arith, burst-fits (goal.at.overflow_cast-layout-3 c).Start)

pub unrank-placement-requires : goal.unrank-placement-requires
unrank-placement-requires c =
    (room_of (f (goal.at.unrank-placement-requires c).Start) (ok (goal.at.unrank-placement-requires c).Start), (ok (goal.at.unrank-placement-requires c).Start).counted, below (goal.at.unrank-placement-requires c).Else-layout-rank)

pub kinds_of-kinds-requires : goal.kinds_of-kinds-requires
kinds_of-kinds-requires c =
    (placing (l (goal.at.kinds_of-kinds-requires c).Start) c.args.rank c.unrank-placement.result c.requires.0.fitting (below (goal.at.kinds_of-kinds-requires c).Else-layout-rank) c.unrank-placement.ensures, c.requires.1)

-- the kinds are those of the rank's placement
kinds-at : (c : After-kinds_of-kinds) → KindsOf (f (goal.at.After-kinds_of-kinds c).Start)
    (ss (goal.at.After-kinds_of-kinds c).Start) (kind_numbers c.kinds_of-kinds.result)
kinds-at c =
    subst (λ (r : List ℕ). KindsOf (f (goal.at.After-kinds_of-kinds c).Start) r (kind_numbers c.kinds_of-kinds.result)) (starts-held {p = c.unrank-placement.result} (ss (goal.at.After-kinds_of-kinds c).Start) c.unrank-placement.ensures)
    c.kinds_of-kinds.ensures

pub returns-then-not-agrees : goal.returns-then-not-agrees
returns-then-not-agrees c =
    let w = c.args.word.now in
    let out = c.args.message.now in
    c.unread-then-not-agrees.ensures number_of out
    ∙ sym (ap (decoded_from (l (goal.at.returns-then-not-agrees c).Start).b out) (ap (read_rank (f (goal.at.returns-then-not-agrees c).Start) w (ks (goal.at.returns-then-not-agrees c).Start)) (sym (rank-is (goal.at.returns-then-not-agrees c).Else-layout-rank)) ∙ disagreeing (f (goal.at.returns-then-not-agrees c).Start) w (ks (goal.at.returns-then-not-agrees c).Start) c.args.rank (below (goal.at.returns-then-not-agrees c).Else-layout-rank)
    (rw (← c.agrees.ensures (ss (goal.at.returns-then-not-agrees c).Start) (kinds-at (goal.at.returns-then-not-agrees c).After-kinds_of-kinds)) (c.if-not-agrees.true))))

-- what is left to read goes by the rank's placement
placed : (c : Else-not-agrees) → read_rank (f (goal.at.Else-not-agrees c).Start)
    c.args.word.now
    (ks (goal.at.Else-not-agrees c).Start)
    c.args.rank
    ≡ read_message (l (goal.at.Else-not-agrees c).Start)
    c.args.word.now
    (starts_in c.unrank-placement.result)
placed c =
    let w = c.args.word.now in
    let un = c.unrank-placement in
    agreeing (l (goal.at.Else-not-agrees c).Start) c.requires.0.fitting w (ks (goal.at.Else-not-agrees c).Start) c.args.rank (below (goal.at.Else-not-agrees c).Else-layout-rank)
    (rw (← c.agrees.ensures (ss (goal.at.Else-not-agrees c).Start) (kinds-at (goal.at.Else-not-agrees c).After-kinds_of-kinds)) (c.if-not-agrees.false))
    ∙ ap (read_message (l (goal.at.Else-not-agrees c).Start) w) (sym (starts-held {p = un.result} (ss (goal.at.Else-not-agrees c).Start) un.ensures))

pub decode_placed-requires : goal.decode_placed-requires
decode_placed-requires c =
    let w = c.args.word.now in
    let un = c.unrank-placement in
    let same = starts-held {p = un.result} (ss (goal.at.decode_placed-requires c).Start) un.ensures in (
      record {
        lent = c.requires.0.lent;
        placing = placing (l (goal.at.decode_placed-requires c).Start) c.args.rank un.result c.requires.0.fitting (below (goal.at.decode_placed-requires c).Else-layout-rank) un.ensures;
        is_held = un.ensures ∙ ap held (sym same);
        ranked = sym (ap (rank (f (goal.at.decode_placed-requires c).Start)) same ∙ (rank-bijection (f (goal.at.decode_placed-requires c).Start) (ok (goal.at.decode_placed-requires c).Start)).same c.args.rank (below (goal.at.decode_placed-requires c).Else-layout-rank));
        read-as = ranked-read (l (goal.at.decode_placed-requires c).Start) c.requires.0.fitting w (ks (goal.at.decode_placed-requires c).Start) c.args.rank c.requires.0.index (rank-is (goal.at.decode_placed-requires c).Else-layout-rank) ∙ placed (goal.at.decode_placed-requires c).Else-not-agrees;
      },
      (c.requires.1, c.kinds_of-kinds.ensures),
    )

pub returns : goal.returns
returns c =
    rw (← rank-is (goal.at.returns c).Else-layout-rank, placed (goal.at.returns c).Else-not-agrees) c.decode_placed.ensures
