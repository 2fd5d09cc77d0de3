-- `decode_index` meets its contract: 19, or what the value gives that the index blocks spell. Assumes nothing.
use Rattle.refusals.specs.Numbers.{number_of}
use mathlib.Core.Path.{◌≡◌, sym, ap, subst, ◌∙◌}
use mathlib.Core.Bool.{true}
use mathlib.Core.List.{List, [], ◌∷◌}
use mathlib.Core.Option.{some}
use Prim.Native.Nat.{ℕ}
use native.Mathlib.Omega.{arith}
use lib.ListN.{get_or, take}
use lib.Seq.{get_or-take}
use Rattle.combinatorics.specs.Lists.{all_below}
use Rattle.combinatorics.proofs.Lists.{below_at}
use Rattle.cells.specs.Erasures.{found_bound, has_erasure}
use Rattle.cells.specs.Outcomes.{decoded_from}
use Rattle.cells.proofs.Erasures.{found-least, below-whole}
use Rattle.construction_a.proofs.Found.{heads-below}
use Rattle.construction_b.specs.DemandTwo as B
use Rattle.params.specs.Given.{figures_of, long_of, blocks_coding, LayoutFits, LongLayoutFits, LayoutFitsWith}
use Rattle.params.specs.declared.Layout.{Layout}
use Rattle.params.specs.declared.Spells.{Spells}
use Rattle.params.proofs.Fitting.{heads-are, written_is}
use Rattle.params.proofs.LongFitting.{long-written-is}
use Rattle.params.proofs.Shape.{bound}
use Rattle.heads.specs.Written.{first_symbols_in, OpenHeads}
use Rattle.heads.proofs.Looking.{shown}
use Rattle.decoder.proofs.ByLayout.{read_value, index_in, read-erased, read-shown, long-found-is, long-heads-are, alone-some}
use Rattle.decoder.proofs.Started.{block-part}
use Rattle.decoder.proofs.decode_index.Goals as goal
use Rattle.decoder.proofs.decode_index.Goals.{Else-not-index_whole, In-EndOffset, In-Rank, Start}

abbrev l : Start → Layout
l s = s.args.layout

-- the index blocks that the word shows
found : (s : Start) → index_in (l s) s.args.word.now ≡ some (take (l s).m s.args.index)
found s = s.requires.0.pattern

-- none of them looks fixed
bare : (s : Start) → OpenHeads (l s) s.args.word.now s.args.index
bare s = shown (l s) s.args.word.now s.args.index s.requires.0.lent.finding (sym s.requires.0.pattern)

pub index_whole-requires : goal.index_whole-requires
index_whole-requires c = (c.requires.0.lent.scanned, bare (goal.at.index_whole-requires c).Start, c.requires.1)

-- no value above q is left
known : (s : Start) (ks : List ℕ) → all_below (found_bound (l s).q) (first_symbols_in (l s) s.args.word.now ks) ≡ true
known s ks =
    let q = (l s).q in
    heads-below (l s).index_tail (figures_of (l s)) (found_bound q) s.args.word.now ks
    (below_at (found_bound q) s.args.word.now (omega (arith, found-least q, (bound (l s) s.requires.0.lent.finding.layout).q-least)) s.requires.0.lent.found)

pub returns-then-not-index_whole : goal.returns-then-not-index_whole
returns-then-not-index_whole c =
    let ks = take (l (goal.at.returns-then-not-index_whole c).Start).m c.args.index in
    c.unread.ensures number_of c.args.message.now
    ∙ sym (ap (decoded_from (l (goal.at.returns-then-not-index_whole c).Start).b c.args.message.now)
    (read-erased (l (goal.at.returns-then-not-index_whole c).Start) c.requires.0.lent.fitting c.args.word.now ks (found (goal.at.returns-then-not-index_whole c).Start) (known (goal.at.returns-then-not-index_whole c).Start ks)
    (rw (← c.index_whole.ensures) (c.if-not-index_whole.true))))

-- ---- Index blocks that can be read

abbrev index : Else-not-index_whole → List ℕ
index c = c.args.index

abbrev ks : Else-not-index_whole → List ℕ
ks c = take (l (goal.at.Else-not-index_whole c).Start).m (index c)

-- their first symbols are below q
whole : (c : Else-not-index_whole) → all_below (l (goal.at.Else-not-index_whole c).Start).q (first_symbols_in (l (goal.at.Else-not-index_whole c).Start) c.args.word.now (ks c)) ≡ true
whole c = sym c.index_whole.ensures ∙ c.if-not-index_whole.false

pub written_value-value-requires : goal.written_value-value-requires
written_value-value-requires c = (bare (goal.at.written_value-value-requires c).Start, c.requires.1)

-- figures of Construction A
ranked : (c : In-Rank) → LayoutFits (l (goal.at.In-Rank c).Start)
ranked c = subst (λ (s : Spells). LayoutFitsWith s (l (goal.at.In-Rank c).Start)) c.in-Rank.is
    c.requires.0.lent.fitting

pub decode_rank-requires : goal.decode_rank-requires
decode_rank-requires c =
    let g = ranked (goal.at.decode_rank-requires c).In-Rank in
    let w = c.args.word.now in (
      record {
        fitting = g;
        lent = c.requires.0.lent;
        index =
            record {
              pattern = found (goal.at.decode_rank-requires c).Start;
              whole = ap (has_erasure (l (goal.at.decode_rank-requires c).Start).q) (sym (heads-are (l (goal.at.decode_rank-requires c).Start) g w (ks (goal.at.decode_rank-requires c).Else-not-index_whole))) ∙ below-whole (l (goal.at.decode_rank-requires c).Start).q (first_symbols_in (l (goal.at.decode_rank-requires c).Start) w (ks (goal.at.decode_rank-requires c).Else-not-index_whole)) (whole (goal.at.decode_rank-requires c).Else-not-index_whole);
            };
        spelled = rw (written_is (l (goal.at.decode_rank-requires c).Start) g w (ks (goal.at.decode_rank-requires c).Else-not-index_whole)) at c.written_value-value.ensures;
      },
      c.requires.1,
    )

-- figures of Construction B
long-burst : (c : In-EndOffset) → LongLayoutFits (l (goal.at.In-EndOffset c).Start)
long-burst c = subst (λ (s : Spells). LayoutFitsWith s (l (goal.at.In-EndOffset c).Start)) c.in-EndOffset.is
    c.requires.0.lent.fitting

-- its one index part
part-is : (c : In-EndOffset) → get_or (ks (goal.at.In-EndOffset c).Else-not-index_whole) 0 0 ≡ get_or (index (goal.at.In-EndOffset c).Else-not-index_whole) 0 0
part-is c =
    get_or-take (l (goal.at.In-EndOffset c).Start).m (index (goal.at.In-EndOffset c).Else-not-index_whole) 0 0 (omega (arith, (long-burst c).laid.m-is))

one-part : (c : In-EndOffset) → (B.found (long_of (figures_of (l (goal.at.In-EndOffset c).Start)))
    c.args.word.now ≡ some (get_or (index (goal.at.In-EndOffset c).Else-not-index_whole) 0 0))
    × (ks (goal.at.In-EndOffset c).Else-not-index_whole ≡ get_or (index (goal.at.In-EndOffset c).Else-not-index_whole) 0 0 ∷ [])
one-part c =
    let f = long_of (figures_of (l (goal.at.In-EndOffset c).Start)) in
    let w = c.args.word.now in
    let one = alone-some (B.found f w) (ks (goal.at.In-EndOffset c).Else-not-index_whole) (sym (long-found-is (l (goal.at.In-EndOffset c).Start) (long-burst c) w) ∙ found (goal.at.In-EndOffset c).Start) in
    (one.0 ∙ ap (λ (i : ℕ). some i) (part-is c), one.1 ∙ ap (λ (i : ℕ). i ∷ []) (part-is c))

pub decode_offset-requires : goal.decode_offset-requires
decode_offset-requires c =
    let g = long-burst (goal.at.decode_offset-requires c).In-EndOffset in
    let w = c.args.word.now in
    let i = get_or (index (goal.at.decode_offset-requires c).Else-not-index_whole) 0 0 in
    let one = one-part (goal.at.decode_offset-requires c).In-EndOffset in (
      record {
        fitting = g;
        lent = c.requires.0.lent;
        among = block-part (l (goal.at.decode_offset-requires c).Start) g i ((bare (goal.at.decode_offset-requires c).Start).within 0 (omega (arith, g.laid.m-is)));
        index =
            record {
              pattern = one.0;
              whole = ap (has_erasure (l (goal.at.decode_offset-requires c).Start).q) (sym (long-heads-are (l (goal.at.decode_offset-requires c).Start) g w i) ∙ ap (first_symbols_in (l (goal.at.decode_offset-requires c).Start) w) (sym one.1))
                  ∙ below-whole (l (goal.at.decode_offset-requires c).Start).q (first_symbols_in (l (goal.at.decode_offset-requires c).Start) w (ks (goal.at.decode_offset-requires c).Else-not-index_whole)) (whole (goal.at.decode_offset-requires c).Else-not-index_whole);
            };
        spelled = rw (one.1, long-written-is (l (goal.at.decode_offset-requires c).Start) g w i) at c.written_value-value.ensures;
      },
      c.requires.1,
    )

-- what is read goes by the value
shown-is : (c : Else-not-index_whole) (y : Spells) → (l (goal.at.Else-not-index_whole c).Start).spells ≡ y
    → decoded_from (l (goal.at.Else-not-index_whole c).Start).b c.args.message.now (read_value y (l (goal.at.Else-not-index_whole c).Start) c.args.word.now (ks c))
    ≡ decoded_from (l (goal.at.Else-not-index_whole c).Start).b c.args.message.now ((blocks_coding (l (goal.at.Else-not-index_whole c).Start)).codec.decode c.args.word.now)
shown-is c y e =
    let w = c.args.word.now in
    ap (decoded_from (l (goal.at.Else-not-index_whole c).Start).b c.args.message.now)
    (ap (λ (y : Spells). read_value y (l (goal.at.Else-not-index_whole c).Start) w (ks c)) (sym e) ∙ sym (read-shown (l (goal.at.Else-not-index_whole c).Start) c.requires.0.lent.fitting w (ks c) (found (goal.at.Else-not-index_whole c).Start)
    (known (goal.at.Else-not-index_whole c).Start (ks c)) (whole c)))

pub returns-in-Rank : goal.returns-in-Rank
returns-in-Rank c =
    rw (shown-is (goal.at.returns-in-Rank c).Else-not-index_whole _ c.in-Rank.is) at c.decode_rank.ensures

pub returns-in-EndOffset : goal.returns-in-EndOffset
returns-in-EndOffset c =
    rw (← part-is (goal.at.returns-in-EndOffset c).In-EndOffset, shown-is (goal.at.returns-in-EndOffset c).Else-not-index_whole _ c.in-EndOffset.is)
    at c.decode_offset.ensures
