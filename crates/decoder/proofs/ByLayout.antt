-- What a word of a layout is read as, of either construction: patterns and heads of index blocks by the layout's shape, then by what the blocks spell.
-- Assumes nothing.
use mathlib.Core.Path.{◌≡◌, refl, sym, ap, ap₂, ◌∙◌}
use mathlib.Core.Bool.{true, false, not}
use mathlib.Core.List.{List, [], ◌∷◌, flat_map, append-nil}
use mathlib.Core.Option.{Option, none, some}
use Prim.Native.Nat.{ℕ, suc}
use native.Mathlib.Omega.{arith}
use lib.Dec.{eqb}
use lib.ListN.{get_or}
use Rattle.refusals.specs.Refusals.{must, no_pattern, erased}
use Rattle.combinatorics.specs.Lists.{all_below}
use Rattle.combinatorics.specs.Stretch.{tabulate}
use Rattle.cells.specs.Codec.{Reading, refused}
use Rattle.cells.specs.Erasures.{found_bound, has_erasure}
use Rattle.cells.proofs.Erasures.{erasure-is}
use Rattle.cells.specs.Figures.{Params}
use Rattle.construction_a.specs.Figures.{parts, head_of}
use Rattle.construction_a.specs.Reading.{looks_fixed, index_found, first_symbols_with, written, read_rank, read_from, read}
use Rattle.construction_b.specs.DemandTwo.{found}
use Rattle.construction_b.specs.Figures.{LongParams, index_tail_of}
use Rattle.construction_b.specs.Reading as B
use Rattle.construction_b.proofs.Base.{as_base, parts_same, head-same, alone, pattern-same}
use Rattle.params.specs.Given.{figures_of, long_of, LongLayoutFits, coding_with, blocks_coding, LayoutFits, LayoutFitsWith, BlocksServe}
use Rattle.params.specs.declared.Layout.{Layout}
use Rattle.params.specs.declared.Spells.{Spells}
use Rattle.params.specs.declared.Spells.TheVariants.{Rank, EndOffset}
use Rattle.params.proofs.Fitting.{heads-are}
use Rattle.params.proofs.LongFitting.{base-is}
use Rattle.heads.specs.Written.{first_symbols_in}

-- by the value that index blocks spell
abbrev pub read_value : Spells → Layout → List ℕ → List ℕ → Reading
read_value Rank l w ks = read_rank (figures_of l) w ks (written (figures_of l) w ks)
read_value EndOffset l w ks = let i = get_or ks 0 0 in B.read_part (long_of (figures_of l)) w (B.before i) (B.written (long_of (figures_of l)) w i)

abbrev read_index : Spells → Layout → List ℕ → Option (List ℕ) → Reading
read_index s l w none = refused no_pattern
read_index s l w (some ks) = must (not (has_erasure l.q (first_symbols_in l w ks))) (refused erased) (read_value s l w ks)

abbrev pub index_in : Layout → List ℕ → Option (List ℕ)
index_in l w = index_found (parts (figures_of l)) l.m (looks_fixed (figures_of l) w)

-- ---- Construction A

read-ranked : (l : Layout) → LayoutFits l → (w : List ℕ) → read (figures_of l) w ≡ read_index Rank l w (index_in l w)
unfolding read
read-ranked l g w = by (index_in l w)
  where
    by : (o : Option (List ℕ)) → read_from (figures_of l) w o ≡ read_index Rank l w o
    by none = refl
    by (some ks) =
        ap (λ (hs : List ℕ). must (not (has_erasure l.q hs)) (refused erased) (read_rank (figures_of l) w ks (written (figures_of l) w ks)))
        (sym (heads-are l g w ks))

-- ---- Construction B: the patterns and the heads of one index part

looks-same : (f : LongParams) (w : List ℕ) (k : ℕ) → looks_fixed (as_base f) w k ≡ B.looks_fixed f w k
unfolding looks_fixed B.looks_fixed
looks-same f w k = ap (λ (x : ℕ). eqb (get_or w x 0) 0) (head-same f k)

found-same : (f : LongParams) (w : List ℕ) → index_found (parts (as_base f)) 1 (looks_fixed (as_base f) w) ≡ alone (found f w)
found-same f w = ap₂ (λ (p : ℕ) looks. index_found p 1 looks) (parts_same f) (λ i k. looks-same f w k i) ∙ pattern-same (B.looks_fixed f w)

heads-same : (f : LongParams) (w : List ℕ) (i : ℕ) → first_symbols_with (index_tail_of f) (as_base f) w (i ∷ []) ≡ B.first_symbols f w i
unfolding flat_map
heads-same f w i = rw (append-nil (tabulate (suc (index_tail_of f)) (head_of (as_base f) i) (λ x. get_or w x 0)), head-same f i)

module _ (l : Layout) (g : LongLayoutFits l) (w : List ℕ) where
  pub long-found-is : index_in l w ≡ alone (found (long_of (figures_of l)) w)
  long-found-is = ap (λ (f : Params). index_found (parts f) f.m (looks_fixed f w)) (base-is l g) ∙ found-same (long_of (figures_of l)) w

  pub long-heads-are : (i : ℕ) → first_symbols_in l w (i ∷ []) ≡ B.first_symbols (long_of (figures_of l)) w i
  long-heads-are i = ap₂ (λ (r : ℕ) (f : Params). first_symbols_with r f w (i ∷ [])) g.laid.tail-is (base-is l g) ∙ heads-same (long_of (figures_of l)) w i

  read-long : B.read (long_of (figures_of l)) w ≡ read_index EndOffset l w (index_in l w)
  unfolding B.read
  read-long = by (found (long_of (figures_of l)) w) ∙ ap (read_index EndOffset l w) (sym long-found-is)
    where
      by : (o : Option ℕ) → B.read_from (long_of (figures_of l)) w o ≡ read_index EndOffset l w (alone o)
      by none = refl
      by (some i) =
          let f = long_of (figures_of l) in
          ap (λ (hs : List ℕ). must (not (has_erasure l.q hs)) (refused erased) (B.read_part f w (B.before i) (B.written f w i))) (sym (long-heads-are i))

-- one index part
pub alone-some : (o : Option ℕ) (ks : List ℕ) → alone o ≡ some ks → (o ≡ some (get_or ks 0 0)) × (ks ≡ get_or ks 0 0 ∷ [])
alone-some none ks e = absurd (let z : ◌≡◌ {A = ℕ} 0 1 = cc in omega arith)
alone-some (some i) ks e = let s : ks ≡ i ∷ [] = cc in rw s (refl, refl)

-- ---- Either

module _ (l : Layout) (g : BlocksServe l) (w : List ℕ) where
  read_is : (blocks_coding l).codec.decode w ≡ read_index l.spells l w (index_in l w)
  read_is = go l.spells g
    where
      go : (s : Spells) → LayoutFitsWith s l → (coding_with s (figures_of l)).codec.decode w ≡ read_index s l w (index_in l w)
      go Rank h = read-ranked l h w
      go EndOffset h = read-long l h w

  pub read_none : index_in l w ≡ none → (blocks_coding l).codec.decode w ≡ refused no_pattern
  read_none e = read_is ∙ ap (read_index l.spells l w) e

  module _ (ks : List ℕ) (shown : index_in l w ≡ some ks) where
    -- no value above q is left, so that an erasure is a symbol that is not below q
    module _ (known : all_below (found_bound l.q) (first_symbols_in l w ks) ≡ true) where
      pub read-erased : all_below l.q (first_symbols_in l w ks) ≡ false → (blocks_coding l).codec.decode w ≡ refused erased
      read-erased e = read_is ∙ ap (read_index l.spells l w) shown ∙ rw (erasure-is l.q (first_symbols_in l w ks) known, e)

      pub read-shown : all_below l.q (first_symbols_in l w ks) ≡ true → (blocks_coding l).codec.decode w ≡ read_value l.spells l w ks
      read-shown e = read_is ∙ ap (read_index l.spells l w) shown ∙ rw (erasure-is l.q (first_symbols_in l w ks) known, e)
