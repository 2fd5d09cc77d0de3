-- Laws for the search of the majority: stretch by stretch, and sub-block by sub-block. Assumes nothing.
use mathlib.Core.Path.{◌≡◌, refl, sym, ap, ◌∙◌}
use mathlib.Core.Logic.{◌≢◌}
use mathlib.Core.Bool.{Bool, ◌&&◌, true, false, true≢false}
use mathlib.Core.List.{List, [], ◌∷◌}
use mathlib.Core.Option.{none, some}
use Prim.Native.Nat.{ℕ, suc, ◌+◌, ◌-◌, ◌*◌, ◌≤◌, ◌<◌}
use native.Mathlib.Omega.{arith}
use lib.Dec.{ltb, eqb}
use lib.Pointwise.{pointwise}
use lib.ListN.{length, get_or, take, drop, length-drop}
use lib.Seq.{get_or-drop}
use Rattle.combinatorics.specs.Lists.{all_below, same_list}
use Rattle.combinatorics.specs.Majority.{is_value, common, has_common}
use Rattle.combinatorics.specs.Stretch.{count, tabulate}
use Rattle.combinatorics.proofs.Cases.{by_bool}
use Rattle.combinatorics.proofs.Lists.{same-list, list_same, below_at}
use Rattle.combinatorics.proofs.Members.{length-tabulate, take-is, tabulate-at}
use Rattle.combinatorics.proofs.Stretch.{count-ext}
use Rattle.cells.specs.Erasures.{found_bound, has_erasure}
use Rattle.cells.proofs.Erasures.{found-least, below-whole, whole_below}
use Rattle.larsson.specs.Figures.{sub_blocks, sub_start}
use Rattle.larsson.specs.Reading.{sub_symbols, sub_value}
use Rattle.larsson.proofs.SubBlocks.{symbols-small}
use Rattle.larsson.proofs.Walking.{holds_same, found_at, found_nowhere}
use Rattle.larsson_params.specs.declared.LarssonLayout.{LarssonLayout}
use Rattle.larsson_params.specs.Given.{larsson_figures_of}
use Rattle.larsson_params.proofs.Shape.{bound, sub-room}
use Rattle.sub_blocks.specs.Found.{FoundWord, spelled_at, MajorityAt}

-- ---- Two stretches

module _ (f : ℕ → ℕ) (a b : ℕ) where
  -- stretches whose symbols are alike are the same list
  tabulate-alike : (n : ℕ) → ((j : ℕ) → j < n → f (a + j) ≡ f (b + j)) → tabulate n a f ≡ tabulate n b f
  tabulate-alike n h =
      let xs = tabulate n a f in
      let l : n ≤ length xs = omega (arith, length-tabulate n a f) in
      sym (take-is n a xs f l (λ j g. tabulate-at n a j f g)) ∙ take-is n b xs f l (λ j g. tabulate-at n a j f g ∙ h j g)

  -- all their symbols are alike
  pub stretches-same : (n : ℕ) → ((j : ℕ) → j < n → f (a + j) ≡ f (b + j)) → same_list (tabulate n a f) (tabulate n b f) ≡ true
  stretches-same n h = rw (tabulate-alike n h) (same-list (tabulate n b f))

  -- or two are not
  pub stretches-differ : (n j : ℕ) → j < n → f (a + j) ≢ f (b + j) → same_list (tabulate n a f) (tabulate n b f) ≡ false
  stretches-differ n j l d =
      by_bool (same_list (tabulate n a f) (tabulate n b f))
      (λ t. absurd (d (sym (tabulate-at n a j f l) ∙ ap (λ (xs : List ℕ). get_or xs j 0) (list_same (tabulate n a f) (tabulate n b f) t)
      ∙ tabulate-at n b j f l)))
      (λ t. t)

-- their symbols are the same by the library's test where they are by the definition
alike : (xs ys : List ℕ) → pointwise eqb xs ys ≡ same_list xs ys
unfolding same_list
alike [] [] = refl
alike [] (y ∷ ys) = refl
alike (x ∷ xs) [] = refl
alike (x ∷ xs) (y ∷ ys) = ap (λ (t : Bool). eqb x y && t) (alike xs ys)

-- a stretch, lent as a part of the word
stretch-is : (w : List ℕ) (a len : ℕ) → a + len ≤ length w → take (a + len - a) (drop a w) ≡ tabulate len a (λ x. get_or w x 0)
stretch-is w a len h =
    let n : a + len - a ≡ len = omega arith in
    rw n (take-is len a (drop a w) (λ x. get_or w x 0) (omega (arith, length-drop a w)) (λ j _. get_or-drop a w j 0))

pub stretches-alike : (w : List ℕ) (a b len : ℕ) → a + len ≤ length w → b + len ≤ length w
    → pointwise eqb (take (a + len - a) (drop a w)) (take (b + len - b) (drop b w))
    ≡ same_list (tabulate len a (λ x. get_or w x 0)) (tabulate len b (λ x. get_or w x 0))
stretches-alike w a b len h g = rw (stretch-is w a len h, stretch-is w b len g) (alike (tabulate len a (λ x. get_or w x 0)) (tabulate len b (λ x. get_or w x 0)))

-- ---- The sub-blocks of a found word

module _ (l : LarssonLayout) (w : List ℕ) (g : FoundWord l w) where
  pub small : (x : ℕ) → get_or w x 0 < found_bound l.q
  small = below_at (found_bound l.q) w (omega (arith, found-least l.q, (bound l g.layout).q-least)) g.symbols

  -- one of them, by where it starts
  pub symbols-from : (i from : ℕ) → from ≡ sub_start (larsson_figures_of l) i
      → tabulate l.sub_len from (λ x. get_or w x 0) ≡ sub_symbols (larsson_figures_of l) w i
  unfolding sub_symbols
  symbols-from i from e = rw (e, g.layout.laid.sub_is)

  -- the same, lent as a part of the word
  pub part-is : (i from : ℕ) → i < sub_blocks (larsson_figures_of l) → from ≡ sub_start (larsson_figures_of l) i
      → take (from + l.sub_len - from) (drop from w) ≡ sub_symbols (larsson_figures_of l) w i
  part-is i from h e = stretch-is w from l.sub_len (omega (arith, e, sub-room l g.layout i h, g.complete)) ∙ symbols-from i from e

  module _ (i : ℕ) where
    -- symbols alone have a value
    pub has_value : all_below l.q (sub_symbols (larsson_figures_of l) w i) ≡ true → sub_value (larsson_figures_of l) w i ≡ some (spelled_at (larsson_figures_of l) w i)
    unfolding sub_value spelled_at
    has_value e = rw (below-whole l.q (sub_symbols (larsson_figures_of l) w i) e)

    -- "one with a silent cell has no value"
    pub no_value : all_below l.q (sub_symbols (larsson_figures_of l) w i) ≡ false → sub_value (larsson_figures_of l) w i ≡ none
    unfolding sub_value
    no_value e =
        let xs = sub_symbols (larsson_figures_of l) w i in
        by_bool (has_erasure l.q xs) (λ t. rw t)
        (λ t. absurd (true≢false (sym (whole_below l.q xs (symbols-small (larsson_figures_of l) w small i) t) ∙ e)))

    -- its value is common where enough sub-blocks have its symbols
    pub voted : (votes : ℕ) → all_below l.q (sub_symbols (larsson_figures_of l) w i) ≡ true
        → votes ≡ count (sub_blocks (larsson_figures_of l)) 0 (λ j. same_list (sub_symbols (larsson_figures_of l) w j) (sub_symbols (larsson_figures_of l) w i))
        → ltb l.m votes ≡ has_common (sub_blocks (larsson_figures_of l)) (suc l.m) (sub_value (larsson_figures_of l) w) (sub_value (larsson_figures_of l) w i)
    unfolding common
    voted votes e n =
        let f = larsson_figures_of l in
        let v = spelled_at f w i in
        let is = has_value e in
        let each : count (sub_blocks f) 0 (λ j. is_value v (sub_value f w j)) ≡ count (sub_blocks f) 0 (λ j. same_list (sub_symbols f w j) (sub_symbols f w i)) =
        count-ext (sub_blocks f) 0 (λ j. is_value v (sub_value f w j)) (λ j. same_list (sub_symbols f w j) (sub_symbols f w i))
        (λ j _ _. holds_same f w small j i v is) in
        rw is (ap (ltb l.m) (n ∙ sym each))

    -- a search that comes to a common value has the majority
    pub majority-here : i < sub_blocks (larsson_figures_of l)
        → has_common (sub_blocks (larsson_figures_of l)) (suc l.m) (sub_value (larsson_figures_of l) w) (sub_value (larsson_figures_of l) w i) ≡ true
        → MajorityAt (larsson_figures_of l) w i
    majority-here h t =
        let f = larsson_figures_of l in
        let is : sub_value f w i ≡ some (spelled_at f w i) =
        by_bool (all_below l.q (sub_symbols f w i)) has_value (λ e. absurd
        (true≢false (sym t ∙ ap (has_common (sub_blocks f) (suc l.m) (sub_value f w)) (no_value e)))) in
        record { holding = λ _. record { within = h; valued = is }; taken = λ _. found_at f w i (spelled_at f w i) is t; nowhere = λ k. absurd (omega arith) }

  -- and one that has seen the first m + 1 knows that there is none
  pub majority-none : ((i : ℕ) → i < suc l.m → has_common (sub_blocks (larsson_figures_of l)) (suc l.m) (sub_value (larsson_figures_of l) w)
      (sub_value (larsson_figures_of l) w i) ≡ false)
      → MajorityAt (larsson_figures_of l) w (2 * l.m + 1)
  majority-none h =
      record { holding = λ k. absurd (omega arith); taken = λ k. absurd (omega arith); nowhere = λ _. found_nowhere (larsson_figures_of l) w h }
