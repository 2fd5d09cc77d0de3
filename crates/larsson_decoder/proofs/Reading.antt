-- Laws of the reader's calls: the word's values, its message, and figures with one placement. Assumes nothing.
use mathlib.Core.Path.{◌≡◌, refl, sym, ◌∙◌}
use mathlib.Core.Bool.{true, false}
use mathlib.Core.List.{List, [], ◌∷◌}
use Prim.Native.Nat.{ℕ, suc, ◌+◌, ◌<◌}
use native.Mathlib.Numerals.{add-one}
use native.Mathlib.Omega.{arith}
use lib.ListN.{length, get_or}
use Rattle.refusals.specs.Refusals.{erased}
use Rattle.combinatorics.specs.Bursts.{covers, rank_of}
use Rattle.combinatorics.specs.Lists.{all_below}
use Rattle.combinatorics.proofs.Cases.{by_le}
use Rattle.combinatorics.proofs.Lists.{at-below}
use Rattle.cells.specs.Bytes.{byte_values}
use Rattle.cells.specs.Cells.{message, pick}
use Rattle.cells.specs.Codec.{accepted, refused}
use Rattle.cells.specs.Erasures.{found_bound, erased_at}
use Rattle.cells.specs.Outcomes.{Held, held, rank_is, Decoded, decoded_from}
use Rattle.cells.proofs.Cells.{pick-below}
use Rattle.cells.proofs.Erasures.{found-above, found_all, below-whole, erasure-is}
use Rattle.cells.specs.Figures.{placement_of}
use Rattle.larsson.specs.DemandTwo.{larsson, Listed}
use Rattle.larsson.specs.Figures.{sub_len_of, message_len_of}
use Rattle.larsson.specs.Reading.{read}
use Rattle.larsson.specs.Writing.{kind_at, plan}
use Rattle.larsson.proofs.DemandTwo.{demand-two as demand-two-larsson}
use Rattle.larsson.proofs.Plan.{kind-burst}
use Rattle.larsson.proofs.Walking.{none-spelled, every-word}
use Rattle.decoder.proofs.Covered.{message-covered}
use Rattle.placements.specs.declared.Placement.{Placement}
use Rattle.placements.specs.Bridge.{starts_in}
use Rattle.larsson_params.specs.declared.LarssonLayout.{LarssonLayout}
use Rattle.larsson_params.specs.Given.{larsson_figures_of, LarssonLayoutFits}
use Rattle.larsson_params.proofs.Shape.{served, bound}
use Rattle.sub_blocks.specs.Found.{FoundWord}
use Rattle.sub_blocks.proofs.Voting.{small}
use Rattle.larsson_decoder.specs.Located.{LocatedAt}

-- bytes have no value above q where q is larger than all of them
pub found-by : (q : ℕ) (w : List ℕ) → ((x : ℕ) → get_or w x 0 < byte_values) → all_below (q + 1) w ≡ all_below (found_bound q) w
found-by q w bytes =
    by_le (suc q) byte_values (λ _. all_below (q + 1) w ≡ all_below (found_bound q) w)
    (λ l. rw (found-above q l, add-one q))
    (λ l. at-below (q + 1) w (λ x _. omega (arith, bytes x)) ∙ (rw (found_all q (omega arith)) (sym (at-below q w (λ x _. omega (arith, bytes x))))))

-- ---- The message of a placement that was read

module _ (l : LarssonLayout) (w : List ℕ) (g : FoundWord l w) (v : ℕ) (at : Placement) (kinds : List ℕ) (h : LocatedAt (larsson_figures_of l) w v at kinds) where
  pub whole_is : covers l.n l.b (erased_at l.q w) (starts_in at) ≡ all_below l.q (pick message (plan (larsson_figures_of l) (starts_in at)) w)
  unfolding plan
  whole_is =
      let f = larsson_figures_of l in
      let ss = starts_in at in
      message-covered (larsson f) (Listed f) (demand-two-larsson f g.layout.range g.layout.fit) (omega (arith, (bound l g.layout).q-least)) l.b
      (kind_at f ss) w ss
      (record { complete = g.complete; symbols = g.symbols }) (kind-burst f ss) (λ x. refl)
      (λ e. h.read-as ∙ rw (below-whole l.q (pick message (plan f ss) w) e))

  -- no value above q is left in it
  known : all_below (found_bound l.q) (pick message (plan (larsson_figures_of l) (starts_in at)) w) ≡ true
  unfolding plan
  known = pick-below message l.n (kind_at (larsson_figures_of l) (starts_in at)) w (found_bound l.q) (small l w g)

  pub reads-erased : all_below l.q (pick message (plan (larsson_figures_of l) (starts_in at)) w) ≡ false → read (larsson_figures_of l) w ≡ refused erased
  reads-erased e = h.read-as ∙ (rw (erasure-is l.q (pick message (plan (larsson_figures_of l) (starts_in at)) w) known, e))

  pub reads_whole : all_below l.q (pick message (plan (larsson_figures_of l) (starts_in at)) w) ≡ true
      → read (larsson_figures_of l) w ≡ accepted (starts_in at) (pick message (plan (larsson_figures_of l) (starts_in at)) w)
  reads_whole e = h.read-as ∙ (rw (erasure-is l.q (pick message (plan (larsson_figures_of l) (starts_in at)) w) known, e))

-- an accepted word
pub read_whole : (b v : ℕ) (h : Held) (ss ms ms' out : List ℕ) → v ≡ rank_of b ss → h ≡ held ss → ms ≡ ms'
    → ◌≡◌ {A = Decoded} (record { answer = rank_is v; placement = h; message = ms }) (decoded_from b out (accepted ss ms'))
read_whole b v h ss ms ms' out e₁ e₂ e₃ = rw (e₁, e₂, e₃)

-- ---- One placement

nothing : (xs : List ℕ) → length xs ≡ 0 → xs ≡ []
nothing [] e = refl
nothing (x ∷ xs) e = absurd (omega arith)

module _ (l : LarssonLayout) (g : LarssonLayoutFits l) (e : l.sub_len ≡ 0) where
  none-spells : sub_len_of (larsson_figures_of l) ≡ 0
  none-spells = sym g.laid.sub_is ∙ e

  -- there is no message
  pub no-message : (out : List ℕ) → length out ≡ l.message_len → out ≡ []
  unfolding message_len_of
  no-message out n = nothing out (omega (arith, n, g.laid.len_is, none-spelled (larsson_figures_of l) (served l g) none-spells))

  pub all_read : (w : List ℕ) → read (larsson_figures_of l) w ≡ accepted (placement_of (larsson_figures_of l) 0) []
  all_read w = every-word (larsson_figures_of l) (served l g) none-spells w
