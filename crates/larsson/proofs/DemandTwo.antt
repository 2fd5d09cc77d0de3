-- Demand 2 holds for the Larsson code. Assumes nothing.
use mathlib.Core.Path.{◌≡◌, refl, sym, ◌∙◌, subst}
use mathlib.Core.Bool.{Bool, true, false, not}
use mathlib.Core.List.{List, [], ◌∷◌}
use mathlib.Core.Option.{Option, none, some}
use Prim.Native.Nat.{ℕ, suc, ◌<◌}
use native.Mathlib.Omega.{arith}
use lib.Dec.{eqb, ltb}
use Rattle.refusals.specs.Refusals.{must, value_too_large, disagrees, erased, no_majority, majority_refusals}
use Rattle.combinatorics.specs.Lists.{all, any, all_below}
use Rattle.combinatorics.proofs.Cases.{by_le, leb-holds, leb-fails}
use Rattle.combinatorics.proofs.Lists.{below_at, all-flat}
use Rattle.combinatorics.proofs.Majority.{majority-is, majority-common, majority-none, none-majority}
use Rattle.combinatorics.proofs.Members.{length-tabulate}
use Rattle.cells.specs.Cells.{message, pick}
use Rattle.cells.specs.Codec.{accepted, refused, WritesWords, Exact, OwnRefusals}
use Rattle.cells.specs.Erasures.{found_bound, has_erasure}
use Rattle.cells.proofs.Cells.{length-woven, woven-below}
use Rattle.cells.proofs.Codec.{not-accepted, same_number, reads-exactly}
use Rattle.cells.proofs.Erasures.{found-least}
use Rattle.cells.proofs.Digits.{spell-spelled, spelled-plain}
use Rattle.cells.specs.Figures.{Params, placement_count_of, rank, placement_of}
use Rattle.cells.proofs.Figures.{placed-starts, starts-placed}
use Rattle.larsson.specs.Figures.{sub_len_of, sub_blocks, message_len_of}
use Rattle.larsson.specs.Writing.{bearers, kind_at, plan, rank_places, rank_digits, digits, word}
use Rattle.larsson.specs.Reading.{sub_value, is_found, found, agrees, read_value, read_from, read}
use Rattle.larsson.specs.DemandTwo.{larsson, Listed, no-majority, too_large, disagreeing, erased-message, DemandTwo}
use Rattle.larsson.proofs.Figures.{Served, serve}
use Rattle.larsson.proofs.Plan.{messages-count}
use Rattle.larsson.proofs.Complete.{rank-spelled, complete}
use Rattle.larsson.proofs.Sound.{sound}

-- ---- Exactly

pub exact : (f : Params) → Served f → Exact (larsson f)
unfolding message_len_of
exact f ok w ss ms word = (
  λ e.
      let a = sound f ok w (below_at (found_bound f.q) w (omega (arith, ok.range.q-least, found-least f.q)) word.symbols) ss ms e in
      record { placement = starts-placed f ss a.placed a.count; count = a.message; symbols = a.symbols; outside = a.outside },
  λ l.
      let p = placed-starts f ss l.placement in
      complete f ok ss p.0 p.1 ms w (omega (arith, l.count, messages-count f ok ss p.0 p.1)) l.symbols l.outside,
)

-- ---- Words

all_true : (xs : List ℕ) → all (λ _. true) xs ≡ true
unfolding all
all_true [] = refl
all_true (x ∷ xs) = all_true xs

pub writes : (f : Params) → Served f → WritesWords (larsson f)
unfolding word plan digits rank_digits
writes f ok ss ms e l m =
    let p = placed-starts f ss e in
    let some : 0 < f.q = omega (arith, ok.range.q-least) in
    let one : all_below f.q (rank_digits f ss) ≡ true =
    spelled-plain f.q (sub_len_of f) (rank_digits f ss) (spell-spelled f.q (rank_places f) (rank f ss) (rank-spelled f ok ss p.0 p.1)) in
    let ds : all_below f.q (digits f ss) ≡ true = all-flat (λ x. ltb x f.q) (λ _. true) (λ _. rank_digits f ss) (λ _ _. one) (bearers f ss)
    (all_true (bearers f ss)) in (
      length-woven (plan f ss) (digits f ss) ms ∙ length-tabulate f.n 0 (kind_at f ss),
      woven-below f.q (plan f ss) (digits f ss) ms some (below_at f.q (digits f ss) some ds) (below_at f.q ms some m),
    )

-- ---- The numbers

module _ (f : Params) (w : List ℕ) where
  is-found : (v : ℕ) → found f w ≡ some v → is_found f w v ≡ true
  unfolding found is_found
  is-found v e = majority-common (sub_blocks f) (suc f.m) (sub_value f w) (omega arith) (omega arith) v e

  found-is : (v : ℕ) → is_found f w v ≡ true → found f w ≡ some v
  unfolding found is_found
  found-is v e = majority-is (sub_blocks f) (suc f.m) (sub_value f w) (omega arith) (omega arith) v e

  none_found : found f w ≡ none → (v : ℕ) → is_found f w v ≡ false
  unfolding found is_found
  none_found e = majority-none (sub_blocks f) (suc f.m) (sub_value f w) (omega arith) (omega arith) e

  found_none : ((v : ℕ) → is_found f w v ≡ false) → found f w ≡ none
  unfolding found is_found
  found_none h = none-majority (sub_blocks f) (suc f.m) (sub_value f w) (omega arith) (omega arith) h

  listed : (a : ℕ) → read f w ≡ refused a → Listed f w a
  unfolding read read_value
  listed a = go (found f w) refl
    where
      in-full : (v : ℕ) (x y : Bool) → found f w ≡ some v → v < placement_count_of f → agrees f w v (placement_of f v) ≡ x
          → has_erasure f.q (pick message (plan f (placement_of f v)) w) ≡ y
          → must x (refused disagrees) (must (not y) (refused erased) (accepted (placement_of f v) (pick message (plan f (placement_of f v)) w))) ≡ refused a
          → Listed f w a
      in-full v false y o l c d e = subst (Listed f w) (same_number disagrees a e) (disagreeing v (is-found v o) l c)
      in-full v true true o l c d e = subst (Listed f w) (same_number erased a e) (erased-message v (is-found v o) l c d)
      in-full v true false o l c d e = not-accepted (sym e)

      go : (o : Option ℕ) → found f w ≡ o → read_from f w o ≡ refused a → Listed f w a
      go none o = λ e. subst (Listed f w) (same_number no_majority a e) (no-majority (none_found o))
      go (some v) o =
          let ms = pick message (plan f (placement_of f v)) w in
          by_le (suc v) (placement_count_of f)
          (λ t. must t (refused value_too_large) (must (agrees f w v (placement_of f v)) (refused disagrees)
          (must (not (has_erasure f.q ms)) (refused erased) (accepted (placement_of f v) ms)))
          ≡ refused a → Listed f w a)
          (λ l. in-full v (agrees f w v (placement_of f v)) (has_erasure f.q ms) o l refl refl)
          (λ l e. subst (Listed f w) (same_number value_too_large a e) (too_large v (is-found v o) (omega arith)))

  by-listed : (a : ℕ) → Listed f w a → read f w ≡ refused a
  unfolding read read_value
  by-listed a (no-majority h) = rw (found_none h)
  by-listed a (too_large v o l) = rw (found-is v o, leb-fails (suc v) (placement_count_of f) (omega arith))
  by-listed a (disagreeing v o l c) = rw (found-is v o, leb-holds (suc v) (placement_count_of f) l, c)
  by-listed a (erased-message v o l c d) = rw (found-is v o, leb-holds (suc v) (placement_count_of f) l, c, d)

in_list : (f : Params) (w : List ℕ) (a : ℕ) → Listed f w a → any (eqb a) majority_refusals ≡ true
unfolding any
in_list f w a (no-majority _) = refl
in_list f w a (too_large _ _ _) = refl
in_list f w a (disagreeing _ _ _ _) = refl
in_list f w a (erased-message _ _ _ _ _) = refl

-- whatever the figures
pub own-refusals : (f : Params) → OwnRefusals (larsson f)
own-refusals f w a e = in_list f w a (listed f w a e)

pub demand-two : DemandTwo
demand-two f i h =
    let ok = serve f i h in
    reads-exactly (larsson f) (Listed f) (writes f ok) (exact f ok) (own-refusals f) (λ w a. (listed f w a, by-listed f w a))
