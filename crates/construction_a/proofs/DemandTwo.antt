-- Demand 2 holds. Assumes nothing.
use mathlib.Core.Path.{◌≡◌, refl, sym, ◌∙◌, subst}
use mathlib.Core.Bool.{Bool, true, false, not}
use mathlib.Core.List.{List}
use mathlib.Core.Option.{Option, none, some}
use Prim.Native.Nat.{ℕ, suc, ◌<◌}
use native.Mathlib.Omega.{arith}
use lib.Dec.{eqb}
use Rattle.refusals.specs.Refusals.{must, no_pattern, value_too_large, disagrees, erased, pattern_refusals}
use Rattle.combinatorics.specs.Lists.{any}
use Rattle.combinatorics.proofs.Cases.{by_le, leb-holds, leb-fails}
use Rattle.combinatorics.proofs.Lists.{below_at}
use Rattle.combinatorics.proofs.Members.{length-tabulate}
use Rattle.cells.specs.Cells.{message, pick}
use Rattle.cells.specs.Codec.{accepted, refused, WritesWords, Exact, OwnRefusals}
use Rattle.cells.specs.Digits.{spell, places}
use Rattle.cells.specs.Erasures.{found_bound, has_erasure}
use Rattle.cells.proofs.Cells.{length-woven, woven-below}
use Rattle.cells.proofs.Codec.{not-accepted, same_number, reads-exactly}
use Rattle.cells.proofs.Digits.{Spelled, spell-spelled, spelled-below}
use Rattle.cells.proofs.Erasures.{found-least}
use Rattle.cells.specs.Figures.{Params, placement_count_of, rank, placement_of}
use Rattle.construction_a.specs.Figures.{index_tail_of, message_len_of}
use Rattle.construction_a.specs.Writing.{kind_at, plan, word}
use Rattle.construction_a.specs.Reading.{first_symbols, written, agrees, read_rank, read_from, read}
use Rattle.construction_a.specs.DemandTwo.{construction_a, found, Listed, no-pattern, erased-index, too_large, disagreeing, erased-message}
use Rattle.construction_a.specs.DemandTwo.{DemandTwo}
use Rattle.cells.proofs.Figures.{placed-starts, starts-placed}
use Rattle.construction_a.proofs.Figures.{Served, serve, span-enough}
use Rattle.construction_a.proofs.Plan.{messages-count}
use Rattle.construction_a.proofs.Complete.{rank_below, complete}
use Rattle.construction_a.proofs.Sound.{sound}

-- ---- Exactly

pub exact : (f : Params) → Served f → Exact (construction_a f)
unfolding message_len_of
exact f ok w ss ms seen = (
  λ e.
      let a = sound f ok w (below_at (found_bound f.q) w (omega (arith, ok.range.q-least, found-least f.q)) seen.symbols) ss ms e in
      record { placement = starts-placed f ss a.placed a.count; count = a.message; symbols = a.symbols; outside = a.outside },
  λ l.
      let p = placed-starts f ss l.placement in
      complete f ok ss p.0 p.1 ms w (omega (arith, l.count, messages-count f ok ss p.0 p.1)) l.symbols l.outside,
)

-- ---- Words

pub writes : (f : Params) → Served f → WritesWords (construction_a f)
unfolding word plan
writes f ok ss ms e l m =
    let p = placed-starts f ss e in
    let ds = spell f.q (places f.m (index_tail_of f)) (rank f ss) in
    let some : 0 < f.q = omega (arith, ok.range.q-least) in
    let s : Spelled f.q (places f.m (index_tail_of f)) ds =
    spell-spelled f.q (places f.m (index_tail_of f)) (rank f ss) (omega (arith, rank_below f ok ss p.0 p.1, span-enough f ok)) in (
      length-woven (plan f ss) ds ms ∙ length-tabulate f.n 0 (kind_at f ss),
      woven-below f.q (plan f ss) ds ms some (spelled-below f.q (places f.m (index_tail_of f)) ds ok.range.q-least s) (below_at f.q ms some m),
    )

-- ---- The numbers

module _ (f : Params) (w : List ℕ) where
  -- what is left to refuse with once I-blocks were found
  module _ (a : ℕ) (ks : List ℕ) (pattern : found f w ≡ some ks) where
    v : ℕ
    v = written f w ks

    ss : List ℕ
    ss = placement_of f v

    ms : List ℕ
    ms = pick message (plan f ss) w

    at-message : (b : Bool) → has_erasure f.q (first_symbols f w ks) ≡ false → v < placement_count_of f → agrees f w ks ss ≡ true → has_erasure f.q ms ≡ b
        → must (not b) (refused erased) (accepted ss ms) ≡ refused a → Listed f w a
    unfolding v ss ms
    at-message false h l c d e = not-accepted (sym e)
    at-message true h l c d e =
        subst (Listed f w) (same_number erased a e)
        (erased-message ks ss (record { index = record { pattern = pattern; whole = h }; below = l; starts = refl; agreed = c }) d)

    at-blocks : (b : Bool) → has_erasure f.q (first_symbols f w ks) ≡ false → v < placement_count_of f → agrees f w ks ss ≡ b
        → must b (refused disagrees) (must (not (has_erasure f.q ms)) (refused erased) (accepted ss ms)) ≡ refused a → Listed f w a
    unfolding v ss
    at-blocks true h l c e = at-message (has_erasure f.q ms) h l c refl e
    at-blocks false h l c e = subst (Listed f w) (same_number disagrees a e) (disagreeing ks (record { pattern = pattern; whole = h }) l c)

    at-index : (b : Bool) → has_erasure f.q (first_symbols f w ks) ≡ b → must (not b) (refused erased) (read_rank f w ks v) ≡ refused a → Listed f w a
    unfolding read_rank v ss ms
    at-index true h = λ e. subst (Listed f w) (same_number erased a e) (erased-index ks pattern h)
    at-index false h =
        by_le (suc (written f w ks)) (placement_count_of f)
        (λ t. must t (refused value_too_large)
        (must (agrees f w ks ss) (refused disagrees) (must (not (has_erasure f.q ms)) (refused erased) (accepted ss ms))) ≡ refused a → Listed f w a)
        (λ l. at-blocks (agrees f w ks ss) h l refl)
        (λ l e. subst (Listed f w) (same_number value_too_large a e) (too_large ks (record { pattern = pattern; whole = h }) (omega arith)))

  listed : (a : ℕ) → read f w ≡ refused a → Listed f w a
  unfolding read v
  listed a = go (found f w) refl
    where
      go : (o : Option (List ℕ)) → found f w ≡ o → read_from f w o ≡ refused a → Listed f w a
      go none pattern = λ e. subst (Listed f w) (same_number no_pattern a e) (no-pattern pattern)
      go (some ks) pattern = at-index a ks pattern (has_erasure f.q (first_symbols f w ks)) refl

  by-listed : (a : ℕ) → Listed f w a → read f w ≡ refused a
  unfolding read read_rank
  by-listed a (no-pattern pattern) = rw pattern
  by-listed a (erased-index ks pattern h) = rw (pattern, h)
  by-listed a (too_large ks i l) = rw (i.pattern, i.whole, leb-fails (suc (written f w ks)) (placement_count_of f) (omega arith))
  by-listed a (disagreeing ks i l c) = rw (i.pattern, i.whole, leb-holds (suc (written f w ks)) (placement_count_of f) l, c)
  by-listed a (erased-message ks ss p d) =
      rw (p.index.pattern, p.index.whole, leb-holds (suc (written f w ks)) (placement_count_of f) p.below, p.starts, p.agreed, d)

in_list : (f : Params) (w : List ℕ) (a : ℕ) → Listed f w a → any (eqb a) pattern_refusals ≡ true
unfolding any
in_list f w a (no-pattern _) = refl
in_list f w a (erased-index _ _ _) = refl
in_list f w a (too_large _ _ _) = refl
in_list f w a (disagreeing _ _ _ _) = refl
in_list f w a (erased-message _ _ _ _) = refl

-- whatever the figures
pub own-refusals : (f : Params) → OwnRefusals (construction_a f)
own-refusals f w a e = in_list f w a (listed f w a e)

pub demand-two : DemandTwo
demand-two f i h =
    let ok = serve f i h in
    reads-exactly (construction_a f) (Listed f) (writes f ok) (exact f ok) (own-refusals f) (λ w a. (listed f w a, by-listed f w a))
