-- Demand 2 holds for Construction B. Assumes nothing.
use mathlib.Core.Path.{◌≡◌, refl, sym, ◌∙◌, subst}
use mathlib.Core.Bool.{Bool, true, false, not}
use mathlib.Core.List.{List, [], ◌∷◌}
use mathlib.Core.Option.{Option, none, some}
use Prim.Native.Nat.{ℕ, suc, ◌-◌, ◌≤◌, ◌<◌}
use native.Mathlib.Omega.{arith}
use lib.Dec.{eqb, leb}
use Rattle.refusals.specs.Refusals.{must, no_pattern, value_too_large, disagrees, erased, pattern_refusals}
use Rattle.combinatorics.specs.Lists.{any}
use Rattle.combinatorics.proofs.Cases.{by_le, leb-holds, leb-fails}
use Rattle.combinatorics.proofs.Lists.{below_at}
use Rattle.combinatorics.proofs.Members.{length-tabulate}
use Rattle.cells.specs.Cells.{message, pick}
use Rattle.cells.specs.Codec.{accepted, refused, WritesWords, Exact, OwnRefusals}
use Rattle.cells.specs.Digits.{spell, places}
use Rattle.cells.specs.Erasures.{found_bound, has_erasure}
use Rattle.cells.specs.Plan.{kind_in}
use Rattle.cells.proofs.Cells.{length-woven, woven-below}
use Rattle.cells.proofs.Codec.{not-accepted, same_number, reads-exactly}
use Rattle.cells.proofs.Digits.{spelled-below}
use Rattle.cells.proofs.Erasures.{found-least}
use Rattle.construction_b.specs.Figures.{LongParams, part_len, index_tail_of}
use Rattle.construction_b.specs.Writing.{start_in, end_offset, frame, plan, word_from}
use Rattle.construction_b.specs.Reading.{looks_fixed, index_found, before, first_symbols, written, end_at, read_part, read_from, read}
use Rattle.construction_b.specs.DemandTwo.{construction_b, found, IndexRead, Listed, no-pattern, erased-index, too_large, before-word, erased-message}
use Rattle.construction_b.specs.DemandTwo.{DemandTwo}
use Rattle.construction_b.proofs.Figures.{Served, serve, placed-start}
use Rattle.construction_b.proofs.Complete.{spelled, complete}
use Rattle.construction_b.proofs.Sound.{sound}

-- ---- Exactly

pub exact : (f : LongParams) → Served f → Exact (construction_b f)
exact f ok w ss ms found = (
  sound f ok w (below_at (found_bound f.q) w (omega (arith, ok.range.q-least, found-least f.q)) found.symbols) ss ms,
  λ l.
      let p = placed-start f ss l.placement in
      rw p.0 (complete f ok (start_in ss) p.1 ms w l.count l.symbols (λ x h out. l.outside x h (rw p.0 out))),
)

-- ---- Words

pub writes : (f : LongParams) → Served f → WritesWords (construction_b f)
unfolding word_from plan
writes f ok ss ms e l m =
    let s = start_in ss in
    let p = placed-start f ss e in
    let ds = spell f.q (places 1 (index_tail_of f)) (end_offset f s) in
    let some : 0 < f.q = omega (arith, ok.range.q-least) in (
      length-woven (plan f s) ds ms ∙ length-tabulate f.n 0 (kind_in (frame f s)),
      woven-below f.q (plan f s) ds ms some (spelled-below f.q (places 1 (index_tail_of f)) ds ok.range.q-least (spelled f ok s p.1))
          (below_at f.q ms some m),
    )

-- ---- The numbers

module _ (f : LongParams) (w : List ℕ) where
  module _ (a i : ℕ) (pattern : found f w ≡ some i) where
    at-message : (b : Bool) → IndexRead f w i → written f w i < part_len f (before i) → f.b ≤ end_at f (before i) (written f w i)
        → has_erasure f.q (pick message (plan f (end_at f (before i) (written f w i) - f.b)) w) ≡ b
        → must (not b) (refused erased) (accepted ((end_at f (before i) (written f w i) - f.b) ∷ [])
        (pick message (plan f (end_at f (before i) (written f w i) - f.b)) w)) ≡ refused a
        → Listed f w a
    at-message true r l g c e =
        subst (Listed f w) (same_number erased a e)
        (erased-message i (end_at f (before i) (written f w i) - f.b) (record { index = r; below = l; from = g; start = refl }) c)
    at-message false r l g c e =
        not-accepted (sym e)

    at-index : (b : Bool) → has_erasure f.q (first_symbols f w i) ≡ b → must (not b) (refused erased) (read_part f w (before i) (written f w i)) ≡ refused a
        → Listed f w a
    unfolding read_part
    at-index true h = λ e. subst (Listed f w) (same_number erased a e) (erased-index i pattern h)
    at-index false h =
        let v = written f w i in
        let p = before i in
        let s = end_at f p v - f.b in
        let ms = pick message (plan f s) w in
        let r : IndexRead f w i = record { pattern = pattern; whole = h } in
        let last = must (not (has_erasure f.q ms)) (refused erased) (accepted (s ∷ []) ms) in
        by_le (suc v) (part_len f p) (λ t. must t (refused value_too_large) (must (leb f.b (end_at f p v)) (refused disagrees) last) ≡ refused a → Listed f w a)
        (λ l. by_le f.b (end_at f p v) (λ t. must t (refused disagrees) last ≡ refused a → Listed f w a)
        (λ g. at-message (has_erasure f.q ms) r l g refl)
        (λ g e. subst (Listed f w) (same_number disagrees a e) (before-word i r l g)))
        (λ l e. subst (Listed f w) (same_number value_too_large a e) (too_large i r (omega arith)))

  listed : (a : ℕ) → read f w ≡ refused a → Listed f w a
  unfolding read
  listed a = go (index_found (looks_fixed f w)) refl
    where
      go : (o : Option ℕ) → found f w ≡ o → read_from f w o ≡ refused a → Listed f w a
      go none pattern = λ e. subst (Listed f w) (same_number no_pattern a e) (no-pattern pattern)
      go (some i) pattern = at-index a i pattern (has_erasure f.q (first_symbols f w i)) refl

  by-listed : (a : ℕ) → Listed f w a → read f w ≡ refused a
  unfolding read read_part
  by-listed a (no-pattern pattern) = rw pattern
  by-listed a (erased-index i pattern h) = rw (pattern, h)
  by-listed a (too_large i r l) = rw (r.pattern, r.whole, leb-fails (suc (written f w i)) (part_len f (before i)) (omega arith))
  by-listed a (before-word i r l h) =
      rw (r.pattern, r.whole, leb-holds (suc (written f w i)) (part_len f (before i)) l, leb-fails f.b (end_at f (before i) (written f w i)) h)
  by-listed a (erased-message i s p d) =
      rw (
        p.index.pattern,
        p.index.whole,
        leb-holds (suc (written f w i)) (part_len f (before i)) p.below,
        leb-holds f.b (end_at f (before i) (written f w i)) p.from,
        p.start,
        d,
      )

in_list : (f : LongParams) (w : List ℕ) (a : ℕ) → Listed f w a → any (eqb a) pattern_refusals ≡ true
unfolding any
in_list f w a (no-pattern _) = refl
in_list f w a (erased-index _ _ _) = refl
in_list f w a (too_large _ _ _) = refl
in_list f w a (before-word _ _ _ _) = refl
in_list f w a (erased-message _ _ _ _) = refl

-- whatever the figures
pub own-refusals : (f : LongParams) → OwnRefusals (construction_b f)
own-refusals f w a e = in_list f w a (listed f w a e)

pub demand-two : DemandTwo
demand-two f i h =
    let ok = serve f i h in
    reads-exactly (construction_b f) (Listed f) (writes f ok) (exact f ok) (own-refusals f) (λ w a. (listed f w a, by-listed f w a))
