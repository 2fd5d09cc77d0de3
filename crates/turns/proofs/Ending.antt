-- Every answer of the system brings the program's end nearer. Assumes nothing.
use mathlib.Core.Path.{◌≡◌, refl, sym, ap, subst}
use mathlib.Core.Logic.{◌⊎◌, inl, inr, ⊎_elim}
use mathlib.Core.Bool.{Bool, true, false, cond, false≢true}
use mathlib.Core.List.{List, ◌++◌}
use Prim.Native.Nat.{ℕ, suc, ◌+◌, ◌-◌, ◌*◌, ◌≤◌, ◌<◌}
use native.Mathlib.Omega.{arith}
use lib.Dec.{eqb}
use lib.ListN.{length, take, length-append}
use Rattle.combinatorics.proofs.Lists.{both}
use Rattle.records.specs.Session.{Session, max_records}
use Rattle.transfer.specs.Steps.{step_out}
use Rattle.transfer.proofs.Program.{step_counts}
use Rattle.turns.specs.declared.Phase.{Phase}
use Rattle.turns.specs.declared.Phase.TheVariants.{Open, Ended, Failed, Done}
use Rattle.turns.specs.declared.Wants.TheVariants.{Read, Write}
use Rattle.turns.specs.View.{buffer_len, View, wants_none, wants_at, wants_of, needs, ready_at, room_at, is_servable, step_at, phase_after, served_out, advance_out}
use Rattle.turns.specs.Trace.{Event, came, ended, interrupted, failed, written, unwritten, Answers, after_event}
use Rattle.turns.proofs.Serving.{advance-keeps, advance-rests, reads}

-- the records that may still be served, and for each the reads that fill the buffer
abbrev base : Phase → ℕ → ℕ → ℕ
base Open c n = 2 + (max_records - c) * (2 * buffer_len + 6) + 2 * (suc buffer_len - n)
base Ended c n = 2 + (max_records - c) * (2 * buffer_len + 6)
base Failed c n = 2 + (max_records - c) * (2 * buffer_len + 6)
base Done c n = 0

abbrev pub unwritten_yet : List ℕ → ℕ
unwritten_yet g = cond (eqb (length g) 0) 0 1

abbrev base_of : View → ℕ
base_of v = base v.phase v.session.count (length v.waiting)

-- how many answers of the system are left at most
abbrev pub left : View → ℕ
left v = base_of v + unwritten_yet v.gathered

pub at_most : (g : List ℕ) → unwritten_yet g ≤ 1
at_most g = go (eqb (length g) 0)
  where
    go : (b : Bool) → cond b 0 1 ≤ 1
    go true = omega arith
    go false = omega arith

less-at : (p : Phase) (s : Session) (bytes : List ℕ) (k m n n' : ℕ) → ready_at p k m ≡ true
    → base (phase_after p (step_at p s bytes).stops) (step_at p s bytes).next.count n' + 2 ≤ base p s.count n
less-at Open s bytes k m n n' h = go (step_out s bytes).stops (λ e. step_counts s bytes e)
  where
    go : (b : Bool) → (b ≡ false → (s.count < max_records) × ((step_out s bytes).next.count ≡ suc s.count))
        → base (phase_after Open b) (step_out s bytes).next.count n' + 2 ≤ base Open s.count n
    go true f = omega arith
    go false f = omega (arith, (f refl).0, (f refl).1)
less-at Ended s bytes k m n n' h = go (step_out s bytes).stops (λ e. step_counts s bytes e)
  where
    go : (b : Bool) → (b ≡ false → (s.count < max_records) × ((step_out s bytes).next.count ≡ suc s.count))
        → base (phase_after Ended b) (step_out s bytes).next.count n' + 2 ≤ base Ended s.count n
    go true f = omega arith
    go false f = omega (arith, (f refl).0, (f refl).1)
less-at Failed s bytes k m n n' h = omega arith
less-at Done s bytes k m n n' h = absurd (false≢true h)

served-less : (v : View) → is_servable v ≡ true → base_of (served_out v) + 2 ≤ base_of v
served-less v e =
    less-at v.phase v.session (take (needs v) v.waiting) (needs v) (length v.waiting) (length v.waiting) (length (served_out v).waiting)
    (both (room_at (length v.gathered)) (ready_at v.phase (needs v) (length v.waiting)) e).1

-- nothing was served, or a record fewer is left
advanced : (u : View) → (advance_out u ≡ u) ⊎ (base_of (advance_out u) + 2 ≤ base_of u)
advanced u =
    advance-keeps (λ (x : View). (x ≡ u) ⊎ (base_of x + 2 ≤ base_of u))
    (λ x e h. let l = served-less x e in inr (⊎_elim (λ s. subst (λ (y : View). base_of (served_out x) + 2 ≤ base_of y) s l) (λ g. omega arith) h)) u (inl refl)

pub left-less-by : (v u : View) → base_of u ≤ base_of v → left u < left v → left (advance_out u) < left v
left-less-by v u h l =
    ⊎_elim (λ e. subst (λ (y : View). left y < left v) (sym e) l) (λ g. omega (arith, at_most (advance_out u).gathered)) (advanced u)

pub write-some : (p : Phase) (g : List ℕ) → wants_at (length g) p ≡ Write → unwritten_yet g ≡ 1
write-some p g = go (eqb (length g) 0)
  where
    none : (p : Phase) → wants_none p ≡ Write → ⊥
    none Open e = let z : ◌≡◌ {A = ℕ} 0 1 = cc in omega arith
    none Ended e = let z : ◌≡◌ {A = ℕ} 0 1 = cc in omega arith
    none Failed e = let z : ◌≡◌ {A = ℕ} 0 1 = cc in omega arith
    none Done e = let z : ◌≡◌ {A = ℕ} 0 1 = cc in omega arith

    go : (b : Bool) → cond b (wants_none p) Write ≡ Write → ◌≡◌ {A = ℕ} (cond b 0 1) 1
    go true e = absurd (none p e)
    go false e = refl

module _ (v : View) (rests : is_servable v ≡ false) (short : length v.waiting ≤ buffer_len) where
  came-less : (bytes : List ℕ) → wants_of v ≡ Read → 0 < length bytes → length (v.waiting ++ bytes) ≤ buffer_len
      → left (advance_out (after_event v (came bytes))) < left v
  came-less bytes want some fits =
      let o = (reads v rests want).open-still in
      let b : base_of (after_event v (came bytes)) < base_of v = rw o (omega (arith, length-append v.waiting bytes)) in
      left-less-by v (after_event v (came bytes)) (omega arith) (omega arith)

  ended-less : wants_of v ≡ Read → left (advance_out (after_event v ended)) < left v
  ended-less want =
      let o = (reads v rests want).open-still in
      let b : base_of (after_event v ended) < base_of v = rw o (omega arith) in
      left-less-by v (after_event v ended) (omega arith) (omega arith)

  failed-less : wants_of v ≡ Read → left (advance_out (after_event v failed)) < left v
  failed-less want =
      let o = (reads v rests want).open-still in
      let b : base_of (after_event v failed) < base_of v = rw o (omega arith) in
      left-less-by v (after_event v failed) (omega arith) (omega arith)

  written-less : wants_of v ≡ Write → left (advance_out (after_event v written)) < left v
  written-less want = let g = write-some v.phase v.gathered want in left-less-by v (after_event v written) (omega arith) (omega arith)

  unwritten-less : wants_of v ≡ Write → left (advance_out (after_event v unwritten)) < left v
  unwritten-less want = let g = write-some v.phase v.gathered want in left-less-by v (after_event v unwritten) (omega arith) (omega arith)

  -- a read that fits the buffer; where it was interrupted, all stays
  pub read-less : (e : Event) → wants_of v ≡ Read → Answers Read e → length (after_event v e).waiting ≤ buffer_len
      → (left (advance_out (after_event v e)) < left v) ⊎ ((e ≡ interrupted) × (left (advance_out (after_event v e)) ≡ left v))
  read-less (came bytes) want a fits = inl (came-less bytes want a fits)
  read-less ended want a fits = inl (ended-less want)
  read-less interrupted want a fits = inr (refl, ap left (advance-rests v rests))
  read-less failed want a fits = inl (failed-less want)
  read-less written want a fits = absurd a
  read-less unwritten want a fits = absurd a

  pub write-less : (b : Bool) → wants_of v ≡ Write → left (advance_out (after_event v (cond b written unwritten))) < left v
  write-less true want = written-less want
  write-less false want = unwritten-less want
