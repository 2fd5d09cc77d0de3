-- Folding the step over the records of an input prints what the whole-input definition says, for every input. Assumes nothing.
use mathlib.Core.Path.{◌≡◌, refl, sym, ap, subst, ◌∙◌}
use mathlib.Core.Bool.{Bool, true, false, cond, false≢true, true≢false}
use mathlib.Core.List.{List, [], ◌∷◌, ◌++◌}
use mathlib.Core.Option.{Option, none, some}
use Prim.Native.Nat.{ℕ, zero, suc, ◌+◌, ◌-◌, ◌≤◌, ◌<◌}
use native.Mathlib.Omega.{arith}
use borrow.Author.Tests.{ltb-true}
use lib.Dec.{eqb, ltb}
use lib.ListN.{length, take, drop}
use Rattle.refusals.specs.Refusals.{must}
use Rattle.combinatorics.proofs.Cases.{eqb-other, leb-holds, leb-fails}
use Rattle.combinatorics.proofs.Lists.{both}
use Rattle.cells.specs.Outcomes.{FiguresOut, figured, unserved, figures_under}
use Rattle.codes.specs.Bridge.{coding_of}
use Rattle.codes.specs.declared.Figures.{Figures}
use Rattle.jobs.specs.Letters.{kind_of, call_by, is_letter}
use Rattle.payloads.specs.Payload.{job_number}
use Rattle.records.proofs.Readable.{reaches}
use Rattle.records.specs.Session.{Session, at_start, max_records}
use Rattle.lines.specs.Lines.{stop_line, end_line, letter_s, letter_l, letter_w, letter_r}
use Rattle.records.specs.Records.{record_head_len, letter_of, is_marked, is_empty, current, write_len, read_len, record_len, is_whole, readable, figures_in}
use Rattle.records.specs.Records.{long_figures_in, reach}
use Rattle.transfer.specs.Steps.{Step, stopped, ended, figures_step, call_step, write_out, read_out, serve_out, step_out}
use Rattle.transfer.specs.Program.{next_record, behind, printed_from, printed, Steps, last_step, step, StepsPrint}

-- ---- A record that can be read is served, and counted

record Goes (s : Session) (o : Step) : Type 0 where
  counted : o.next.count ≡ suc s.count
  goes : o.stops ≡ false

module _ (s : Session) (bytes : List ℕ) where
  figures-go : (letter : ℕ) (f : Figures) (out : FiguresOut) → Goes s (figures_step s letter f out)
  figures-go letter f (figured t r k) = record { counted = refl; goes = refl }
  figures-go letter f (unserved a) = record { counted = refl; goes = refl }

  write_goes : (f : Option Figures) → is_whole bytes (write_len f) ≡ true → Goes s (write_out s bytes f)
  write_goes none h = absurd (false≢true h)
  write_goes (some f) h = record { counted = refl; goes = refl }

  read_goes : (f : Option Figures) → is_whole bytes (read_len f) ≡ true → Goes s (read_out s bytes f)
  read_goes none h = absurd (false≢true h)
  read_goes (some f) h = record { counted = refl; goes = refl }

  serve-goes : (letter : ℕ) → is_whole bytes (record_len s letter) ≡ true → Goes s (serve_out s letter bytes)
  unfolding record_len serve_out
  serve-goes letter = go (eqb letter letter_s) (eqb letter letter_l) (is_letter letter) (eqb letter letter_w) (eqb letter letter_r)
    where
      go : (a l b c d : Bool)
          → is_whole bytes
          (cond a (some (record_head_len + 6)) (cond l (some (record_head_len + 5))
          (cond b (some (record_head_len + 4)) (cond c (write_len (current s.figures)) (cond d (read_len (current s.figures)) none))))) ≡ true
          → Goes s (cond a (figures_step s letter (figures_in bytes) (figures_under (coding_of (figures_in bytes))))
          (cond l (figures_step s letter (long_figures_in bytes) (figures_under (coding_of (long_figures_in bytes))))
          (cond b (call_step s letter (call_by (kind_of letter) s.table (job_number (drop record_head_len bytes))))
          (cond c (write_out s bytes (current s.figures)) (cond d (read_out s bytes (current s.figures)) (stopped s))))))
      go true l b c d h = figures-go letter (figures_in bytes) (figures_under (coding_of (figures_in bytes)))
      go false true b c d h = figures-go letter (long_figures_in bytes) (figures_under (coding_of (long_figures_in bytes)))
      go false false true c d h = record { counted = refl; goes = refl }
      go false false false true d h = write_goes (current s.figures) h
      go false false false false true h = read_goes (current s.figures) h
      go false false false false false h = absurd (false≢true h)

  readable-goes : readable s bytes ≡ true → Goes s (serve_out s (letter_of bytes) bytes)
  unfolding readable
  readable-goes h = serve-goes (letter_of bytes) (both (is_marked bytes) (is_whole bytes (record_len s (letter_of bytes))) h).1

-- a step that goes on serves a record that may still be served, and counts it
pub step_counts : (s : Session) (bytes : List ℕ) → (step_out s bytes).stops ≡ false → (s.count < max_records) × ((step_out s bytes).next.count ≡ suc s.count)
unfolding step_out
step_counts s bytes = go (is_empty bytes) (ltb s.count max_records) refl (readable s bytes) (λ r. readable-goes s bytes r)
  where
    served : Step
    served = serve_out s (letter_of bytes) bytes

    go : (a b : Bool) → ltb s.count max_records ≡ b → (c : Bool) → (c ≡ true → Goes s served)
        → (cond a (ended s) (must b (stopped s) (must c (stopped s) served))).stops ≡ false
        → (s.count < max_records) × ((cond a (ended s) (must b (stopped s) (must c (stopped s) served))).next.count ≡ suc s.count)
    go true b e c g h = absurd (true≢false h)
    go false false e c g h = absurd (true≢false h)
    go false true e false g h = absurd (true≢false h)
    go false true e true g h = (ltb-true s.count max_records e, (g refl).counted)

-- ---- What is cut off is empty only at the end of input

empty-take : (k : ℕ) (input : List ℕ) → 1 ≤ k → is_empty (take k input) ≡ is_empty input
empty-take zero input h = absurd (omega arith)
empty-take (suc k) [] h = refl
empty-take (suc k) (x ∷ xs) h = eqb-other (length (take (suc k) (x ∷ xs))) 0 (λ e. omega arith) ∙ sym (eqb-other (length (x ∷ xs)) 0 (λ e. omega arith))

-- the step of the next record, by what is left of the input
abbrev pub step_of : Session → List ℕ → Step
step_of s input = step_out s (next_record s input)

abbrev served_of : Session → List ℕ → Step
served_of s input = serve_out s (letter_of (next_record s input)) (next_record s input)

step_is : (s : Session) (input : List ℕ) (more : Bool) → ltb s.count max_records ≡ more
    → step_of s input ≡ cond (is_empty input) (ended s) (must more (stopped s) (must (readable s (next_record s input)) (stopped s) (served_of s input)))
unfolding step_out
step_is s input more e = rw (empty-take (reach (record_len s (letter_of input))) input (omega (arith, reaches s (letter_of input))), e)

-- ---- Steps, by what the step gives

module _ {s : Session} {input : List ℕ} where
  pub last_as : (o : Step) → step_of s input ≡ o → o.stops ≡ true → Steps s input o.line
  last_as o e = subst (λ (x : Step). x.stops ≡ true → Steps s input x.line) e (λ h. last_step h)

  pub step-as : (o : Step) (out : List ℕ) → step_of s input ≡ o → o.stops ≡ false → Steps o.next (behind s input) out → Steps s input (o.line ++ out)
  step-as o out e = subst (λ (x : Step). x.stops ≡ false → Steps x.next (behind s input) out → Steps s input (x.line ++ out)) e (λ h r. step h r)

-- ---- They print what the definition says

prints : (left : ℕ) (s : Session) (input : List ℕ) → s.count + left ≡ max_records → Steps s input (printed_from end_line left s input)
unfolding printed_from
prints zero s input h = go (is_empty input) (step_is s input false (leb-fails (suc s.count) max_records (omega arith)))
  where
    go : (b : Bool) → step_of s input ≡ cond b (ended s) (stopped s) → Steps s input (cond b end_line stop_line)
    go true e = last_as (ended s) e refl
    go false e = last_as (stopped s) e refl
prints (suc left) s input h =
    go (is_empty input) (readable s (next_record s input)) (λ r. readable-goes s (next_record s input) r)
    (λ e. prints left (served_of s input).next (behind s input) (omega (arith, e)))
    (step_is s input true (leb-holds (suc s.count) max_records (omega arith)))
  where
    served : Step
    served = served_of s input

    rest : List ℕ
    rest = printed_from end_line left served.next (behind s input)

    go : (b r : Bool) → (r ≡ true → Goes s served) → (served.next.count ≡ suc s.count → Steps served.next (behind s input) rest)
        → step_of s input ≡ cond b (ended s) (must r (stopped s) served)
        → Steps s input (cond b end_line (must r stop_line (served.line ++ rest)))
    go true r g more e = last_as (ended s) e refl
    go false false g more e = last_as (stopped s) e refl
    go false true g more e = step-as served rest e (g refl).goes (more (g refl).counted)

-- and nothing else
same_out : {s : Session} {input o o' : List ℕ} → Steps s input o → Steps s input o' → o ≡ o'
same_out (last_step h) (last_step g) = refl
same_out (last_step h) (step g r) = absurd (true≢false (sym h ∙ g))
same_out (step h r) (last_step g) = absurd (true≢false (sym g ∙ h))
same_out {s} {input} (step h r) (step g r') = ap (λ (t : List ℕ). (step_of s input).line ++ t) (same_out r r')

pub steps-print : StepsPrint
unfolding printed
steps-print input = (prints max_records at_start input refl, λ out r. same_out r (prints max_records at_start input refl))

-- ---- What is printed, by the next step, whatever the last line is

module _ (last : List ℕ) (s : Session) (input : List ℕ) where
  -- what is left to print, by the records that the session has served
  abbrev pub printed_on : List ℕ
  printed_on = printed_from last (max_records - s.count) s input

module _ (last : List ℕ) where
  printed-none : (left : ℕ) (s : Session) (input : List ℕ) → is_empty input ≡ true → printed_from last left s input ≡ last
  unfolding printed_from
  printed-none zero s input e = rw e
  printed-none (suc left) s input e = rw e

  -- no bytes: the last line
  pub printed-last : (s : Session) → printed_on last s [] ≡ last
  printed-last s = printed-none (max_records - s.count) s [] refl

  module _ (s : Session) (input : List ℕ) (more : is_empty input ≡ false) where
    -- a step that stops prints the last of its lines
    stops-by : (left : ℕ) → s.count + left ≡ max_records → (step_of s input).stops ≡ true → printed_from last left s input ≡ (step_of s input).line
    unfolding printed_from
    stops-by zero h stop =
        let e : step_of s input ≡ stopped s = step_is s input false (leb-fails (suc s.count) max_records (omega arith)) ∙ rw more in
        rw more (sym (ap (λ (o : Step). o.line) e))
    stops-by (suc left) h stop =
        go (readable s (next_record s input)) (λ r. readable-goes s (next_record s input) r)
        (step_is s input true (leb-holds (suc s.count) max_records (omega arith)) ∙ rw more)
      where
        go : (r : Bool) → (r ≡ true → Goes s (served_of s input)) → step_of s input ≡ must r (stopped s) (served_of s input)
            → cond (is_empty input) last (must r stop_line ((served_of s input).line ++ printed_from last left (served_of s input).next (behind s input)))
            ≡ (step_of s input).line
        go true g e = absurd (true≢false (sym stop ∙ ap (λ (o : Step). o.stops) e ∙ (g refl).goes))
        go false g e = rw more (sym (ap (λ (o : Step). o.line) e))

    goes_by : (left : ℕ) → s.count + left ≡ max_records → (step_of s input).stops ≡ false
        → printed_from last left s input ≡ (step_of s input).line ++ printed_from last (left - 1) (step_of s input).next (behind s input)
    unfolding printed_from
    goes_by zero h goes = absurd (omega (arith, (step_counts s (next_record s input) goes).0))
    goes_by (suc left) h goes =
        go (readable s (next_record s input)) (step_is s input true (leb-holds (suc s.count) max_records (omega arith)) ∙ rw more)
      where
        one : suc left - 1 ≡ left
        one = omega arith

        go : (r : Bool) → step_of s input ≡ must r (stopped s) (served_of s input)
            → cond (is_empty input) last (must r stop_line ((served_of s input).line ++ printed_from last left (served_of s input).next (behind s input)))
            ≡ (step_of s input).line ++ printed_from last (suc left - 1) (step_of s input).next (behind s input)
        go true e = rw (more, e, one)
        go false e = absurd (true≢false (sym (ap (λ (o : Step). o.stops) e) ∙ goes))

    module _ (h : s.count ≤ max_records) where
      pub printed-stops : (step_of s input).stops ≡ true → printed_on last s input ≡ (step_of s input).line
      printed-stops stop = stops-by (max_records - s.count) (omega arith) stop

      pub printed-goes : (step_of s input).stops ≡ false
          → printed_on last s input ≡ (step_of s input).line ++ printed_on last (step_of s input).next (behind s input)
      printed-goes goes =
          let k : max_records - s.count - 1 ≡ max_records - (step_of s input).next.count = omega (arith, (step_counts s (next_record s input) goes).1) in
          goes_by (max_records - s.count) (omega arith) goes
          ∙ ap (λ (n : ℕ). (step_of s input).line ++ printed_from last n (step_of s input).next (behind s input)) k
