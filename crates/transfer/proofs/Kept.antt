-- What the steps keep: a session that begins at the start holds no figures but accepted ones, only S and L change them, and no record puts a number into
-- the table twice. Assumes nothing.
use mathlib.Core.Path.{◌≡◌, refl, ap}
use mathlib.Core.Logic.{◌≢◌}
use mathlib.Core.Bool.{Bool, true, false, cond}
use mathlib.Core.List.{List}
use mathlib.Core.Option.{Option, none, some}
use Prim.Native.Nat.{ℕ}
use lib.Dec.{ltb, eqb}
use lib.ListN.{drop}
use Rattle.refusals.specs.Refusals.{must}
use Rattle.combinatorics.proofs.Cases.{eqb-true}
use Rattle.cells.specs.Outcomes.{FiguresOut, figured, unserved, figures_under}
use Rattle.codes.specs.Bridge.{coding_of}
use Rattle.codes.specs.declared.Figures.{Figures}
use Rattle.jobs.specs.declared.Entry.{Entry}
use Rattle.jobs.specs.Letters.{kind_of, call_by, is_letter}
use Rattle.jobs.specs.Table.{twice}
use Rattle.payloads.specs.Payload.{job_number}
use Rattle.records.specs.Session.{Session, at_start, max_records}
use Rattle.lines.specs.Lines.{letter_s, letter_l, letter_w, letter_r}
use Rattle.records.specs.Records.{record_head_len, letter_of, is_empty, if_fit, current, readable, figures_in, long_figures_in}
use Rattle.transfer.specs.Steps.{Step, stopped, ended, figures_step, call_step, write_out, read_out, serve_out, step_out}
use Rattle.transfer.proofs.Once.{call-twice}

-- it holds of the figures and the table after a step
abbrev After : (Option Figures → List Entry → Type 0) → Step → Type 0
After P o = P o.next.figures o.next.table

-- ---- What holds before, and after S, L and the calls, holds after every step

module _ (s : Session) (bytes : List ℕ) (P : Option Figures → List Entry → Type 0) (h : P s.figures s.table) where
  write_keeps : (f : Option Figures) → After P (write_out s bytes f)
  write_keeps none = h
  write_keeps (some f) = h

  read_keeps : (f : Option Figures) → After P (read_out s bytes f)
  read_keeps none = h
  read_keeps (some f) = h

  serve-keeps : (letter : ℕ) → ((f : Figures) → eqb letter letter_s ≡ true → After P (figures_step s letter f (figures_under (coding_of f))))
      → ((f : Figures) → eqb letter letter_l ≡ true → After P (figures_step s letter f (figures_under (coding_of f))))
      → ((n : ℕ) → After P (call_step s letter (call_by (kind_of letter) s.table n))) → After P (serve_out s letter bytes)
  unfolding serve_out
  serve-keeps letter short long call =
      go (eqb letter letter_s) (eqb letter letter_l) (is_letter letter) (eqb letter letter_w) (eqb letter letter_r) (short (figures_in bytes))
      (long (long_figures_in bytes))
    where
      go : (a l b c d : Bool) → (a ≡ true → After P (figures_step s letter (figures_in bytes) (figures_under (coding_of (figures_in bytes)))))
          → (l ≡ true → After P (figures_step s letter (long_figures_in bytes) (figures_under (coding_of (long_figures_in bytes)))))
          → After P (cond a (figures_step s letter (figures_in bytes) (figures_under (coding_of (figures_in bytes))))
          (cond l (figures_step s letter (long_figures_in bytes) (figures_under (coding_of (long_figures_in bytes))))
          (cond b (call_step s letter (call_by (kind_of letter) s.table (job_number (drop record_head_len bytes))))
          (cond c (write_out s bytes (current s.figures)) (cond d (read_out s bytes (current s.figures)) (stopped s))))))
      go true l b c d x y = x refl
      go false true b c d x y = y refl
      go false false true c d x y = call (job_number (drop record_head_len bytes))
      go false false false true d x y = write_keeps (current s.figures)
      go false false false false true x y = read_keeps (current s.figures)
      go false false false false false x y = h

  step_keeps : ((f : Figures) → eqb (letter_of bytes) letter_s ≡ true → After P (figures_step s (letter_of bytes) f (figures_under (coding_of f))))
      → ((f : Figures) → eqb (letter_of bytes) letter_l ≡ true → After P (figures_step s (letter_of bytes) f (figures_under (coding_of f))))
      → ((n : ℕ) → After P (call_step s (letter_of bytes) (call_by (kind_of (letter_of bytes)) s.table n))) → After P (step_out s bytes)
  unfolding step_out
  step_keeps short long call =
      go (is_empty bytes) (ltb s.count max_records) (readable s bytes) (serve_out s (letter_of bytes) bytes) (serve-keeps (letter_of bytes) short long call)
    where
      go : (a b c : Bool) (o : Step) → After P o → After P (cond a (ended s) (must b (stopped s) (must c (stopped s) o)))
      go true b c o k = h
      go false false c o k = h
      go false true false o k = h
      go false true true o k = k

-- ---- The figures

-- the figures that are held are those of the last accepted S or L
abbrev pub Accepted : Session → Type 0
Accepted s = current s.figures ≡ s.figures

pub start-accepted : Accepted at_start
start-accepted = refl

pub step-accepted : (s : Session) → Accepted s → (bytes : List ℕ) → Accepted (step_out s bytes).next
step-accepted s h bytes =
    step_keeps s bytes (λ f es. current f ≡ f) h (λ f _. laid f (figures_under (coding_of f)) refl) (λ f _. laid f (figures_under (coding_of f)) refl) (λ n. h)
  where
    laid : (f : Figures) (o : FiguresOut) → figures_under (coding_of f) ≡ o → Accepted (figures_step s (letter_of bytes) f o).next
    laid f (figured t r k) e = ap (if_fit f) e
    laid f (unserved a) e = h

module _ (s : Session) (bytes : List ℕ) where
  -- no letter but S and L changes them
  pub step-figures : letter_of bytes ≢ letter_s → letter_of bytes ≢ letter_l → (step_out s bytes).next.figures ≡ s.figures
  step-figures a l =
      step_keeps s bytes (λ f es. f ≡ s.figures) refl (λ f e. absurd (a (eqb-true (letter_of bytes) letter_s e)))
      (λ f e. absurd (l (eqb-true (letter_of bytes) letter_l e))) (λ n. refl)

  -- ---- The table

  pub step_twice : twice (step_out s bytes).next.table ≡ twice s.table
  step_twice =
      step_keeps s bytes (λ f es. twice es ≡ twice s.table) refl (λ f _. laid f (figures_under (coding_of f))) (λ f _. laid f (figures_under (coding_of f)))
      (λ n. call-twice s.table n (kind_of (letter_of bytes)))
    where
      laid : (f : Figures) (o : FiguresOut) → twice (figures_step s (letter_of bytes) f o).next.table ≡ twice s.table
      laid f (figured t r k) = refl
      laid f (unserved a) = refl
