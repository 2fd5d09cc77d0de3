-- What is known of a session is known of it after the next record, but for figures that came with S or L. Assumes nothing.
use mathlib.Core.Path.{◌≡◌, sym, subst, ◌∙◌}
use mathlib.Core.List.{List}
use mathlib.Core.Option.{Option}
use Prim.Native.Nat.{ℕ}
use native.Mathlib.Omega.{arith}
use lib.ListN.{take}
use lib.Seq.{get_or-take}
use Rattle.codes.specs.declared.Figures.{Figures}
use Rattle.records.specs.declared.Known.{Known}
use Rattle.records.specs.Bridge.{Current, Knows, StillKnown}
use Rattle.records.specs.Records.{letter_of}
use Rattle.records.specs.Session.{Session}
use Rattle.records.proofs.Readable.{needed-least}
use Rattle.transfer.specs.Steps.{step_out}
use Rattle.transfer.proofs.Kept.{step-figures, step_twice}
use Rattle.turns.specs.declared.Phase.{Phase}
use Rattle.turns.specs.declared.Phase.TheVariants.{Open, Ended, Failed, Done}
use Rattle.turns.specs.View.{View, needs, step_at, step_for}

module _ (s : Session) (bytes : List ℕ) (k : Known) (is : Knows s k) where
  after-step : StillKnown (step_out s bytes).next (letter_of bytes) k
  after-step =
      record {
        figures = λ a l. subst (λ (f : Option Figures). Current f k.current) (sym (step-figures s bytes a l)) is.figures;
        table = is.table ∙ sym (step_twice s bytes);
      }

  after-at : (p : Phase) → StillKnown (step_at p s bytes).next (letter_of bytes) k
  after-at Open = after-step
  after-at Ended = after-step
  after-at Failed = record { figures = λ a l. is.figures; table = is.table }
  after-at Done = after-step

-- the session after the next record, and the letter of what waits
pub still-known : (v : View) (next : Session) (letter : ℕ) (k : Known) → next ≡ (step_for v).next → letter ≡ letter_of v.waiting → Knows v.session k
    → StillKnown next letter k
still-known v next letter k e l is =
    let bytes = take (needs v) v.waiting in
    let same : letter_of bytes ≡ letter =
    get_or-take {A = ℕ} (needs v) v.waiting 2 0 (omega (arith, needed-least v.session v.waiting)) ∙ sym l in
    subst (λ (x : Session). StillKnown x letter k) (sym e)
    (subst (λ (x : ℕ). StillKnown (step_for v).next x k) same (after-at v.session bytes k is v.phase))
