-- `stored` meets its contract, case by case. Assumes nothing.
use Rattle.std.proofs.Common.{ℕ, sym, ap, ◌∙◌}
use mathlib.Core.Option.{some}
use Rattle.prescription.specs.declared.eyes.Eye.{Eye}
use Rattle.prescription.specs.Eyes.{lens_of}
use Rattle.prescription.specs.Stored.{fields, fields_of}
use Rattle.prescription.specs.Counts.{stored_of}
use Rattle.prescription.proofs.fields.stored.Goals as goal

pub returns-in-Plano : goal.returns-in-Plano
unfolding lens_of fields_of
returns-in-Plano c = ap (λ (k : ℕ). some (fields k 0 0 0)) c.from.ensures ∙ sym (ap (λ (e : Eye). stored_of (lens_of e)) c.in-Plano.is)
