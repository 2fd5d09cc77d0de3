-- `needed_by` meets its contract: mark and letter where no record begins so, or the record's length. Assumes nothing.
use mathlib.Core.Path.{◌≡◌, refl, ap, ◌∙◌}
use Rattle.std.proofs.Common.{ℕ, arith}
use Rattle.std.specs.Prelude.{Option, Some, None, unwrap_or}
use Rattle.records.specs.Bridge.{session_of, length_as}
use Rattle.records.specs.Records.{record_head_len, reach, needed_for}
use Rattle.records.proofs.Readable.{needed-most}
use Rattle.records.proofs.needed_by.Goals as goal
use Rattle.records.proofs.needed_by.Goals.{After-unwrap_or}

reached : (r : Option ℕ) → unwrap_or r record_head_len ≡ reach (length_as r)
reached (Some k) = refl
reached None = refl

needed : (c : After-unwrap_or) → c.unwrap_or.result ≡ needed_for (session_of c.args.session) c.args.waiting.now
needed c = c.unwrap_or.ensures ∙ reached c.begun_len.result ∙ ap reach c.begun_len.ensures

pub returns-clause-bytes : goal.returns-clause-bytes
returns-clause-bytes c = needed (goal.at.returns-clause-bytes c).After-unwrap_or

pub returns-clause-most : goal.returns-clause-most
returns-clause-most c =
    omega (arith, needed (goal.at.returns-clause-most c).After-unwrap_or, needed-most (session_of c.args.session) c.args.waiting.now)
