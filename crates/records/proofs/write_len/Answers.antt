-- `write_len` meets its contract. Assumes nothing.
use mathlib.Core.Path.{subst}
use Rattle.std.proofs.Common.{arith}
use Rattle.records.proofs.Lengths.{bursts-few, payload-short}
use Rattle.records.specs.Bridge.{last_figures, IsCurrent, Current}
use Rattle.records.proofs.write_len.Goals as goal
use Rattle.records.proofs.write_len.Goals.{After-payload_len}

-- the figures that are laid out are the last accepted ones
is-current : (c : After-payload_len)
    → (let laid = c.in_ok-layout.field-0 in IsCurrent (last_figures c.args.figures) laid.figures laid.layout)
is-current c = subst (Current (last_figures c.args.figures)) c.in_ok-layout.was c.requires

pub overflow_add-result-2 : goal.overflow_add-result-2
overflow_add-result-2 c =
    let laid = c.in_ok-layout.field-0 in
    let is = is-current (goal.at.overflow_add-result-2 c).After-payload_len in
    omega (arith, bursts-few _ laid.figures laid.layout is, payload-short _ laid.figures laid.layout is, c.payload_len.ensures)
