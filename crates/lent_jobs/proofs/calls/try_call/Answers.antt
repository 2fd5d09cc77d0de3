-- `try_call` meets its contract: 3, 1, or what the call answers, with the table as bytes. Assumes nothing.
use mathlib.Core.Path.{◌≡◌, sym, ap, ◌∙◌}
use mathlib.Core.List.{List}
use Prim.Native.Nat.{ℕ}
use Rattle.std.proofs.lemmas.Result.{err_from_is_err_and}
use Rattle.refusals.specs.Refusals.{served}
use Rattle.refusals.specs.Numbers.{number_of, answer_of}
use Rattle.refusals.proofs.Numbers.{never-served}
use Rattle.jobs.specs.declared.Entry.{Entry}
use Rattle.jobs.specs.Letters.{list_kind, call_by}
use Rattle.jobs.specs.Slots.{outcome}
use Rattle.jobs.specs.Table.{TableOut}
use Rattle.lent_jobs.specs.Calls.{called}
use Rattle.lent_jobs.proofs.CallLaws.{call_length, call-state, call-refused, call-served}
use Rattle.lent_jobs.proofs.calls.try_call.Goals as goal
use Rattle.lent_jobs.proofs.calls.try_call.Goals.{Start}

-- the call of this letter
abbrev by : Start → List Entry → ℕ → TableOut
by s = call_by (list_kind s.args.letter)

pub returns-then-table-ne-TABLE_LEN : goal.returns-then-table-ne-TABLE_LEN
returns-then-table-ne-TABLE_LEN c =
    sym (call_length (by (goal.at.returns-then-table-ne-TABLE_LEN c).Start) c.args.table.now c.args.number c.if-table-ne-TABLE_LEN.true)

pub returns-then-not-states_known : goal.returns-then-not-states_known
returns-then-not-states_known c =
    sym (call-state (by (goal.at.returns-then-not-states_known c).Start) c.args.table.now c.args.number c.if-table-ne-TABLE_LEN.false
    (sym c.states_known.ensures ∙ c.if-not-states_known.true))

pub returns-in_err-out : goal.returns-in_err-out
returns-in_err-out c =
    let call = c.list_call-out in
    let e = call.ensures ∙ ap (λ (es : List Entry). by (goal.at.returns-in_err-out c).Start es c.args.number) c.table_in-before.ensures in
    let p = err_from_is_err_and c.from_residual.result c.from_residual.ensures.1 in
    let told : answer_of call.result.answer ≡ number_of c.in_err-out.field-0.0 = ap answer_of c.in_err-out.was in
    rw (p.1, p.2)
    (rw told at (call-refused (by (goal.at.returns-in_err-out c).Start) c.args.table.now c.args.number c.if-table-ne-TABLE_LEN.false
    (sym c.states_known.ensures ∙ c.if-not-states_known.false) (outcome call.result) e (λ z. never-served _ (sym told ∙ z))))

pub returns : goal.returns
returns c =
    let call = c.list_call-out in
    let e = call.ensures ∙ ap (λ (es : List Entry). by (goal.at.returns c).Start es c.args.number) c.table_in-before.ensures in
    ap (called served) c.put_table.ensures
    ∙ call-served (by (goal.at.returns c).Start) c.args.table.now c.args.number c.if-table-ne-TABLE_LEN.false
    (sym c.states_known.ensures ∙ c.if-not-states_known.false) (outcome call.result) e (ap answer_of c.in_ok-out.was)
