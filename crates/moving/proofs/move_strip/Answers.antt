-- `move_strip` meets its contract. Assumes nothing.
use mathlib.Core.Path.{◌≡◌, sym, ◌∙◌}
use mathlib.Core.Bool.{false}
use Rattle.codes.specs.Bridge.{coding_of}
use Rattle.jobs.specs.Slots.{entries}
use Rattle.jobs.specs.Table.{twice}
use Rattle.std.proofs.lemmas.Result.{err_from_is_err_and}
use Rattle.moving.proofs.FitBoth.{out-twice, out-refused, out-fitting}
use Rattle.moving.proofs.move_strip.Goals as goal
use Rattle.moving.proofs.move_strip.Goals.{Else-twice}

once : (c : Else-twice) → twice (entries c.args.table) ≡ false
once c = sym c.twice.ensures ∙ c.if-twice.false

pub returns-then-twice : goal.returns-then-twice
returns-then-twice c =
    let a = c.args in
    sym (out-twice (coding_of a.from) (coding_of a.to) (entries a.table) a.strip.now a.moved.now
    (sym c.twice.ensures ∙ c.if-twice.true))

pub returns-in_err-source : goal.returns-in_err-source
returns-in_err-source c =
    let a = c.args in
    let p = err_from_is_err_and c.from_residual.result c.from_residual.ensures.1 in
    rw (p.1, p.2)
    (sym (out-refused (coding_of a.from) (coding_of a.to) (entries a.table) a.strip.now a.moved.now _
    (once (goal.at.returns-in_err-source c).Else-twice) c.in_err-source.ensures))

pub returns : goal.returns
returns c =
    let a = c.args in
    let own = c.in_ok-source.ensures in
    rw (
      ← own.0,
      ← own.1,
      out-fitting _ _ (entries a.table) a.strip.now a.moved.now own.2 (once (goal.at.returns c).Else-twice),
    )
    c.move_fitting.ensures
