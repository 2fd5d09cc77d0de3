-- `JobTable::twice_by` meets its contract. The invariant: from slot `i` on no number is held twice, and each has its mark. Assumes nothing.
use Rattle.std.proofs.Common.{◌≡◌, ◌+◌, ◌-◌, drop, false, get_or, sym, ap, ◌∙◌, rules, arith, List}
use Rattle.jobs.specs.declared.Entry.{Entry}
use Rattle.jobs.proofs.SlotLaws.{rest-is}
use Rattle.jobs.specs.Slots.{entries}
use Rattle.jobs.specs.Table.{again}
use Rattle.jobs.specs.declared.Entry.TheVariants.{Free}
use Rattle.jobs.proofs.Marks.{none-marked, step_back, marks-next, marks-found, unmarked}
use Rattle.jobs.proofs.JobTable.twice_by.Goals as goal
use Rattle.jobs.proofs.JobTable.twice_by.Goals.{else-marks-mark-via-then-marks-mark+else-again, else-marks-mark-via-else-marks-mark}

pub loop-i-init : goal.loop-i-init
loop-i-init c = none-marked c.args.self (search rules) c.args.marks.now c.requires

pub returns-then-again : goal.returns-then-again
returns-then-again c =
    let t = c.args.self in
    let l = c.loop-i in
    sym (marks-found t (search rules) l.marks (l.i - 1) _ (omega arith) (step_back t (search rules) l.marks l.i (omega arith) l.invariant)
    (sym (c.again.ensures ∙ ap (λ (es : List Entry). again es (get_or t.slots (l.i - 1) Free)) (rest-is (l.i - 1 + 1) (entries t))) ∙ c.if-again.true))

pub loop-i-preserved : goal.loop-i-preserved
loop-i-preserved c =
    let t = c.args.self in
    let l = c.loop-i in
    let m = c.mark_of-mark in
    let marked = step_back t (search rules) l.marks l.i (omega arith) l.invariant in
    let once : again (drop (l.i - 1 + 1) (entries t)) (get_or t.slots (l.i - 1) Free) ≡ false =
    elim c.else-marks-mark.branch [
      | else-marks-mark-via-then-marks-mark+else-again w ↦ sym (w.again.ensures ∙ ap (λ (es : List Entry). again es (get_or t.slots (l.i - 1) Free)) (rest-is (l.i - 1 + 1) (entries t))) ∙ w.if-again.false
      | else-marks-mark-via-else-marks-mark w ↦ unmarked (entries t) l.marks (l.i - 1 + 1) marked _ m.result m.ensures w.if-marks-mark.false
    ] in
    marks-next t (search rules) l.marks (l.i - 1) _ (omega arith) marked m.result m.ensures once
