-- `serve` meets its contract: the step of the next record, as it changes the view. Assumes nothing.
use Rattle.std.proofs.Common.{◌≡◌, length, arith, rules}
use Rattle.lines.specs.Lines.{max_line}
use Rattle.turns.proofs.Views.{shown-fits, served-view, served-within}
use Rattle.turns.proofs.steps.serve.Goals as goal

pub put_first-gathered-requires : goal.put_first-gathered-requires
put_first-gathered-requires c =
    let a = c.step_at-answer in
    let f = shown-fits a.result a.ensures in
    let l : length a.new.line ≡ max_line = search rules in
    (omega arith, omega arith)

pub returns-clause-view : goal.returns-clause-view
returns-clause-view c =
    let s = c.args.state in
    let n = c.min in
    let a = c.step_at-answer in
    let p = c.put_first-gathered in
    let l : length a.new.line ≡ max_line = search rules in
    served-view s c.args.input.now c.requires.1.within c.requires.0.0 c.args.needed n.result c.requires.2 n.ensures
    c.args.output.now c.requires.0.1 c.requires.1.room a.result _ a.new.line a.ensures l p.new.output p.result
    c.phase_after.result
    p.ensures.output p.ensures.behind c.phase_after.ensures

pub returns-clause-within : goal.returns-clause-within
returns-clause-within c =
    let s = c.args.state in
    let n = c.min in
    let a = c.step_at-answer in
    let p = c.put_first-gathered in
    let l : length a.new.line ≡ max_line = search rules in
    served-within s c.args.input.now c.requires.1.within c.requires.0.0 c.args.needed n.result c.requires.2 n.ensures
    c.args.output.now c.requires.0.1 c.requires.1.room a.result _ a.new.line a.ensures l p.new.output p.result
    c.phase_after.result
    p.ensures.output p.ensures.behind c.phase_after.ensures
