-- `advance` meets its contract: what is served, and then what waits at the front. Assumes nothing.
use Rattle.std.proofs.Common.{rules}
use Rattle.turns.specs.State.{view_of}
use Rattle.turns.proofs.Views.{front-room}
use Rattle.turns.proofs.advance.Goals as goal

pub returns-clause-room : goal.returns-clause-room
returns-clause-room c =
    let o = c.serve_on-served in
    let f = c.fronted in
    front-room o.result f.result c.args.input.now o.new.output (view_of c.args.state c.args.input.now c.args.output.now) f.ensures.same
    o.ensures.within c.requires.0.0 (search rules) o.ensures.view
