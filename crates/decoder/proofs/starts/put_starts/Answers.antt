-- `put_starts` meets its contract: the first j starts are stored. Assumes nothing.
use mathlib.Core.Path.{◌≡◌}
use native.Mathlib.Omega.{arith}
use borrow.Author.Rules.{rules}
use lib.ListN.{length, get_or, length-set}
use lib.Seq.{length-take-le, get_or-take}
use Rattle.cells.specs.Figures.{max_bursts}
use Rattle.placements.specs.Bridge.{starts_in}
use Rattle.decoder.proofs.Bytes.{bytes-turn, bytes-done}
use Rattle.decoder.proofs.starts.put_starts.Goals as goal
use Rattle.decoder.proofs.starts.put_starts.Goals.{Start}

many : (s : Start) → length (starts_in s.args.at) ≡ s.args.at.count
many s =
    let l : length s.args.at.starts ≡ max_bursts = search rules in
    length-take-le s.args.at.count s.args.at.starts (omega arith)

pub loop-j-preserved : goal.loop-j-preserved
loop-j-preserved c =
    let t = c.loop-j in
    let e : get_or (starts_in c.args.at) t.j 0 ≡ get_or c.args.at.starts t.j 0 =
    get_or-take c.args.at.count c.args.at.starts t.j 0 (omega arith) in (
      simp length-set t.invariant.0,
      rw e at (bytes-turn (starts_in c.args.at) t.bytes t.j (omega (arith, many (goal.at.loop-j-preserved c).Start, t.invariant.0)) t.invariant.1 (omega (arith, many (goal.at.loop-j-preserved c).Start))),
    )

pub returns : goal.returns
returns c =
    let t = c.loop-j in
    bytes-done (starts_in c.args.at) t.bytes t.j (omega (arith, many (goal.at.returns c).Start, t.invariant.0)) t.invariant.1 (omega (arith, many (goal.at.returns c).Start))
