-- `serve_read` meets its contract: by the last accepted figures. Assumes nothing.
use mathlib.Core.Path.{subst}
use Rattle.records.specs.Bridge.{session_of, Current}
use Rattle.transfer.proofs.job_records.serve_read.Goals as goal

pub returns : goal.returns
returns c =
    let a = c.args in
    let laid = c.read_laid-len in
    let went = c.counted.ensures in
    let from = session_of a.session in
    let is = subst (Current from.figures) c.in-Some.is c.requires.knows.figures in
    rw is.are
    record {
      next = went.next;
      printed = laid.ensures.printed from;
      len = rw went.len (laid.ensures.length-is from);
      stops = went.stops;
    }
