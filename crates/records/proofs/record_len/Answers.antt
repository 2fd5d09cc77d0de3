-- `record_len` meets its contract, letter by letter. Assumes nothing.
use mathlib.Core.Path.{sym, ◌∙◌}
use Rattle.records.specs.Bridge.{session_of}
use Rattle.records.proofs.Lengths.{len-other}
use Rattle.records.proofs.Readable.{len-S, len-L, len-O, len-C, len-F, len-W, len-R}
use Rattle.records.proofs.record_len.Goals as goal

pub returns-in-67 : goal.returns-in-67
returns-in-67 c = sym (len-C (session_of c.args.session) c.args.letter c.in-67.is)

pub returns-in-70 : goal.returns-in-70
returns-in-70 c = sym (len-F (session_of c.args.session) c.args.letter c.in-70.is)

pub returns-in-76 : goal.returns-in-76
returns-in-76 c = sym (len-L (session_of c.args.session) c.args.letter c.in-76.is)

pub returns-in-79 : goal.returns-in-79
returns-in-79 c = sym (len-O (session_of c.args.session) c.args.letter c.in-79.is)

pub returns-in-83 : goal.returns-in-83
returns-in-83 c = sym (len-S (session_of c.args.session) c.args.letter c.in-83.is)

pub returns-in-82 : goal.returns-in-82
returns-in-82 c = c.read_len.ensures ∙ sym (len-R (session_of c.args.session) c.args.letter c.in-82.is)

pub returns-in-87 : goal.returns-in-87
returns-in-87 c = c.write_len.ensures ∙ sym (len-W (session_of c.args.session) c.args.letter c.in-87.is)

pub returns-in_default : goal.returns-in_default
returns-in_default c =
    let other = c.in_default.in_default-own.rest in
    sym (len-other (session_of c.args.session) c.args.letter other.0.0.0.0.0.0.1 other.0.0.0.0.0.1 other.0.0.0.0.1 other.0.0.0.1 other.0.0.1 other.0.1 other.1)
