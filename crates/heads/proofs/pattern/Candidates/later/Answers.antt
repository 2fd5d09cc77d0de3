-- `Candidates::later` meets its contract, case by case. Assumes nothing.
use native.Mathlib.Omega.{arith}
use Rattle.heads.proofs.Listed.{later-alone, later-many, later-next, later-inner, later-short, later-ends}
use Rattle.heads.proofs.pattern.Candidates.later.Goals as goal

pub returns-then-self-eq1-clause-later : goal.returns-then-self-eq1-clause-later
returns-then-self-eq1-clause-later c = λ xs e. later-alone c.args.n c.args.self xs e c.if-self-eq1.true

pub returns-then-self-ne2-clause-later : goal.returns-then-self-ne2-clause-later
returns-then-self-ne2-clause-later c = λ xs e. later-many c.args.n c.args.self xs e
    c.if-self-eq1.false c.if-self-ne2.true

pub returns-then-self-clause-later : goal.returns-then-self-clause-later
returns-then-self-clause-later c = λ xs e. later-next c.args.n
    c.args.self xs e (omega arith)
    c.if-self.true

pub returns-then-self-ne0-clause-later : goal.returns-then-self-ne0-clause-later
returns-then-self-ne0-clause-later c = λ xs e. later-inner c.args.n
    c.args.self xs e (omega arith) c.if-self.false c.if-self-ne0.true

pub returns-then-self-n-clause-later : goal.returns-then-self-n-clause-later
returns-then-self-n-clause-later c = λ xs e. later-short c.args.n
    c.args.self xs e (omega arith)
    c.if-self.false (omega arith) c.if-self-n.true

pub returns-clause-later : goal.returns-clause-later
returns-clause-later c = λ xs e. later-ends c.args.n
    c.args.self xs e (omega arith)
    c.if-self.false (omega arith) (omega arith)
