-- `fill` meets its contract: a word without a rank is cleared. Assumes nothing.
use Rattle.larsson_encoder.proofs.Spelling.{cleared}
use Rattle.larsson_encoder.proofs.fill.fill.Goals as goal

pub returns-then-layout-eq0 : goal.returns-then-layout-eq0
returns-then-layout-eq0 c =
    let a = c.args in
    cleared a.layout a.at a.message.now a.word.now c.requires c.if-layout-eq0.true c.clear.new.symbols c.clear.ensures
