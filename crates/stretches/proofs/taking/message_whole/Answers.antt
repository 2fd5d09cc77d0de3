-- `message_whole` meets its contract. Assumes nothing.
use mathlib.Core.Path.{sym, ◌∙◌}
use mathlib.Core.Bool.{false≢true}
use Prim.Native.Nat.{suc}
use lib.ListN.{get_or}
use Rattle.combinatorics.proofs.Cases.{leb-holds}
use Rattle.combinatorics.proofs.Cover.{of-covers}
use Rattle.combinatorics.proofs.Lists.{below_at}
use Rattle.cells.specs.Erasures.{erased_at}
use Rattle.placements.specs.Bridge.{starts_in}
use Rattle.stretches.proofs.taking.message_whole.Goals as goal

pub returns-then-whole : goal.returns-then-whole
returns-then-whole c =
    let a = c.args in
    let ws = a.word.now in
    let small = below_at a.q ws c.requires.1.alphabet (sym c.requires.0 ∙ c.if-whole.true) in
    sym (of-covers a.walk.n a.walk.b (erased_at a.q ws) (starts_in a.at)
    (λ x _ e. absurd (false≢true (rw (leb-holds (suc (get_or ws x 0)) a.q (small x)) at e))))
