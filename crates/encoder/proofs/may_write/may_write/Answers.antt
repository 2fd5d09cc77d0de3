-- `may_write` meets its contract, test by test. Assumes nothing.
use mathlib.Core.Path.{sym, ◌∙◌}
use Rattle.placements.specs.Bridge.{held_as}
use Rattle.encoder.proofs.MayWrite.{number-count, number-message, number_word, number-starts, number-symbol, number-none}
use Rattle.encoder.proofs.may_write.may_write.Goals as goal

pub returns-then-at-walk : goal.returns-then-at-walk
returns-then-at-walk c =
    let a = c.args in
    sym (number-count a.walk.n a.walk.m a.walk.b a.q a.k (held_as a.at) a.message.now a.lent (λ e. c.if-at-walk.true e))

pub returns-then-message-k : goal.returns-then-message-k
returns-then-message-k c =
    let a = c.args in
    sym (number-message a.walk.n a.walk.m a.walk.b a.q a.k (held_as a.at) a.message.now a.lent c.if-at-walk.false
    (λ e. c.if-message-k.true e))

pub returns-then-lent-walk : goal.returns-then-lent-walk
returns-then-lent-walk c =
    let a = c.args in
    sym (number_word a.walk.n a.walk.m a.walk.b a.q a.k (held_as a.at) a.message.now a.lent c.if-at-walk.false
    c.if-message-k.false (λ e. c.if-lent-walk.true e))

pub returns-then-not-apart : goal.returns-then-not-apart
returns-then-not-apart c =
    let a = c.args in
    sym (number-starts a.walk.n a.walk.m a.walk.b a.q a.k (held_as a.at) a.message.now a.lent
    c.if-at-walk.false c.if-message-k.false
    c.if-lent-walk.false (sym c.apart.ensures ∙ c.if-not-apart.true))

pub returns-then-not-all_below : goal.returns-then-not-all_below
returns-then-not-all_below c =
    let a = c.args in
    sym (number-symbol a.walk.n a.walk.m a.walk.b a.q a.k (held_as a.at) a.message.now a.lent
    c.if-at-walk.false
    c.if-message-k.false
    c.if-lent-walk.false
    (sym c.apart.ensures ∙ c.if-not-apart.false)
    (sym c.all_below.ensures ∙ c.if-not-all_below.true))

pub returns : goal.returns
returns c =
    let a = c.args in
    sym (number-none a.walk.n a.walk.m a.walk.b a.q a.k (held_as a.at) a.message.now a.lent
    c.if-at-walk.false
    c.if-message-k.false
    c.if-lent-walk.false
    (sym c.apart.ensures ∙ c.if-not-apart.false)
    (sym c.all_below.ensures ∙ c.if-not-all_below.false))
