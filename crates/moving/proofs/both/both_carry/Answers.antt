-- `both_carry` meets its contract, refusal by refusal. Assumes nothing.
use mathlib.Core.Path.{◌≡◌, refl, sym, ◌∙◌}
use mathlib.Core.Bool.{true}
use native.Mathlib.Omega.{arith}
use Rattle.codes.specs.Given.{coding_in}
use Rattle.codes.proofs.Layouts.{bound}
use Rattle.moving.specs.Move.{same_figures}
use Rattle.moving.proofs.FitBoth.{from-carries-not, to-carries-not, strip-other, moved_other, both-ready}
use Rattle.moving.proofs.both.both_carry.Goals as goal
use Rattle.moving.proofs.both.both_carry.Goals.{Else-not-same_figures}

-- past 2
same : (c : Else-not-same_figures) → (let a = c.args in same_figures (coding_in a.source) (coding_in a.target) ≡ true)
same c = sym c.same_figures.ensures ∙ c.if-not-same_figures.false

pub payload_len-requires : goal.payload_len-requires
payload_len-requires c =
    (bound c.args.source c.requires.0).q-most

pub returns-then-payload_len-lt-MIN_PAYLOAD : goal.returns-then-payload_len-lt-MIN_PAYLOAD
returns-then-payload_len-lt-MIN_PAYLOAD c =
    let a = c.args in
    let x = c.payload_len in
    from-carries-not a.source a.target c.requires.0 c.requires.1 a.strip a.moved (same (goal.at.returns-then-payload_len-lt-MIN_PAYLOAD c).Else-not-same_figures) x.result x.ensures c.if-payload_len-lt-MIN_PAYLOAD.true

pub payload_len-requires-2 : goal.payload_len-requires-2
payload_len-requires-2 c =
    (bound c.args.target c.requires.1).q-most

pub returns-then-payload_len-lt-MIN_PAYLOAD-2 : goal.returns-then-payload_len-lt-MIN_PAYLOAD-2
returns-then-payload_len-lt-MIN_PAYLOAD-2 c =
    let a = c.args in
    let x = c.payload_len in
    let y = c.payload_len-2 in
    to-carries-not a.source a.target c.requires.0 c.requires.1 a.strip a.moved (same (goal.at.returns-then-payload_len-lt-MIN_PAYLOAD-2 c).Else-not-same_figures) x.result x.ensures
    (omega (arith, c.if-payload_len-lt-MIN_PAYLOAD.false)) y.result y.ensures c.if-payload_len-lt-MIN_PAYLOAD-2.true

pub returns-then-strip-source : goal.returns-then-strip-source
returns-then-strip-source c =
    let a = c.args in
    let x = c.payload_len in
    let y = c.payload_len-2 in
    strip-other a.source a.target c.requires.0 c.requires.1 a.strip a.moved (same (goal.at.returns-then-strip-source c).Else-not-same_figures) x.result x.ensures
    (omega (arith, c.if-payload_len-lt-MIN_PAYLOAD.false))
    y.result y.ensures (omega (arith, c.if-payload_len-lt-MIN_PAYLOAD-2.false)) c.if-strip-source.true

pub returns-then-moved-target : goal.returns-then-moved-target
returns-then-moved-target c =
    let a = c.args in
    let x = c.payload_len in
    let y = c.payload_len-2 in
    moved_other a.source a.target c.requires.0 c.requires.1 a.strip a.moved (same (goal.at.returns-then-moved-target c).Else-not-same_figures) x.result x.ensures
    (omega (arith, c.if-payload_len-lt-MIN_PAYLOAD.false))
    y.result y.ensures (omega (arith, c.if-payload_len-lt-MIN_PAYLOAD-2.false)) c.if-strip-source.false c.if-moved-target.true

pub returns : goal.returns
returns c =
    let a = c.args in
    let x = c.payload_len in
    let y = c.payload_len-2 in (
      refl,
      refl,
      both-ready a.source a.target c.requires.0 c.requires.1 a.strip a.moved (same (goal.at.returns c).Else-not-same_figures) x.result x.ensures
          (omega (arith, c.if-payload_len-lt-MIN_PAYLOAD.false))
          y.result y.ensures (omega (arith, c.if-payload_len-lt-MIN_PAYLOAD-2.false)) c.if-strip-source.false c.if-moved-target.false,
    )
