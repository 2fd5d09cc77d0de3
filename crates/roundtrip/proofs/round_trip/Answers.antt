-- `round_trip` meets its contract: what is found after the damage reads back. Assumes nothing.
use mathlib.Core.Path.{◌≡◌, sym, ap, ap₂, ◌∙◌}
use mathlib.Core.List.{List}
use Prim.Native.Nat.{ℕ}
use lib.ListN.{length}
use Rattle.combinatorics.specs.Bursts.{in_burst}
use Rattle.cells.specs.Outcomes.{decode_under}
use Rattle.codes.specs.Bridge.{coding_of}
use Rattle.placements.specs.Bridge.{held_as, starts_in}
use Rattle.roundtrip.specs.Damage.{damaged}
use Rattle.roundtrip.proofs.ReadBack.{is-written, few-bursts, written-len, reads-back}
use Rattle.roundtrip.proofs.round_trip.Goals as goal

-- the word and the length of a burst are those of the code
spoilt-as : {b b' : ℕ} {w w' v : List ℕ} (ss ds : List ℕ) → b ≡ b' → w ≡ w' → v ≡ damaged (in_burst b ss) ds w → v ≡ damaged (in_burst b' ss) ds w'
spoilt-as ss ds e₁ e₂ e = e ∙ ap₂ (λ (b : ℕ) (w : List ℕ). damaged (in_burst b ss) ds w) e₁ e₂

pub spoil-requires : goal.spoil-requires
spoil-requires c =
    let h = c.requires in
    let f = c.args.figures in
    let written = rw (is-written f (held_as c.args.at) c.args.message.now c.args.damage.now c.args.word.now c.args.read.now h)
    at c.encode.ensures.word in
    record {
      few = few-bursts f (held_as c.args.at) c.args.message.now c.args.damage.now c.args.word.now c.args.read.now h;
      room = h.damage-len ∙ sym (ap length written ∙ written-len f (held_as c.args.at) c.args.message.now c.args.damage.now
          c.args.word.now c.args.read.now h);
    }

pub returns-clause-read : goal.returns-clause-read
returns-clause-read c =
    let h = c.requires in
    let f = c.args.figures in
    let ds = c.args.damage.now in
    let written = rw (is-written f (held_as c.args.at) c.args.message.now ds c.args.word.now c.args.read.now h)
    at c.encode.ensures.word in
    let found = spoilt-as (starts_in c.args.at) ds c.burst_len.ensures
    written c.spoil.ensures in c.decode.ensures.outcome ∙ ap (λ (w : List ℕ). decode_under (coding_of f) w c.args.read.now) found
    ∙ reads-back f (held_as c.args.at) c.args.message.now ds c.args.word.now c.args.read.now h

pub returns-clause-word : goal.returns-clause-word
returns-clause-word c =
    let h = c.requires in
    let f = c.args.figures in
    let ds = c.args.damage.now in
    let written = rw (is-written f (held_as c.args.at) c.args.message.now ds c.args.word.now c.args.read.now h)
    at c.encode.ensures.word in
    let found = spoilt-as (starts_in c.args.at) ds c.burst_len.ensures
    written c.spoil.ensures in found
