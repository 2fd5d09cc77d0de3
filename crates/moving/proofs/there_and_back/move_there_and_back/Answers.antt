-- `move_there_and_back` meets its contract: the first move is refused, or the second moves what is found in between. Assumes nothing.
use mathlib.Core.Path.{refl, ap, ◌∙◌}
use Prim.Native.Nat.{ℕ}
use Rattle.combinatorics.specs.Bursts.{in_burst}
use Rattle.placements.specs.Bridge.{starts_in}
use Rattle.jobs.specs.Slots.{entries}
use Rattle.roundtrip.specs.Damage.{damaged}
use Rattle.refusals.specs.Refusals.{served}
use Rattle.refusals.specs.Numbers.{answer_of}
use Rattle.refusals.proofs.Numbers.{never-served}
use Rattle.moving.proofs.ThereAndBack.{with-strip, refused-there, moved_back}
use Rattle.moving.proofs.there_and_back.move_there_and_back.Goals as goal

pub returns-in-Ok-clause-outcome : goal.returns-in-Ok-clause-outcome
returns-in-Ok-clause-outcome c =
    let a = c.args in
    let es = entries a.table in
    let ss = starts_in a.at in
    let m = c.in-Ok in
    let s = c.spoil in
    let n = c.move_strip-in-Ok in
    let x = c.move_strip.new.moved in
    let y = s.new.word in
    let back = n.new.moved in (with-strip a.from a.to es ss a.strip.now a.damage.now a.between.now a.back.now (answer_of n.result) y back
    (moved_back a.from a.to es ss a.strip.now a.damage.now a.between.now a.back.now served x m.ensures refl y (s.ensures ∙ ap (λ (b : ℕ). damaged (in_burst b ss) a.damage.now x) c.burst_len.ensures)
    (answer_of n.result) back n.ensures)).0

pub returns-in-Ok-clause-returned : goal.returns-in-Ok-clause-returned
returns-in-Ok-clause-returned c =
    let a = c.args in
    let es = entries a.table in
    let ss = starts_in a.at in
    let m = c.in-Ok in
    let s = c.spoil in
    let n = c.move_strip-in-Ok in
    let x = c.move_strip.new.moved in
    let y = s.new.word in
    let back = n.new.moved in (with-strip a.from a.to es ss a.strip.now a.damage.now a.between.now a.back.now (answer_of n.result) y back
    (moved_back a.from a.to es ss a.strip.now a.damage.now a.between.now a.back.now served x m.ensures refl y (s.ensures ∙ ap (λ (b : ℕ). damaged (in_burst b ss) a.damage.now x) c.burst_len.ensures)
    (answer_of n.result) back n.ensures)).1

pub returns-in-Err-clause-outcome : goal.returns-in-Err-clause-outcome
returns-in-Err-clause-outcome c =
    let a = c.args in
    let es = entries a.table in
    let ss = starts_in a.at in
    let x = c.move_strip.new.moved in
    refused-there a.from a.to es ss a.strip.now a.damage.now a.between.now a.back.now _ x c.in-Err.ensures (never-served _)

pub returns-in-Err-clause-returned : goal.returns-in-Err-clause-returned
returns-in-Err-clause-returned c =
    let a = c.args in
    let es = entries a.table in
    let ss = starts_in a.at in
    let x = c.move_strip.new.moved in
    (with-strip a.from a.to es ss a.strip.now a.damage.now a.between.now a.back.now _ x a.back.now
    (refused-there a.from a.to es ss a.strip.now a.damage.now a.between.now a.back.now _ x c.in-Err.ensures (never-served _))).1
