-- `try_cover` meets its contract: what the figures are refused with, 3, or what covering answers, as bytes. Assumes nothing.
use mathlib.Core.Path.{◌≡◌, refl, sym, ap, ◌∙◌}
use Prim.Native.Nat.{◌*◌}
use native.Mathlib.Omega.{arith}
use lib.ListN.{length}
use Rattle.std.specs.Prelude.{Ok}
use Rattle.refusals.specs.Numbers.{number_of, answer_of}
use Rattle.cells.specs.Outcomes.{Coding, cover_under}
use Rattle.codes.specs.Bridge.{coding_of}
use Rattle.codes.proofs.Answered.{laid-learnt}
use Rattle.codes.proofs.Covering.{room_in, covers-within}
use Rattle.placements.specs.Bridge.{covered_as as found_as}
use Rattle.decoder.proofs.DemandTwo.{number-of-answer}
use Rattle.lent.specs.Covering.{cover_lent, cover_lent_as}
use Rattle.lent.proofs.Covering.{cover-fits, cover-bytes-put, covered-same, refused-by}
use Rattle.lent.proofs.starts.try_cover.Goals as goal

pub put_covered-requires : goal.put_covered-requires
put_covered-requires c =
    let l = c.in_ok-layout.layout in
    let fit = c.in_ok-layout.ensures.layout.1 in
    let call = c.cover_fitting-found in
    cover-fits l.n l.m l.b (room_in l fit) c.args.map.now c.args.bytes.now c.if-bytes-layout.false call.result
    (call.ensures ∙ sym (covers-within l fit c.args.map.now))

pub returns : goal.returns
returns c =
    let a = c.args in
    let l = c.in_ok-layout.layout in
    let is = laid-learnt a.figures (Ok l) l refl c.in_ok-layout.ensures.answer c.in_ok-layout.ensures.layout in
    let size : length a.bytes.now ≡ 2 * (coding_of a.figures).bursts = omega (arith, c.if-bytes-layout.false, is.2.bursts-is) in
    let found = c.cover_fitting-found in
    let put = c.put_covered in
    let said : cover_lent (answer_of put.result) put.new.bytes ≡ cover_lent_as a.bytes.now (found_as found.result) =
    rw (number-of-answer put.result, covered-same found.result) at (put.ensures number_of (refused-by found.result)) in
    cover-bytes-put (coding_of a.figures) a.map.now a.bytes.now is.0 is.1 size (found_as found.result)
    (found.ensures ∙ ap (λ (d : Coding). cover_under d a.map.now) c.in_ok-layout.ensures.layout.0) (answer_of put.result) put.new.bytes said
