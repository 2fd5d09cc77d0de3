-- `try_decode` meets its contract: what the figures are refused with, 3, or what the word reader answers, as bytes. Assumes nothing.
use native.Mathlib.Omega.{arith}
use Rattle.codes.specs.Given.{coding_in}
use Rattle.codes.proofs.Layouts.{bound}
use Rattle.codes.proofs.Counting.{accepted-count}
use Rattle.decoder.proofs.Bytes.{starts_fit}
use Rattle.lent.proofs.words.try_decode.Goals as goal

pub put_decoded-requires : goal.put_decoded-requires
put_decoded-requires c =
    let a = c.args in
    let l = c.in_ok-layout.layout in
    let fit = c.in_ok-layout.ensures.layout.1 in
    let call = c.decode_fitting-decoded in
    starts_fit (coding_in l) a.word.now a.message.now a.found.now l.m (accepted-count l fit a.word.now a.message.now)
    (omega (arith, bound l fit)) c.if-found-layout.false call.result call.new.message call.ensures
