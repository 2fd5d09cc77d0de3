-- `decode` meets its contract: 1, 2, or what figures that fit give. Assumes nothing.
use mathlib.Core.Path.{◌≡◌, refl, sym, ap, ◌∙◌}
use Rattle.std.specs.Prelude.{Ok}
use Rattle.refusals.specs.Numbers.{number_of}
use Rattle.cells.specs.Outcomes.{Coding, decode_under}
use Rattle.codes.specs.Bridge.{coding_of}
use Rattle.codes.specs.Given.{coding_in, Serves}
use Rattle.codes.proofs.Answered.{serves}
use Rattle.decoder.proofs.Calls.{decode-unfit}
use Rattle.codes.proofs.Exact.{by-outcome}
use Rattle.codes.proofs.decode.Goals as goal
use Rattle.codes.proofs.decode.Goals.{After-decode_fitting, After-unread, In-Ok}

-- the layout that was answered
learnt : (c : In-Ok) → (coding_in c.in-Ok.layout ≡ coding_of c.args.figures) × Serves c.in-Ok.layout
learnt c = serves c.args.figures (Ok c.in-Ok.layout) c.in-Ok.layout refl c.in-Ok.ensures.answer c.in-Ok.ensures.layout

pub decode_fitting-requires : goal.decode_fitting-requires
decode_fitting-requires c = (learnt (goal.at.decode_fitting-requires c).In-Ok).1

pub returns-in-Err : goal.returns-in-Err
returns-in-Err c =
    let out = c.args.message.now in
    let d = coding_of c.args.figures in
    let said = by-outcome c.args.figures c.args.word.now out c.unread.result out
    (c.unread.ensures number_of out ∙ sym (decode-unfit d c.args.word.now out (number_of c.in-Err.refusal)
    (sym c.in-Err.ensures.answer))) in
    record { outcome = said.0; exactly = said.1.0; number = said.1.1 }

pub returns-in-Ok : goal.returns-in-Ok
returns-in-Ok c =
    let w = c.args.word.now in
    let out = c.args.message.now in
    let call = c.decode_fitting in
    let said = by-outcome c.args.figures w out call.result call.new.message
    (call.ensures ∙ ap (λ (d : Coding). decode_under d w out) (learnt (goal.at.returns-in-Ok c).In-Ok).0) in
    record { outcome = said.0; exactly = said.1.0; number = said.1.1 }
