-- `encode_fitting` meets its contract: the tests refuse, or the word is filled. Assumes nothing.
use mathlib.Core.Path.{◌≡◌, sym, ◌∙◌}
use Prim.Native.Nat.{ℕ}
use borrow.Author.Rules.{rules}
use lib.ListN.{length}
use Rattle.std.proofs.lemmas.Result.{err_from_is_err_and}
use Rattle.refusals.specs.declared.Refusal.{Refusal}
use Rattle.refusals.specs.Refusals.{served}
use Rattle.refusals.specs.Numbers.{number_of}
use Rattle.refusals.proofs.Numbers.{never-served}
use Rattle.cells.specs.Outcomes.{encode_under}
use Rattle.cells.specs.Figures.{max_bursts}
use Rattle.params.specs.Given.{blocks_coding}
use Rattle.params.proofs.Either.{in-shape, in_order, numbers-in}
use Rattle.params.proofs.Shape.{long}
use Rattle.placements.specs.Bridge.{held_as}
use Rattle.placements.proofs.Calls.{room_in}
use Rattle.placements.proofs.Placing.{placing-of}
use Rattle.stretches.specs.ByBlock.{walk_of}
use Rattle.stretches.specs.declared.Walk.{Walk}
use Rattle.encoder.specs.MayWrite.{write_number}
use Rattle.encoder.proofs.MayWrite.{number_same, number-walked, unrefused, number_under, encode-refused, encode-unrefused}
use Rattle.encoder.proofs.Outcomes.{Told, told}
use Rattle.encoder.proofs.encode_fitting.Goals as goal
use Rattle.encoder.proofs.encode_fitting.Goals.{In_err-may_write, Start}

-- the tests go by the numbers of the layout's walk, which are those that its figures give
number_in : (s : Start) (w : Walk) → w ≡ walk_of s.args.layout → (r : ℕ)
    → r ≡ write_number w.n w.m w.b s.args.layout.q s.args.layout.message_len (held_as s.args.at) s.args.message.now
    (length s.args.word.now)
    → r ≡ number_under (blocks_coding s.args.layout) (held_as s.args.at) s.args.message.now s.args.word.now
    (in_order s.args.layout s.requires).0 (in_order s.args.layout s.requires).1
number_in s w walks r e =
    let is = numbers-in s.args.layout s.requires in
    e ∙ number-walked w (walk_of s.args.layout) _ _ _ _ _ walks
    ∙ number_same (held_as s.args.at) s.args.message.now (length s.args.word.now) is.word-is is.bursts-is is.burst-is
    is.alphabet-is is.len_is

pub walk_of-walk-requires : goal.walk_of-walk-requires
walk_of-walk-requires c = in-shape c.args.layout c.requires

pub may_write-requires : goal.may_write-requires
may_write-requires c =
    rw c.walk_of-walk.ensures (room_in c.args.layout c.requires, long c.args.layout (in-shape c.args.layout c.requires))

pub fill-requires : goal.fill-requires
fill-requires c =
    let l = c.args.layout in
    let w = c.walk_of-walk in
    let sized : length c.args.at.starts ≡ max_bursts = search rules in
    let number = rw w.ensures at c.in_ok-may_write.ensures in
    let u = unrefused l.n l.m l.b l.q l.message_len (held_as c.args.at) c.args.message.now (length c.args.word.now)
    (sym number) in
    (c.requires, record { placing = placing-of l c.args.at sized (in-shape l c.requires) u.count u.placed; sent = u.sent; room = u.room })

pub returns-clause-answer : goal.returns-clause-answer
returns-clause-answer c =
    let ok = in_order c.args.layout c.requires in
    let w = c.walk_of-walk in
    let e =
    encode-unrefused (blocks_coding c.args.layout) (held_as c.args.at) c.args.message.now c.args.word.now ok.0 ok.1
    (sym (number_in (goal.at.returns-clause-answer c).Start w.result w.ensures served c.in_ok-may_write.ensures)) in
    (told _ _ e).0

pub returns-clause-word : goal.returns-clause-word
returns-clause-word c =
    let ok = in_order c.args.layout c.requires in
    let w = c.walk_of-walk in
    let e =
    encode-unrefused (blocks_coding c.args.layout) (held_as c.args.at) c.args.message.now c.args.word.now ok.0 ok.1
    (sym (number_in (goal.at.returns-clause-word c).Start w.result w.ensures served c.in_ok-may_write.ensures)) in
    c.fill.ensures ∙ (told _ _ e).1

-- a refusal is that of the tests
refused : (c : In_err-may_write) (r : Refusal)
    → number_of r ≡ write_number c.walk_of-walk.result.n c.walk_of-walk.result.m c.walk_of-walk.result.b c.args.layout.q c.args.layout.message_len
    (held_as c.args.at) c.args.message.now (length c.args.word.now)
    → Told (number_of r) c.args.word.now (encode_under (blocks_coding c.args.layout) (held_as c.args.at) c.args.message.now c.args.word.now)
refused c r e =
    let ok = in_order c.args.layout c.requires in
    told _ _ (encode-refused (blocks_coding c.args.layout) (held_as c.args.at) c.args.message.now c.args.word.now ok.0 ok.1 (number_of r)
    (number_in (goal.at.In_err-may_write c).Start c.walk_of-walk.result c.walk_of-walk.ensures (number_of r) e) (never-served r))

pub returns-in_err-may_write-clause-answer : goal.returns-in_err-may_write-clause-answer
returns-in_err-may_write-clause-answer c =
    let p = err_from_is_err_and c.from_residual.result c.from_residual.ensures.1 in
    rw (p.1, p.2) (refused (goal.at.returns-in_err-may_write-clause-answer c).In_err-may_write _ c.in_err-may_write.ensures).0

pub returns-in_err-may_write-clause-word : goal.returns-in_err-may_write-clause-word
returns-in_err-may_write-clause-word c =
    (refused (goal.at.returns-in_err-may_write-clause-word c).In_err-may_write _ c.in_err-may_write.ensures).1
