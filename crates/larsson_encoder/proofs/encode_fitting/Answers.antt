-- `encode_fitting` meets its contract: the tests refuse, or the word is filled. Assumes nothing.
use mathlib.Core.Path.{◌≡◌, refl, sym, ◌∙◌}
use Prim.Native.Nat.{ℕ}
use borrow.Author.Rules.{rules}
use lib.ListN.{length}
use Rattle.std.proofs.lemmas.Result.{err_from_is_err_and}
use Rattle.refusals.specs.declared.Refusal.{Refusal}
use Rattle.refusals.specs.Refusals.{served}
use Rattle.refusals.specs.Numbers.{number_of}
use Rattle.refusals.proofs.Numbers.{never-served}
use Rattle.cells.specs.Outcomes.{encode_under}
use Rattle.cells.specs.Figures.{max_bursts}
use Rattle.larsson.specs.Outcomes.{coding}
use Rattle.larsson_params.specs.Given.{larsson_figures_of}
use Rattle.larsson_params.proofs.Shape.{bound, long}
use Rattle.placements.specs.Bridge.{held_as}
use Rattle.sub_blocks.proofs.Room.{room_of}
use Rattle.stretches.specs.declared.Walk.{Walk}
use Rattle.larsson_words.specs.Walked.{sub_blocks_of}
use Rattle.encoder.specs.MayWrite.{write_number}
use Rattle.encoder.proofs.MayWrite.{number_same, number-walked, unrefused, number_under, encode-refused, encode-unrefused}
use Rattle.encoder.proofs.Outcomes.{Told, told}
use Rattle.larsson_encoder.proofs.Spelling.{placed_by}
use Rattle.larsson_encoder.proofs.encode_fitting.Goals as goal
use Rattle.larsson_encoder.proofs.encode_fitting.Goals.{In_err-may_write, Start}

-- the numbers of the walk are those that the figures give
abbrev walk : Start → Walk
walk s = sub_blocks_of s.args.layout.n s.args.layout.m s.args.layout.b s.args.layout.sub_len

number_in : (s : Start) (w : Walk) → w ≡ walk s → (r : ℕ)
    → r ≡ write_number w.n w.m w.b s.args.layout.q s.args.layout.message_len (held_as s.args.at) s.args.message.now
    (length s.args.word.now)
    → r ≡ number_under (coding (larsson_figures_of s.args.layout)) (held_as s.args.at) s.args.message.now s.args.word.now s.requires.range
    s.requires.fit
number_in s w walks r e =
    e ∙ number-walked w (walk s) _ _ _ _ _ walks
    ∙ number_same (held_as s.args.at) s.args.message.now (length s.args.word.now) refl refl refl refl s.requires.laid.len_is

pub walk_of-walk-requires : goal.walk_of-walk-requires
walk_of-walk-requires c = (bound c.args.layout c.requires).m-most

pub may_write-requires : goal.may_write-requires
may_write-requires c =
    rw c.walk_of-walk.ensures (room_of c.args.layout c.requires, long c.args.layout c.requires)

pub fill-requires : goal.fill-requires
fill-requires c =
    let l = c.args.layout in
    let w = c.walk_of-walk in
    let sized : length c.args.at.starts ≡ max_bursts = search rules in
    let number = rw w.ensures at c.in_ok-may_write.ensures in
    let u = unrefused l.n l.m l.b l.q l.message_len (held_as c.args.at) c.args.message.now (length c.args.word.now)
    (sym number) in
    record { layout = c.requires; count = u.count; placed = placed_by l c.args.at c.requires sized u.count u.placed; sent = u.sent; room = u.room }

pub returns-clause-answer : goal.returns-clause-answer
returns-clause-answer c =
    let w = c.walk_of-walk in
    let e =
    encode-unrefused (coding (larsson_figures_of c.args.layout)) (held_as c.args.at) c.args.message.now c.args.word.now c.requires.range
    c.requires.fit
    (sym (number_in (goal.at.returns-clause-answer c).Start w.result w.ensures served c.in_ok-may_write.ensures)) in
    (told _ _ e).0

pub returns-clause-word : goal.returns-clause-word
returns-clause-word c =
    let w = c.walk_of-walk in
    let e =
    encode-unrefused (coding (larsson_figures_of c.args.layout)) (held_as c.args.at) c.args.message.now c.args.word.now c.requires.range
    c.requires.fit
    (sym (number_in (goal.at.returns-clause-word c).Start w.result w.ensures served c.in_ok-may_write.ensures)) in
    c.fill.ensures ∙ (told _ _ e).1

-- a refusal is that of the tests
refused : (c : In_err-may_write) (r : Refusal)
    → number_of r ≡ write_number c.walk_of-walk.result.n c.walk_of-walk.result.m c.walk_of-walk.result.b c.args.layout.q c.args.layout.message_len
    (held_as c.args.at) c.args.message.now (length c.args.word.now)
    → Told (number_of r) c.args.word.now (encode_under (coding (larsson_figures_of c.args.layout)) (held_as c.args.at) c.args.message.now c.args.word.now)
refused c r e =
    told _ _ (encode-refused (coding (larsson_figures_of c.args.layout)) (held_as c.args.at) c.args.message.now c.args.word.now c.requires.range c.requires.fit (number_of r)
    (number_in (goal.at.In_err-may_write c).Start c.walk_of-walk.result c.walk_of-walk.ensures (number_of r) e) (never-served r))

pub returns-in_err-may_write-clause-answer : goal.returns-in_err-may_write-clause-answer
returns-in_err-may_write-clause-answer c =
    let p = err_from_is_err_and c.from_residual.result c.from_residual.ensures.1 in
    rw (p.1, p.2) (refused (goal.at.returns-in_err-may_write-clause-answer c).In_err-may_write _ c.in_err-may_write.ensures).0

pub returns-in_err-may_write-clause-word : goal.returns-in_err-may_write-clause-word
returns-in_err-may_write-clause-word c =
    (refused (goal.at.returns-in_err-may_write-clause-word c).In_err-may_write _ c.in_err-may_write.ensures).1
