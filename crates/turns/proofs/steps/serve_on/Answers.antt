-- `serve_on` meets its contract: what is to be done from the state of each turn on is what was to be done from the first. Assumes nothing.
use Rattle.std.proofs.Common.{◌≡◌, refl, sym, ap, subst, ◌∙◌, true, ◌-◌, ◌<◌, length, rules}
use Rattle.records.specs.Records.{needed_for}
use Rattle.records.specs.Bridge.{session_of}
use Rattle.turns.specs.View.{View, ready_at, is_servable, step_for, served_out, advance_out}
use Rattle.turns.specs.State.{view_of, waiting_in}
use Rattle.turns.proofs.Serving.{advance-rests, advance-serves, turns_at, serves-less}
use Rattle.turns.proofs.Knowing.{still-known}
use Rattle.turns.proofs.Views.{servable-is, cut-ready, cut-room, both_true}
use Rattle.turns.proofs.steps.serve_on.Goals as goal

-- the view after a record was served
module _ {u : View} (v : View) (e : u ≡ served_out v) where
  served-session : u.session ≡ (step_for v).next
  served-session = ap (λ (x : View). x.session) e

  module _ (goes : is_servable v ≡ true) where
    served-less : turns_at u.phase (length u.waiting) < turns_at v.phase (length v.waiting)
    served-less = subst (λ (x : View). turns_at x.phase (length x.waiting) < turns_at v.phase (length v.waiting)) (sym e) (serves-less v goes)

    served-advances : advance_out u ≡ advance_out v
    served-advances = ap advance_out e ∙ sym (advance-serves v goes)

pub returns-then-not-is_ready-clause-view : goal.returns-then-not-is_ready-clause-view
returns-then-not-is_ready-clause-view c =
    let l = c.loop-known in
    let v = view_of l.now c.args.input.now l.output in
    let both = servable-is l.now c.args.input.now l.output c.needed_by-needed.result c.has_room.result c.is_ready.result l.invariant.0 c.requires.0.0
    l.invariant.1 c.has_room.ensures c.needed_by-needed.ensures.bytes c.is_ready.ensures in
    let rests = both ∙ cut-ready c.has_room.result c.is_ready.result c.if-not-is_ready.true in
    sym (advance-rests v rests) ∙ l.invariant.2

pub after-known-requires : goal.after-known-requires
after-known-requires c =
    let l = c.loop-known in
    let v = view_of l.now c.args.input.now l.output in
    still-known v (session_of c.serve-now.result.session) c.letter_in-letter.result l.known (served-session v c.serve-now.ensures.view)
    c.letter_in-letter.ensures l.invariant.4

pub loop-known-smaller : goal.loop-known-smaller
loop-known-smaller c =
    let l = c.loop-known in
    let v = view_of l.now c.args.input.now l.output in
    let both = servable-is l.now c.args.input.now l.output c.needed_by-needed.result c.has_room.result c.is_ready.result l.invariant.0 c.requires.0.0
    l.invariant.1 c.has_room.ensures c.needed_by-needed.ensures.bytes c.is_ready.ensures in
    let goes = both ∙ both_true c.has_room.result c.is_ready.result c.loop-known-test.true c.if-not-is_ready.false in
    served-less v c.serve-now.ensures.view goes

pub loop-known-preserved : goal.loop-known-preserved
loop-known-preserved c =
    let l = c.loop-known in
    let v = view_of l.now c.args.input.now l.output in
    let both = servable-is l.now c.args.input.now l.output c.needed_by-needed.result c.has_room.result c.is_ready.result l.invariant.0 c.requires.0.0
    l.invariant.1 c.has_room.ensures c.needed_by-needed.ensures.bytes c.is_ready.ensures in
    let goes = both ∙ both_true c.has_room.result c.is_ready.result c.loop-known-test.true c.if-not-is_ready.false in (
      c.serve-now.ensures.within,
      search rules,
      served-advances v c.serve-now.ensures.view goes ∙ l.invariant.2,
      c.serve-now.ensures.repeats ∙ l.invariant.3,
      c.after-known.ensures,
    )

pub returns-clause-view : goal.returns-clause-view
returns-clause-view c =
    let l = c.loop-known in
    let input = c.args.input.now in
    let needed = needed_for (session_of l.now.session) (waiting_in l.now input) in
    let both = servable-is l.now input l.output needed c.has_room.result (ready_at l.now.phase needed (l.now.to - l.now.from)) l.invariant.0 c.requires.0.0
    l.invariant.1 c.has_room.ensures refl refl in
    let rests = both ∙ cut-room c.has_room.result (ready_at l.now.phase needed (l.now.to - l.now.from)) c.loop-known-test.false in
    sym (advance-rests (view_of l.now input l.output) rests) ∙ l.invariant.2
