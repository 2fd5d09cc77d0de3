-- `move_fitting` meets its contract: what the strip is refused with, or what its message gives. Assumes nothing.
use mathlib.Core.Path.{◌≡◌, sym, ap, ap₂, ◌∙◌}
use mathlib.Core.List.{List, ◌++◌}
use Prim.Native.Nat.{ℕ, ◌≤◌}
use lib.ListN.{length, take, drop, replicate}
use Rattle.cells.specs.Outcomes.{Coding, unwritten, rank_is, Decoded, decode_under}
use Rattle.cells.specs.Figures.{max_word}
use Rattle.placements.specs.Bridge.{held_as}
use Rattle.std.specs.Prelude.{Result, Err}
use Rattle.std.proofs.lemmas.Result.{MatchResult-at_err}
use Rattle.refusals.specs.declared.Refusal.{Refusal}
use Rattle.refusals.specs.Numbers.{number_of, answer_of}
use Rattle.decoder.specs.Answer.{answer_as}
use Rattle.jobs.specs.Slots.{entries}
use Rattle.codes.specs.Given.{coding_in}
use Rattle.codes.proofs.Layouts.{numbers-in, bound}
use Rattle.moving.proofs.Steps.{lent_is, front-is, Of, read-refused, write-ready, goes-on}
use Rattle.moving.proofs.FitBoth.{of-layout}
use Rattle.moving.proofs.move_fitting.Goals as goal
use Rattle.moving.proofs.move_fitting.Goals.{In-Ok, Start}

abbrev d : (s : Start) → Coding
d s = coding_in s.args.source

abbrev e : (s : Start) → Coding
e s = coding_in s.args.target

abbrev k : (s : Start) → ℕ
k s = s.args.source.message_len

abbrev w : (s : Start) → List ℕ
w s = s.args.strip.now

abbrev out : (s : Start) → List ℕ
out s = s.args.moved.now

from : (s : Start) → Of (d s)
from s = of-layout s.args.source s.requires.serves-from s.requires.carries-from

to : (s : Start) → Of (e s)
to s = of-layout s.args.target s.requires.serves-to s.requires.carries-to

short : (s : Start) → (k s) ≤ max_word
short s = (bound s.args.source s.requires.serves-from).k-most

lent : (s : Start) → length {A = ℕ} (take (k s) (replicate max_word 0)) ≡ (k s)
lent s = lent_is (k s) max_word (short s)

room : (s : Start) → length {A = ℕ} (take (k s) (replicate max_word 0)) ≡ (d s).codec.message_len_of
room s = (lent s) ∙ (numbers-in s.args.source s.requires.serves-from).len_is

pub slice_bounds-message-end : goal.slice_bounds-message-end
slice_bounds-message-end c = short (goal.at.slice_bounds-message-end c).Start

pub slice_bounds-decode_fitting-end : goal.slice_bounds-decode_fitting-end
slice_bounds-decode_fitting-end c = sym (lent (goal.at.slice_bounds-decode_fitting-end c).Start)

pub returns-in_default : goal.returns-in_default
returns-in_default c =
    let g = c.requires in
    ap (unwritten (out (goal.at.returns-in_default c).Start)) (ap answer_of (MatchResult-at_err _ (λ e. c.map.result ≡ Err e) c.in_default.field-0 c.in_default.is c.map.ensures.cases))
    ∙ read-refused (d (goal.at.returns-in_default c).Start) (e (goal.at.returns-in_default c).Start) (from (goal.at.returns-in_default c).Start) (to (goal.at.returns-in_default c).Start) g.alike (entries c.args.table) (w (goal.at.returns-in_default c).Start) (out (goal.at.returns-in_default c).Start) (take (k (goal.at.returns-in_default c).Start) (replicate max_word 0))
    g.complete g.lent (room (goal.at.returns-in_default c).Start) (number_of c.in_default.field-0)
    (sym (ap (λ (o : Decoded). o.answer) c.decode_fitting-decoded.ensures) ∙ ap answer_as c.in_default.is)

abbrev front : (u : In-Ok) → List ℕ
front u = u.decode_fitting-decoded.new.message

abbrev ms : (u : In-Ok) → List ℕ
ms u = take (k (goal.at.In-Ok u).Start) ((front u) ++ drop (k (goal.at.In-Ok u).Start) (replicate max_word 0))

same : (u : In-Ok) → length (front u) ≡ k (goal.at.In-Ok u).Start
same u = u.message-2-1.given ∙ lent (goal.at.In-Ok u).Start

is : (u : In-Ok) → decode_under (d (goal.at.In-Ok u).Start) (w (goal.at.In-Ok u).Start) (take (k (goal.at.In-Ok u).Start) (replicate max_word 0))
    ≡ record {
      answer = rank_is u.in-Ok.field-0;
      placement = held_as u.decode_fitting-decoded.result.placement;
      message = (ms u);
    }
is u =
    let r = u.decode_fitting-decoded in
    sym r.ensures
    ∙ ap₂ {C = Decoded} (λ (a : Result ℕ Refusal) (m : List ℕ). record { answer = answer_as a; placement = held_as r.result.placement; message = m })
    u.in-Ok.is
    (sym (front-is (k (goal.at.In-Ok u).Start) (front u) (drop (k (goal.at.In-Ok u).Start) (replicate max_word 0)) (same u)))

pub move_message-requires : goal.move_message-requires
move_message-requires c =
    let g = c.requires in (
      g.serves-to,
      write-ready (d (goal.at.move_message-requires c).Start) (e (goal.at.move_message-requires c).Start) (from (goal.at.move_message-requires c).Start) (to (goal.at.move_message-requires c).Start) g.alike (entries c.args.table) (w (goal.at.move_message-requires c).Start) (out (goal.at.move_message-requires c).Start) (take (k (goal.at.move_message-requires c).Start) (replicate max_word 0))
          g.complete g.lent (room (goal.at.move_message-requires c).Start) c.in-Ok.field-0 c.decode_fitting-decoded.result.placement (ms (goal.at.move_message-requires c).In-Ok) (is (goal.at.move_message-requires c).In-Ok),
    )

pub returns : goal.returns
returns c =
    let g = c.requires in
    let on = goes-on (d (goal.at.returns c).Start) (e (goal.at.returns c).Start) (from (goal.at.returns c).Start) (to (goal.at.returns c).Start) g.alike (entries c.args.table) (w (goal.at.returns c).Start) (out (goal.at.returns c).Start) (take (k (goal.at.returns c).Start) (replicate max_word 0))
    g.complete g.lent (room (goal.at.returns c).Start) c.in-Ok.field-0 c.decode_fitting-decoded.result.placement (ms (goal.at.returns c).In-Ok) (is (goal.at.returns c).In-Ok) in
    rw on at c.move_message.ensures
