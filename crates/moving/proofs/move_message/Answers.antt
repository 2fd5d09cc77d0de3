-- `move_message` meets its contract: what the message is refused with, or the word of the other message. Assumes nothing.
use mathlib.Core.Path.{◌≡◌, refl, sym, subst, ◌∙◌}
use Prim.Native.Nat.{ℕ, ◌≤◌}
use lib.ListN.{length, take, drop, replicate}
use Rattle.cells.specs.Bytes.{payload_len}
use Rattle.cells.specs.Outcomes.{Coding}
use Rattle.cells.specs.Figures.{max_word}
use Rattle.codes.specs.Given.{HasNumbers, coding_in}
use Rattle.codes.proofs.Layouts.{Bounded, in_order, numbers-in, small-in, bound}
use Rattle.jobs.specs.Slots.{entries}
use Rattle.refusals.specs.Refusals.{served}
use Rattle.refusals.proofs.Numbers.{never-served}
use Rattle.std.proofs.lemmas.Result.{err_from_is_err_and}
use Rattle.moving.proofs.Steps.{lent_is, lent-short, front-room, front-len, write-refused, write-encodes}
use Rattle.moving.proofs.move_message.Goals as goal
use Rattle.moving.proofs.move_message.Goals.{Start}

abbrev d : (s : Start) → Coding
d s = coding_in s.args.target

abbrev k : (s : Start) → ℕ
k s = s.args.target.message_len

is : (s : Start) → HasNumbers (d s) s.args.target
is s = numbers-in s.args.target s.requires.0

few : (s : Start) → Bounded s.args.target
few s = bound s.args.target s.requires.0

lent : (s : Start) → length {A = ℕ} (take (k s) (replicate max_word 0)) ≡ (k s)
lent s = lent_is (k s) max_word (few s).k-most

pub slice_bounds-other-end : goal.slice_bounds-other-end
slice_bounds-other-end c = (few (goal.at.slice_bounds-other-end c).Start).k-most

pub slice_bounds-other_message-end : goal.slice_bounds-other_message-end
slice_bounds-other_message-end c = sym (lent (goal.at.slice_bounds-other_message-end c).Start)

pub other_message-requires : goal.other_message-requires
other_message-requires c =
    let p = c.requires.1 in
    record {
      alphabet = (few (goal.at.other_message-requires c).Start).q-least;
      bytes = (few (goal.at.other_message-requires c).Start).q-most;
      carries = subst (λ (q : ℕ). 5 ≤ payload_len q (length c.args.message.now)) (sym (is (goal.at.other_message-requires c).Start).alphabet-is) p.carries;
      short = p.short;
      other-short = lent-short (k (goal.at.other_message-requires c).Start) max_word (few (goal.at.other_message-requires c).Start).k-most;
    }

pub returns-in_err-other_message : goal.returns-in_err-other_message
returns-in_err-other_message c =
    let a = c.args in
    let p = err_from_is_err_and c.from_residual.result c.from_residual.ensures.1 in
    rw (p.1, p.2) (write-refused (d (goal.at.returns-in_err-other_message c).Start) (entries a.table) a.at a.message.now a.word.now (take (k (goal.at.returns-in_err-other_message c).Start) (replicate max_word 0)) a.target.q (k (goal.at.returns-in_err-other_message c).Start)
    (is (goal.at.returns-in_err-other_message c).Start).alphabet-is (is (goal.at.returns-in_err-other_message c).Start).len_is (lent (goal.at.returns-in_err-other_message c).Start) c.requires.1 _ c.in_err-other_message.ensures.number (never-served _))

pub slice_bounds-other-end-2 : goal.slice_bounds-other-end-2
slice_bounds-other-end-2 c =
    front-room (k (goal.at.slice_bounds-other-end-2 c).Start) c.other_message.new.other _ (c.other-2-1.given ∙ lent (goal.at.slice_bounds-other-end-2 c).Start)

pub slice_bounds-encode_fitting-end : goal.slice_bounds-encode_fitting-end
slice_bounds-encode_fitting-end c =
    front-len (k (goal.at.slice_bounds-encode_fitting-end c).Start) c.other_message.new.other _ (c.other-2-1.given ∙ lent (goal.at.slice_bounds-encode_fitting-end c).Start)

pub returns : goal.returns
returns c =
    let a = c.args in
    let m = c.in_ok-other_message in
    let written = c.encode_fitting.ensures in
    rw (written.answer, written.word)
    (write-encodes (d (goal.at.returns c).Start) (entries a.table) a.at a.message.now a.word.now (take (k (goal.at.returns c).Start) (replicate max_word 0)) a.target.q (k (goal.at.returns c).Start)
    (is (goal.at.returns c).Start).alphabet-is (is (goal.at.returns c).Start).len_is (lent (goal.at.returns c).Start) c.requires.1 served m.ensures.number (in_order a.target c.requires.0).0
    (in_order a.target c.requires.0).1 (small-in a.target c.requires.0).alphabet-least
    refl c.other_message.new.other (drop (k (goal.at.returns c).Start) (replicate max_word 0))
    (c.other-2-1.given ∙ lent (goal.at.returns c).Start) m.ensures.message)
