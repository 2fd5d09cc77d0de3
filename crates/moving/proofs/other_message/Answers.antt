-- `other_message` meets its contract: its number, and where that is 0 the other message. Assumes nothing.
use mathlib.Core.Path.{◌≡◌, sym, ap, ap₂, ◌∙◌}
use mathlib.Core.Bool.{true}
use mathlib.Core.List.{List}
use Prim.Native.Nat.{ℕ, ◌≤◌}
use native.Mathlib.Omega.{arith}
use lib.ListN.{length, drop, replicate}
use Rattle.cells.specs.Bytes.{payload_len}
use Rattle.cells.specs.Figures.{max_word}
use Rattle.jobs.specs.Slots.{entries}
use Rattle.payloads.specs.Payload.{message_of, payload_in, spells_payload}
use Rattle.moving.specs.Resize.{resized}
use Rattle.moving.specs.Given.{message_number}
use Rattle.moving.proofs.Steps.{payload-within, lent_is, front-room, front-len, whole_room, whole-len, resized-front}
use Rattle.refusals.specs.Numbers.{answer_of}
use Rattle.refusals.proofs.Numbers.{never-served}
use Rattle.std.proofs.lemmas.Result.{err_from_is_err_and}
use Rattle.moving.proofs.Steps.{no_payload, payload-number}
use Rattle.moving.proofs.other_message.Goals as goal
use Rattle.moving.proofs.other_message.Goals.{After-may_move, After-payload-2-1, Start}

count-short : (s : Start) (n : ℕ) → n ≡ payload_len s.args.q (length s.args.message.now) → n ≤ max_word
count-short s n e = omega (arith, e, payload-within s.args.q (length s.args.message.now), s.requires.short)

room-short : (s : Start) (n : ℕ) → n ≡ payload_len s.args.q (length s.args.other.now) → n ≤ max_word
room-short s n e = omega (arith, e, payload-within s.args.q (length s.args.other.now), s.requires.other-short)

pub slice_bounds-payload-end : goal.slice_bounds-payload-end
slice_bounds-payload-end c =
    let count = c.payload_len-count in
    count-short (goal.at.slice_bounds-payload-end c).Start count.result count.ensures

pub slice_bounds-unspell-end : goal.slice_bounds-unspell-end
slice_bounds-unspell-end c =
    let count = c.payload_len-count in
    sym (lent_is count.result max_word (count-short (goal.at.slice_bounds-unspell-end c).Start count.result count.ensures))

pub unspell-requires : goal.unspell-requires
unspell-requires c =
    let count = c.payload_len-count in (
      record {
        alphabet = c.requires.alphabet;
        bytes = c.requires.bytes;
        width_is = c.byte_width-width.ensures;
        count-is = lent_is count.result max_word (count-short (goal.at.unspell-requires c).Start count.result count.ensures) ∙ count.ensures;
      },
      sym c.spells.ensures ∙ c.if-not-spells.false,
    )

abbrev q : (c : After-payload-2-1) → ℕ
q c = c.args.q

abbrev ms : (c : After-payload-2-1) → List ℕ
ms c = c.args.message.now

abbrev count : (c : After-payload-2-1) → ℕ
count c = c.payload_len-count.result

abbrev room : (c : After-payload-2-1) → ℕ
room c = c.payload_len-room.result

abbrev front : (c : After-payload-2-1) → List ℕ
front c = c.unspell.new.payload

short : (c : After-payload-2-1) → (count c) ≤ max_word
short c = count-short (goal.at.After-payload-2-1 c).Start (count c) c.payload_len-count.ensures

same : (c : After-payload-2-1) → length (front c) ≡ (count c)
same c = c.payload-2-1.given ∙ lent_is (count c) max_word (short c)

room-is : (c : After-payload-2-1) → (room c) ≡ payload_len (q c) (length c.args.other.now)
room-is c = c.payload_len-room.ensures

room_most : (c : After-payload-2-1) → (room c) ≤ max_word
room_most c = room-short (goal.at.After-payload-2-1 c).Start (room c) (room-is c)

spelled : (c : After-payload-2-1) → spells_payload (q c) (length (ms c)) (ms c) ≡ true
spelled c = sym c.spells.ensures ∙ c.if-not-spells.false

payload-is : (c : After-payload-2-1) → (front c) ≡ payload_in (q c) (length (ms c)) (ms c)
payload-is c = c.unspell.ensures

pub slice_bounds-payload-end-2 : goal.slice_bounds-payload-end-2
slice_bounds-payload-end-2 c = front-room (count (goal.at.slice_bounds-payload-end-2 c).After-payload-2-1) (front (goal.at.slice_bounds-payload-end-2 c).After-payload-2-1) _ (same (goal.at.slice_bounds-payload-end-2 c).After-payload-2-1)

pub slice_bounds-may_move-end : goal.slice_bounds-may_move-end
slice_bounds-may_move-end c = front-len (count (goal.at.slice_bounds-may_move-end c).After-payload-2-1) (front (goal.at.slice_bounds-may_move-end c).After-payload-2-1) _ (same (goal.at.slice_bounds-may_move-end c).After-payload-2-1)

-- the number of its tests
number : (c : After-may_move)
    → (answer_of c.may_move.result ≡ message_number (q (goal.at.After-may_move c).After-payload-2-1) (entries c.args.table) (length c.args.other.now) (ms (goal.at.After-may_move c).After-payload-2-1))
number c =
    payload-number (q (goal.at.After-may_move c).After-payload-2-1) (entries c.args.table) (length c.args.other.now) (ms (goal.at.After-may_move c).After-payload-2-1) (spelled (goal.at.After-may_move c).After-payload-2-1) (count (goal.at.After-may_move c).After-payload-2-1) (room (goal.at.After-may_move c).After-payload-2-1) (answer_of c.may_move.result) (front (goal.at.After-may_move c).After-payload-2-1)
    (drop (count (goal.at.After-may_move c).After-payload-2-1) (replicate max_word 0)) (same (goal.at.After-may_move c).After-payload-2-1) (room-is (goal.at.After-may_move c).After-payload-2-1) (payload-is (goal.at.After-may_move c).After-payload-2-1) c.may_move.ensures

pub slice_bounds-payload-end-3 : goal.slice_bounds-payload-end-3
slice_bounds-payload-end-3 c =
    whole_room (count (goal.at.slice_bounds-payload-end-3 c).After-payload-2-1) (room (goal.at.slice_bounds-payload-end-3 c).After-payload-2-1) max_word (front (goal.at.slice_bounds-payload-end-3 c).After-payload-2-1) (same (goal.at.slice_bounds-payload-end-3 c).After-payload-2-1) (short (goal.at.slice_bounds-payload-end-3 c).After-payload-2-1) (room_most (goal.at.slice_bounds-payload-end-3 c).After-payload-2-1)

pub slice_bounds-spell_payload-end : goal.slice_bounds-spell_payload-end
slice_bounds-spell_payload-end c =
    whole-len (count (goal.at.slice_bounds-spell_payload-end c).After-payload-2-1) (room (goal.at.slice_bounds-spell_payload-end c).After-payload-2-1) max_word (front (goal.at.slice_bounds-spell_payload-end c).After-payload-2-1) (same (goal.at.slice_bounds-spell_payload-end c).After-payload-2-1) (short (goal.at.slice_bounds-spell_payload-end c).After-payload-2-1) (room_most (goal.at.slice_bounds-spell_payload-end c).After-payload-2-1)

pub spell_payload-requires : goal.spell_payload-requires
spell_payload-requires c =
    record {
      alphabet = c.requires.alphabet;
      bytes = c.requires.bytes;
      width_is = c.byte_width-width.ensures;
      count-is = sym (whole-len (count (goal.at.spell_payload-requires c).After-payload-2-1) (room (goal.at.spell_payload-requires c).After-payload-2-1) max_word (front (goal.at.spell_payload-requires c).After-payload-2-1) (same (goal.at.spell_payload-requires c).After-payload-2-1) (short (goal.at.spell_payload-requires c).After-payload-2-1) (room_most (goal.at.spell_payload-requires c).After-payload-2-1)) ∙ room-is (goal.at.spell_payload-requires c).After-payload-2-1;
    }

pub returns-clause-message : goal.returns-clause-message
returns-clause-message c =
    let k = length c.args.other.now in λ _. c.spell_payload.ensures
    ∙ ap (message_of (q (goal.at.returns-clause-message c).After-payload-2-1) k)
    (resized-front (count (goal.at.returns-clause-message c).After-payload-2-1) (room (goal.at.returns-clause-message c).After-payload-2-1) max_word (front (goal.at.returns-clause-message c).After-payload-2-1) (same (goal.at.returns-clause-message c).After-payload-2-1) (short (goal.at.returns-clause-message c).After-payload-2-1) (room_most (goal.at.returns-clause-message c).After-payload-2-1) ∙ ap₂ resized (room-is (goal.at.returns-clause-message c).After-payload-2-1) (payload-is (goal.at.returns-clause-message c).After-payload-2-1))

pub returns-clause-number : goal.returns-clause-number
returns-clause-number c =
    sym (ap answer_of c.in_ok-may_move.was) ∙ number (goal.at.returns-clause-number c).After-may_move

pub returns-then-not-spells-clause-number : goal.returns-then-not-spells-clause-number
returns-then-not-spells-clause-number c =
    no_payload c.args.q (entries c.args.table) (length c.args.other.now) c.args.message.now
    (sym c.spells.ensures ∙ c.if-not-spells.true)

pub returns-in_err-may_move-clause-number : goal.returns-in_err-may_move-clause-number
returns-in_err-may_move-clause-number c =
    let p = err_from_is_err_and c.from_residual.result c.from_residual.ensures.1 in
    rw (p.1, p.2) (sym (ap answer_of c.in_err-may_move.was) ∙ number (goal.at.returns-in_err-may_move-clause-number c).After-may_move)

pub returns-in_err-may_move-clause-message : goal.returns-in_err-may_move-clause-message
returns-in_err-may_move-clause-message c z =
    let p = err_from_is_err_and c.from_residual.result c.from_residual.ensures.1 in
    absurd (never-served _ (sym (ap answer_of p.1) ∙ z))
