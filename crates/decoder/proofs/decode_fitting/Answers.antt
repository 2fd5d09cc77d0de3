-- `decode_fitting` meets its contract: 3, 4, or what a word that can be found gives. Assumes nothing.
use Rattle.refusals.specs.Numbers.{number_of}
use mathlib.Core.Path.{refl, sym, ◌∙◌}
use Rattle.cells.specs.Outcomes.{Coding}
use Rattle.params.specs.Given.{blocks_coding}
use Rattle.params.specs.declared.Layout.{Layout}
use Rattle.params.proofs.Either.{in-shape, in_order, numbers-in}
use Rattle.decoder.proofs.Calls.{decode-short, decode-room, decode-symbol, found_in}
use Rattle.decoder.proofs.decode_fitting.Goals as goal
use Rattle.decoder.proofs.decode_fitting.Goals.{Start}

abbrev l : Start → Layout
l s = s.args.layout

abbrev d : Start → Coding
d s = blocks_coding s.args.layout

pub returns-then-word-layout : goal.returns-then-word-layout
returns-then-word-layout c =
    c.unread.ensures number_of c.args.message.now ∙ sym (decode-short (d (goal.at.returns-then-word-layout c).Start) c.args.word.now c.args.message.now (in_order (l (goal.at.returns-then-word-layout c).Start) c.requires).0
    (in_order (l (goal.at.returns-then-word-layout c).Start) c.requires).1 (λ e. c.if-word-layout.true (e ∙ sym (numbers-in (l (goal.at.returns-then-word-layout c).Start) c.requires).word-is)))

pub returns-then-message-layout : goal.returns-then-message-layout
returns-then-message-layout c =
    c.unread-then-message-layout.ensures number_of c.args.message.now
    ∙ sym (decode-room (d (goal.at.returns-then-message-layout c).Start) c.args.word.now c.args.message.now (in_order (l (goal.at.returns-then-message-layout c).Start) c.requires).0 (in_order (l (goal.at.returns-then-message-layout c).Start) c.requires).1
    (c.if-word-layout.false ∙ (numbers-in (l (goal.at.returns-then-message-layout c).Start) c.requires).word-is) (λ e. c.if-message-layout.true (e ∙ sym (numbers-in (l (goal.at.returns-then-message-layout c).Start) c.requires).len_is)))

pub returns-then-not-can_be_found : goal.returns-then-not-can_be_found
returns-then-not-can_be_found c =
    c.unread-then-not-can_be_found.ensures number_of c.args.message.now
    ∙ sym (decode-symbol (d (goal.at.returns-then-not-can_be_found c).Start) c.args.word.now c.args.message.now (in_order (l (goal.at.returns-then-not-can_be_found c).Start) c.requires).0 (in_order (l (goal.at.returns-then-not-can_be_found c).Start) c.requires).1
    (c.if-word-layout.false ∙ (numbers-in (l (goal.at.returns-then-not-can_be_found c).Start) c.requires).word-is)
    (c.if-message-layout.false ∙ (numbers-in (l (goal.at.returns-then-not-can_be_found c).Start) c.requires).len_is)
    (found_in (l (goal.at.returns-then-not-can_be_found c).Start) c.args.word.now ∙ sym c.can_be_found.ensures ∙ c.if-not-can_be_found.true))

pub put_heads-requires : goal.put_heads-requires
put_heads-requires c = (in-shape (l (goal.at.put_heads-requires c).Start) c.requires, refl)

pub decode_found-requires : goal.decode_found-requires
decode_found-requires c = (
  record {
    fitting = c.requires;
    finding = record { layout = in-shape (l (goal.at.decode_found-requires c).Start) c.requires; complete = c.if-word-layout.false };
    found = sym c.can_be_found.ensures ∙ c.if-not-can_be_found.false;
    scanned = c.all_below-whole.ensures;
    room = c.if-message-layout.false;
  },
  c.put_heads.ensures,
)
