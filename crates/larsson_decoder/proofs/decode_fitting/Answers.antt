-- `decode_fitting` meets its contract: 3, 4, or what a word that can be found gives. Assumes nothing.
use Rattle.refusals.specs.Numbers.{number_of}
use mathlib.Core.Path.{◌≡◌, sym, ap, ◌∙◌}
use mathlib.Core.List.{List, []}
use Prim.Native.Nat.{ℕ, ◌<◌}
use native.Mathlib.Omega.{arith}
use lib.ListN.{get_or}
use Rattle.combinatorics.specs.Lists.{all_below}
use Rattle.cells.specs.Bytes.{byte_values}
use Rattle.cells.specs.Codec.{accepted}
use Rattle.cells.specs.Erasures.{found_bound}
use Rattle.cells.specs.Outcomes.{Coding, decoded_from, decode_under}
use Rattle.cells.specs.Figures.{placement_of}
use Rattle.larsson.specs.Outcomes.{coding}
use Rattle.larsson.specs.Reading.{read}
use Rattle.decoder.specs.Answer.{decoded_as}
use Rattle.decoder.proofs.Calls.{decode-short, decode-room, decode-symbol, decode-read}
use Rattle.larsson_params.specs.declared.LarssonLayout.{LarssonLayout}
use Rattle.larsson_params.specs.Given.{larsson_figures_of}
use Rattle.larsson_params.proofs.Shape.{bound}
use Rattle.larsson_decoder.proofs.Reading.{found-by, no-message, all_read}
use Rattle.larsson_decoder.proofs.decode_fitting.Goals as goal
use Rattle.larsson_decoder.proofs.decode_fitting.Goals.{After-all_below, Else-not-all_below, Start}

abbrev l : Start → LarssonLayout
l s = s.args.layout

abbrev d : Start → Coding
d s = coding (larsson_figures_of s.args.layout)

-- whether the word has no value above q
tested : (c : After-all_below)
    → (c.all_below.result ≡ all_below (found_bound (l (goal.at.After-all_below c).Start).q) c.args.word.now)
tested c =
    let w = c.args.word.now in
    let bytes : (x : ℕ) → get_or w x 0 < byte_values =
    λ x. omega (arith, c.shared_slice_known-1.given x) in
    c.all_below.ensures ∙ found-by (l (goal.at.After-all_below c).Start).q w bytes

pub returns-then-word-layout : goal.returns-then-word-layout
returns-then-word-layout c =
    c.unread.ensures number_of c.args.message.now
    ∙ sym (decode-short (d (goal.at.returns-then-word-layout c).Start) c.args.word.now c.args.message.now c.requires.range c.requires.fit c.if-word-layout.true)

pub returns-then-message-layout : goal.returns-then-message-layout
returns-then-message-layout c =
    c.unread-then-message-layout.ensures number_of c.args.message.now
    ∙ sym (decode-room (d (goal.at.returns-then-message-layout c).Start) c.args.word.now c.args.message.now c.requires.range c.requires.fit c.if-word-layout.false
    (λ e. c.if-message-layout.true (e ∙ sym c.requires.laid.len_is)))

pub overflow_add-layout : goal.overflow_add-layout
overflow_add-layout c =
    omega (arith, bound (l (goal.at.overflow_add-layout c).Start) c.requires)

pub returns-then-not-all_below : goal.returns-then-not-all_below
returns-then-not-all_below c =
    c.unread-then-not-all_below.ensures number_of c.args.message.now
    ∙ sym (decode-symbol (d (goal.at.returns-then-not-all_below c).Start) c.args.word.now c.args.message.now c.requires.range c.requires.fit c.if-word-layout.false
    (c.if-message-layout.false ∙ c.requires.laid.len_is) (sym (tested (goal.at.returns-then-not-all_below c).After-all_below) ∙ c.if-not-all_below.true))

-- what is read where nothing is refused so far
reads : (c : Else-not-all_below) → (decode_under (d (goal.at.Else-not-all_below c).Start) c.args.word.now c.args.message.now ≡ decoded_from (l (goal.at.Else-not-all_below c).Start).b c.args.message.now
    (read (larsson_figures_of (l (goal.at.Else-not-all_below c).Start)) c.args.word.now))
reads c =
    decode-read (d (goal.at.Else-not-all_below c).Start) c.args.word.now c.args.message.now c.requires.range c.requires.fit c.if-word-layout.false
    (c.if-message-layout.false ∙ c.requires.laid.len_is) (sym (tested (goal.at.Else-not-all_below c).After-all_below) ∙ c.if-not-all_below.false)

pub returns-then-layout-eq0 : goal.returns-then-layout-eq0
returns-then-layout-eq0 c =
    let out = c.args.message.now in
    let none : out ≡ [] = no-message (l (goal.at.returns-then-layout-eq0 c).Start) c.requires c.if-layout-eq0.true out c.if-message-layout.false in
    let ss = placement_of (larsson_figures_of (l (goal.at.returns-then-layout-eq0 c).Start)) 0 in
    ap (decoded_as c.only_placement.result) none ∙ c.only_placement.ensures
    ∙ ap (λ (o : List ℕ). decoded_from (l (goal.at.returns-then-layout-eq0 c).Start).b o (accepted ss [])) (sym none)
    ∙ sym (reads (goal.at.returns-then-layout-eq0 c).Else-not-all_below ∙ ap (decoded_from (l (goal.at.returns-then-layout-eq0 c).Start).b out) (all_read (l (goal.at.returns-then-layout-eq0 c).Start) c.requires c.if-layout-eq0.true c.args.word.now))

pub decode_found-requires : goal.decode_found-requires
decode_found-requires c = (
  record {
    finding = record { layout = c.requires; complete = c.if-word-layout.false; symbols = sym (tested (goal.at.decode_found-requires c).After-all_below) ∙ c.if-not-all_below.false };
    some-symbol = omega (arith, c.if-layout-eq0.false);
    room = c.if-message-layout.false;
  },
  c.starts_of.ensures,
)

pub returns : goal.returns
returns c =
    rw (reads (goal.at.returns c).Else-not-all_below) c.decode_found.ensures
