-- `decode_placed` meets its contract: 19, or the placement with its message. Assumes nothing.
use Rattle.refusals.specs.Numbers.{number_of}
use mathlib.Core.Path.{◌≡◌, sym, ap, ◌∙◌}
use mathlib.Core.List.{List}
use Prim.Native.Nat.{ℕ}
use native.Mathlib.Omega.{arith}
use borrow.Author.Rules.{rules}
use lib.ListN.{length}
use Rattle.params.specs.Given.{max_blocks}
use Rattle.combinatorics.specs.Bursts.{apart}
use Rattle.combinatorics.specs.Lists.{all_below}
use Rattle.combinatorics.proofs.Bursts.{of-placed}
use Rattle.cells.specs.Cells.{message as message_cell, pick}
use Rattle.cells.specs.Outcomes.{Held, decoded_from}
use Rattle.cells.specs.Figures.{Params}
use Rattle.cells.proofs.Figures.{placed-starts}
use Rattle.larsson.specs.Writing.{plan}
use Rattle.placements.specs.Bridge.{held_as, starts_in}
use Rattle.larsson_words.specs.Walked as Words
use Rattle.larsson_params.specs.declared.LarssonLayout.{LarssonLayout}
use Rattle.larsson_params.specs.Given.{larsson_figures_of, LarssonLayoutFits}
use Rattle.larsson_params.proofs.Shape.{bound, long}
use Rattle.blocks.specs.Numbers.{kind_numbers}
use Rattle.larsson_decoder.proofs.Reading.{whole_is, reads-erased, reads_whole, read_whole}
use Rattle.larsson_decoder.proofs.decode_placed.Goals as goal
use Rattle.larsson_decoder.proofs.decode_placed.Goals.{After-cover_erasures, Start}

abbrev l : Start → LarssonLayout
l s = s.args.layout

abbrev f : Start → Params
f s = larsson_figures_of s.args.layout

abbrev ss : Start → List ℕ
ss s = starts_in s.args.located.placement

fit : (s : Start) → LarssonLayoutFits (l s)
fit s = s.requires.0.finding.layout

-- the placement's message in the word
abbrev taken : Start → List ℕ
taken s = pick message_cell (plan (f s) (ss s)) s.args.word.now

counted : (s : Start) → s.args.located.placement.count ≡ (l s).m
counted s = ap (λ (h : Held). h.count) s.requires.2.is_held ∙ (placed-starts (f s) (ss s) s.requires.2.placed).1

-- whether its message could be read
told : (c : After-cover_erasures) → (c.cover_erasures.result ≡ all_below (l (goal.at.After-cover_erasures c).Start).q (taken (goal.at.After-cover_erasures c).Start))
told c =
    let a = c.args in
    let whole = whole_is (l (goal.at.After-cover_erasures c).Start) a.word.now c.requires.0.finding a.located.rank a.located.placement (kind_numbers a.located.kinds) c.requires.2 in
    rw (c.requires.0.finding.complete, whole) at c.cover_erasures.ensures

pub overflow_cast-layout : goal.overflow_cast-layout
overflow_cast-layout c =
    omega (arith, long (l (goal.at.overflow_cast-layout c).Start) (fit (goal.at.overflow_cast-layout c).Start), bound (l (goal.at.overflow_cast-layout c).Start) (fit (goal.at.overflow_cast-layout c).Start))

pub cover_erasures-requires : goal.cover_erasures-requires
cover_erasures-requires c =
    let placed = (placed-starts (f (goal.at.cover_erasures-requires c).Start) (ss (goal.at.cover_erasures-requires c).Start) c.requires.2.placed).0 in
    record {
      few = omega (arith, counted (goal.at.cover_erasures-requires c).Start, (bound (l (goal.at.cover_erasures-requires c).Start) (fit (goal.at.cover_erasures-requires c).Start)).m-most);
      valid = ap (λ (n : ℕ). apart (l (goal.at.cover_erasures-requires c).Start).b n 0 (ss (goal.at.cover_erasures-requires c).Start)) c.requires.0.finding.complete ∙ of-placed (l (goal.at.cover_erasures-requires c).Start).b (l (goal.at.cover_erasures-requires c).Start).n 0 (ss (goal.at.cover_erasures-requires c).Start) placed;
    }

pub returns-then-not-cover_erasures : goal.returns-then-not-cover_erasures
returns-then-not-cover_erasures c =
    let a = c.args in
    c.unread.ensures number_of a.message.now
    ∙ sym (ap (decoded_from (l (goal.at.returns-then-not-cover_erasures c).Start).b a.message.now)
    (reads-erased (l (goal.at.returns-then-not-cover_erasures c).Start) a.word.now c.requires.0.finding a.located.rank a.located.placement (kind_numbers a.located.kinds) c.requires.2
    (sym (told (goal.at.returns-then-not-cover_erasures c).After-cover_erasures) ∙ c.if-not-cover_erasures.true)))

pub walk_of-walk-requires : goal.walk_of-walk-requires
walk_of-walk-requires c =
    (bound (l (goal.at.walk_of-walk-requires c).Start) (fit (goal.at.walk_of-walk-requires c).Start)).m-most

pub take_message-requires : goal.take_message-requires
take_message-requires c =
    let laid = (fit (goal.at.take_message-requires c).Start).laid in
    let all : length c.args.located.kinds ≡ max_blocks = search rules in
    rw c.walk_of-walk.ensures
    record {
      tables = record {
        walked = record {
          range = (fit (goal.at.take_message-requires c).Start).range;
          fit = (fit (goal.at.take_message-requires c).Start).fit;
          some = omega (arith, laid.sub_is, c.requires.0.some-symbol);
          walk_is = ap (Words.sub_blocks_of (l (goal.at.take_message-requires c).Start).n (l (goal.at.take_message-requires c).Start).m (l (goal.at.take_message-requires c).Start).b) laid.sub_is;
          held = counted (goal.at.take_message-requires c).Start;
          placed = c.requires.2.placed;
          starts-are = c.requires.1;
          kinds-are = c.requires.2.bearers;
        };
        complete = c.requires.0.finding.complete;
        room = c.requires.0.room ∙ laid.len_is;
      };
      known = omega (arith, (bound (l (goal.at.take_message-requires c).Start) (fit (goal.at.take_message-requires c).Start)).m-most, all);
    }

pub returns : goal.returns
returns c =
    let a = c.args in
    read_whole (l (goal.at.returns c).Start).b a.located.rank (held_as a.located.placement) (ss (goal.at.returns c).Start) c.take_message.new.message (taken (goal.at.returns c).Start) a.message.now
    c.requires.2.ranked c.requires.2.is_held
    (rw c.walk_of-walk.ensures at c.take_message.ensures)
    ∙ sym (ap (decoded_from (l (goal.at.returns c).Start).b a.message.now)
    (reads_whole (l (goal.at.returns c).Start) a.word.now c.requires.0.finding a.located.rank a.located.placement (kind_numbers a.located.kinds) c.requires.2
    (sym (told (goal.at.returns c).After-cover_erasures) ∙ c.if-not-cover_erasures.false)))
