-- `decode_placed` meets its contract: 19, or the placement with its message. Assumes nothing.
use Rattle.refusals.specs.Numbers.{number_of}
use mathlib.Core.Path.{◌≡◌, sym, ap, ◌∙◌}
use mathlib.Core.Bool.{true, false}
use mathlib.Core.List.{List}
use Prim.Native.Nat.{ℕ}
use native.Mathlib.Omega.{arith}
use borrow.Author.Rules.{rules}
use lib.ListN.{length}
use Rattle.combinatorics.specs.Bursts.{rank_of}
use Rattle.combinatorics.specs.Lists.{all_below}
use Rattle.combinatorics.proofs.Lists.{below_at}
use Rattle.cells.specs.Cells.{message as message_cell, pick}
use Rattle.cells.specs.Codec.{Reading, accepted, refused}
use Rattle.cells.specs.Erasures.{found_bound}
use Rattle.cells.specs.Outcomes.{Held, held, rank_is, Decoded, decoded_from}
use Rattle.cells.specs.Plan.{kind_in, plan_in}
use Rattle.cells.proofs.Cells.{pick-below}
use Rattle.cells.proofs.Erasures.{found-least, erasure-is}
use Rattle.refusals.specs.Refusals.{erased}
use Rattle.params.specs.Given.{frame_of, max_blocks}
use Rattle.params.specs.declared.Layout.{Layout}
use Rattle.params.proofs.Shape.{bound, long}
use Rattle.placements.specs.Bridge.{held_as, starts_in}
use Rattle.stretches.specs.ByBlock.{PlacedIn, walk_of}
use Rattle.stretches.proofs.ByLayout.{walks-of, plan-of, message-of}
use Rattle.blocks.specs.Numbers.{kind_numbers}
use Rattle.decoder.specs.Reader.{read_message}
use Rattle.decoder.proofs.Covered.{erasures-covered}
use Rattle.decoder.proofs.decode_placed.Goals as goal
use Rattle.decoder.proofs.decode_placed.Goals.{After-message_whole, Start}

abbrev l : Start → Layout
l s = s.args.layout

-- the placement's message in the word
abbrev taken : Start → List ℕ
taken s = pick message_cell (plan_in (frame_of (l s) (starts_in s.args.placement))) s.args.word.now

-- no value above q is left
known : (s : Start) → all_below (found_bound (l s).q) (taken s) ≡ true
known s =
    let q = (l s).q in
    pick-below message_cell (l s).n (kind_in (frame_of (l s) (starts_in s.args.placement))) s.args.word.now (found_bound q)
    (below_at (found_bound q) s.args.word.now (omega (arith, found-least q, (bound (l s) s.requires.0.placing.layout).q-least)) s.requires.0.lent.found)

reads-erased : (s : Start) → all_below (l s).q (taken s) ≡ false → read_message (l s) s.args.word.now (starts_in s.args.placement) ≡ refused erased
reads-erased s e = rw (erasure-is (l s).q (taken s) (known s), e)

reads_whole : (s : Start) → all_below (l s).q (taken s) ≡ true
    → read_message (l s) s.args.word.now (starts_in s.args.placement) ≡ accepted (starts_in s.args.placement) (taken s)
reads_whole s e = rw (erasure-is (l s).q (taken s) (known s), e)

-- its bursts
placed : (s : Start) → PlacedIn (walk_of (l s)) s.args.placement
placed s = (walks-of (l s) s.args.placement s.args.heads.now (kind_numbers s.args.kinds.now) s.requires.0.placing s.requires.1).bursts

-- whether its message could be read
whole_is : (c : After-message_whole) → c.message_whole.result ≡ all_below (l (goal.at.After-message_whole c).Start).q
    (taken (goal.at.After-message_whole c).Start)
whole_is c =
    let lent = c.requires.0.lent in
    let covered = erasures-covered (l (goal.at.After-message_whole c).Start) lent.fitting c.args.word.now lent.finding.complete lent.found in
    rw (c.walk_of-walk.ensures, covered (starts_in c.args.placement) c.requires.0.read-as) at c.message_whole.ensures

pub message_whole-requires : goal.message_whole-requires
message_whole-requires c =
    let g = c.requires.0.placing.layout in
    rw c.walk_of-walk.ensures (
      c.requires.0.lent.scanned,
      record {
        bursts = placed (goal.at.message_whole-requires c).Start;
        alphabet = omega (arith, (bound (l (goal.at.message_whole-requires c).Start) g).q-least);
        short = omega (arith, long (l (goal.at.message_whole-requires c).Start) g, (bound (l (goal.at.message_whole-requires c).Start) g).n-most);
        whole = c.requires.0.lent.finding.complete;
      },
    )

pub returns-then-not-message_whole : goal.returns-then-not-message_whole
returns-then-not-message_whole c =
    c.unread.ensures number_of c.args.message.now
    ∙ sym (ap (decoded_from (l (goal.at.returns-then-not-message_whole c).Start).b c.args.message.now) (reads-erased (goal.at.returns-then-not-message_whole c).Start (sym (whole_is (goal.at.returns-then-not-message_whole c).After-message_whole) ∙ c.if-not-message_whole.true)))

pub take_message-requires : goal.take_message-requires
take_message-requires c =
    let a = c.args in
    let p = c.requires.0.placing in
    let all : length a.kinds.now ≡ max_blocks = search rules in
    let walks = walks-of (l (goal.at.take_message-requires c).Start) a.placement a.heads.now (kind_numbers a.kinds.now) p c.requires.1 in
    rw c.walk_of-walk.ensures
    record {
      tables = record {
        walks = walks;
        whole = c.requires.0.lent.finding.complete;
        room = message-of (l (goal.at.take_message-requires c).Start) a.placement a.heads.now (kind_numbers a.kinds.now) p c.requires.1 a.message.now c.requires.0.lent.room;
      };
      known = omega (arith, walks.blocks-most, all);
    }

-- an accepted word
read_whole : (b v : ℕ) (h : Held) (ss ms ms' out : List ℕ) (r : Reading) → v ≡ rank_of b ss → h ≡ held ss → ms ≡ ms' → r ≡ accepted ss ms'
    → ◌≡◌ {A = Decoded} (record { answer = rank_is v; placement = h; message = ms }) (decoded_from b out r)
read_whole b v h ss ms ms' out r e₁ e₂ e₃ e₄ = rw (e₁, e₂, e₃, e₄)

pub returns : goal.returns
returns c =
    let a = c.args in
    let ss = starts_in a.placement in
    let call = c.take_message in
    let plan = plan-of (l (goal.at.returns c).Start) a.placement a.heads.now (kind_numbers a.kinds.now) c.requires.0.placing c.requires.1 in
    let picked = rw (c.walk_of-walk.ensures, plan) at call.ensures in
    read_whole (l (goal.at.returns c).Start).b a.rank (held_as a.placement) ss call.new.message (taken (goal.at.returns c).Start) a.message.now
    (read_message (l (goal.at.returns c).Start) a.word.now ss) c.requires.0.ranked c.requires.0.is_held picked
    (reads_whole (goal.at.returns c).Start (sym (whole_is (goal.at.returns c).After-message_whole) ∙ c.if-not-message_whole.false))
