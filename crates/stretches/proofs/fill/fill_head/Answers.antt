-- `fill_head` meets its contract: a fixed block has one such cell, an index block its digits, a burst block none. Assumes nothing.
use mathlib.Core.Path.{◌≡◌, ap, ◌∙◌, subst}
use mathlib.Core.Bool.{true, false}
use Prim.Native.Nat.{ℕ, suc, ◌+◌, ◌-◌, ◌*◌, ◌≤◌, ◌<◌}
use native.Mathlib.Numerals.{add-one}
use native.Mathlib.Omega.{arith}
use lib.Dec.{eqb}
use lib.ListN.{length, get_or, set, take, drop, length-set, length-drop}
use lib.Seq.{take-suc-set}
use Rattle.combinatorics.proofs.Cases.{eqb_same}
use Rattle.combinatorics.proofs.Stretch.{count-le}
use Rattle.cells.specs.Cells.{digit}
use Rattle.cells.specs.Plan.{Frame}
use Rattle.cells.proofs.Walk.{rest-is}
use Rattle.placements.specs.Bridge.{starts_in}
use Rattle.blocks.specs.declared.Kind.TheVariants.{Fixed, Burst, Index}
use Rattle.blocks.proofs.Numbers.{kind-is-at}
use Rattle.blocks.specs.Blocks.{fixed_kind, index_kind}
use Rattle.blocks.specs.Numbers.{kind_numbers}
use Rattle.stretches.specs.Walk.{frame_by, index_before}
use Rattle.stretches.specs.ByBlock.{Past, Cells}
use Rattle.stretches.proofs.ByBlock.{Walkable, walkable, len_is, kind-fixed, kind-burst, head-none, head_fixed, fixed-cells, head-index, index-cells}
use Rattle.stretches.proofs.Part.{part-put}
use Rattle.stretches.proofs.Resuming.{index-next, index-among, fixed_on, digits-on}
use borrow.Author.Rules.{rules}
use Rattle.stretches.proofs.fill.fill_head.Goals as goal
use Rattle.stretches.proofs.fill.fill_head.Goals.{Start}

-- ---- What the contract lends

abbrev g : Start → Frame
g s = frame_by s.args.walk s.args.heads.now (kind_numbers s.args.kinds.now) (starts_in s.args.at)

abbrev kind : Start → ℕ
kind s = get_or (kind_numbers s.args.kinds.now) s.args.block 0

abbrev x : Start → ℕ
x s = s.args.from.at

w : (s : Start) → Walkable (g s) s.args.walk.b (starts_in s.args.at)
w s = walkable s.requires.tables.0.walks

abbrev PastTo : Start → ℕ → Type 0
PastTo s y = Past (g s) s.args.walk.b (starts_in s.args.at) s.args.block y s.args.from.passed

-- ---- A fixed block

fixed-past : (s : Start) → kind s ≡ fixed_kind → PastTo s (x s + 1)
fixed-past s e = (head_fixed (w s) s.args.block (x s) s.args.from.passed s.requires.tables.1.0 s.requires.tables.1.1.0 (kind-fixed e).0 (kind-fixed e).1).past

-- ---- An index block

is-index : (s : Start) → kind s ≡ index_kind → eqb (kind s) index_kind ≡ true
is-index s e = eqb_same (kind s) index_kind e

-- where its digits end
abbrev to : Start → ℕ
to s = x s + s.args.walk.head_len

to_is : (s : Start) → x s + suc (s.args.walk.head_len - 1) ≡ to s
to_is s = omega (arith, len_is s.requires.tables.0.walks)

index-past : (s : Start) → kind s ≡ index_kind → PastTo s (to s)
index-past s e =
    subst (PastTo s) (to_is s) (head-index (w s) s.args.block (x s) s.args.from.passed s.requires.tables.1.0 s.requires.tables.1.1.0 (is-index s e)).past

digit-cells : (s : Start) → kind s ≡ index_kind → Cells (g s) digit (x s) (to s)
digit-cells s e y u v = index-cells (w s) s.args.block (x s) s.args.from.passed s.requires.tables.1.0 s.requires.tables.1.1.0 (is-index s e) y u
    (omega (arith, to_is s))

room : (s : Start) → kind s ≡ index_kind → to s ≤ length s.args.word.now
room s e = omega (arith, (index-past s e).between.within, s.requires.tables.0.filled.size)

among : (s : Start) → kind s ≡ index_kind → s.args.from.indexed < index_before (kind_numbers s.args.kinds.now) s.args.walk.blocks
among s e = rw s.requires.tables.1.1.1 (index-among (kind_numbers s.args.kinds.now) s.args.block s.args.walk.blocks s.requires.tables.1.0 (is-index s e))

lent : (s : Start) → kind s ≡ index_kind → s.args.from.indexed * s.args.walk.digit_step + s.args.walk.head_len ≤ length s.args.digits.now
lent s e = s.requires.tables.0.digits-lent s.args.from.indexed (among s e)

few : (s : Start) → kind s ≡ index_kind → s.args.from.indexed < 64
few s e =
    omega (arith, among s e, s.requires.tables.0.walks.blocks-most, count-le s.args.walk.blocks 0 (λ i. eqb (get_or (kind_numbers s.args.kinds.now) i 0) index_kind))

-- ---- What is left of the code

pub bounds-word-start : goal.bounds-word-start
bounds-word-start c = omega (arith, (fixed-past (goal.at.bounds-word-start c).Start (kind-is-at c.args.kinds.now c.args.block Fixed c.in-Fixed.is)).between.within, c.requires.tables.0.filled.size)

pub returns-in-Fixed : goal.returns-in-Fixed
returns-in-Fixed c =
    let e = kind-is-at c.args.kinds.now c.args.block Fixed c.in-Fixed.is in
    let word = c.args.word.now in
    let past = fixed-past (goal.at.returns-in-Fixed c).Start e in
    let one : x (goal.at.returns-in-Fixed c).Start + 1 - x (goal.at.returns-in-Fixed c).Start ≡ 1 = omega arith in
    let cells = fixed-cells (w (goal.at.returns-in-Fixed c).Start) c.args.block (x (goal.at.returns-in-Fixed c).Start) c.args.from.passed c.requires.tables.1.0 c.requires.tables.1.1.0 (kind-fixed e).0 (kind-fixed e).1 in
    let made = take-suc-set word (x (goal.at.returns-in-Fixed c).Start) 0 (omega (arith, past.between.within, c.requires.tables.0.filled.size)) in (
      fixed_on c.requires.tables.0 (x (goal.at.returns-in-Fixed c).Start + 1) (omega arith) past.between.within (set word (x (goal.at.returns-in-Fixed c).Start) 0) cells (rw (one, add-one (x (goal.at.returns-in-Fixed c).Start)) made) (length-set word (x (goal.at.returns-in-Fixed c).Start) 0),
      (past, omega (arith, c.requires.tables.1.1.1, index-next (kind_numbers c.args.kinds.now) c.args.block false (kind-fixed e).0), c.requires.tables.1.1.2),
    )

pub overflow_mul-spelled : goal.overflow_mul-spelled
overflow_mul-spelled c =
    omega (
      arith,
      lent (goal.at.overflow_mul-spelled c).Start
          (kind-is-at c.args.kinds.now c.args.block Index c.in-Index.is),
    )

pub slice_bounds-copy_few-count-in-Index : goal.slice_bounds-copy_few-count-in-Index
slice_bounds-copy_few-count-in-Index c = omega (arith, lent (goal.at.slice_bounds-copy_few-count-in-Index c).Start (kind-is-at c.args.kinds.now c.args.block Index c.in-Index.is))

pub slice_bounds-copy_few-start-in-Index : goal.slice_bounds-copy_few-start-in-Index
slice_bounds-copy_few-start-in-Index c =
    omega (arith, lent (goal.at.slice_bounds-copy_few-start-in-Index c).Start (kind-is-at c.args.kinds.now c.args.block Index c.in-Index.is))

pub copy_few-requires : goal.copy_few-requires
copy_few-requires c =
    let e = kind-is-at c.args.kinds.now c.args.block Index c.in-Index.is in
    let word = c.args.word.now in
    let digits = c.args.digits.now in
    let spelled = c.args.from.indexed * c.args.walk.digit_step in (
      omega (arith, room (goal.at.copy_few-requires c).Start e, ap length (rest-is (x (goal.at.copy_few-requires c).Start) word), length-drop (x (goal.at.copy_few-requires c).Start) word),
      omega (arith, lent (goal.at.copy_few-requires c).Start e, ap length (rest-is spelled digits), length-drop spelled digits),
    )

pub overflow_add-result-in-Index-2 : goal.overflow_add-result-in-Index-2
overflow_add-result-in-Index-2 c =
    omega (
      arith,
      few (goal.at.overflow_add-result-in-Index-2 c).Start
          (kind-is-at c.args.kinds.now c.args.block Index c.in-Index.is),
    )

pub returns-in-Index : goal.returns-in-Index
returns-in-Index c =
    let e = kind-is-at c.args.kinds.now c.args.block Index c.in-Index.is in
    let past = index-past (goal.at.returns-in-Index c).Start e in
    let part = c.copy_few in
    let digits = c.args.digits.now in
    let len = c.args.walk.head_len in
    let long : to (goal.at.returns-in-Index c).Start - x (goal.at.returns-in-Index c).Start ≡ len = omega arith in
    let spelled = c.args.from.indexed * c.args.walk.digit_step in
    let put = part-put (x (goal.at.returns-in-Index c).Start) (to (goal.at.returns-in-Index c).Start) c.args.word.now part.new.to (take len (drop spelled digits)) (omega arith) (room (goal.at.returns-in-Index c).Start e) (search rules)
    (rw long (part.ensures ∙ ap (take len) (rest-is spelled digits))) in (
      digits-on c.requires.tables.0 (to (goal.at.returns-in-Index c).Start) (omega arith) past.between.within _ (digit-cells (goal.at.returns-in-Index c).Start e) long (among (goal.at.returns-in-Index c).Start e) put.0 put.1,
      (past, omega (arith, c.requires.tables.1.1.1, index-next (kind_numbers c.args.kinds.now) c.args.block true (is-index (goal.at.returns-in-Index c).Start e)), c.requires.tables.1.1.2),
    )

pub returns-in-Burst : goal.returns-in-Burst
returns-in-Burst c =
    let k = kind-burst (kind-is-at c.args.kinds.now c.args.block Burst c.in-Burst.is) in (
      c.requires.tables.0,
      (
        head-none (w (goal.at.returns-in-Burst c).Start) c.args.block (x (goal.at.returns-in-Burst c).Start) c.args.from.passed c.requires.tables.1.0 c.requires.tables.1.1.0 k.0 k.1,
        omega (arith, c.requires.tables.1.1.1, index-next (kind_numbers c.args.kinds.now) c.args.block false k.0),
        c.requires.tables.1.1.2,
      ),
    )
