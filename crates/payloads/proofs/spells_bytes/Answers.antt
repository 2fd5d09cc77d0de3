-- `spells_bytes` meets its contract: what is true of all bytes is true of those from i on; then the leftovers decide. Assumes nothing.
use mathlib.Core.Path.{sym, ◌∙◌}
use Prim.Native.Nat.{suc, ◌+◌, ◌*◌, ◌≤◌}
use native.Mathlib.Omega.{arith}
use lib.Dec.{ltb}
use lib.ListN.{length, get_or}
use Rattle.combinatorics.proofs.Cases.{leb-holds, leb-fails}
use Rattle.combinatorics.proofs.Lists.{all-fails, all-later, all-over}
use Rattle.cells.specs.Bytes.{byte_values}
use Rattle.payloads.specs.Payload.{payload_in}
use Rattle.payloads.proofs.Spelling.{all_room, byte-room, byte-valued, payload-count, byte-read, not-bytes, then-leftovers}
use Rattle.payloads.proofs.spells_bytes.Goals as goal
use Rattle.payloads.proofs.spells_bytes.Goals.{After-loop-i, In-loop-i}

-- there is room for the next byte, and for all of them
next_fits : (c : In-loop-i) → c.loop-i.i * c.args.width + c.args.width ≤
    length c.args.message.now
next_fits c =
    let a = c.args in
    byte-room a.q a.width a.count a.message.now c.requires c.loop-i.i (omega arith)

all_fit : (c : After-loop-i) → c.args.count * c.args.width ≤ length
    c.args.message.now
all_fit c =
    let a = c.args in
    all_room a.q a.width a.count a.message.now c.requires

pub overflow_mul-at : goal.overflow_mul-at
overflow_mul-at c = omega (arith, c.type_inv.message 0, next_fits c)

pub slice_bounds-spelled_value-count : goal.slice_bounds-spelled_value-count
slice_bounds-spelled_value-count c = omega (arith, next_fits c)

pub slice_bounds-spelled_value-start : goal.slice_bounds-spelled_value-start
slice_bounds-spelled_value-start c = omega (arith, next_fits c)

pub spelled_value-requires : goal.spelled_value-requires
spelled_value-requires c =
    let a = c.args in
    byte-valued a.q a.width a.count a.message.now c.requires c.loop-i.i (omega arith)

pub returns-then-spelled_value-gt-MAX_BYTE : goal.returns-then-spelled_value-gt-MAX_BYTE
returns-then-spelled_value-gt-MAX_BYTE c =
    let a = c.args in
    let t = c.loop-i in
    let ms = a.message.now in
    let P = payload_in a.q (length ms) ms in
    let v = byte-read a.q a.width a.count ms c.requires t.i c.spelled_value.result (omega arith) c.spelled_value.ensures in
    sym (not-bytes a.q a.width a.count ms c.requires
    (sym t.invariant ∙ all-fails (λ x. ltb x byte_values) P t.i (omega (arith, payload-count a.q a.width a.count ms c.requires))
    (leb-fails (suc (get_or P t.i 0)) byte_values (omega (arith, v)))))

pub loop-i-preserved : goal.loop-i-preserved
loop-i-preserved c =
    let a = c.args in
    let t = c.loop-i in
    let ms = a.message.now in
    let P = payload_in a.q (length ms) ms in
    let v = byte-read a.q a.width a.count ms c.requires t.i c.spelled_value.result (omega arith) c.spelled_value.ensures in
    sym (all-later (λ x. ltb x byte_values) P t.i (omega (arith, payload-count a.q a.width a.count ms c.requires))
    (leb-holds (suc (get_or P t.i 0)) byte_values (omega (arith, v)))) ∙ t.invariant

pub overflow_mul-spelled : goal.overflow_mul-spelled
overflow_mul-spelled c = omega (arith, all_fit c)

pub slice_bounds-all_below-count : goal.slice_bounds-all_below-count
slice_bounds-all_below-count c = all_fit c

pub slice_bounds-all_below-start : goal.slice_bounds-all_below-start
slice_bounds-all_below-start c = all_fit c

pub returns : goal.returns
returns c =
    let a = c.args in
    let t = c.loop-i in
    let ms = a.message.now in
    let P = payload_in a.q (length ms) ms in
    then-leftovers a.q a.width a.count ms c.requires c.all_below.result
    (sym t.invariant ∙ all-over (λ x. ltb x byte_values) P t.i (omega (arith, payload-count a.q a.width a.count ms c.requires)))
    c.all_below.ensures
