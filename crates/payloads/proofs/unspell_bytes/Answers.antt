-- `unspell_bytes` meets its contract: the first i bytes are read. Assumes nothing.
use mathlib.Core.Path.{◌≡◌, ◌∙◌}
use Prim.Native.Nat.{◌+◌, ◌*◌, ◌≤◌, ◌<◌}
use native.Mathlib.Omega.{arith}
use lib.ListN.{length}
use lib.Seq.{take_all}
use Rattle.combinatorics.proofs.Lists.{below_at, fill-turn, fill_done}
use Rattle.cells.specs.Bytes.{byte_values}
use Rattle.payloads.specs.Payload.{payload_in}
use Rattle.payloads.proofs.Payload.{payload-is}
use Rattle.payloads.proofs.Spelling.{byte-room, byte-valued, payload-count, byte-read}
use Rattle.payloads.proofs.unspell_bytes.Goals as goal
use Rattle.payloads.proofs.unspell_bytes.Goals.{In-loop-i}

-- there is room for the next byte
next_fits : (c : In-loop-i) → c.loop-i.i * c.args.width +
    c.args.width ≤ length c.args.message.now
next_fits c =
    let a = c.args in
    byte-room a.q a.width (length a.payload.now) a.message.now c.requires.0 c.loop-i.i (omega arith)

pub overflow_mul-at : goal.overflow_mul-at
overflow_mul-at c = omega (arith, next_fits (goal.at.overflow_mul-at c).In-loop-i)

pub slice_bounds-spelled_value-count : goal.slice_bounds-spelled_value-count
slice_bounds-spelled_value-count c = omega (arith, next_fits (goal.at.slice_bounds-spelled_value-count c).In-loop-i)

pub slice_bounds-spelled_value-start : goal.slice_bounds-spelled_value-start
slice_bounds-spelled_value-start c = omega (arith, next_fits (goal.at.slice_bounds-spelled_value-start c).In-loop-i)

pub spelled_value-requires : goal.spelled_value-requires
spelled_value-requires c =
    let a = c.args in
    byte-valued a.q a.width (length a.payload.now) a.message.now c.requires.0 c.loop-i.i
    (omega arith)

pub overflow_cast-byte : goal.overflow_cast-byte
overflow_cast-byte c =
    let a = c.args in
    let t = c.loop-i in
    let ms = a.message.now in
    let P = payload_in a.q (length ms) ms in
    omega (
      arith,
      below_at byte_values P (omega arith) (payload-is a.q (length ms) ms c.requires.1).bytes t.i,
      byte-read a.q a.width
          (length a.payload.now) ms c.requires.0 t.i c.spelled_value.result (omega arith) c.spelled_value.ensures,
    )

pub loop-i-preserved : goal.loop-i-preserved
loop-i-preserved c =
    let a = c.args in
    let t = c.loop-i in
    let ms = a.message.now in
    let P = payload_in a.q (length ms) ms in
    let l : t.i < length a.payload.now = omega arith in
    let v = byte-read a.q a.width (length a.payload.now) ms c.requires.0 t.i c.spelled_value.result l c.spelled_value.ensures in
    rw (← v) (fill-turn t.payload P t.i (omega arith) (omega (arith, payload-count a.q a.width (length a.payload.now) ms c.requires.0)) t.invariant)

pub returns : goal.returns
returns c =
    let a = c.args in
    let t = c.loop-i in
    let ms = a.message.now in
    let P = payload_in a.q (length ms) ms in
    let l : length t.payload ≡ t.i = omega arith in
    fill_done t.payload P t.i (omega arith) t.invariant l
    ∙ take_all (length t.payload) P (omega (arith, payload-count a.q a.width (length a.payload.now) ms c.requires.0))
