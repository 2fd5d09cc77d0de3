-- `number_in` meets its contract: the first i of four bytes are taken in. Assumes nothing.
use mathlib.Core.Path.{subst}
use mathlib.Core.List.{List}
use Prim.Native.Nat.{ℕ, ◌+◌, ◌*◌, ◌≤◌, ◌<◌}
use native.Mathlib.Omega.{arith}
use lib.ListN.{length, get_or}
use Rattle.combinatorics.proofs.Lists.{below_at}
use Rattle.cells.specs.Bytes.{byte_values}
use Rattle.payloads.specs.Payload.{job_number, payload_in}
use Rattle.payloads.proofs.Payload.{payload-is}
use Rattle.payloads.proofs.Spelling.{byte-room, byte-valued, payload-count, byte-read, Taken, taken_none, taken-turn, taken-fits, taken-all}
use Rattle.payloads.proofs.number_in.Goals as goal
use Rattle.payloads.proofs.number_in.Goals.{In-loop-i, Start}

-- the payload, and its bytes
abbrev spelled : Start → List ℕ
spelled s = payload_in s.args.q (length s.args.message.now) s.args.message.now

is_byte : (s : Start) (i : ℕ) → get_or (spelled s) i 0 < byte_values
is_byte s i =
    below_at byte_values (spelled s) (omega arith) (payload-is s.args.q (length s.args.message.now) s.args.message.now s.requires.1).bytes i

pub loop-i-init : goal.loop-i-init
loop-i-init c = taken_none byte_values 4 (spelled (goal.at.loop-i-init c).Start) (omega arith)

-- there is room for the next byte
next_fits : (c : In-loop-i) → c.loop-i.i * c.args.width + c.args.width ≤
    length c.args.message.now
next_fits c =
    let a = c.args in
    byte-room a.q a.width a.count a.message.now c.requires.0 c.loop-i.i (omega (arith, c.requires.2))

pub overflow_mul-at : goal.overflow_mul-at
overflow_mul-at c = omega (arith, next_fits c)

pub slice_bounds-spelled_value-count : goal.slice_bounds-spelled_value-count
slice_bounds-spelled_value-count c = omega (arith, next_fits c)

pub slice_bounds-spelled_value-start : goal.slice_bounds-spelled_value-start
slice_bounds-spelled_value-start c = omega (arith, next_fits c)

pub spelled_value-byte-requires : goal.spelled_value-byte-requires
spelled_value-byte-requires c =
    let a = c.args in
    byte-valued a.q a.width a.count a.message.now c.requires.0 c.loop-i.i (omega (arith, c.requires.2))

pub overflow_mul-number : goal.overflow_mul-number
overflow_mul-number c =
    let s = (goal.at.overflow_mul-number c).Start in
    let t = c.loop-i in
    omega (arith, taken-fits byte_values 4 (spelled s) (omega arith) t.i t.number (is_byte s t.i) 4 (omega arith) (omega arith) t.invariant)

pub overflow_add-number : goal.overflow_add-number
overflow_add-number c =
    let s = (goal.at.overflow_add-number c).Start in
    let t = c.loop-i in
    let a = s.args in
    let v = byte-read a.q a.width a.count a.message.now s.requires.0 t.i c.spelled_value-byte.result (omega (arith, s.requires.2))
    c.spelled_value-byte.ensures in
    omega (arith, v, taken-fits byte_values 4 (spelled s) (omega arith) t.i t.number (is_byte s t.i) 4 (omega arith) (omega arith) t.invariant)

pub loop-i-preserved : goal.loop-i-preserved
loop-i-preserved c =
    let s = (goal.at.loop-i-preserved c).Start in
    let t = c.loop-i in
    let a = s.args in
    let v = byte-read a.q a.width a.count a.message.now s.requires.0 t.i c.spelled_value-byte.result (omega (arith, s.requires.2))
    c.spelled_value-byte.ensures in
    subst (λ (x : ℕ). Taken byte_values 4 (spelled s) (t.i + 1) (t.number * byte_values + x)) v
    (taken-turn byte_values 4 (spelled s) (omega arith) t.i t.number (is_byte s t.i) (omega arith)
    (omega (arith, s.requires.2, payload-count a.q a.width a.count a.message.now s.requires.0)) t.invariant)

pub returns : goal.returns
unfolding job_number
returns c =
    let t = c.loop-i in
    taken-all byte_values 4 (spelled (goal.at.returns c).Start) (omega arith) t.i t.number (omega arith) t.invariant
