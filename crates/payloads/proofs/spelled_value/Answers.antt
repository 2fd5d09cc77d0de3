-- `spelled_value` meets its contract: the first symbols are taken in. Assumes nothing.
use Prim.Native.Nat.{◌+◌, ◌*◌, ◌^◌, ◌<◌}
use native.Mathlib.Omega.{arith}
use lib.ListN.{get_or, take}
use lib.Seq.{length-take-le}
use Rattle.std.proofs.lemmas.List.{get_or-take}
use Rattle.cells.specs.Bytes.{byte_values, max_byte_width}
use Rattle.payloads.proofs.Spelling.{taken_none, taken-turn, taken-fits, taken-all}
use Rattle.payloads.proofs.spelled_value.Goals as goal
use Rattle.payloads.proofs.spelled_value.Goals.{In-loop-symbol}

pub loop-symbol-init : goal.loop-symbol-init
loop-symbol-init c = let a = c.args in taken_none a.q a.width a.symbols.now c.requires.bytes

-- the value with the next symbol, a byte, fits
next_fits : (c : In-loop-symbol)
    → (let next = get_or (take c.args.width c.args.symbols.now) c.loop-symbol.symbol-index 0 in
    next < byte_values → c.loop-symbol.value * c.args.q + next < byte_values ^ max_byte_width)
next_fits c byte =
    let a = c.args in
    let t = c.loop-symbol in
    let ms = a.symbols.now in
    let within : t.symbol-index < a.width = omega (arith, length-take-le a.width ms c.requires.room) in
    let same = get_or-take a.width ms t.symbol-index 0 within in
    rw same (taken-fits a.q a.width ms c.requires.bytes t.symbol-index t.value (rw same at byte) max_byte_width within c.requires.short t.invariant)

next_byte : (c : In-loop-symbol) → get_or (take c.args.width c.args.symbols.now) c.loop-symbol.symbol-index 0 < byte_values
next_byte c =
    let a = c.args in
    let t = c.loop-symbol in
    let within : t.symbol-index < a.width = omega (arith, length-take-le a.width a.symbols.now c.requires.room) in
    rw (get_or-take a.width a.symbols.now t.symbol-index 0 within) (omega (arith, c.type_inv.symbols t.symbol-index))

pub overflow_mul-value : goal.overflow_mul-value
overflow_mul-value c = omega (arith, next_fits c (next_byte c))

pub overflow_add-value : goal.overflow_add-value
overflow_add-value c = let l = (goal.at.overflow_add-value c).In-loop-symbol in omega (arith, next_fits l (next_byte l))

pub loop-symbol-preserved : goal.loop-symbol-preserved
loop-symbol-preserved c =
    let a = c.args in
    let t = c.loop-symbol in
    let ms = a.symbols.now in
    let within : t.symbol-index < a.width = omega (arith, length-take-le a.width ms c.requires.room) in
    let same = get_or-take a.width ms t.symbol-index 0 within in
    rw same
    (taken-turn a.q a.width ms c.requires.bytes t.symbol-index t.value (omega (arith, c.type_inv.symbols t.symbol-index)) within c.requires.room t.invariant)

pub returns : goal.returns
returns c =
    let a = c.args in
    let t = c.loop-symbol in
    taken-all a.q a.width a.symbols.now c.requires.bytes t.symbol-index t.value
    (omega (arith, length-take-le a.width a.symbols.now c.requires.room)) t.invariant
