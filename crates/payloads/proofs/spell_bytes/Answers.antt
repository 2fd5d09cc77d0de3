-- `spell_bytes` meets its contract: the first i bytes are spelled, and then the leftovers are cleared. Assumes nothing.
use mathlib.Core.Path.{◌≡◌, refl}
use Prim.Native.Nat.{◌+◌, ◌*◌, ◌≤◌}
use native.Mathlib.Omega.{arith}
use lib.ListN.{length, get_or}
use Rattle.payloads.proofs.Spelling.{all_room, byte-room, byte_fits, spelled_none, spelled-turn, spelled-all}
use Rattle.payloads.proofs.spell_bytes.Goals as goal
use Rattle.payloads.proofs.spell_bytes.Goals.{After-loop-i, In-loop-i}

pub loop-i-init : goal.loop-i-init
loop-i-init c =
    let a = c.args in
    spelled_none a.q a.width (length a.payload.now) (length a.message.now) a.payload.now refl a.message.now refl c.requires

-- there is room for the next byte, and for all of them
next_fits : (c : In-loop-i) → c.loop-i.i * c.args.width +
    c.args.width ≤ length c.loop-i.message
next_fits c =
    let a = c.args in
    let t = c.loop-i in
    byte-room a.q a.width (length a.payload.now) t.message t.invariant.given t.i (omega arith)

all_fit : (c : After-loop-i) → length c.args.payload.now * c.args.width ≤ length c.loop-i.message
all_fit c = all_room c.args.q c.args.width (length c.args.payload.now) c.loop-i.message c.loop-i.invariant.given

pub overflow_mul-at : goal.overflow_mul-at
overflow_mul-at c = omega (arith, c.loop-i.invariant.size, next_fits c)

pub overflow_add-at : goal.overflow_add-at
overflow_add-at c = omega (arith, c.loop-i.invariant.size, next_fits (goal.at.overflow_add-at c).In-loop-i)

pub slice_bounds-spell_byte-end : goal.slice_bounds-spell_byte-end
slice_bounds-spell_byte-end c = next_fits (goal.at.slice_bounds-spell_byte-end c).In-loop-i

pub spell_byte-requires : goal.spell_byte-requires
spell_byte-requires c =
    let a = c.args in
    let t = c.loop-i in
    byte_fits a.q a.width (length a.payload.now) t.message t.invariant.given t.i (get_or a.payload.now t.i 0) (omega arith)
    (omega (arith, c.type_inv.payload t.i))

pub loop-i-preserved : goal.loop-i-preserved
loop-i-preserved c =
    let a = c.args in
    let t = c.loop-i in
    spelled-turn a.q a.width (length a.payload.now) (length a.message.now) a.payload.now refl t.i t.message
    c.spell_byte.new.symbols (omega arith) t.invariant c.spell_byte.ensures

pub overflow_mul-spelled : goal.overflow_mul-spelled
overflow_mul-spelled c = omega (arith, c.loop-i.invariant.size, all_fit c)

pub slice_bounds-clear-count : goal.slice_bounds-clear-count
slice_bounds-clear-count c = all_fit c

pub slice_bounds-clear-start : goal.slice_bounds-clear-start
slice_bounds-clear-start c = all_fit c

pub returns : goal.returns
returns c =
    let a = c.args in
    let t = c.loop-i in
    let e : t.i ≡ length a.payload.now = omega arith in
    spelled-all a.q a.width (length a.payload.now) (length a.message.now) a.payload.now refl (length a.payload.now) t.message
    c.clear.new.symbols refl (rw e at t.invariant) c.clear.ensures
