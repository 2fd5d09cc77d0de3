-- `put_hex_chunks` meets its contract: the bytes that are done stand in the line. Assumes nothing.
use mathlib.Core.Path.{◌≡◌, subst}
use Prim.Native.Nat.{ℕ, ◌+◌, ◌*◌}
use native.Mathlib.Omega.{arith}
use lib.ListN.{take}
use Rattle.text.specs.Text.{hex}
use Rattle.text.proofs.Line.{Put}
use Rattle.text.proofs.Hex.{hex-none, chunk-turn}
use Rattle.text.proofs.put_hex_chunks.Goals as goal

pub loop-i-init : goal.loop-i-init
loop-i-init c = hex-none c.args.at c.args.bytes.now c.args.line.now

pub loop-i-preserved : goal.loop-i-preserved
loop-i-preserved c =
    let a = c.args in
    let t = c.loop-i in
    let one = c.put_hex_chunk in
    let p =
    chunk-turn a.at a.bytes.now a.line.now t.line (t.i * 64) c.requires (omega arith) (t.i * 64 + 64) (omega arith) (omega arith) one.new.line
    t.invariant one.ensures in
    let e : t.i * 64 + 64 ≡ (t.i + 1) * 64 = omega arith in
    subst (λ (k : ℕ). Put a.at (hex (take k a.bytes.now)) a.line.now one.new.line (a.at + 2 * k)) e p
