-- `payload_len` meets its contract: a byte takes a symbol at least. Assumes nothing.
use mathlib.Core.Path.{ap}
use Prim.Native.Nat.{ℕ, ◌/◌}
use Rattle.cells.specs.Bytes.{payload_len}
use Rattle.cells.proofs.Bytes.{width_some}
use Rattle.params.proofs.bytes.payload_len.Goals as goal

pub nonzero_div-result : goal.nonzero_div-result
nonzero_div-result c = rw c.byte_width.ensures (width_some _)

pub returns : goal.returns
unfolding payload_len
returns c = ap (λ (w : ℕ). c.args.symbols / w) c.byte_width.ensures
