-- `put_starts` meets its contract: the first j starts are stored. Assumes nothing.
use mathlib.Core.Path.{◌≡◌}
use Prim.Native.Nat.{◌*◌}
use lib.ListN.{length, take}
use Rattle.placements.specs.Bridge.{starts_in}
use Rattle.decoder.specs.Exported.{start_bytes}
use Rattle.decoder.proofs.starts.put_starts.Given as goal

abbrev pub invariant-loop-j : goal.invariant-loop-j
invariant-loop-j l = (length l.bytes ≡ length l.initial.bytes) × (take (2 * l.j) l.bytes ≡ take (2 * l.j) (start_bytes (starts_in l.at)))
