-- `agrees` meets its contract: what is left of both tests decides as both do over all blocks. Assumes nothing.
use mathlib.Core.Path.{◌≡◌}
use mathlib.Core.List.{List}
use Prim.Native.Nat.{ℕ, ◌≤◌}
use lib.ListN.{take}
use Rattle.construction_a.specs.Reading.{agrees}
use Rattle.params.specs.Given.{figures_of}
use Rattle.blocks.specs.Numbers.{kind_numbers}
use Rattle.blocks.specs.Blocks.{index_kind, KindsOf}
use Rattle.decoder.proofs.Agreeing.{of_kind, Off}
use Rattle.decoder.proofs.Agreeing.{AgreesLeft}
use Rattle.decoder.proofs.agree.agrees.Given as goal

abbrev pub invariant-loop-k : goal.invariant-loop-k
invariant-loop-k l =
    (l.met ≤ l.layout.m) × ((ss : List ℕ) → KindsOf (figures_of l.layout) ss (kind_numbers l.kinds)
    → AgreesLeft l.blocks (of_kind index_kind (kind_numbers l.kinds)) (Off (figures_of l.layout) l.word (kind_numbers l.kinds)) (take l.layout.m l.index) l.k l.met
    ≡ agrees (figures_of l.layout) l.word (take l.layout.m l.index) ss)
