-- The number that stands for a block's kind, and those of an array of kinds. Assumes nothing.
use Rattle.std.specs.Prelude.{List, ℕ, map}
use Rattle.blocks.specs.declared.Kind.{Kind}
use Rattle.blocks.specs.declared.Kind.TheVariants.{Fixed, Burst, Index}
use Rattle.blocks.specs.Blocks.{fixed_kind, burst_kind, index_kind}

abbrev pub kind_number : Kind → ℕ
kind_number Fixed = fixed_kind
kind_number Burst = burst_kind
kind_number Index = index_kind

abbrev pub kind_numbers : List Kind → List ℕ
kind_numbers kinds = map kind_number kinds
