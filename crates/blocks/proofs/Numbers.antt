-- What a test of a block's kind says of the numbers that stand for the kinds, and what marking a block does to them. Assumes nothing.
use mathlib.Core.Path.{◌≡◌, refl, ap, ◌∙◌}
use mathlib.Core.List.{List}
use Prim.Native.Nat.{ℕ}
use lib.Dec.{eqb}
use lib.ListN.{length, get_or, set, length-map, get_or-map}
use Rattle.std.proofs.lemmas.List.{map-set}
use denote.Enum.Bare.{sameb}
use Rattle.blocks.specs.contracts.Kind.{the_type}
use Rattle.blocks.specs.declared.Kind.{Kind}
use Rattle.blocks.specs.declared.Kind.TheVariants.{Fixed, Burst, Index}
use Rattle.blocks.specs.Numbers.{kind_number, kind_numbers}
use Rattle.blocks.specs.Blocks.{burst_set}

pub kind-at : (kinds : List Kind) (k : ℕ) → get_or (kind_numbers kinds) k 0 ≡ kind_number (get_or kinds k Fixed)
kind-at kinds k = get_or-map kind_number kinds k Fixed

-- a block that is of a kind
pub kind-is-at : (kinds : List Kind) (k : ℕ) (kind : Kind) → get_or kinds k Fixed ≡ kind → get_or (kind_numbers kinds) k 0 ≡ kind_number kind
kind-is-at kinds k kind e = kind-at kinds k ∙ ap kind_number e

pub length-kinds : (kinds : List Kind) → length (kind_numbers kinds) ≡ length kinds
length-kinds kinds = length-map kinds kind_number

number-same : (a b : Kind) → eqb (kind_number a) (kind_number b) ≡ sameb the_type a b
number-same Fixed Fixed = refl
number-same Fixed Burst = refl
number-same Fixed Index = refl
number-same Burst Fixed = refl
number-same Burst Burst = refl
number-same Burst Index = refl
number-same Index Fixed = refl
number-same Index Burst = refl
number-same Index Index = refl

-- a block that is tested for a kind
pub kind-tested : (kinds : List Kind) (k : ℕ) (kind : Kind)
    → eqb (get_or (kind_numbers kinds) k 0) (kind_number kind) ≡ sameb the_type (get_or kinds k Fixed) kind
kind-tested kinds k kind = rw (kind-at kinds k) (number-same (get_or kinds k Fixed) kind)

pub burst-tested : (kinds : List Kind) (k : ℕ) → burst_set (kind_numbers kinds) k ≡ sameb the_type (get_or kinds k Fixed) Burst
unfolding burst_set
burst-tested kinds k = kind-tested kinds k Burst

-- a block more is marked
pub kinds-set : (kinds : List Kind) (at : ℕ) (kind : Kind) → kind_numbers (set kinds at kind) ≡ set (kind_numbers kinds) at (kind_number kind)
kinds-set kinds at kind = map-set kind_number kinds at kind
