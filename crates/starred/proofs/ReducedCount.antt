-- The figures with which the reduced count fails: one computation over the whole table. Assumes nothing.
use mathlib.Core.Path.{refl}
use Rattle.combinatorics.specs.Bursts.{apart, placements}
use Rattle.combinatorics.specs.Choose.{choose}
use Rattle.combinatorics.specs.Examples.{comes_true}
use Rattle.combinatorics.specs.Lists.{all, any, same_list}
use Rattle.combinatorics.specs.Stretch.{sum, first, members, top}
use Rattle.cells.specs.Cut.{piece_len, piece_start, block_at, block_head, block_with}
use Rattle.cells.specs.Digits.{span, places}
use Rattle.cells.specs.Figures.{least_tail}
use Rattle.cells.specs.Round.{next}
use Rattle.construction_a.specs.Figures.{parts, block_min, index_tail_of}
use Rattle.construction_a.specs.Writing.{becomes, with_burst, with_bursts, is_burst, part_count, part_with, chosen, beside, is_chosen, is_index_in, is_index}
use Rattle.construction_a.specs.Writing.{index_blocks}
use Rattle.starred.specs.ReducedCount.{reduced_count, ReducedCountHolds}

pub reduced-count-holds : ReducedCountHolds
unfolding all any same_list sum first members top choose apart placements piece_len piece_start block_at block_head block_with span places least_tail
    parts block_min index_tail_of becomes with_burst with_bursts is_burst next part_count part_with chosen beside is_chosen is_index_in is_index index_blocks comes_true
    reduced_count
reduced-count-holds = refl
