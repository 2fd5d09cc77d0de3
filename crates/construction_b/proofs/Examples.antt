-- The worked examples hold, by computation. Assumes nothing.
use mathlib.Core.Path.{refl}
use mathlib.Core.List.{flat_map}
use Rattle.combinatorics.specs.Bursts.{in_burst, apart, placements, reduce_from, expand_from, rank_of, starts_of, covers, cover_rank}
use Rattle.combinatorics.specs.Choose.{choose}
use Rattle.combinatorics.specs.Examples.{comes_true}
use Rattle.combinatorics.specs.Lists.{all, any, same_list}
use Rattle.combinatorics.specs.Rank.{rank_from, unrank_down, unrank}
use Rattle.combinatorics.specs.Stretch.{sum, has, first, members, tabulate, top}
use Rattle.cells.specs.Cells.{weave, pick}
use Rattle.cells.specs.Cut.{piece_len, piece_start}
use Rattle.cells.specs.Digits.{span, spell, value, places}
use Rattle.cells.specs.Erasures.{has_erasure}
use Rattle.cells.specs.Plan.{cell_of}
use Rattle.cells.specs.Figures.{least_tail}
use Rattle.cells.specs.Round.{later, next}
use Rattle.construction_b.specs.Figures.{in_range, part_min, part_most, placement_count_of, index_tail_of, fits, message_len_of}
use Rattle.construction_b.specs.Writing.{burst_part, index_part, end_offset, plan, word_from}
use Rattle.construction_b.specs.Reading.{looks_fixed, index_found, before, written, end_at, read_part, read}
use Rattle.construction_b.specs.Outcomes.{figures_out, cover_out}
use Rattle.construction_b.specs.Examples.{examples, ExamplesHold}

pub examples-hold : ExamplesHold
unfolding examples all any has_erasure comes_true same_list sum has first members tabulate top choose rank_from unrank_down unrank apart in_burst placements
    reduce_from expand_from rank_of starts_of covers cover_rank weave pick piece_len piece_start span spell value places cell_of least_tail later next in_range
    part_min part_most placement_count_of index_tail_of fits message_len_of burst_part index_part end_offset plan word_from looks_fixed index_found before written end_at
    read_part read figures_out cover_out flat_map
examples-hold = refl
