-- The starred strips hold: one computation over the whole table. Assumes nothing.
use mathlib.Core.Path.{refl}
use mathlib.Core.List.{flat_map}
use Rattle.combinatorics.specs.Examples.{comes_true}
use Rattle.combinatorics.specs.Lists.{all, any, same_list}
use Rattle.combinatorics.specs.Stretch.{sum, has, first, members, tabulate, top}
use Rattle.combinatorics.specs.Choose.{choose}
use Rattle.combinatorics.specs.Rank.{rank_from, unrank_down, unrank}
use Rattle.combinatorics.specs.Bursts.{apart, in_burst, placements, reduce_from, expand_from, rank_of, starts_of, covers, cover_rank}
use Rattle.cells.specs.Cut.{piece_len, piece_start, block_at, block_head, block_with}
use Rattle.cells.specs.Cells.{weave}
use Rattle.cells.specs.Plan.{cell_of}
use Rattle.cells.specs.Digits.{span, spell, places}
use Rattle.cells.specs.Figures.{in_range, least_tail}
use Rattle.construction_a.specs.Figures.{parts, block_min, index_tail_of, fits, message_len_of}
use Rattle.cells.specs.Round.{next}
use Rattle.construction_a.specs.Writing.{becomes, with_burst, with_bursts, is_burst, part_count, part_with, chosen, beside, is_chosen, is_index_in, is_index}
use Rattle.construction_a.specs.Writing.{index_blocks, kind_at, plan, word}
use Rattle.construction_a.specs.Reading.{first_symbols}
use Rattle.construction_a.specs.Outcomes.{figures_out, encode_out, cover_out}
use Rattle.jobs.specs.Table.{first_entry, replace_first, put, twice, decide}
use Rattle.ledger.specs.Calls.{answers_from}
use Rattle.starred.specs.Strips.{starred, StarredHold}

pub starred-hold : StarredHold
unfolding all any same_list sum has first members tabulate top choose rank_from unrank_down unrank apart in_burst placements reduce_from expand_from rank_of
    starts_of covers cover_rank piece_len piece_start block_at block_head block_with weave span spell places in_range parts block_min least_tail index_tail_of fits
    message_len_of becomes with_burst with_bursts is_burst next part_count part_with chosen beside is_chosen is_index_in is_index index_blocks cell_of kind_at plan word
    first_symbols figures_out encode_out cover_out comes_true starred flat_map first_entry replace_first put twice decide answers_from
starred-hold = refl
