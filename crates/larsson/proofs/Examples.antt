-- The worked examples hold: one computation over the whole table. Assumes nothing.
use mathlib.Core.Path.{refl}
use mathlib.Core.List.{flat_map}
use Rattle.combinatorics.specs.Examples.{comes_true}
use Rattle.combinatorics.specs.Lists.{all, any, same_list}
use Rattle.combinatorics.specs.Stretch.{sum, firsts, has, first, members, tabulate, top}
use Rattle.combinatorics.specs.Majority.{common, majority}
use Rattle.combinatorics.specs.Choose.{choose}
use Rattle.combinatorics.specs.Rank.{rank_from, unrank_down, unrank}
use Rattle.combinatorics.specs.Bursts.{apart, in_burst, placements, reduce_from, expand_from, rank_of, starts_of}
use Rattle.cells.specs.Cut.{piece_len, piece_start}
use Rattle.cells.specs.Cells.{weave, pick}
use Rattle.cells.specs.Digits.{span, spell, value}
use Rattle.cells.specs.Erasures.{has_erasure}
use Rattle.cells.specs.Figures.{in_range}
use Rattle.larsson.specs.Figures.{sub_len_of, gap_total_of, gap_len, sub_start, fits, message_len_of}
use Rattle.larsson.specs.Writing.{untouched, bears, bearers, in_sub, is_borne, kind_at, plan, rank_digits, digits, word}
use Rattle.larsson.specs.Reading.{sub_symbols, sub_value, found, agrees, read_value, read}
use Rattle.larsson.specs.Outcomes.{figures_out}
use Rattle.larsson.specs.Examples.{examples, ExamplesHold}

pub examples-hold : ExamplesHold
unfolding all any same_list sum firsts has first members tabulate top common majority choose rank_from unrank_down unrank apart in_burst placements reduce_from
    expand_from rank_of starts_of piece_len piece_start weave pick span spell value in_range sub_len_of gap_total_of gap_len sub_start fits message_len_of untouched bears
    bearers in_sub is_borne kind_at plan rank_digits digits word has_erasure sub_symbols sub_value found agrees read_value read figures_out comes_true examples flat_map
examples-hold = refl
