-- The worked examples hold: one computation over the whole table. Assumes nothing.
use mathlib.Core.Path.{refl}
use mathlib.Core.List.{flat_map}
use Rattle.combinatorics.specs.Examples.{comes_true}
use Rattle.combinatorics.specs.Lists.{all, any, same_list}
use Rattle.combinatorics.specs.Stretch.{sum, firsts, has, first, members, tabulate, top}
use Rattle.combinatorics.specs.Majority.{common, majority}
use Rattle.combinatorics.specs.Choose.{choose}
use Rattle.combinatorics.specs.Rank.{rank_from, unrank_down, unrank}
use Rattle.combinatorics.specs.Bursts.{apart, in_burst, placements, reduce_from, expand_from, rank_of, starts_of}
use Rattle.cells.specs.Cut.{piece_len, piece_start, block_at, block_head, block_with}
use Rattle.cells.specs.Bytes.{byte_width, payload_len}
use Rattle.cells.specs.Cells.{weave, pick}
use Rattle.cells.specs.Digits.{span, spell, value, places}
use Rattle.cells.specs.Erasures.{found_bound, has_erasure}
use Rattle.cells.specs.Plan.{cell_of}
use Rattle.cells.specs.Figures.{in_range, least_tail}
use Rattle.construction_a.specs.Figures.{parts, block_min, index_tail_of, fits as fits_a, message_len_of as message_len_a}
use Rattle.cells.specs.Round.{next, later}
use Rattle.construction_a.specs.Writing.{becomes, with_burst, with_bursts, is_burst, part_count, part_with, chosen, beside, is_chosen, is_index_in}
use Rattle.construction_a.specs.Writing.{is_index, index_blocks, is_fixed, kind_at as kind_at_a, plan as plan_a, word as word_a}
use Rattle.construction_a.specs.Reading.{looks_fixed, bare_parts, open_blocks, index_in_part, collect, index_found, first_symbols, written}
use Rattle.construction_a.specs.Reading.{agrees as agrees_a, read_rank, read as read_a}
use Rattle.construction_b.specs.Figures.{in_range as in_range_b, fits as fits_b, part_min, part_most, index_tail_of as index_tail_b, message_len_of as message_len_b}
use Rattle.construction_b.specs.Writing.{burst_part, index_part, end_offset, plan as plan_b, word_from}
use Rattle.construction_b.specs.Reading.{looks_fixed as looks_fixed_b, index_found as index_found_b, before, written as written_b, end_at, read_part, read as read_b}
use Rattle.larsson.specs.Figures.{sub_len_of, gap_total_of, gap_len, sub_start, fits, message_len_of}
use Rattle.larsson.specs.Writing.{untouched, bears, bearers, in_sub, is_borne, kind_at, plan, rank_digits, digits, word}
use Rattle.larsson.specs.Reading.{sub_symbols, sub_value, found, agrees, read_value, read}
use Rattle.jobs.specs.Table.{first_entry, twice}
use Rattle.payloads.specs.Payload.{carries_job, job_number, message_of, payload_in, spells_payload}
use Rattle.moving.specs.Resize.{resized, has_room}
use Rattle.moving.specs.Move.{job_word, move_job, move_message, move, same_figures, move_under}
use Rattle.moving.specs.Examples.{examples, ExamplesHold}

pub examples-hold : ExamplesHold
unfolding all any same_list sum firsts has first members tabulate top common majority choose rank_from unrank_down unrank apart in_burst placements reduce_from
    expand_from rank_of starts_of piece_len piece_start block_at block_head block_with byte_width payload_len weave pick span spell value places in_range parts
    block_min least_tail index_tail_of fits_a message_len_a becomes with_burst with_bursts is_burst next part_count part_with chosen beside is_chosen is_index_in
    is_index index_blocks is_fixed cell_of kind_at_a plan_a word_a looks_fixed later bare_parts open_blocks index_in_part collect index_found first_symbols written agrees_a
    read_rank read_a sub_len_of gap_total_of gap_len sub_start fits message_len_of untouched bears bearers in_sub is_borne kind_at plan rank_digits digits word
    found_bound has_erasure sub_symbols sub_value found agrees read_value read first_entry twice carries_job job_number message_of payload_in spells_payload
    in_range_b fits_b part_min part_most index_tail_b message_len_b burst_part index_part end_offset plan_b word_from looks_fixed_b index_found_b before written_b end_at
    read_part read_b resized has_room job_word move_job move_message move same_figures move_under comes_true examples flat_map
examples-hold = refl
