-- Document 01's example: what the definitions print for its input, by computation. Cites no law. Assumes nothing.
use mathlib.Core.Path.{refl}
use mathlib.Core.List.{flat_map}
use Rattle.combinatorics.specs.Examples.{comes_true}
use Rattle.combinatorics.specs.Lists.{all, any, same_list}
use Rattle.combinatorics.specs.Stretch.{sum, has, first, members, tabulate, top}
use Rattle.combinatorics.specs.Choose.{choose}
use Rattle.combinatorics.specs.Rank.{rank_from, unrank_down, unrank}
use Rattle.combinatorics.specs.Bursts.{apart, in_burst, placements, reduce_from, expand_from, rank_of, starts_of}
use Rattle.cells.specs.Bytes.{byte_width, payload_len}
use Rattle.cells.specs.Cut.{piece_len, piece_start, block_at, block_head, block_with}
use Rattle.cells.specs.Cells.{weave, pick}
use Rattle.cells.specs.Plan.{cell_of}
use Rattle.cells.specs.Digits.{span, spell, value, places}
use Rattle.cells.specs.Erasures.{found_bound, has_erasure}
use Rattle.cells.specs.Figures.{in_range, least_tail}
use Rattle.construction_a.specs.Figures.{parts, block_min, index_tail_of, fits, message_len_of}
use Rattle.cells.specs.Round.{next, later}
use Rattle.construction_a.specs.Writing.{becomes, with_burst, with_bursts, is_burst, part_count, part_with, chosen, beside, is_chosen, is_index_in, is_index}
use Rattle.construction_a.specs.Writing.{index_blocks, is_fixed, kind_at, plan, word}
use Rattle.construction_a.specs.Reading.{looks_fixed, bare_parts, open_blocks, index_in_part, collect, index_found, first_symbols, written, agrees, read_rank, read}
use Rattle.construction_b.specs.Figures as BFigures
use Rattle.construction_b.specs.Writing as BWriting
use Rattle.construction_b.specs.Reading as BReading
use Rattle.jobs.specs.Table.{first_entry, replace_first, put, twice, decide}
use Rattle.jobs.specs.Letters.{kind_of}
use Rattle.payloads.specs.Payload.{carries_job, job_number, message_of, payload_in, spells_payload}
use Rattle.jobcodec.specs.JobRead.{job_reading}
use Rattle.text.specs.Text.{decimal_len, decimal, hex_digit, hex_byte, hex}
use Rattle.records.specs.Records.{record_len, readable}
use Rattle.transfer.specs.Steps.{serve_out}
use Rattle.transfer.specs.Program.{printed_from, printed}
use Rattle.transfer.specs.Example.{example_input, example_printed, rows, RowsHold}

pub rows-hold : RowsHold
unfolding all any same_list sum has first members tabulate top choose rank_from unrank_down unrank apart in_burst placements reduce_from expand_from rank_of
    starts_of byte_width payload_len piece_len piece_start block_at block_head block_with weave pick span spell value places found_bound has_erasure in_range parts
    block_min least_tail index_tail_of fits message_len_of becomes with_burst with_bursts is_burst next part_count part_with chosen beside is_chosen is_index_in is_index
    index_blocks is_fixed cell_of kind_at plan word looks_fixed later bare_parts open_blocks index_in_part collect index_found first_symbols written agrees read_rank read
    BFigures.in_range BFigures.part_min BFigures.part_most BFigures.placement_count_of BFigures.index_tail_of BFigures.fits BFigures.message_len_of BWriting.burst_part
    BWriting.index_part BWriting.end_offset BWriting.plan BWriting.word_from BReading.looks_fixed BReading.index_found BReading.before BReading.written
    BReading.end_at BReading.read_part BReading.read first_entry replace_first put twice decide kind_of carries_job job_number message_of payload_in spells_payload
    job_reading decimal_len decimal hex_digit hex_byte hex flat_map record_len serve_out readable printed_from printed example_input example_printed rows comes_true
rows-hold = refl
