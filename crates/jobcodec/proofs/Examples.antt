-- Document 01's transfer example, and jobs that tell each refusal of job write and job read from its neighbours: tables that
-- hold by computation. Cites no law. Assumes nothing.
use mathlib.Core.Path.{◌≡◌, refl}
use mathlib.Core.Bool.{true}
use mathlib.Core.List.{List, [], ◌∷◌, ◌++◌, flat_map}
use Prim.Native.Nat.{ℕ}
use lib.ListN.{replicate}
use Rattle.refusals.specs.Refusals.{served}
use Rattle.combinatorics.specs.Examples.{Example, example, comes_true}
use Rattle.combinatorics.specs.Lists.{all, any, same_list}
use Rattle.combinatorics.specs.Stretch.{sum, has, first, members, tabulate, top}
use Rattle.combinatorics.specs.Choose.{choose}
use Rattle.combinatorics.specs.Rank.{rank_from, unrank_down, unrank}
use Rattle.combinatorics.specs.Bursts.{apart, in_burst, placements, reduce_from, expand_from, rank_of, starts_of}
use Rattle.cells.specs.Bytes.{byte_width, payload_len}
use Rattle.cells.specs.Cut.{piece_len, piece_start, block_at, block_head, block_with}
use Rattle.cells.specs.Cells.{weave, pick}
use Rattle.cells.specs.Plan.{cell_of}
use Rattle.cells.specs.Digits.{span, spell, value, places}
use Rattle.cells.specs.Erasures.{found_bound, has_erasure}
use Rattle.cells.specs.Figures.{Params, params, in_range, least_tail}
use Rattle.construction_a.specs.Figures.{parts, block_min, index_tail_of, fits, message_len_of}
use Rattle.cells.specs.Round.{next, later}
use Rattle.construction_a.specs.Writing.{becomes, with_burst, with_bursts, is_burst, part_count, part_with, chosen, beside, is_chosen, is_index_in, is_index}
use Rattle.construction_a.specs.Writing.{index_blocks, is_fixed, kind_at, plan, word}
use Rattle.construction_a.specs.Reading.{looks_fixed, bare_parts, open_blocks, index_in_part, collect, index_found, first_symbols, written, agrees, read_rank, read}
use Rattle.construction_a.specs.Outcomes.{Held, held, Encoded, coding}
use Rattle.jobs.specs.declared.Entry.{Entry}
use Rattle.jobs.specs.declared.Entry.TheVariants.{Free, Open, Cancelled}
use Rattle.jobs.specs.declared.Before.TheVariants.{WasOpen}
use Rattle.jobs.specs.Jobs.{opening, cancelling, finishing, reinstating, holding, releasing, Call, on}
use Rattle.jobs.specs.Table.{first_entry, replace_first, put, twice, decide, empty_table}
use Rattle.ledger.specs.Calls.{table_from}
use Rattle.payloads.specs.Payload.{carries_job, job_number, message_of, payload_in, spells_payload}
use Rattle.jobcodec.specs.JobWrite.{job_write_out}
use Rattle.jobcodec.specs.JobRead.{JobRead, job_reading, job_read_out}
use Rattle.jobcodec.specs.DemandThree.{Presented}

-- ---- "Input, hex": n 15, q 256, m 1, b 2, start 6

abbrev pub figures : Params
figures = params 15 256 1 2

-- 0000000741424344454647
abbrev payload : List ℕ
payload = 0 ∷ 0 ∷ 0 ∷ 7 ∷ 65 ∷ 66 ∷ 67 ∷ 68 ∷ 69 ∷ 70 ∷ 71 ∷ []

-- 000000000741, two symbols in the burst, 42430744454647
abbrev pub word_with : ℕ → List ℕ
word_with x = 0 ∷ 0 ∷ 0 ∷ 0 ∷ 7 ∷ 65 ∷ x ∷ x ∷ 66 ∷ 67 ∷ 7 ∷ 68 ∷ 69 ∷ 70 ∷ 71 ∷ []

abbrev pub after : List Call → List Entry
after calls = table_from empty_table calls

abbrev pub opened : List Call
opened = on opening 7 ∷ []

abbrev cancelled : List Call
cancelled = on opening 7 ∷ on cancelling 7 ∷ []

abbrev finished : List Call
finished = on opening 7 ∷ on finishing 7 ∷ []

abbrev reinstated : List Call
reinstated = on opening 7 ∷ on cancelling 7 ∷ on reinstating 7 ∷ []

abbrev never : List Call
never = on cancelling 7 ∷ on reinstating 7 ∷ []

abbrev on_hold : List Call
on_hold = on opening 7 ∷ on holding 7 ∷ []

-- a pair in a pair, then without its release
abbrev released : List Call
released = on opening 7 ∷ on holding 7 ∷ on cancelling 7 ∷ on reinstating 7 ∷ on releasing 7 ∷ []

abbrev on_hold_again : List Call
on_hold_again = on opening 7 ∷ on holding 7 ∷ on cancelling 7 ∷ on reinstating 7 ∷ []

-- the answer, then the lent buffer
abbrev written_out : Encoded → List ℕ
written_out r = r.answer ∷ r.word

abbrev read_out : JobRead → List ℕ
read_out r = r.answer ∷ r.payload

abbrev pub buffer : List ℕ
buffer = replicate 11 9

abbrev writes : List Entry → List ℕ
writes es = written_out (job_write_out figures es (held (6 ∷ [])) payload (replicate 15 9))

abbrev reads : List Entry → List ℕ
reads es = read_out (job_read_out figures es (word_with 255) buffer)

unfoldable pub transfer : List Example
transfer =
    -- "W 0 000000000741000042430744454647", "R 0 00000007 41424344454647"
    example (writes (after opened)) (0 ∷ word_with 0)
    ∷ example (reads (after opened)) (0 ∷ payload)
    -- "C 0", "R 12"; and nothing is written
    ∷ example (reads (after cancelled)) (12 ∷ buffer)
    ∷ example (writes (after cancelled)) (12 ∷ replicate 15 9)
    -- "14: not open": finished, or unknown
    ∷ example (reads (after finished)) (14 ∷ buffer)
    ∷ example (reads empty_table) (14 ∷ buffer)
    ∷ example (writes empty_table) (14 ∷ replicate 15 9)
    -- a cancellation taken back: open again, or unknown
    ∷ example (reads (after reinstated)) (0 ∷ payload)
    ∷ example (reads (after never)) (14 ∷ buffer)
    -- "reading, writing .. a held job"; "reinstating gives back held"
    ∷ example (reads (after on_hold)) (23 ∷ buffer)
    ∷ example (writes (after on_hold)) (23 ∷ replicate 15 9)
    ∷ example (reads (after on_hold_again)) (23 ∷ buffer)
    ∷ example (reads (after released)) (0 ∷ payload)
    -- "a book with one number twice"
    ∷ example (reads (Open 7 ∷ Cancelled 7 WasOpen ∷ replicate 62 Free)) (1 ∷ buffer)
    ∷ example (writes (Open 7 ∷ Cancelled 7 WasOpen ∷ replicate 62 Free)) (1 ∷ replicate 15 9)
    ∷ []

-- ---- q 17, m 1, b 1: a byte takes two symbols; n 14 has five bytes and a leftover symbol, n 12 four bytes

abbrev small : ℕ → Params
small n = params n 17 1 1

-- the word of job number 7, then these symbols of text and leftover
abbrev small_word : List ℕ → List ℕ
small_word ms = word (small 14) (0 ∷ []) (replicate 7 0 ++ 7 ∷ ms)

abbrev reads_small : List Entry → List ℕ → List ℕ
reads_small es w = read_out (job_read_out (small 14) es w (replicate 5 9))

unfoldable pub spelling : List Example
spelling =
    -- "high byte first"
    example (job_number (1 ∷ 2 ∷ 3 ∷ 4 ∷ 5 ∷ []) ∷ []) (16909060 ∷ [])
    -- "most significant first", "Leftover message symbols are 0": 65 is 3 × 17 + 14
    ∷ example (message_of 17 11 (0 ∷ 0 ∷ 0 ∷ 7 ∷ 65 ∷ [])) (replicate 7 0 ++ 7 ∷ 3 ∷ 14 ∷ 0 ∷ [])
    -- "a byte's symbols spelling 256 or more": 255, then 256
    ∷ example (reads_small (after opened) (small_word (15 ∷ 0 ∷ 0 ∷ []))) (0 ∷ 0 ∷ 0 ∷ 0 ∷ 7 ∷ 255 ∷ [])
    ∷ example (reads_small (after opened) (small_word (15 ∷ 1 ∷ 0 ∷ []))) (10 ∷ replicate 5 9)
    -- "or a leftover symbol not 0"
    ∷ example (reads_small (after opened) (small_word (15 ∷ 0 ∷ 1 ∷ []))) (10 ∷ replicate 5 9)
    ∷ []

-- ---- Each refusal where the next in its order holds too

-- "job write 1 2 10 3 5 12 14", with 17 before 12 and 23 before 14
abbrev writes_at : Held → List ℕ → List ℕ → List ℕ
writes_at at y out = written_out (job_write_out figures empty_table at y out)

unfoldable pub write_order : List Example
write_order =
    example (written_out (job_write_out (params 15 257 1 6) empty_table (held []) [] [])) (1 ∷ [])
    ∷ example (written_out (job_write_out (params 15 256 1 6) empty_table (held []) [] [])) (2 ∷ [])
    ∷ example (written_out (job_write_out (small 12) empty_table (held []) [] [])) (10 ∷ [])
    -- the placement's count, the word, the payload
    ∷ example (writes_at (held []) payload (replicate 15 9)) (3 ∷ replicate 15 9)
    ∷ example (writes_at (held (14 ∷ [])) payload (replicate 14 9)) (3 ∷ replicate 14 9)
    ∷ example (writes_at (held (14 ∷ [])) (0 ∷ payload) (replicate 15 9)) (3 ∷ replicate 15 9)
    ∷ example (writes_at (held (14 ∷ [])) (replicate 11 0) (replicate 15 9)) (5 ∷ replicate 15 9)
    -- "the .. writing of 0", cancelled or open; "A 0 already open may still be read"
    ∷ example (written_out (job_write_out figures (Cancelled 0 WasOpen ∷ replicate 63 Free) (held (6 ∷ [])) (replicate 11 0) (replicate 15 9)))
    (17 ∷ replicate 15 9)
    ∷ example (written_out (job_write_out figures (Open 0 ∷ replicate 63 Free) (held (6 ∷ [])) (replicate 11 0) (replicate 15 9))) (17 ∷ replicate 15 9)
    ∷ example (read_out (job_read_out figures (Open 0 ∷ replicate 63 Free) (word figures (6 ∷ []) (replicate 11 0)) (replicate 11 9))) (0 ∷ replicate 11 0)
    ∷ []

-- "job read 1 2, 10 for K, 3 4 7 8 9, 10, 12 14", with 19 "between 7 and 8" and "after 9", and 23 before 14
unfoldable pub read_order : List Example
read_order =
    example (read_out (job_read_out (params 15 257 1 6) empty_table [] [])) (1 ∷ [])
    ∷ example (read_out (job_read_out (params 15 256 1 6) empty_table [] [])) (2 ∷ [])
    ∷ example (read_out (job_read_out (small 12) empty_table [] [])) (10 ∷ [])
    -- the word, the payload
    ∷ example (reads_small empty_table (replicate 13 18)) (3 ∷ replicate 5 9)
    ∷ example (read_out (job_read_out (small 14) empty_table (replicate 14 18) (replicate 4 9))) (3 ∷ replicate 4 9)
    ∷ example (reads_small empty_table (replicate 14 18)) (4 ∷ replicate 5 9)
    ∷ example (reads_small empty_table (replicate 14 0)) (7 ∷ replicate 5 9)
    -- cells without a reading, q of 17: in every first symbol, and in the message before its bytes are looked at
    ∷ example (reads_small empty_table (replicate 14 17)) (7 ∷ replicate 5 9)
    ∷ example (reads_small empty_table (small_word (15 ∷ 1 ∷ 17 ∷ []))) (19 ∷ replicate 5 9)
    ∷ example (reads_small empty_table (small_word (15 ∷ 1 ∷ 0 ∷ []))) (10 ∷ replicate 5 9)
    ∷ []

-- what is computed: every row's two sides are the same; the transfer example's word is presented as demand 3 asks, and its job is handed out
pub record Computed : Type 0 where
  pub transfer-holds : all comes_true transfer ≡ true
  pub spelling-holds : all comes_true spelling ≡ true
  pub write-order-holds : all comes_true write_order ≡ true
  pub read-order-holds : all comes_true read_order ≡ true
  pub presented : Presented (coding figures) (word_with 255) buffer
  pub handed : (job_read_out figures (after opened) (word_with 255) buffer).answer ≡ served

pub computed : Computed
unfolding all any same_list sum has first members tabulate top choose rank_from unrank_down unrank apart in_burst placements reduce_from expand_from rank_of
    starts_of byte_width payload_len piece_len piece_start block_at block_head block_with weave pick span spell value places in_range parts block_min least_tail
    index_tail_of fits message_len_of becomes with_burst with_bursts is_burst next part_count part_with chosen beside is_chosen is_index_in is_index index_blocks is_fixed
    cell_of kind_at plan word looks_fixed later bare_parts open_blocks index_in_part collect index_found first_symbols written agrees found_bound has_erasure read_rank
    read comes_true first_entry replace_first put twice decide table_from carries_job job_number message_of payload_in spells_payload job_write_out job_reading job_read_out
    transfer spelling write_order read_order flat_map
computed =
    record {
      transfer-holds = refl;
      spelling-holds = refl;
      write-order-holds = refl;
      read-order-holds = refl;
      presented = record { range = refl; fit = refl; carries = refl; found = record { complete = refl; symbols = refl }; lent = refl };
      handed = refl;
    }
