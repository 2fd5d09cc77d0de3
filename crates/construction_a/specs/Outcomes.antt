-- What each call of Construction A answers, and what the lent buffers hold afterwards, for every input: the orders of cells/specs/Outcomes, under its
-- figures. Assumes nothing.
use Rattle.std.specs.Prelude.{List, ℕ}
use Rattle.cells.specs.Codec.{Reading}
use Rattle.cells.specs.Outcomes.{Coding, figures_under, encode_under, cover_under, decoded_from, decode_under}
pub use Rattle.cells.specs.Outcomes.{Held, in_use, held, FiguresOut, figured, unserved, figures_number, Encoded, unwritten, Covered, unplaced, defect_at}
pub use Rattle.cells.specs.Outcomes.{WordAnswer, rank_is, refusal, answer_number, Decoded, unread}
use Rattle.cells.specs.Figures.{Params, in_range, placement_count_of}
use Rattle.construction_a.specs.Figures.{fits, index_tail_of}
use Rattle.construction_a.specs.DemandTwo.{construction_a}

abbrev pub coding : Params → Coding
coding f =
    record {
      in_range = in_range f;
      fits = fits f;
      bursts = f.m;
      burst_len = f.b;
      placement_count_of = placement_count_of f;
      index_tail_of = index_tail_of f;
      codec = construction_a f;
    }

-- "figures alone 1 2"
unfoldable pub figures_out : Params → FiguresOut
figures_out f = figures_under (coding f)

-- "word write 1 2 3 5 4"
unfoldable pub encode_out : Params → Held → List ℕ → List ℕ → Encoded
encode_out f = encode_under (coding f)

-- "covering 1 2 3 4 6"
unfoldable pub cover_out : Params → List ℕ → Covered
cover_out f = cover_under (coding f)

-- "word read 1 2 3 4 7 8 9", with 19 "between 7 and 8" and "after 9"
abbrev pub decode_as : Params → List ℕ → Reading → Decoded
decode_as f = decoded_from f.b

-- "Refusal 4 is, in reading .., for values above q"
unfoldable pub decode_out : Params → List ℕ → List ℕ → Decoded
decode_out f = decode_under (coding f)
