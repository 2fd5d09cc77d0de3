-- What each call of Construction B answers, and what the lent buffers hold afterwards, for every input: the orders of cells/specs/Outcomes, under its
-- figures. Assumes nothing.
use Rattle.std.specs.Prelude.{List, ℕ}
use Rattle.cells.specs.Outcomes.{Coding, Held, FiguresOut, Encoded, Covered, Decoded, figures_under, encode_under, cover_under, decode_under}
use Rattle.construction_b.specs.Figures.{LongParams, in_range, fits, placement_count_of, index_tail_of}
use Rattle.construction_b.specs.DemandTwo.{construction_b}

abbrev pub coding : LongParams → Coding
coding f =
    record {
      in_range = in_range f;
      fits = fits f;
      bursts = 1;
      burst_len = f.b;
      placement_count_of = placement_count_of f;
      index_tail_of = index_tail_of f;
      codec = construction_b f;
    }

-- "A transfer record with letter L .. prints as S does": "figures alone 1 2"
unfoldable pub figures_out : LongParams → FiguresOut
figures_out f = figures_under (coding f)

-- "word write 1 2 3 5 4"
unfoldable pub encode_out : LongParams → Held → List ℕ → List ℕ → Encoded
encode_out f = encode_under (coding f)

-- "covering 1 2 3 4 6"
unfoldable pub cover_out : LongParams → List ℕ → Covered
cover_out f = cover_under (coding f)

-- "word read 1 2 3 4 7 8 9", with 19 "between 7 and 8" and "after 9"
unfoldable pub decode_out : LongParams → List ℕ → List ℕ → Decoded
decode_out f = decode_under (coding f)
