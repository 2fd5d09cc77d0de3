-- What word write answers a program in another language, and what the lent word holds afterwards, for every input. The word reader's outcome is
-- `exported_under` of the decoder. Assumes nothing.
use Rattle.std.specs.Prelude.{List, ℕ, ◌*◌, eqb, length}
use Rattle.refusals.specs.Refusals.{must, invalid, unfit, wrong_length}
use Rattle.cells.specs.Outcomes.{Coding, held, Encoded, unwritten, encode_under}
use Rattle.cells.specs.Figures.{Params}
use Rattle.construction_a.specs.Outcomes.{coding}
use Rattle.lent.specs.Starts.{starts_from}

-- ---- Under any figures

-- "word write 1 2 3 5 4", where 3 stands for the bytes of the starts too
unfoldable pub encode_bytes_under : Coding → List ℕ → List ℕ → List ℕ → Encoded
encode_bytes_under d starts ms out =
    must d.in_range (unwritten out invalid)
    (must d.fits (unwritten out unfit)
    (must (eqb (length starts) (2 * d.bursts)) (unwritten out wrong_length)
    (encode_under d (held (starts_from starts)) ms out)))

-- ---- Under Construction A

unfoldable pub encode_bytes_out : Params → List ℕ → List ℕ → List ℕ → Encoded
encode_bytes_out f = encode_bytes_under (coding f)
