-- The Larsson code's figures as a coding: the orders of cells/specs/Outcomes under it are what its calls answer, and what the lent buffers hold afterwards,
-- for every input. Assumes nothing.
use Rattle.cells.specs.Outcomes.{Coding, FiguresOut, figures_under}
use Rattle.cells.specs.Figures.{Params, in_range, placement_count_of}
use Rattle.larsson.specs.Figures.{sub_len_of, fits}
use Rattle.larsson.specs.DemandTwo.{larsson}

-- R stands in the place of r
abbrev pub coding : Params → Coding
coding f =
    record {
      in_range = in_range f;
      fits = fits f;
      bursts = f.m;
      burst_len = f.b;
      placement_count_of = placement_count_of f;
      index_tail_of = sub_len_of f;
      codec = larsson f;
    }

-- figures alone, "1 2": T, R and k, or the refusal
unfoldable pub figures_out : Params → FiguresOut
figures_out f = figures_under (coding f)
