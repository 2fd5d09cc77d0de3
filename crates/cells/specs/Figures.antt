-- Document 01, "Figures of a strip", as far as every code has it: the figures and their ranges, placements with their count, and how many symbols
-- spell so many values; of its next two chapters the rank of a placement, and the placement of a rank. Assumes nothing.
use Rattle.std.specs.Prelude.{Bool, cond, ◌&&◌, List, ℕ, ◌-◌, ◌*◌, ◌^◌, leb, eqb, length}
use Rattle.combinatorics.specs.Bursts.{apart, placements, rank_of, starts_of}
use Rattle.combinatorics.specs.Stretch.{first}

-- the figures: "A word has n symbols, each a byte below q."; m bursts (runs) of b positions each
pub record Params : Type 0 where
  pub n : ℕ
  pub q : ℕ
  pub m : ℕ
  pub b : ℕ

abbrev pub params : ℕ → ℕ → ℕ → ℕ → Params
params n q m b = record { n = n; q = q; m = m; b = b }

-- "A placement is m disjoint runs of exactly b consecutive positions, given by ascending starts .."
unfoldable pub is_placement : Params → List ℕ → Bool
is_placement f ss = eqb (length ss) f.m && apart f.b f.n 0 ss

-- "The largest figures .. are named once"
abbrev pub max_word : ℕ
max_word = 4096

abbrev pub max_alphabet : ℕ
max_alphabet = 256

abbrev pub max_bursts : ℕ
max_bursts = 8

-- "n is 3 to 1024, q 2 to 256, m 1 to 6, b at least 1"; document 02, ticket 11: "Raise n to 4096, m to 8"
unfoldable pub in_range : Params → Bool
in_range f =
    leb 3 f.n && leb f.n max_word && leb 2 f.q && leb f.q max_alphabet && leb 1 f.m && leb f.m max_bursts && leb 1 f.b

-- ---- Placements counted

-- "T counts all placements: the ways to choose m things out of n − m × b + m."
abbrev pub placement_count_of : Params → ℕ
placement_count_of f = placements f.n f.m f.b

-- document 02, ticket 11: "The count of placements must now give its value or say that it exceeds 9223372036854775807"
abbrev pub max_count : ℕ
max_count = 9223372036854775807

pub data Counted : Type 0 where
  counted : ℕ → Counted
  too_many : Counted

abbrev pub count_out : ℕ → Counted
count_out t = cond (leb t max_count) (counted t) too_many

-- ---- The symbols that spell a value

-- "An I-block's first 1 + r symbols can spell q − 1 values in the first place and q in each of the r others": what m of them spell
abbrev pub index_values : ℕ → ℕ → ℕ → ℕ
index_values q m r = ((q - 1) * q ^ r) ^ m

-- "r is the least whole number for which m such I-blocks together spell at least T values": sought below a limit, which is the answer where
-- none does
unfoldable pub least_tail : ℕ → ℕ → ℕ → ℕ → ℕ
least_tail q m count limit = first limit 0 (λ r. leb count (index_values q m r))

-- ---- Ranks

-- "The rank is the sum, over the runs, of the ways to choose as many things as the run's number out of its reduced start; it lies from 0 to T − 1."
abbrev pub rank : Params → List ℕ → ℕ
rank f ss = rank_of f.b ss

-- "Then the rank gives the placement"
abbrev pub placement_of : Params → ℕ → List ℕ
placement_of f v = starts_of f.n f.m f.b v
