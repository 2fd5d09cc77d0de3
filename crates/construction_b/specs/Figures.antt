-- Document 02, ticket 1: the figures of Construction B, one burst (run) in a word of three parts. Assumes nothing.
use Rattle.std.specs.Prelude.{Bool, ◌&&◌, List, ℕ, ◌+◌, ◌-◌, ◌/◌, leb, ltb, eqb, length}
use Rattle.combinatorics.specs.Bursts.{apart}
use Rattle.combinatorics.specs.Stretch.{top}
use Rattle.cells.specs.Cut.{piece_len, piece_start}
use Rattle.cells.specs.Figures.{max_word, max_alphabet, least_tail}

-- the figures: n symbols of a word, each below q; one burst of b positions
pub record LongParams : Type 0 where
  pub n : ℕ
  pub q : ℕ
  pub b : ℕ

abbrev pub long_params : ℕ → ℕ → ℕ → LongParams
long_params n q b = record { n = n; q = q; b = b }

-- the base's ranges: "n is 3 to 1024, q 2 to 256, .. b at least 1"; ticket 11: "Raise n to 4096". T is at most n, so the count's limit can't be passed
unfoldable pub in_range : LongParams → Bool
in_range f = leb 3 f.n && leb f.n max_word && leb 2 f.q && leb f.q max_alphabet && leb 1 f.b

-- "one run": one start, and the run ends within the word
unfoldable pub is_placement : LongParams → List ℕ → Bool
is_placement f ss = eqb (length ss) 1 && apart f.b f.n 0 ss

-- "three parts", cut as in the base, "shorter ones first"
abbrev pub parts : ℕ
parts = 3

-- the first position of part i
abbrev pub head_of : LongParams → ℕ → ℕ
head_of f i = piece_start f.n parts i

abbrev pub part_len : LongParams → ℕ → ℕ
part_len f i = piece_len f.n parts i

-- the part that has position x
abbrev pub part_of : LongParams → ℕ → ℕ
part_of f x = top (head_of f) parts x

-- the base's L: the shortest part has so many
unfoldable pub part_min : LongParams → ℕ
part_min f = f.n / parts

-- "T being n − b + 1"
unfoldable pub placement_count_of : LongParams → ℕ
placement_count_of f = f.n - f.b + 1

-- "n/3, rounded up": the longest part has so many
unfoldable pub part_most : LongParams → ℕ
part_most f = (f.n + 2) / parts

-- "r is the least for which the I-block's first 1 + r symbols spell at least n/3, rounded up, values": sought below L, which is the answer where
-- none does
unfoldable pub index_tail_of : LongParams → ℕ
index_tail_of f = least_tail f.q 1 (part_most f) (part_min f)

-- "It needs b at most L and r below L, else 2"
unfoldable pub fits : LongParams → Bool
fits f = leb f.b (part_min f) && ltb (index_tail_of f) (part_min f)

-- "k is n − b − r − 2"
unfoldable pub message_len_of : LongParams → ℕ
message_len_of f = f.n - f.b - index_tail_of f - 2
