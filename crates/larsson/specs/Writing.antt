-- The Larsson code's writer, over figures and a placement's starts. A set of sub-blocks is a test of their numbers. Assumes nothing.
use Rattle.std.specs.Prelude.{Bool, true, false, not, ◌&&◌, ℕ, suc, ◌+◌, leb, ltb, replicate}
use mathlib.Core.List.{List, flat_map}
use Rattle.combinatorics.specs.Bursts.{in_burst}
use Rattle.combinatorics.specs.Stretch.{firsts, has, members, tabulate}
use Rattle.cells.specs.Cells.{Cell, burst, digit, message, weave}
use Rattle.cells.specs.Digits.{Place, plain, spell}
use Rattle.cells.specs.Figures.{Params, rank}
use Rattle.larsson.specs.Figures.{sub_len_of, sub_blocks, sub_start}

-- sub-blocks "that no run touches"
unfoldable pub untouched : Params → List ℕ → ℕ → Bool
untouched f ss i = not (has (sub_len_of f) (sub_start f i) (in_burst f.b ss))

-- "The first m + 1 sub-blocks that no run touches hold the rank"
unfoldable pub bears : Params → List ℕ → ℕ → Bool
bears f ss = firsts (suc f.m) (untouched f ss)

-- their numbers
unfoldable pub bearers : Params → List ℕ → List ℕ
bearers f ss = members (sub_blocks f) 0 (bears f ss)

-- ---- What stands at each position

-- whether a position lies in sub-block i
unfoldable pub in_sub : Params → ℕ → ℕ → Bool
in_sub f x i = leb (sub_start f i) x && ltb x (sub_start f i + sub_len_of f)

-- whether it lies in one that bears the rank
unfoldable pub is_borne : Params → List ℕ → ℕ → Bool
is_borne f ss x = has (sub_blocks f) 0 (λ i. bears f ss i && in_sub f x i)

-- of a position in a run or not, in a bearer or not: "runs hold 0 and the message fills what remains"
abbrev pub cell_of : Bool → Bool → Cell
cell_of true d = burst
cell_of false true = digit
cell_of false false = message

unfoldable pub kind_at : Params → List ℕ → ℕ → Cell
kind_at f ss x = cell_of (in_burst f.b ss x) (is_borne f ss x)

-- the plan of a placement's word
unfoldable pub plan : Params → List ℕ → List Cell
plan f ss = tabulate f.n 0 (kind_at f ss)

-- ---- The word

-- "the rank in base q, most significant first": its digits over R plain places
abbrev pub rank_places : Params → List Place
rank_places f = replicate (sub_len_of f) plain

unfoldable pub rank_digits : Params → List ℕ → List ℕ
rank_digits f ss = spell f.q (rank_places f) (rank f ss)

-- the same in each bearer
unfoldable pub digits : Params → List ℕ → List ℕ
digits f ss = flat_map (λ _. rank_digits f ss) (bearers f ss)

-- ".. sub-blocks .. hold the rank ..; runs hold 0 and the message fills what remains"
unfoldable pub word : Params → List ℕ → List ℕ → List ℕ
word f ss ms = weave (plan f ss) (digits f ss) ms
