-- The plan of a word: what stands in each of its cells. Assumes nothing.
use Rattle.std.specs.Prelude.{Bool, ℕ, ◌≤◌, eqb, length, get_or, take, replicate}
use mathlib.Core.List.{List, [], ◌∷◌, tail}
use Rattle.combinatorics.specs.Stretch.{keep_if}

pub data Cell : Type 0 where
  burst fixed digit message : Cell

abbrev pub code : Cell → ℕ
code burst = 0
code fixed = 1
code digit = 2
code message = 3

-- whether a cell is of a kind
abbrev pub is : Cell → Cell → Bool
is kind c = eqb (code kind) (code c)

-- the word of a plan: digits and message fill their cells in ascending order, and the others hold 0
unfoldable pub weave : List Cell → List ℕ → List ℕ → List ℕ
weave [] ds ms = []
weave (burst ∷ cs) ds ms = 0 ∷ weave cs ds ms
weave (fixed ∷ cs) ds ms = 0 ∷ weave cs ds ms
weave (digit ∷ cs) ds ms = get_or ds 0 0 ∷ weave cs (tail ds) ms
weave (message ∷ cs) ds ms = get_or ms 0 0 ∷ weave cs ds (tail ms)

-- the symbols of a word in the cells of a kind
unfoldable pub pick : Cell → List Cell → List ℕ → List ℕ
pick kind [] w = []
pick kind (c ∷ cs) w = keep_if (is kind c) (get_or w 0 0) (pick kind cs (tail w))

-- ---- Stretches of cells of one kind

-- what so many of them hold, where these digits and this message are next
abbrev pub content : Cell → ℕ → List ℕ → List ℕ → List ℕ
content burst n ds ms = replicate n 0
content fixed n ds ms = replicate n 0
content digit n ds ms = take n ds
content message n ds ms = take n ms

-- enough digits, and enough of the message, for so many cells of a kind
abbrev pub Enough : Cell → ℕ → List ℕ → List ℕ → Type 0
Enough burst n ds ms = Unit {0}
Enough fixed n ds ms = Unit {0}
Enough digit n ds ms = n ≤ length ds
Enough message n ds ms = n ≤ length ms
