-- The Larsson code's words as a walk over blocks meets them, and what it asks for. Assumes nothing.
use Rattle.std.specs.Prelude.{◌≡◌, true, List, ℕ, suc, ◌*◌, ◌<◌, length}
use Rattle.cells.specs.Figures.{Params, params, in_range, is_placement}
use Rattle.larsson.specs.Figures.{sub_len_of, fits, message_len_of}
use Rattle.larsson.specs.Writing.{rank_digits}
use Rattle.placements.specs.declared.Placement.{Placement}
use Rattle.placements.specs.Bridge.{starts_in}
use Rattle.larsson_params.specs.Given.{SubStartsOf}
use Rattle.sub_blocks.specs.Given.{BearersOf}
use Rattle.stretches.specs.declared.Walk.{Walk}

-- the walk over 2 × m + 1 sub-blocks of R symbols, each with the gap behind it: those that bear the rank hold the same digits
abbrev pub sub_blocks_of : ℕ → ℕ → ℕ → ℕ → Walk
sub_blocks_of n m b R = record { n = n; m = m; b = b; blocks = suc (2 * m); head_len = R; digit_step = 0 }

-- the figures of a walk
abbrev pub figures_walked : Walk → ℕ → Params
figures_walked w q = params w.n q w.m w.b

-- figures that fit with R above 0, a placement of their bursts, and the tables of its word
pub record Walked (f : Params) (w : Walk) (at : Placement) (starts kinds : List ℕ) : Type 0 where
  pub range : in_range f ≡ true
  pub fit : fits f ≡ true
  pub some : 0 < sub_len_of f
  pub walk_is : w ≡ sub_blocks_of f.n f.m f.b (sub_len_of f)
  pub held : at.count ≡ f.m
  pub placed : is_placement f (starts_in at) ≡ true
  pub starts-are : SubStartsOf f starts
  pub kinds-are : BearersOf f (starts_in at) kinds

-- with the digits of its rank, a message and room for the word
pub record WalkedMessage (f : Params) (w : Walk) (at : Placement) (starts kinds ds ms out : List ℕ) : Type 0 where
  pub walked : Walked f w at starts kinds
  pub digits_are : ds ≡ rank_digits f (starts_in at)
  pub sent : length ms ≡ message_len_of f
  pub room : length out ≡ f.n

-- with a complete word and a buffer for its message
pub record WalkedWord (f : Params) (w : Walk) (at : Placement) (starts kinds ws out : List ℕ) : Type 0 where
  pub walked : Walked f w at starts kinds
  pub complete : length ws ≡ f.n
  pub room : length out ≡ message_len_of f
