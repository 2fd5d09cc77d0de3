-- What filling a word asks for. Assumes nothing.
use Rattle.std.specs.Prelude.{◌≡◌, List, ℕ, length}
use Rattle.params.specs.declared.Layout.{Layout}
use Rattle.placements.specs.declared.Placement.{Placement}
use Rattle.placements.specs.Bridge.{PlacesBursts}

-- a placement, a message and room for the word
pub record PlacedMessage (l : Layout) (at : Placement) (ms out : List ℕ) : Type 0 where
  pub placing : PlacesBursts l at
  pub sent : length ms ≡ l.message_len
  pub room : length out ≡ l.n
