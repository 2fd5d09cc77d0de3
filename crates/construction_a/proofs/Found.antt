-- What blocks and message of a found word hold are symbols of that word. Assumes nothing.
use mathlib.Core.Path.{◌≡◌}
use mathlib.Core.Bool.{true}
use mathlib.Core.List.{List, flat_map}
use Prim.Native.Nat.{ℕ, suc, ◌<◌}
use lib.ListN.{get_or}
use Rattle.combinatorics.specs.Lists.{all_below}
use Rattle.combinatorics.specs.Stretch.{tabulate}
use Rattle.combinatorics.proofs.Lists.{map_below}
use Rattle.combinatorics.proofs.Members.{flat-map}
use Rattle.combinatorics.proofs.Stretch.{same}
use Rattle.cells.specs.Cells.{message, pick}
use Rattle.cells.proofs.Cells.{pick-below}
use Rattle.cells.specs.Figures.{Params}
use Rattle.construction_a.specs.Figures.{head_of}
use Rattle.construction_a.specs.Reading.{first_symbols_with}
use Rattle.construction_a.specs.Writing.{kind_at, plan}

pub heads-below : (r : ℕ) (f : Params) (q : ℕ) (w ks : List ℕ) → ((x : ℕ) → get_or w x 0 < q) → all_below q (first_symbols_with r f w ks) ≡ true
heads-below r f q w ks small =
    rw (flat-map (λ x. get_or w x 0) (suc r) (head_of f) ks) (map_below q (λ x. get_or w x 0) small (flat_map (λ k. tabulate (suc r) (head_of f k) same) ks))

pub message-below : (f : Params) (q : ℕ) (w ss : List ℕ) → ((x : ℕ) → get_or w x 0 < q) → all_below q (pick message (plan f ss) w) ≡ true
unfolding plan
message-below f q w ss small = pick-below message f.n (kind_at f ss) w q small
