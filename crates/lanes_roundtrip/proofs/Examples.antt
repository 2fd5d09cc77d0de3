-- Each refusal of the call that runs the law of lanes, where the next in its order holds too: one computation over the whole table. Assumes nothing.
use mathlib.Core.Path.{◌≡◌, refl}
use mathlib.Core.Bool.{true}
use mathlib.Core.List.{List, [], ◌∷◌, ◌++◌}
use Prim.Native.Nat.{ℕ, ◌*◌}
use lib.ListN.{replicate}
use Rattle.combinatorics.specs.Bursts.{placements, in_burst, starts_of, expand_from, covers, cover_rank}
use Rattle.combinatorics.specs.Choose.{choose}
use Rattle.combinatorics.specs.Examples.{Example, example, comes_true}
use Rattle.combinatorics.specs.Lists.{all, any, same_list}
use Rattle.combinatorics.specs.Rank.{unrank, unrank_down}
use Rattle.combinatorics.specs.Stretch.{first, has, tabulate, top}
use Rattle.cells.specs.Erasures.{found_bound}
use Rattle.cells.specs.Figures.{Params, params, in_range, least_tail}
use Rattle.construction_a.specs.Figures.{parts, block_min, index_tail_of, fits, message_len_of}
use Rattle.construction_a.specs.Outcomes.{coding}
use Rattle.lanes.specs.Interleaving.{transposed_table, lane}
use Rattle.lanes.specs.Lanes.{word_map}
use Rattle.lanes_roundtrip.specs.LanesRoundTrip.{LanesRoundTrip, lanes_covered, lanes_round_trip_under}

abbrev out : LanesRoundTrip → List ℕ
out r = r.answer ∷ (r.words ++ (r.interleaved ++ r.read))

-- n 3, q 4, m 1, b 1
abbrev small : Params
small = params 3 4 1 1

-- two words, a map, damage, and the messages' symbols
abbrev tried : ℕ → List ℕ → ℕ → ℕ → List ℕ
tried d map symbol damage =
    let k = (coding small).codec.message_len_of in
    out (lanes_round_trip_under (coding small) d map (replicate (2 * k) symbol) (replicate 6 damage) (replicate 6 9) (replicate 6 8) (replicate (2 * k) 7))

abbrev kept : ℕ → List ℕ
kept a = let k = (coding small).codec.message_len_of in a ∷ (replicate 6 9 ++ (replicate 6 8 ++ replicate (2 * k) 7))

unfoldable rows : List Example
rows =
    -- 1 2 18 3 4 6
    example (out (lanes_round_trip_under (coding (params 15 257 1 6)) 0 [] [] [] (9 ∷ []) (8 ∷ []) (7 ∷ []))) (1 ∷ 9 ∷ 8 ∷ 7 ∷ [])
    ∷ example (out (lanes_round_trip_under (coding (params 15 256 1 6)) 0 [] [] [] (9 ∷ []) (8 ∷ []) (7 ∷ []))) (2 ∷ 9 ∷ 8 ∷ 7 ∷ [])
    ∷ example (tried 0 (replicate 5 2) 4 5) (kept 18)
    ∷ example (tried 17 (replicate 5 2) 4 5) (kept 18)
    ∷ example (tried 2 (replicate 5 2) 4 5) (kept 3)
    ∷ example (tried 2 (replicate 6 2) 3 4) (kept 4)
    ∷ example (tried 2 (replicate 6 1) 3 5) (kept 4)
    -- the maps are left where the words would stand
    ∷ example (tried 2 (1 ∷ 0 ∷ 1 ∷ 0 ∷ 0 ∷ 0 ∷ []) 3 4)
    (6 ∷ ((1 ∷ 1 ∷ 0 ∷ 0 ∷ 0 ∷ 0 ∷ []) ++ (replicate 6 8 ++ replicate (2 * (coding small).codec.message_len_of) 7)))
    ∷ []

rows-hold : all comes_true rows ≡ true
unfolding all any same_list first has tabulate top choose placements in_burst starts_of expand_from covers cover_rank unrank unrank_down in_range parts
    block_min least_tail index_tail_of fits message_len_of found_bound transposed_table lane word_map lanes_covered lanes_round_trip_under rows comes_true
rows-hold = refl
