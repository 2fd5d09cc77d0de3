-- What covering answers a program in another language, and what the lent starts hold afterwards, for every input. Assumes nothing.
use Rattle.std.specs.Prelude.{◌≡◌, ◌≢◌, Result, Ok, Err, List, ℕ, ◌*◌, ◌≤◌, eqb, length}
use Rattle.refusals.specs.Refusals.{must, served, invalid, unfit, wrong_length}
use Rattle.cells.specs.Figures.{max_bursts, Params}
use Rattle.cells.specs.Outcomes.{Coding, in_use, Covered, unplaced, cover_under}
use Rattle.construction_a.specs.Outcomes.{coding}
use Rattle.placements.specs.declared.Placement.{Placement}
use Rattle.placements.specs.Bridge.{held_as}
use Rattle.decoder.specs.Exported.{start_bytes}

-- "covering 1 2 3 4 6", where 3 stands for the buffer of starts too

pub record CoverLent : Type 0 where
  pub answer : ℕ
  pub starts : List ℕ

abbrev pub cover_lent : ℕ → List ℕ → CoverLent
cover_lent a bytes = record { answer = a; starts = bytes }

-- the placement as bytes; "Every refusal returns its number only; output buffers .. keep their contents."
abbrev pub cover_lent_as : List ℕ → Covered → CoverLent
cover_lent_as bytes c = must (eqb c.answer served) (cover_lent c.answer bytes) (cover_lent served (start_bytes (in_use c.placement)))

abbrev pub cover_bytes_under : Coding → List ℕ → List ℕ → CoverLent
cover_bytes_under d map bytes =
    must d.in_range (cover_lent invalid bytes)
    (must d.fits (cover_lent unfit bytes)
    (must (eqb (length bytes) (2 * d.bursts)) (cover_lent wrong_length bytes)
    (cover_lent_as bytes (cover_under d map))))

-- the answer of covering, with any numbers for refusals, and the placement beside it
abbrev pub covered_by : {E : Type 0} → (E → ℕ) → Result Placement E → Covered
covered_by number (Ok at) = record { answer = served; placement = held_as at }
covered_by number (Err e) = unplaced (number e)

-- no refusal has the number of an accepted call
abbrev pub RefusedBy : {E : Type 0} → (E → ℕ) → Result Placement E → Type 0
RefusedBy number found = (e : _) → found ≡ Err e → number e ≢ served

-- two bytes for each start of a placement that covers the map
abbrev pub CoverFits : {E : Type 0} → Result Placement E → List ℕ → Type 0
CoverFits found bytes = (at : Placement) → found ≡ Ok at → (at.count ≤ max_bursts) × (length bytes ≡ 2 * at.count)

-- of Construction A
unfoldable pub cover_bytes_out : Params → List ℕ → List ℕ → CoverLent
cover_bytes_out f = cover_bytes_under (coding f)
