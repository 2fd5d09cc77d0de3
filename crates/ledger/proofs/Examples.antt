-- Calls on number 0, reinstatements, holds and releases that tell each answer from its neighbours, of the table and of the ledger: rows that hold by
-- computation. Cites no law. Assumes nothing.
use mathlib.Core.Path.{◌≡◌, refl}
use mathlib.Core.Bool.{true}
use mathlib.Core.List.{List, [], ◌∷◌}
use Prim.Native.Nat.{ℕ}
use lib.ListN.{set}
use Rattle.combinatorics.specs.Examples.{Example, example, comes_true}
use Rattle.combinatorics.specs.Lists.{all, any, same_list}
use Rattle.combinatorics.specs.Stretch.{tabulate}
use Rattle.jobs.specs.declared.Entry.{Entry}
use Rattle.jobs.specs.declared.Entry.TheVariants.{Open, OnHold, Cancelled}
use Rattle.jobs.specs.declared.Before.TheVariants.{WasAbsent, WasOpen, WasOnHold}
use Rattle.jobs.specs.Jobs.{slot_count, Kind, opening, cancelling, finishing, reinstating, holding, releasing, on}
use Rattle.jobs.specs.Table.{first_entry, replace_first, put, twice, decide, empty_table, call_as}
use Rattle.ledger.specs.Ledger.{history_of, status_of, status, slots_taken, verdict, enter, verdicts_from}

-- "a book that holds 0 alone"
abbrev alone : Entry → List Entry
alone e = set empty_table 63 e

-- 1 to 64 open
abbrev full : List Entry
full = tabulate slot_count 1 Open

abbrev answer : Kind → List Entry → List ℕ
answer k es = (call_as k es 0).answer ∷ []

unfoldable pub calls : List Example
calls =
    -- "the opening .. of 0": unknown, also before 15; before 13; before 12
    example (answer opening empty_table) (17 ∷ [])
    ∷ example (answer opening full) (17 ∷ [])
    ∷ example (answer opening (alone (Open 0))) (17 ∷ [])
    ∷ example (answer opening (alone (Cancelled 0 WasOpen))) (17 ∷ [])
    -- "the cancelling of a 0 that the book doesn't hold", also before 15
    ∷ example (answer cancelling empty_table) (17 ∷ [])
    ∷ example (answer cancelling full) (17 ∷ [])
    -- "A 0 already open may still be .. finished or cancelled; a cancelled 0 stays in the book."
    ∷ example (answer cancelling (alone (Open 0))) (0 ∷ [])
    ∷ example (answer finishing (alone (Open 0))) (0 ∷ [])
    ∷ example (answer cancelling (alone (Cancelled 0 WasAbsent))) (12 ∷ [])
    ∷ example (answer finishing (alone (Cancelled 0 WasOpen))) (12 ∷ [])
    ∷ example (answer finishing empty_table) (14 ∷ [])
    -- "demand 3's ledger knows 17": from nothing, and from an opening that was accepted before
    ∷ example (verdicts_from [] (on opening 0 ∷ on cancelling 0 ∷ on finishing 0 ∷ [])) (17 ∷ 17 ∷ 14 ∷ [])
    ∷ example (verdicts_from (on opening 0 ∷ []) (on opening 0 ∷ on cancelling 0 ∷ on opening 0 ∷ on cancelling 0 ∷ on finishing 0 ∷ []))
    (17 ∷ 0 ∷ 17 ∷ 12 ∷ 12 ∷ [])
    -- "A cancelled 0 may be reinstated too."; "20 .. a number that isn't cancelled", never 12, 14 or 17
    ∷ example (answer reinstating (alone (Cancelled 0 WasAbsent))) (0 ∷ [])
    ∷ example (answer reinstating (alone (Open 0))) (20 ∷ [])
    ∷ example (answer reinstating empty_table) (20 ∷ [])
    -- open as before its cancellation: 13, and a second reinstatement is 20; unknown as before: 14, and 0 is gone for good
    ∷ example (verdicts_from [] (on opening 7 ∷ on cancelling 7 ∷ on reinstating 7 ∷ on opening 7 ∷ on reinstating 7 ∷ [])) (0 ∷ 0 ∷ 0 ∷ 13 ∷ 20 ∷ [])
    ∷ example (verdicts_from [] (on cancelling 7 ∷ on reinstating 7 ∷ on finishing 7 ∷ on opening 7 ∷ [])) (0 ∷ 0 ∷ 14 ∷ 0 ∷ [])
    ∷ example (verdicts_from (on cancelling 0 ∷ []) (on reinstating 0 ∷ on cancelling 0 ∷ [])) (0 ∷ 17 ∷ [])
    ∷ example (verdicts_from (on cancelling 0 ∷ on opening 0 ∷ []) (on reinstating 0 ∷ on cancelling 0 ∷ [])) (0 ∷ 0 ∷ [])
    -- "for an open 0 too"; opening a held 0 is 17; holding an unknown one 14, releasing it 24; 12 before 23, 14 and 24
    ∷ example (answer holding (alone (Open 0))) (0 ∷ [])
    ∷ example (answer releasing (alone (OnHold 0))) (0 ∷ [])
    ∷ example (answer opening (alone (OnHold 0))) (17 ∷ [])
    ∷ example (answer finishing (alone (OnHold 0))) (23 ∷ [])
    ∷ example (answer holding (alone (OnHold 0))) (23 ∷ [])
    ∷ example (answer reinstating (alone (OnHold 0))) (20 ∷ [])
    ∷ example (answer holding empty_table) (14 ∷ [])
    ∷ example (answer releasing empty_table) (24 ∷ [])
    ∷ example (answer releasing (alone (Open 0))) (24 ∷ [])
    ∷ example (answer holding (alone (Cancelled 0 WasOnHold))) (12 ∷ [])
    ∷ example (answer finishing (alone (Cancelled 0 WasOnHold))) (12 ∷ [])
    ∷ example (answer releasing (alone (Cancelled 0 WasOnHold))) (12 ∷ [])
    -- "Opening a held number is 13."; cancelled while on hold, reinstated it is on hold; released it is open
    ∷ example (verdicts_from [] (on opening 7 ∷ on holding 7 ∷ on opening 7 ∷ on cancelling 7 ∷ on reinstating 7 ∷ on holding 7 ∷ []))
    (0 ∷ 0 ∷ 13 ∷ 0 ∷ 0 ∷ 23 ∷ [])
    ∷ example (verdicts_from [] (on opening 7 ∷ on holding 7 ∷ on releasing 7 ∷ on releasing 7 ∷ on finishing 7 ∷ on holding 7 ∷ []))
    (0 ∷ 0 ∷ 0 ∷ 24 ∷ 0 ∷ 14 ∷ [])
    ∷ []

pub calls-hold : all comes_true calls ≡ true
unfolding all any same_list comes_true tabulate first_entry replace_first put twice decide history_of status_of status slots_taken verdict enter verdicts_from calls
calls-hold = refl
