-- The letters of calls, in records and in lists. Assumes nothing.
use Rattle.std.specs.Prelude.{Bool, true, false, cond, List, ℕ, eqb}
use Rattle.std.proofs.Math.Option.{Option, none, some}
use Rattle.refusals.specs.Refusals.{bad_record}
use Rattle.jobs.specs.declared.Entry.{Entry}
use Rattle.jobs.specs.Jobs.{Kind, opening, cancelling, finishing, reinstating, holding, releasing}
use Rattle.jobs.specs.Table.{TableOut, refuse, call_as}

-- "O (open), C (cancel), F (finish)": 79, 67 and 70 as bytes
unfoldable pub kind_of : ℕ → Option Kind
kind_of letter =
    cond (eqb letter 79) (some opening)
    (cond (eqb letter 67) (some cancelling)
    (cond (eqb letter 70) (some finishing)
    none))

-- the letters of a list's calls: those of records, and 73, 72, 85, I (reinstate), H (hold), U (release), which no record has
-- (docs/DECISIONS.md)
unfoldable pub list_kind : ℕ → Option Kind
list_kind letter =
    cond (eqb letter 73) (some reinstating)
    (cond (eqb letter 72) (some holding)
    (cond (eqb letter 85) (some releasing)
    (kind_of letter)))

-- a call by its letter; another letter is 11 as in a record, before the call's own refusals (docs/DECISIONS.md)
abbrev pub call_by : Option Kind → List Entry → ℕ → TableOut
call_by none es n = refuse es bad_record
call_by (some k) es n = call_as k es n

abbrev pub known : Option Kind → Bool
known none = false
known (some k) = true

abbrev pub is_letter : ℕ → Bool
is_letter letter = known (kind_of letter)

abbrev pub is_list_letter : ℕ → Bool
is_list_letter letter = known (list_kind letter)
