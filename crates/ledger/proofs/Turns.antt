-- One turn of a loop over lent lists. Assumes nothing.
use mathlib.Core.Path.{◌≡◌, refl, sym, ap, ap₂, ◌∙◌}
use mathlib.Core.Bool.{Bool, true, ◌&&◌, false≢true}
use mathlib.Core.List.{List, [], ◌∷◌, ◌++◌, append_assoc, append-nil}
use mathlib.Core.Option.{Option, none, some}
use Prim.Native.Nat.{ℕ, ◌+◌, ◌≤◌, ◌<◌}
use native.Mathlib.Numerals.{add-one}
use native.Mathlib.Omega.{arith}
use lib.ListN.{length, get_or, drop, take, set, drop_of_length-le, length-set}
use lib.Seq.{drop-cons, take-suc-set, take_all}
use Rattle.refusals.specs.Numbers.{answer_of}
use Rattle.std.specs.List.{list_all}
use Rattle.std.specs.Prelude.{Ok}
use Rattle.combinatorics.specs.Lists.{all}
use Rattle.combinatorics.proofs.Lists.{both}
use Rattle.jobs.specs.declared.Entry.{Entry}
use Rattle.jobs.specs.declared.JobTable.{JobTable}
use Rattle.jobs.specs.Jobs.{Kind, Call}
use Rattle.jobs.specs.Table.{TableOut}
use Rattle.ledger.specs.Calls.{table_from, answers_from}
use Rattle.jobs.specs.Slots.{CallAnswer, entries, outcome}
use Rattle.jobs.specs.Letters.{list_kind, known, is_list_letter, call_by}
use Rattle.ledger.specs.Replay.{call_before, calls_of, replayed, made}

-- ---- A test of every number

pub all-listed : (t : ℕ → Bool) (xs : List ℕ) → list_all t xs ≡ all t xs
unfolding all
all-listed t [] = refl
all-listed t (x ∷ xs) = rw (all-listed t xs)

pub all_known : (letters : List ℕ) {b : Bool} → b ≡ list_all is_list_letter letters → all is_list_letter letters ≡ b
all_known letters h = sym (h ∙ all-listed is_list_letter letters)

all-next : (t : ℕ → Bool) (xs : List ℕ) (i : ℕ) → i < length xs → all t (drop i xs) ≡ (t (get_or xs i 0) && all t (drop (i + 1) xs))
unfolding all
all-next t xs i h = rw (drop-cons xs i 0 h, add-one)

-- ---- The calls that lent lists spell

module _ (es : List Entry) (n : ℕ) (cs : List Call) where
  table-next : (o : Option Kind) → known o ≡ true → table_from es (call_before o n cs) ≡ table_from (call_by o es n).table cs
  unfolding table_from
  table-next none p = absurd (false≢true p)
  table-next (some k) p = refl

  answers_next : (o : Option Kind) → known o ≡ true → answers_from es (call_before o n cs) ≡ (call_by o es n).answer ∷ answers_from (call_by o es n).table cs
  unfolding answers_from
  answers_next none p = absurd (false≢true p)
  answers_next (some k) p = refl

calls-next : (letters numbers : List ℕ) (i : ℕ) → i < length letters → i < length numbers
    → calls_of (drop i letters) (drop i numbers)
    ≡ call_before (list_kind (get_or letters i 0)) (get_or numbers i 0) (calls_of (drop (i + 1) letters) (drop (i + 1) numbers))
unfolding calls_of
calls-next letters numbers i h g = rw (add-one, drop-cons letters i 0 h, drop-cons numbers i 0 g)

calls-end : (letters numbers : List ℕ) (i : ℕ) → length letters ≤ i → calls_of (drop i letters) (drop i numbers) ≡ []
unfolding calls_of
calls-end letters numbers i h = rw (drop_of_length-le letters h)

-- after i calls: what is left of them makes the rest of the whole outcome
pub record Replaying (start : List Entry) (letters numbers answers : List ℕ) (es : List Entry) (i : ℕ) : Type 0 where
  pub room : length answers ≡ length letters
  pub letters-left : all is_list_letter (drop i letters) ≡ true
  pub table-left : table_from es (calls_of (drop i letters) (drop i numbers)) ≡ table_from start (calls_of letters numbers)
  pub answers-left : take i answers ++ answers_from es (calls_of (drop i letters) (drop i numbers)) ≡ answers_from start (calls_of letters numbers)

module _ (start : List Entry) (letters numbers answers : List ℕ) (es : List Entry) (i : ℕ) (s : Replaying start letters numbers answers es i) where
  pub call-made : i < length letters → length numbers ≡ length letters
      → (r : CallAnswer) → outcome r ≡ call_by (list_kind (get_or letters i 0)) es (get_or numbers i 0)
      → Replaying start letters numbers (set answers i (answer_of r.answer)) (entries r.table) (i + 1)
  call-made h fit r out =
      let o = list_kind (get_or letters i 0) in
      let n = get_or numbers i 0 in
      let cs = calls_of (drop (i + 1) letters) (drop (i + 1) numbers) in
      let hn : i < length numbers = omega arith in
      let ha : i < length answers = omega (arith, s.room) in
      let next : calls_of (drop i letters) (drop i numbers) ≡ call_before o n cs = calls-next letters numbers i h hn in
      let ls = both (is_list_letter (get_or letters i 0)) (all is_list_letter (drop (i + 1) letters))
      (sym (all-next is_list_letter letters i h) ∙ s.letters-left) in
      let a : answer_of r.answer ≡ (call_by o es n).answer = ap (λ (x : TableOut). x.answer) out in
      let t : entries r.table ≡ (call_by o es n).table = ap (λ (x : TableOut). x.table) out in
      let filled : take (i + 1) (set answers i (answer_of r.answer)) ≡ take i answers ++ (answer_of r.answer ∷ []) =
      rw add-one (take-suc-set answers i (answer_of r.answer) ha) in
      let rest : answer_of r.answer ∷ answers_from (entries r.table) cs ≡ answers_from es (calls_of (drop i letters) (drop i numbers)) =
      ap₂ {C = List ℕ} ◌∷◌ a (ap (λ (x : List Entry). answers_from x cs) t) ∙ sym (answers_next es n cs o ls.0) ∙ ap (answers_from es) (sym next) in
      record {
        room = length-set answers i (answer_of r.answer) ∙ s.room;
        letters-left = ls.1;
        table-left = ap (λ (x : List Entry). table_from x cs) t ∙ sym (table-next es n cs o ls.0) ∙ ap (table_from es) (sym next) ∙ s.table-left;
        answers-left = rw (filled, append_assoc) (ap (λ (x : List ℕ). take i answers ++ x) rest ∙ s.answers-left);
      }

  pub calls-made : length letters ≤ i → (t : JobTable) → es ≡ entries t
      → replayed (record { answer = Ok tt; table = t }) answers ≡ made start (calls_of letters numbers)
  unfolding table_from answers_from
  calls-made h t e =
      let end : calls_of (drop i letters) (drop i numbers) ≡ [] = calls-end letters numbers i h in
      let last : es ≡ table_from start (calls_of letters numbers) = rw end at s.table-left in
      let filled : answers ≡ answers_from start (calls_of letters numbers) =
      rw (end, append-nil, take_all i answers (omega (arith, s.room))) at s.answers-left in
      rw (← e, ← last, ← filled)
