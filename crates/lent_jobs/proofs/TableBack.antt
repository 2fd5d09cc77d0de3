-- The job table written as bytes and read back is the same, and the empty one is all 0. Assumes nothing.
use mathlib.Core.Path.{◌≡◌, refl, sym, ap, ap₂, ◌∙◌}
use mathlib.Core.Bool.{true}
use mathlib.Core.List.{List, [], ◌∷◌, ◌++◌, flat_map}
use Prim.Native.Nat.{ℕ, suc, ◌+◌, ◌*◌, ◌^◌, ◌<◌}
use native.Mathlib.Numerals.{add-one}
use native.Mathlib.Omega.{arith}
use borrow.Author.Tests.{leb-true}
use lib.Dec.{ltb}
use lib.ListN.{length, get_or, drop, replicate, length-append}
use lib.Seq.{get_or-drop, drop_at, drop-drop}
use Rattle.combinatorics.specs.Lists.{all}
use Rattle.std.specs.List.{list_all, range_with_len}
use Rattle.combinatorics.specs.Stretch.{tabulate}
use Rattle.combinatorics.proofs.Lists.{both}
use Rattle.cells.specs.Bytes.{byte_values}
use Rattle.cells.specs.Digits.{plain, span, spell}
use Rattle.cells.proofs.Digits.{length-spell, span-plain, value-front, value-spell}
use Rattle.jobs.specs.declared.Entry.{Entry}
use Rattle.jobs.specs.declared.Entry.TheVariants.{Free, Open, OnHold, Cancelled}
use Rattle.jobs.specs.declared.Before.TheVariants.{WasAbsent, WasOpen, WasOnHold}
use Rattle.jobs.specs.Table.{empty_table}
use Rattle.payloads.specs.Payload.{job_number}
use Rattle.lent_jobs.specs.Table.{slot_len, table_len, state_count, entry_of, state_at, entry_at, states_known, table_in, entry_bytes, table_bytes, number_fits}
use Rattle.lent_jobs.specs.Table.{IsTable, ReadsBack}
use Rattle.lent_jobs.proofs.TableLaws.{entry-long}

-- ---- One slot, with anything behind it

-- the four bytes spell the number
number-back : (number : ℕ) (rest : List ℕ) → number < byte_values ^ 4 → job_number (spell byte_values (replicate 4 plain) number ++ rest) ≡ number
unfolding job_number
number-back number rest h =
    let ps = replicate 4 plain in
    value-front byte_values ps (spell byte_values ps number) rest (length-spell byte_values ps number)
    ∙ value-spell byte_values ps number (rw (span-plain byte_values 4) h)

slot-back : (e : Entry) (rest : List ℕ) → number_fits e ≡ true → entry_of (get_or (entry_bytes e ++ rest) 0 0) (job_number (drop 1 (entry_bytes e ++ rest))) ≡ e
slot-back Free rest h = refl
slot-back (Open x) rest h = ap Open (number-back x rest (leb-true (suc x) (byte_values ^ 4) h))
slot-back (OnHold x) rest h = ap OnHold (number-back x rest (leb-true (suc x) (byte_values ^ 4) h))
slot-back (Cancelled x WasOpen) rest h = ap (λ (n : ℕ). Cancelled n WasOpen) (number-back x rest (leb-true (suc x) (byte_values ^ 4) h))
slot-back (Cancelled x WasAbsent) rest h = ap (λ (n : ℕ). Cancelled n WasAbsent) (number-back x rest (leb-true (suc x) (byte_values ^ 4) h))
slot-back (Cancelled x WasOnHold) rest h = ap (λ (n : ℕ). Cancelled n WasOnHold) (number-back x rest (leb-true (suc x) (byte_values ^ 4) h))

state-back : (e : Entry) (rest : List ℕ) → ltb (get_or (entry_bytes e ++ rest) 0 0) state_count ≡ true
state-back Free rest = refl
state-back (Open x) rest = refl
state-back (OnHold x) rest = refl
state-back (Cancelled x WasOpen) rest = refl
state-back (Cancelled x WasAbsent) rest = refl
state-back (Cancelled x WasOnHold) rest = refl

-- ---- The slots from slot j on

module _ (bytes : List ℕ) where
  -- behind the first of them come the others
  module _ (e : Entry) (es : List Entry) (j : ℕ) (at : drop (j * slot_len) bytes ≡ table_bytes (e ∷ es)) where
    front : drop (j * slot_len) bytes ≡ entry_bytes e ++ table_bytes es
    unfolding table_bytes flat_map
    front = at

    next : drop (suc j * slot_len) bytes ≡ table_bytes es
    next =
        let n : suc j * slot_len ≡ j * slot_len + slot_len = omega arith in
        rw (n, ← drop-drop slot_len (j * slot_len) bytes, front) (drop_at (entry_bytes e) (table_bytes es) slot_len (entry-long e))

    state-here : state_at bytes j ≡ get_or (entry_bytes e ++ table_bytes es) 0 0
    state-here =
        let z : j * slot_len + 0 ≡ j * slot_len = omega arith in
        sym (get_or-drop (j * slot_len) bytes 0 0 ∙ ap (λ (n : ℕ). get_or bytes n 0) z) ∙ ap (λ (l : List ℕ). get_or l 0 0) front

    entry_here : number_fits e ≡ true → entry_at bytes j ≡ e
    entry_here h =
        ap₂ entry_of state-here (ap job_number (sym (drop-drop 1 (j * slot_len) bytes) ∙ ap (drop 1) front)) ∙ slot-back e (table_bytes es) h

  entries-back : (es : List Entry) (j : ℕ) → all number_fits es ≡ true → drop (j * slot_len) bytes ≡ table_bytes es → tabulate (length es) j (entry_at bytes) ≡ es
  unfolding all tabulate
  entries-back [] j h at = refl
  entries-back (e ∷ es) j h at =
      let b = both (number_fits e) (all number_fits es) h in
      ap₂ {C = List Entry} ◌∷◌ (entry_here e es j at b.0) (entries-back es (suc j) b.1 (next e es j at))

  states-back : (es : List Entry) (j : ℕ) → drop (j * slot_len) bytes ≡ table_bytes es
      → list_all (λ i. ltb (state_at bytes i) state_count) (range_with_len j (length es)) ≡ true
  states-back [] j at = refl
  states-back (e ∷ es) j at = rw (state-here e es j at, state-back e (table_bytes es), add-one j) (states-back es (suc j) (next e es j at))

-- ---- The whole table

length-table : (es : List Entry) → length (table_bytes es) ≡ length es * slot_len
unfolding table_bytes flat_map
length-table [] = refl
length-table (e ∷ es) = length-append (entry_bytes e) (table_bytes es) ∙ omega (arith, entry-long e, length-table es)

pub table-back : ReadsBack
unfolding states_known table_in
table-back es t =
    record {
      size = length-table es ∙ omega (arith, t.many);
      known = rw t.many at (states-back (table_bytes es) es 0 refl);
      same = rw t.many at (entries-back (table_bytes es) es 0 t.numbers refl);
    }

-- "the empty book"
pub empty-bytes : table_bytes empty_table ≡ replicate table_len 0
unfolding table_bytes flat_map spell span
empty-bytes = refl

pub empty-table : IsTable empty_table
unfolding all
empty-table = record { many = refl; numbers = refl }
