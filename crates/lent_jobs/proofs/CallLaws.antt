-- Laws of calls on a table in bytes, refusal by refusal. Assumes nothing.
use mathlib.Core.Path.{◌≡◌, sym, ◌∙◌}
use mathlib.Core.Logic.{◌≢◌}
use mathlib.Core.Bool.{true, false}
use mathlib.Core.List.{List}
use Prim.Native.Nat.{ℕ}
use lib.ListN.{length}
use Rattle.refusals.specs.Refusals.{served, invalid, wrong_length}
use Rattle.combinatorics.proofs.Cases.{eqb_same, eqb-other}
use Rattle.jobs.specs.declared.Entry.{Entry}
use Rattle.jobs.specs.Table.{TableOut}
use Rattle.lent_jobs.specs.Table.{table_len, states_known, table_in, table_bytes}
use Rattle.lent_jobs.specs.Calls.{called, called_as, call_bytes_out}

module _ (call : List Entry → ℕ → TableOut) (bytes : List ℕ) (number : ℕ) where
  pub call_length : length bytes ≢ table_len → call_bytes_out call bytes number ≡ called wrong_length bytes
  unfolding call_bytes_out
  call_length size = rw (eqb-other (length bytes) table_len size)

  module _ (size : length bytes ≡ table_len) where
    pub call-state : states_known bytes ≡ false → call_bytes_out call bytes number ≡ called invalid bytes
    unfolding call_bytes_out
    call-state s = rw (eqb_same (length bytes) table_len size, s)

    module _ (s : states_known bytes ≡ true) (out : TableOut) (e : out ≡ call (table_in bytes) number) where
      pub as_called : call_bytes_out call bytes number ≡ called_as bytes out
      unfolding call_bytes_out
      as_called = rw (eqb_same (length bytes) table_len size, s, e)

      -- the call's own refusals
      pub call-refused : out.answer ≢ served → called out.answer bytes ≡ call_bytes_out call bytes number
      call-refused a = sym (as_called ∙ rw (eqb-other out.answer served a))

      pub call-served : out.answer ≡ served → called served (table_bytes out.table) ≡ call_bytes_out call bytes number
      call-served a = sym (as_called ∙ rw (eqb_same out.answer served a))
