-- Laws of job write and job read on a table in bytes, refusal by refusal. Assumes nothing.
use mathlib.Core.Path.{◌≡◌, refl, ap₂}
use mathlib.Core.Bool.{true}
use mathlib.Core.List.{List}
use Prim.Native.Nat.{ℕ}
use lib.ListN.{length}
use Rattle.std.specs.Prelude.{Err}
use Rattle.refusals.specs.declared.Refusal.{Refusal}
use Rattle.refusals.specs.Numbers.{number_of}
use Rattle.combinatorics.proofs.Cases.{eqb-other}
use Rattle.cells.specs.Outcomes.{Coding, Held, unwritten}
use Rattle.codes.specs.Bridge.{coding_of}
use Rattle.codes.specs.declared.Figures.{Figures}
use Rattle.jobcodec.specs.JobWrite.{job_write_under}
use Rattle.jobcodec.specs.JobRead.{JobRead, withhold, job_reading, job_read_under}
use Rattle.jobcodec.specs.Given.{seen}
use Rattle.lent_jobs.specs.Jobs.{LentAs, job_write_bytes_under, job_read_bytes_under}
use Rattle.lent.specs.Starts.{placement_from}
use Rattle.lent_jobs.specs.Table.{table_len, states_known, table_in}
use Rattle.lent_jobs.proofs.WithTable.{refused-table, whole-table, whole-write}

-- ---- Job write

module _ (f : Figures) (table starts payload out : List ℕ) where
  pub write-refused : (r : Refusal) → LentAs (coding_of f) table (Err r)
      → unwritten out (number_of r) ≡ job_write_bytes_under (coding_of f) table starts payload out
  unfolding job_write_bytes_under
  write-refused = refused-table (coding_of f) table (unwritten out) _ _

  module _ (size : length table ≡ table_len) where
    pub write-whole : states_known table ≡ true → job_write_under (coding_of f) (table_in table) (placement_from (coding_of f).bursts starts) payload out
        ≡ job_write_bytes_under (coding_of f) table starts payload out
    unfolding job_write_bytes_under
    write-whole s =
        whole-write f table starts (unwritten out) size s (λ (at : Held). job_write_under (coding_of f) (table_in table) at payload out) _ (λ at. refl)
        (λ at h. rw (eqb-other at.count (coding_of f).bursts h))

-- ---- Job read

-- what a caller is told: the answer, and what the lent payload then holds
pub all_seen : {p : List ℕ} {n : ℕ} (o : JobRead) → p ≡ o.payload → n ≡ o.answer → seen n p ≡ o
all_seen o = ap₂ (λ (p : List ℕ) (n : ℕ). seen n p)

module _ (d : Coding) (table w out : List ℕ) where
  pub read-refused : (r : Refusal) → LentAs d table (Err r) → withhold out (number_of r) ≡ job_read_bytes_under d table w out
  unfolding job_read_bytes_under
  read-refused = refused-table d table (withhold out) _ _

  module _ (size : length table ≡ table_len) where
    pub read_whole : states_known table ≡ true → job_read_under d (table_in table) w out ≡ job_read_bytes_under d table w out
    unfolding job_reading job_read_bytes_under
    read_whole s = whole-table d table (withhold out) true size s _ _ (λ _. refl)
