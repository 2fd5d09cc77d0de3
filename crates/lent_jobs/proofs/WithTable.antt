-- Laws of a job with a table in bytes: the refusals before its own. Assumes nothing.
use mathlib.Core.Path.{◌≡◌, sym, ap, ◌∙◌}
use mathlib.Core.Logic.{◌≢◌}
use mathlib.Core.Bool.{Bool, true, false, not, ◌&&◌}
use mathlib.Core.List.{List, []}
use Prim.Native.Nat.{ℕ, ◌*◌, ◌≤◌, ◌<◌}
use native.Mathlib.Omega.{arith}
use lib.Dec.{eqb}
use lib.ListN.{length}
use Rattle.refusals.specs.declared.Refusal.{Refusal}
use Rattle.refusals.specs.Numbers.{number_of}
use Rattle.refusals.proofs.Numbers.{never-served}
use Rattle.refusals.specs.Refusals.{must, served, invalid, unfit, wrong_length, bad_payload}
use Rattle.combinatorics.proofs.Cases.{by-eq, by_bool, eqb_same, eqb-other, leb-holds, leb-fails}
use Rattle.cells.specs.Bytes.{payload_len}
use Rattle.cells.specs.Figures.{max_bursts}
use Rattle.cells.specs.Outcomes.{Coding, Held, held, unserved, figures_under}
use Rattle.cells.proofs.Outcomes.{refused-alike}
use Rattle.codes.specs.declared.Figures.{Figures}
use Rattle.codes.specs.Bridge.{coding_of}
use Rattle.jobs.specs.Table.{twice}
use Rattle.payloads.specs.Payload.{carries_job}
use Rattle.jobcodec.proofs.Outcomes.{both_true, both_false}
use Rattle.lent.specs.Starts.{starts_from, placement_from}
use Rattle.lent_jobs.specs.Table.{table_len, states_known, table_in}
use Rattle.lent_jobs.specs.Jobs.{has_table_len, with_table, without_table}
use Rattle.lent.proofs.StartLaws.{some-bursts}

-- ---- A job with a table of another length

module _ (d : Coding) where
  pub without-unfit : (a : ℕ) → figures_under d ≡ unserved a → a ≡ without_table d
  unfolding without_table
  without-unfit a e = sym (refused-alike d a (λ x. x) (must (carries_job d.codec.alphabet d.codec.message_len_of) bad_payload wrong_length) e)

  module _ (range : d.in_range ≡ true) (fit : d.fits ≡ true) where
    pub without-payload : payload_len d.codec.alphabet d.codec.message_len_of < 5 → bad_payload ≡ without_table d
    unfolding without_table carries_job
    without-payload h = rw (range, fit, leb-fails 5 (payload_len d.codec.alphabet d.codec.message_len_of) h)

    pub without-length : 5 ≤ payload_len d.codec.alphabet d.codec.message_len_of → wrong_length ≡ without_table d
    unfolding without_table carries_job
    without-length h = rw (range, fit, leb-holds 5 (payload_len d.codec.alphabet d.codec.message_len_of) h)

-- ---- A table of 320 bytes, or not

-- what a job is refused with where the table is no bytes: 1 2 10, and then its own
abbrev pub after_table : {O : Type 0} → Coding → List ℕ → (ℕ → O) → O → O
after_table d table refuse own =
    must (d.in_range && not (twice (table_in table))) (refuse invalid)
    (must d.fits (refuse unfit)
    (must (carries_job d.codec.alphabet d.codec.message_len_of) (refuse bad_payload)
    own))

module _ {O : Type 0} (d : Coding) (table : List ℕ) (refuse : ℕ → O) (lengths : Bool) where
  pub other-table : (rest : O) → length table ≢ table_len → refuse (without_table d) ≡ with_table d table lengths refuse rest
  unfolding without_table
  other-table rest size =
      rw (eqb-other (length table) table_len size, both_true d.in_range)
      (by_bool d.in_range (λ i. by_bool d.fits (λ h. by_bool (carries_job d.codec.alphabet d.codec.message_len_of) (λ k. rw (i, h, k))
      (λ k. rw (i, h, k))) (λ h. rw (i, h))) (λ i. rw i))

  module _ (size : length table ≡ table_len) where
    pub unknown-state : (rest : O) → states_known table ≡ false → refuse invalid ≡ with_table d table lengths refuse rest
    unknown-state rest s = rw (eqb_same (length table) table_len size, s, both_false d.in_range)

    -- the table that the bytes are; the lengths are looked at first among the job's own
    pub whole-table : states_known table ≡ true → (own rest : O) → (d.in_range ≡ true → own ≡ must lengths (refuse wrong_length) rest)
        → after_table d table refuse own ≡ with_table d table lengths refuse (after_table d table refuse rest)
    whole-table s own rest e =
        by_bool d.in_range
        (λ i. by_bool (twice (table_in table))
        (λ t. rw (i, eqb_same (length table) table_len size, s, t))
        (λ t. by_bool d.fits
        (λ h. by_bool (carries_job d.codec.alphabet d.codec.message_len_of)
        (λ k. rw (i, eqb_same (length table) table_len size, s, t, h, k) (e i))
        (λ k. rw (i, eqb_same (length table) table_len size, s, t, h, k)))
        (λ h. rw (i, eqb_same (length table) table_len size, s, t, h))))
        (λ i. rw i)

  -- either of these, as the answer says it
  pub refused-table : (rest : O) (r : Refusal) → number_of r ≡ must (has_table_len table) (without_table d) (must (states_known table) invalid served)
      → refuse (number_of r) ≡ with_table d table lengths refuse rest
  refused-table rest r e =
      by-eq (length table) table_len (λ _. refuse (number_of r) ≡ with_table d table lengths refuse rest)
      (λ size. by_bool (states_known table)
      (λ s. absurd (never-served r (rw (eqb_same (length table) table_len size, s) at e)))
      (λ s. ap refuse (rw (eqb_same (length table) table_len size, s) at e) ∙ unknown-state size rest s))
      (λ other. ap refuse (rw (eqb-other (length table) table_len other) at e) ∙ other-table rest other)

-- ---- Starts of another length are a placement of another count

pub whole-write : {O : Type 0} (f : Figures) (table starts : List ℕ) (refuse : ℕ → O) → length table ≡ table_len → states_known table ≡ true
    → (write own : Held → O) → ((at : Held) → write at ≡ after_table (coding_of f) table refuse (own at))
    → ((at : Held) → at.count ≢ (coding_of f).bursts → own at ≡ refuse wrong_length)
    → write (placement_from (coding_of f).bursts starts)
    ≡ with_table (coding_of f) table (eqb (length starts) (2 * (coding_of f).bursts)) refuse (write (held (starts_from starts)))
whole-write f table starts refuse size s write own e count =
    let d = coding_of f in
    let m = d.bursts in
    rw (e (placement_from m starts), e (held (starts_from starts)))
    (whole-table d table refuse (eqb (length starts) (2 * m)) size s (own (placement_from m starts)) (own (held (starts_from starts)))
    (λ i. by_bool (eqb (length starts) (2 * m))
    (λ l. rw (leb-holds m max_bursts (some-bursts f i).1, l))
    (λ l. rw (leb-holds m max_bursts (some-bursts f i).1, l) (count (held []) (λ z. absurd (omega (arith, (some-bursts f i).0, z)))))))
