-- What the tests of a payload that is to be moved come to. Assumes nothing.
use mathlib.Core.Path.{◌≡◌, refl, sym, ap, ap₂, ◌∙◌}
use mathlib.Core.Logic.{◌≢◌}
use mathlib.Core.Bool.{true, false, ◌&&◌}
use mathlib.Core.List.{List, [], ◌∷◌}
use Prim.Native.Nat.{ℕ, suc, ◌-◌, ◌≤◌}
use native.Mathlib.Omega.{arith}
use lib.Dec.{ltb, eqb}
use lib.ListN.{length, take, drop, length-drop, drop_of_length-le}
use lib.Seq.{take_all}
use Rattle.refusals.specs.Refusals.{served, surplus_bytes, number_zero}
use Rattle.combinatorics.specs.Lists.{all, all_below}
use Rattle.combinatorics.proofs.Cases.{by_le, eqb_same, eqb-other}
use Rattle.jobs.specs.declared.Entry.{Entry}
use Rattle.jobs.specs.Jobs.{is_job, needs_open}
use Rattle.payloads.specs.Payload.{job_number}
use Rattle.jobcodec.specs.JobWrite.{job_status}
use Rattle.moving.specs.Given.{moving_number}
use Rattle.moving.specs.Resize.{has_room}

-- ---- Surplus bytes

-- 0 alone is below 1
only_zero : (x : ℕ) → ltb x 1 ≡ eqb x 0
only_zero x = by_le (suc x) 1 (λ b. b ≡ eqb x 0) (λ l. sym (eqb_same x 0 (omega arith))) (λ l. sym (eqb-other x 0 (λ e. absurd (omega (arith, e)))))

zeros-below : (xs : List ℕ) → all_below 1 xs ≡ all (λ x. eqb x 0) xs
unfolding all
zeros-below [] = refl
zeros-below (x ∷ xs) = ap₂ ◌&&◌ (only_zero x) (zeros-below xs)

pub room-enough : (room : ℕ) (y : List ℕ) → length y ≤ room → has_room room y ≡ true
unfolding has_room all
room-enough room y l = rw (drop_of_length-le y l)

pub room-by-zeros : (room : ℕ) (y : List ℕ) → all_below 1 (take (length y - room) (drop room y)) ≡ has_room room y
unfolding has_room
room-by-zeros room y = ap (all_below 1) (take_all (length y - room) (drop room y) (omega (arith, length-drop room y))) ∙ zeros-below (drop room y)

-- ---- 12 23 14, 22, 17

module _ (es : List Entry) (room : ℕ) (y : List ℕ) where
  pub not-open : needs_open (job_status es y) ≢ served → moving_number es room y ≡ needs_open (job_status es y)
  unfolding moving_number
  not-open h = rw (eqb-other (needs_open (job_status es y)) served h)

  module _ (open-job : needs_open (job_status es y) ≡ served) where
    pub surplus : has_room room y ≡ false → moving_number es room y ≡ surplus_bytes
    unfolding moving_number
    surplus h = rw (open-job, h)

    pub no-job : has_room room y ≡ true → is_job (job_number y) ≡ false → moving_number es room y ≡ number_zero
    unfolding moving_number
    no-job h z = rw (open-job, h, z)

    pub moves : has_room room y ≡ true → is_job (job_number y) ≡ true → moving_number es room y ≡ served
    unfolding moving_number
    moves h z = rw (open-job, h, z)
