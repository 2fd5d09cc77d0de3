-- Laws of filling a word stretch by stretch. Assumes nothing.
use mathlib.Core.Path.{◌≡◌, refl, sym, ap, ◌∙◌}
use mathlib.Core.Bool.{cond}
use mathlib.Core.List.{List, ◌++◌}
use Prim.Native.Nat.{ℕ, zero, suc, ◌+◌, ◌-◌, ◌≤◌, ◌<◌}
use native.Mathlib.Omega.{arith}
use lib.Dec.{eqb}
use lib.ListN.{length, take, drop, replicate}
use lib.Seq.{take_all}
use Rattle.combinatorics.specs.Stretch.{tabulate}
use Rattle.cells.specs.Cells.{Cell, burst, fixed, digit, message, weave, content, Enough}
use Rattle.cells.proofs.Walk.{tally, tally-append, tally-same, tally-other, tally-most, plan-stretch, weave-stretch}
use Rattle.stretches.specs.Walk.{cell_named}
use Rattle.stretches.specs.Fill.{Filled}

-- ---- A kind of cell from its number

-- so many cells of a kind, counted
digits-named : (kind n : ℕ) → kind ≤ 3 → tally digit (replicate n (cell_named kind)) ≡ cond (eqb kind 2) n 0
digits-named zero n h = tally-other digit burst n refl
digits-named (suc zero) n h = tally-other digit fixed n refl
digits-named (suc (suc zero)) n h = tally-same digit digit n refl
digits-named (suc (suc (suc zero))) n h = tally-other digit message n refl
digits-named (suc (suc (suc (suc k)))) n h = absurd (omega arith)

message-named : (kind n : ℕ) → kind ≤ 3 → tally message (replicate n (cell_named kind)) ≡ cond (eqb kind 3) n 0
message-named zero n h = tally-other message burst n refl
message-named (suc zero) n h = tally-other message fixed n refl
message-named (suc (suc zero)) n h = tally-other message digit n refl
message-named (suc (suc (suc zero))) n h = tally-same message message n refl
message-named (suc (suc (suc (suc k)))) n h = absurd (omega arith)

-- ---- The word so far

module _ (n : ℕ) (kd : ℕ → Cell) (ds ms : List ℕ) where
  pub filled-start : (out : List ℕ) → length out ≡ n → Filled n kd ds ms 0 out 0 0
  unfolding tabulate weave tally
  filled-start out e = record { made = refl; digits = refl; message = refl; size = e }

  -- one stretch more, whatever is made of the cells behind it
  pub filled-turn : (x to kind spelled sent : ℕ) (out out' : List ℕ) → Filled n kd ds ms x out spelled sent → x ≤ to
      → ((y : ℕ) → x ≤ y → y < to → kd y ≡ cell_named kind) → kind ≤ 3 → Enough (cell_named kind) (to - x) (drop spelled ds) (drop sent ms)
      → take to out' ≡ take x out ++ content (cell_named kind) (to - x) (drop spelled ds) (drop sent ms) → length out' ≡ n
      → Filled n kd ds ms to out' (spelled + cond (eqb kind 2) (to - x) 0) (sent + cond (eqb kind 3) (to - x) 0)
  filled-turn x to kind spelled sent out out' s l same few enough made size =
      let K = cell_named kind in
      let c = to - x in
      let cs = tabulate x 0 kd in
      let p : tabulate to 0 kd ≡ cs ++ replicate c K = plan-stretch x to kd K l same in
      let body = content K c (drop spelled ds) (drop sent ms) in
      let woven : take x out ++ body ≡ weave (cs ++ replicate c K) ds ms =
      ap (λ (r : List ℕ). r ++ body) s.made
      ∙ rw (s.digits, s.message) (sym (weave-stretch K cs c ds ms (rw (← s.digits, ← s.message) enough))) in
      record {
        made = made ∙ woven ∙ ap (λ (r : List Cell). weave r ds ms) (sym p);
        digits = rw p (omega (arith, s.digits, tally-append digit cs (replicate c K), digits-named kind c few));
        message = rw p (omega (arith, s.message, tally-append message cs (replicate c K), message-named kind c few));
        size = size;
      }

  pub filled-done : (spelled sent : ℕ) (out : List ℕ) → Filled n kd ds ms n out spelled sent → out ≡ weave (tabulate n 0 kd) ds ms
  filled-done spelled sent out s = sym (take_all n out (omega (arith, s.size))) ∙ s.made

-- no more of the message is asked for than there are cells for it
pub message-most : (n : ℕ) (kd : ℕ → Cell) (x to : ℕ) → x ≤ to → to ≤ n → ((y : ℕ) → x ≤ y → y < to → kd y ≡ message)
    → tally message (tabulate x 0 kd) + (to - x) ≤ tally message (tabulate n 0 kd)
message-most n kd x to l h same =
    omega (
      arith,
      tally-most message to n kd h,
      ap (tally message) (plan-stretch x to kd message l same),
      tally-append message (tabulate x 0 kd) (replicate (to - x) message),
      tally-same message message (to - x) refl,
    )
