-- Laying the Larsson code's figures out step by step: the numbers found are its R, gaps and k, and show whether the figures fit. Assumes nothing.
use mathlib.Core.Path.{◌≡◌, sym, ap, ◌∙◌, fun_ext}
use mathlib.Core.Bool.{true}
use Prim.Native.Nat.{ℕ, ◌+◌, ◌-◌, ◌*◌, ◌/◌, ◌^◌, ◌≤◌, ◌<◌}
use native.Mathlib.Nat.{mul_comm, le-div_iff_mul-le}
use native.Mathlib.Numerals.{add-one}
use native.Mathlib.Omega.{arith}
use lib.Dec.{leb}
use Rattle.refusals.specs.Refusals.{unfit}
use Rattle.combinatorics.specs.Stretch.{first}
use Rattle.cells.specs.Cut.{piece_len}
use Rattle.cells.specs.Outcomes.{figured, unserved, figures_under}
use Rattle.cells.proofs.Outcomes.{figures-unfit, figures-served}
use Rattle.cells.specs.Figures.{Params, max_count, in_range, placement_count_of}
use Rattle.cells.proofs.Figures.{Ranged, ranged}
use Rattle.larsson.specs.Figures.{sub_len_of, sub_blocks, gap_total_of, gap_len, fits, message_len_of}
use Rattle.larsson.specs.Outcomes.{coding}
use Rattle.larsson.proofs.Figures.{Served, serve, fitting, unfitting}
use Rattle.larsson.proofs.Walking.{message-room}

-- ---- Figures in range whose bursts a word can hold

module _ (f : Params) (range : in_range f ≡ true) where
  pub misfit : ¬ Served f → figures_under (coding f) ≡ unserved unfit
  misfit not-served = figures-unfit (coding f) range (unfitting f range not-served)

  -- "figures over that are 2"
  pub count-unfit : max_count < placement_count_of f → figures_under (coding f) ≡ unserved unfit
  count-unfit l = misfit (λ ok. omega (arith, ok.counted))

-- ---- The search has answered R

pub record Searched (f : Params) (r : ℕ) : Type 0 where
  pub range : in_range f ≡ true
  pub total : f.m * f.b ≤ f.n
  pub counted : placement_count_of f ≤ max_count
  pub found : r ≡ first f.n 0 (λ x. leb (placement_count_of f) (1 * f.q ^ x))

module _ {f : Params} {r : ℕ} (h : Searched f r) where
  pub in-range : Ranged f
  in-range = ranged f h.range

  pub sub_is : r ≡ sub_len_of f
  unfolding sub_len_of
  sub_is = h.found ∙ ap (first f.n 0) (fun_ext (λ x. ap (leb (placement_count_of f)) (let e : 1 * f.q ^ x ≡ f.q ^ x = omega arith in e)))

  blocks-some : 0 < 2 * f.m + 1
  blocks-some = omega arith

  -- the symbols of all the sub-blocks
  pub taken_is : (2 * f.m + 1) * r ≡ sub_blocks f * sub_len_of f
  taken_is = rw (add-one (2 * f.m), sub_is)

  -- "sub-blocks must .. fit in n", which fails
  pub blocks-unfit : f.n / (2 * f.m + 1) < r → figures_under (coding f) ≡ unserved unfit
  blocks-unfit l =
      misfit f h.range
      (λ ok. omega (arith, (le-div_iff_mul-le {x = r} {y = f.n} blocks-some).1 (omega (arith, mul_comm r (2 * f.m + 1), taken_is, ok.room))))

  pub blocks-fit : r ≤ f.n / (2 * f.m + 1) → (2 * f.m + 1) * r ≤ f.n
  blocks-fit l = omega (arith, mul_comm r (2 * f.m + 1), (le-div_iff_mul-le {x = r} {y = f.n} blocks-some).0 l)

  pub gaps-is : f.n - (2 * f.m + 1) * r ≡ gap_total_of f
  unfolding gap_total_of
  gaps-is = rw taken_is

  pub shortest-is : piece_len (f.n - (2 * f.m + 1) * r) (2 * f.m) 0 ≡ gap_len f 0
  unfolding gap_len
  shortest-is = rw gaps-is

  -- "b is at most the shortest gap plus 1", which fails
  pub burst-unfit : piece_len (f.n - (2 * f.m + 1) * r) (2 * f.m) 0 + 1 < f.b → figures_under (coding f) ≡ unserved unfit
  burst-unfit l = misfit f h.range (λ ok. omega (arith, shortest-is, ok.short))

  -- ---- The figures fit

  module _ (room : (2 * f.m + 1) * r ≤ f.n) (short : f.b ≤ piece_len (f.n - (2 * f.m + 1) * r) (2 * f.m) 0 + 1) where
    fit : fits f ≡ true
    fit = fitting f h.total h.counted (omega (arith, taken_is, room)) (omega (arith, shortest-is, short))

    pub taken-fits : f.m * f.b + (f.m + 1) * r ≤ f.n
    taken-fits = rw (add-one f.m, sub_is) (message-room f (serve f h.range fit))

    pub len_is : f.n - f.m * f.b - (f.m + 1) * r ≡ message_len_of f
    unfolding message_len_of
    len_is = rw (add-one f.m, sub_is)

    pub figured-as : figured (placement_count_of f) r (f.n - f.m * f.b - (f.m + 1) * r) ≡ figures_under (coding f)
    figured-as = rw (len_is, sub_is) (sym (figures-served (coding f) h.range fit))
