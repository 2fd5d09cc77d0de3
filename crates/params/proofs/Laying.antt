-- Laying figures out step by step: the numbers found are document 01's p, L, T, r and k, and show whether the figures fit. Assumes nothing.
use mathlib.Core.Path.{◌≡◌, sym, ◌∙◌}
use mathlib.Core.Bool.{true}
use Prim.Native.Nat.{ℕ, ◌+◌, ◌-◌, ◌*◌, ◌/◌, ◌≤◌, ◌<◌}
use native.Mathlib.Nat.{mul-pos, mul-le-mul, le-mul_of_pos_right, div-le_self}
use native.Mathlib.Omega.{arith}
use Rattle.refusals.specs.Refusals.{unfit}
use Rattle.combinatorics.specs.Bursts.{contracted}
use Rattle.cells.specs.Figures.{Params, max_word, max_bursts, max_count, in_range, placement_count_of, least_tail}
use Rattle.construction_a.specs.Figures.{fits, parts, block_min, index_tail_of, message_len_of}
use Rattle.construction_a.specs.Outcomes.{figured, unserved, figures_out}
use Rattle.cells.proofs.Figures.{Ranged, ranged}
use Rattle.construction_a.proofs.Figures.{Served, serve, three-parts, parts-few, fitting, unfitting, message-room}
use Rattle.construction_a.proofs.Outcomes.{figures-unfit, figures-served}

-- ---- Figures in range whose bursts a word can hold, and their count

module _ (f : Params) (range : in_range f ≡ true) (total : f.m * f.b ≤ f.n) where
  -- no more to choose from than the word has symbols
  pub contracted-fits : contracted f.n f.m f.b ≤ max_word
  contracted-fits = let r = ranged f range in omega (arith, le-mul_of_pos_right f.m r.b-least, r.n-most)

  -- "figures over that are 2"
  pub count-unfit : max_count < placement_count_of f → figures_out f ≡ unserved unfit
  count-unfit l = figures-unfit f range (unfitting f range (λ ok. omega (arith, ok.counted)))

-- ---- p, where they can be counted

pub record Parted (f : Params) (p : ℕ) : Type 0 where
  pub range : in_range f ≡ true
  pub total : f.m * f.b ≤ f.n
  pub counted : placement_count_of f ≤ max_count
  pub p-is : p ≡ parts f

module _ {f : Params} {p : ℕ} (h : Parted f p) where
  pub in-range : Ranged f
  in-range = ranged f h.range

  pub blocks-some : 0 < p * f.m
  blocks-some = rw h.p-is (mul-pos (omega (arith, three-parts f)) in-range.m-least)

  pub blocks-few : p * f.m ≤ max_bursts * max_bursts
  blocks-few = rw h.p-is (mul-le-mul {n₂ = max_bursts} {m₂ = max_bursts} (parts-few f in-range) in-range.m-most)

  pub min-is : f.n / (p * f.m) ≡ block_min f
  unfolding block_min
  min-is = rw h.p-is

-- ---- The search has answered r

pub record Searched (f : Params) (p r : ℕ) : Type 0 where
  pub parted : Parted f p
  pub found : r ≡ least_tail f.q f.m (placement_count_of f) (f.n / (p * f.m))

module _ {f : Params} {p r : ℕ} (h : Searched f p r) where
  pub tail-is : r ≡ index_tail_of f
  unfolding index_tail_of
  tail-is = h.found ∙ (rw (min-is h.parted))

  misfit : ¬ Served f → figures_out f ≡ unserved unfit
  misfit not-served = figures-unfit f h.parted.range (unfitting f h.parted.range not-served)

  -- "r is below L" fails
  pub tail-unfit : f.n / (p * f.m) ≤ r → figures_out f ≡ unserved unfit
  unfolding block_min
  tail-unfit l = misfit (λ ok. omega (arith, min-is h.parted, tail-is))

  -- "b is at most L − r" fails
  pub burst-unfit : f.n / (p * f.m) - r < f.b → figures_out f ≡ unserved unfit
  unfolding block_min
  burst-unfit l = misfit (λ ok. omega (arith, min-is h.parted, tail-is))

-- ---- The figures fit

pub record Fitted (f : Params) (p r : ℕ) : Type 0 where
  pub searched : Searched f p r
  pub room : r < f.n / (p * f.m)
  pub short : f.b ≤ f.n / (p * f.m) - r

module _ {f : Params} {p r : ℕ} (h : Fitted f p r) where
  parted : Parted f p
  parted = h.searched.parted

  fit : fits f ≡ true
  fit = fitting f parted.total parted.counted (omega (arith, min-is parted, tail-is h.searched, h.room))
      (omega (arith, min-is parted, tail-is h.searched, h.short))

  pub taken-fits : f.m * (f.b + p + r - 1) ≤ f.n
  taken-fits = rw (parted.p-is, tail-is h.searched) (message-room f (serve f parted.range fit))

  pub sum_fits : f.b + p + r ≤ max_word + max_bursts
  sum_fits = omega (arith, parts-few f (in-range parted), parted.p-is, h.room, h.short, div-le_self f.n (p * f.m), (in-range parted).n-most)

  pub len_is : f.n - f.m * (f.b + p + r - 1) ≡ message_len_of f
  unfolding message_len_of
  len_is = rw (parted.p-is, tail-is h.searched)

  pub figured-as : figured (placement_count_of f) r (f.n - f.m * (f.b + p + r - 1)) ≡ figures_out f
  figured-as = rw (len_is, tail-is h.searched) (sym (figures-served f parted.range fit))
