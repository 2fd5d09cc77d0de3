-- A word that differs from a written one only inside the bursts reads back. Assumes nothing.
use mathlib.Core.Path.{◌≡◌, sym, ap, ap₂, ◌∙◌}
use mathlib.Core.Bool.{Bool, true, false, not, ◌&&◌}
use mathlib.Core.List.{List}
use Prim.Native.Nat.{ℕ, suc, ◌+◌, ◌-◌, ◌*◌, ◌≤◌, ◌<◌}
use native.Mathlib.Omega.{arith}
use lib.Arith.{digits_lt}
use lib.ListN.{length, get_or}
use Rattle.combinatorics.specs.Bursts.{in_burst}
use Rattle.combinatorics.proofs.Bursts.{Placed, rank_lt, starts-of-rank}
use Rattle.combinatorics.proofs.Cases.{by_bool, eqb_same, eqb-other, leb-holds}
use Rattle.combinatorics.specs.Lists.{all_below}
use Rattle.combinatorics.proofs.Lists.{same-list, at-below}
use Rattle.combinatorics.proofs.Members.{each_member}
use Rattle.combinatorics.proofs.Stretch.{has-none}
use Rattle.cells.specs.Cells.{message, pick}
use Rattle.cells.specs.Codec.{accepted}
use Rattle.cells.specs.Digits.{spell, places}
use Rattle.cells.proofs.Plan.{digits-back, message-back, fixed_back}
use Rattle.cells.proofs.Digits.{Spelled, spell-spelled, spelled-below, value-spell, length-places, length-spell, leads}
use Rattle.cells.proofs.Erasures.{below-whole}
use Rattle.cells.specs.Figures.{Params, placement_count_of, rank}
use Rattle.construction_a.specs.Figures.{parts, head_of, index_tail_of}
use Rattle.construction_a.specs.Writing.{is_burst, chosen, is_index, index_blocks, is_fixed, frame, kind_at, plan, word}
use Rattle.construction_a.specs.Reading.{looks_fixed, first_symbols, written, agrees, read_rank, read}
use Rattle.construction_a.proofs.Figures.{Served, span-enough}
use Rattle.construction_a.proofs.Rule.{at_row, i-list}
use Rattle.construction_a.proofs.Pattern.{Seen, read-back}
use Rattle.construction_a.proofs.Plan.{burst-blocks, index-blocks, index-count, framed, messages-count}

-- a placement and its digits
module _ (f : Params) (ok : Served f) (ss : List ℕ) (h : Placed f.b f.n 0 ss) (e : length ss ≡ f.m) where
  pub rank_below : rank f ss < placement_count_of f
  rank_below = rank_lt f.n f.m f.b ok.long ss h e

  digits : List ℕ
  digits = spell f.q (places f.m (index_tail_of f)) (rank f ss)

  spelled : Spelled f.q (places f.m (index_tail_of f)) digits
  unfolding digits
  spelled = spell-spelled f.q (places f.m (index_tail_of f)) (rank f ss) (omega (arith, rank_below, span-enough f ok))

  -- a word that agrees with the written one outside the bursts
  module _ (ms w : List ℕ) (k : length ms + f.m * (f.b + parts f + index_tail_of f - 1) ≡ f.n) (small : all_below f.q ms ≡ true)
      (outside : (x : ℕ) → x < f.n → in_burst f.b ss x ≡ false → get_or w x 0 ≡ get_or (word f ss ms) x 0) where
    digits-read : first_symbols f w (index_blocks f ss) ≡ digits
    unfolding first_symbols word plan kind_at index_blocks digits
    digits-read =
        digits-back (frame f ss) (framed f ok ss h e) digits ms w outside
        (length-spell f.q (places f.m (index_tail_of f)) (rank f ss) ∙ length-places f.m (index_tail_of f)
        ∙ ap (λ (y : ℕ). y * suc (index_tail_of f)) (sym (index-count f ok.range ss h e)))

    message-read : pick message (plan f ss) w ≡ ms
    unfolding word plan kind_at digits
    message-read = message-back (frame f ss) (framed f ok ss h e) digits ms w outside (omega (arith, messages-count f ok ss h e))

    -- an I-block starts with a digit of 1 or more, and an F-block with 0
    index-shown : (x : ℕ) → x < parts f * f.m → is_index f ss x ≡ true → looks_fixed f w x ≡ false
    unfolding looks_fixed first_symbols index_blocks
    index-shown x l t =
        let s : Spelled f.q (places (length (index_blocks f ss)) (index_tail_of f)) (first_symbols f w (index_blocks f ss)) =
        rw (index-blocks f ok.range ss h e, digits-read) spelled in
        let b : 1 ≤ get_or w (head_of f x) 0 =
        each_member (λ y. 1 ≤ get_or w (head_of f y) 0) (parts f * f.m) 0 (is_index f ss)
        (leads f.q (index_tail_of f) (head_of f) (λ y. get_or w y 0) (index_blocks f ss) s) x (omega arith) (omega arith) t in
        eqb-other (get_or w (head_of f x) 0) 0 (omega arith)

    fixed-shown : (x : ℕ) → x < parts f * f.m → is_fixed f ss x ≡ true → looks_fixed f w x ≡ true
    unfolding looks_fixed is_fixed word plan kind_at digits
    fixed-shown x l t = eqb_same (get_or w (head_of f x) 0) 0 (fixed_back (frame f ss) (framed f ok ss h e) digits ms w outside x l t)

    seen : Seen (parts f) f.m (is_burst f ss) (looks_fixed f w) (chosen (parts f) f.m (is_burst f ss))
    unfolding is_index is_fixed
    seen =
        record {
          shown = λ i j li lj t. index-shown (i * f.m + j) (digits_lt li lj)
              (at_row f.m i j (is_burst f ss) (chosen (parts f) f.m (is_burst f ss)) lj ∙ t);
          filled = λ i j li lj t u.
              fixed-shown (i * f.m + j) (digits_lt li lj)
              (ap₂ (λ (x y : Bool). not x && not y) (at_row f.m i j (is_burst f ss) (chosen (parts f) f.m (is_burst f ss)) lj ∙ t) u);
        }

    agreed : agrees f w (index_blocks f ss) ss ≡ true
    unfolding agrees
    agreed =
        rw (
          same-list (index_blocks f ss),
          has-none (parts f * f.m) 0 (λ k. is_fixed f ss k && not (looks_fixed f w k))
              (λ x _ l. by_bool (is_fixed f ss x) (λ t. rw (t, fixed-shown x (omega arith) t)) (λ t. rw t)),
        )

    pub complete : read f w ≡ accepted ss ms
    unfolding read read_rank written index_blocks is_index digits
    complete =
        let il = i-list (parts f) f.m (is_burst f ss) ok.three ok.some ok.most (burst-blocks f ok.range ss h e) in
        rw (
          read-back (parts f) f.m (is_burst f ss) (looks_fixed f w) ok.three ok.some ok.most (burst-blocks f ok.range ss h e) seen,
          ← il.0,
          digits-read,
          below-whole f.q digits (at-below f.q digits (λ x _. spelled-below f.q (places f.m (index_tail_of f)) digits ok.range.q-least spelled x)),
          value-spell f.q (places f.m (index_tail_of f)) (rank f ss) (omega (arith, rank_below, span-enough f ok)),
          starts-of-rank f.n f.m f.b ok.long ss h e,
          leb-holds (suc (rank f ss)) (placement_count_of f) rank_below,
          agreed,
          message-read,
          below-whole f.q ms small,
        )
