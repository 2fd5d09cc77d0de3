-- A word that differs from a written one only inside the burst reads back. Assumes nothing.
use mathlib.Core.Path.{◌≡◌, sym, ap, ◌∙◌}
use mathlib.Core.Bool.{true, false}
use mathlib.Core.List.{List, [], ◌∷◌, flat_map, append-nil}
use Prim.Native.Nat.{ℕ, suc, ◌+◌, ◌-◌, ◌*◌, ◌≤◌, ◌<◌}
use native.Mathlib.Omega.{arith}
use lib.ListN.{length, get_or}
use Rattle.combinatorics.specs.Bursts.{in_burst}
use Rattle.combinatorics.specs.Lists.{all_below}
use Rattle.combinatorics.specs.Stretch.{tabulate}
use Rattle.combinatorics.proofs.Cases.{eqb_same, eqb-other, leb-holds}
use Rattle.combinatorics.proofs.Lists.{at-below}
use Rattle.cells.specs.Cells.{message, pick}
use Rattle.cells.specs.Codec.{accepted}
use Rattle.cells.specs.Digits.{span, spell, places}
use Rattle.cells.specs.Erasures.{has_erasure}
use Rattle.cells.proofs.Digits.{Spelled, spell-spelled, spelled-below, value-spell, length-places, length-spell, leads}
use Rattle.cells.proofs.Erasures.{below-whole}
use Rattle.cells.proofs.Plan.{digits-back, message-back, fixed_back}
use Rattle.cells.specs.Round.{next}
use Rattle.cells.proofs.Round.{next-lt, next-ne}
use Rattle.construction_b.specs.Figures.{LongParams, parts, head_of, part_len, index_tail_of, message_len_of}
use Rattle.construction_b.specs.Writing.{burst_part, index_part, end_offset, frame, plan, word_from}
use Rattle.construction_b.specs.Reading.{looks_fixed, first_symbols, written, end_at, read_part, read}
use Rattle.construction_b.proofs.Figures.{Served, part-most, span-enough}
use Rattle.construction_b.proofs.Plan.{count-one, only_one, burst-lt, index-lt, offset-lt, offset-end, framed, message-cells}
use Rattle.construction_b.proofs.Pattern.{before-next, shows, twice-other}

-- the digits of a start
abbrev digits_of : LongParams → ℕ → List ℕ
digits_of f s = spell f.q (places 1 (index_tail_of f)) (end_offset f s)

module _ (f : LongParams) (ok : Served f) (s : ℕ) (inside : s + f.b ≤ f.n) where
  -- the I part can spell how far into its part the run ends
  pub offset-below : end_offset f s < span f.q (places 1 (index_tail_of f))
  offset-below = omega (arith, offset-lt f ok s inside, part-most f (burst_part f s) (burst-lt f ok s inside), span-enough f ok)

  pub spelled : Spelled f.q (places 1 (index_tail_of f)) (digits_of f s)
  spelled = spell-spelled f.q (places 1 (index_tail_of f)) (end_offset f s) offset-below

  -- a word that agrees with the written one outside the burst
  module _ (ms w : List ℕ) (k : length ms ≡ message_len_of f) (small : all_below f.q ms ≡ true)
      (outside : (x : ℕ) → x < f.n → in_burst f.b (s ∷ []) x ≡ false → get_or w x 0 ≡ get_or (word_from f s ms) x 0) where
    digits-read : first_symbols f w (index_part f s) ≡ digits_of f s
    unfolding word_from plan flat_map
    digits-read =
        let one = count-one (index_part f s) (index-lt f ok s inside) in
        let long : length (digits_of f s) ≡ 1 * suc (index_tail_of f) =
        length-spell f.q (places 1 (index_tail_of f)) (end_offset f s) ∙ length-places 1 (index_tail_of f) in
        sym (append-nil (tabulate (suc (index_tail_of f)) (head_of f (index_part f s)) (λ x. get_or w x 0)))
        ∙ (rw (only_one (index_part f s) (index-lt f ok s inside)) at
        (digits-back (frame f s) (framed f ok s inside) (digits_of f s) ms w outside (long ∙ ap (λ (y : ℕ). y * suc (index_tail_of f)) (sym one))))

    message-read : pick message (plan f s) w ≡ ms
    unfolding word_from plan
    message-read = message-back (frame f s) (framed f ok s inside) (digits_of f s) ms w outside (k ∙ sym (message-cells f ok s inside))

    -- the I part starts with a digit of 1 or more, and the F part with 0
    index-shown : looks_fixed f w (index_part f s) ≡ false
    unfolding looks_fixed flat_map
    index-shown =
        let g : List ℕ = tabulate (suc (index_tail_of f)) (head_of f (index_part f s)) (λ x. get_or w x 0) in
        let sp : Spelled f.q (places 1 (index_tail_of f)) (flat_map (λ i. tabulate (suc (index_tail_of f)) (head_of f i) (λ x. get_or w x 0)) (index_part f s ∷ [])) =
        rw (append-nil g, digits-read) spelled in
        let b : 1 ≤ get_or w (head_of f (index_part f s)) 0 = (leads f.q (index_tail_of f) (head_of f) (λ y. get_or w y 0) (index_part f s ∷ []) sp).0 in
        eqb-other (get_or w (head_of f (index_part f s)) 0) 0 (λ e. omega (arith, b, e))

    fixed-shown : looks_fixed f w (next parts (index_part f s)) ≡ true
    unfolding looks_fixed word_from plan index_part
    fixed-shown =
        let e = burst_part f s in
        let i = next parts e in
        let l = next-lt parts e (burst-lt f ok s inside) in
        eqb_same (get_or w (head_of f (next parts i)) 0) 0
        (fixed_back (frame f s) (framed f ok s inside) (digits_of f s) ms w outside (next parts i) (next-lt parts i l)
        (rw (
          eqb-other i (next parts i) (λ d. next-ne parts i (omega arith) (sym d)),
          eqb-other e (next parts i)
              (λ d. twice-other e (burst-lt f ok s inside) (sym d)),
        )))

    index-whole : has_erasure f.q (first_symbols f w (index_part f s)) ≡ false
    index-whole =
        rw digits-read
        (below-whole f.q (digits_of f s) (at-below f.q (digits_of f s)
        (λ x _. spelled-below f.q (places 1 (index_tail_of f)) (digits_of f s) ok.range.q-least spelled x)))

    value_read : written f w (index_part f s) ≡ end_offset f s
    unfolding written
    value_read = rw digits-read (value-spell f.q (places 1 (index_tail_of f)) (end_offset f s) offset-below)

    pub complete : read f w ≡ accepted (s ∷ []) ms
    unfolding read read_part end_at index_part
    complete =
        let e = burst_part f s in
        let v = end_offset f s in
        let end : suc (head_of f e + v) ≡ s + f.b = omega (arith, offset-end f ok s inside, ok.range.b-least) in
        let start : s + f.b - f.b ≡ s = omega arith in
        rw (
          shows (looks_fixed f w) e (burst-lt f ok s inside) index-shown fixed-shown,
          index-whole,
          before-next e (burst-lt f ok s inside),
          value_read,
          leb-holds (suc v) (part_len f e) (offset-lt f ok s inside),
          end,
          leb-holds f.b (s + f.b) (omega arith),
          start,
          message-read,
          below-whole f.q ms small,
        )
