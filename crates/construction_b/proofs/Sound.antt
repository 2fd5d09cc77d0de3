-- A word that the reader accepts differs from the word of what it answers only inside the burst. Assumes nothing.
use mathlib.Core.Path.{◌≡◌, refl, ap, ◌∙◌}
use mathlib.Core.Logic.{◌≢◌}
use mathlib.Core.Bool.{Bool, true, false, not, ◌&&◌}
use mathlib.Core.List.{List, [], ◌∷◌, flat_map, append-nil}
use mathlib.Core.Option.{Option, none, some}
use Prim.Native.Nat.{ℕ, suc, ◌+◌, ◌-◌, ◌≤◌, ◌<◌}
use native.Mathlib.Omega.{arith}
use lib.Dec.{eqb, leb}
use lib.ListN.{get_or}
use Rattle.refusals.specs.Refusals.{must, value_too_large, disagrees, erased}
use Rattle.combinatorics.specs.Lists.{all_below}
use Rattle.combinatorics.specs.Stretch.{tabulate, members}
use Rattle.combinatorics.proofs.Cases.{by_le, eqb-true, eqb-false}
use Rattle.combinatorics.proofs.Lists.{map_below}
use Rattle.combinatorics.proofs.Members.{flat-map}
use Rattle.combinatorics.proofs.Stretch.{same}
use Rattle.cells.specs.Cells.{message, pick}
use Rattle.cells.specs.Codec.{LeadsTo, accepted, refused}
use Rattle.cells.specs.Digits.{spell, places}
use Rattle.cells.specs.Erasures.{found_bound, has_erasure}
use Rattle.cells.specs.Plan.{kind_in}
use Rattle.cells.proofs.Cells.{length-pick, pick-below}
use Rattle.cells.proofs.Cut.{piece-next}
use Rattle.cells.proofs.Codec.{not-accepted}
use Rattle.cells.proofs.Digits.{Spelled, spell-value, heads-spelled}
use Rattle.cells.proofs.Erasures.{whole_below}
use Rattle.cells.proofs.Plan.{neither, read-agrees}
use Rattle.cells.specs.Round.{next}
use Rattle.construction_b.specs.Figures.{LongParams, parts, head_of, part_len, index_tail_of}
use Rattle.construction_b.specs.Writing.{last_of, burst_part, index_part, end_offset, frame, plan, word_from}
use Rattle.construction_b.specs.Reading.{looks_fixed, index_found, before, first_symbols, written, end_at, read_part, read_from, read}
use Rattle.construction_b.specs.DemandTwo.{construction_b}
use Rattle.construction_b.proofs.Figures.{Served, part-rises, part_end, start-placed}
use Rattle.construction_b.proofs.Plan.{only_one, in-part, framed, message-cells}
use Rattle.construction_b.proofs.Pattern.{Found, found-is, before-lt, next-before, third}

module _ (f : LongParams) (ok : Served f) (w : List ℕ) (small : (x : ℕ) → get_or w x 0 < found_bound f.q) where
  -- the run that ends as far into the part before the one found as that spells
  module _ (i : ℕ) (found : Found (looks_fixed f w) i) (whole : has_erasure f.q (first_symbols f w i) ≡ false) (below : written f w i < part_len f (before i))
      (from : f.b ≤ end_at f (before i) (written f w i)) where
    start : ℕ
    start = end_at f (before i) (written f w i) - f.b

    last-is : last_of f start ≡ head_of f (before i) + written f w i
    unfolding start end_at
    last-is = omega (arith, from, ok.range.b-least)

    inside : start + f.b ≤ f.n
    unfolding start end_at
    inside = omega (arith, from, piece-next f.n parts (before i), part-rises f (suc (before i)) parts (before-lt i found.below), part_end f)

    burst-is : burst_part f start ≡ before i
    unfolding burst_part
    burst-is =
        rw last-is (in-part f (before i) (head_of f (before i) + written f w i) (before-lt i found.below) (omega arith)
        (omega (arith, piece-next f.n parts (before i))))

    index_is : index_part f start ≡ i
    unfolding index_part
    index_is = rw burst-is (next-before i found.below)

    offset-is : end_offset f start ≡ written f w i
    unfolding end_offset
    offset-is = rw (burst-is, last-is) (omega arith)

    heads : List ℕ
    heads = first_symbols f w i

    heads-below : all_below f.q heads ≡ true
    unfolding heads flat_map
    heads-below =
        let g : ℕ → ℕ = λ x. get_or w x 0 in
        let found_below : all_below (found_bound f.q) (flat_map (λ k. tabulate (suc (index_tail_of f)) (head_of f k) g) (i ∷ [])) ≡ true =
        rw (flat-map g (suc (index_tail_of f)) (head_of f) (i ∷ []))
        (map_below (found_bound f.q) g small (flat_map (λ k. tabulate (suc (index_tail_of f)) (head_of f k) same) (i ∷ []))) in
        whole_below f.q heads (rw (append-nil heads) at found_below) whole

    digits : spell f.q (places 1 (index_tail_of f)) (end_offset f start) ≡ heads
    unfolding heads written flat_map looks_fixed
    digits =
        let h : get_or w (head_of f i) 0 ≢ 0 = eqb-false (get_or w (head_of f i) 0) 0 found.index in
        let sp : Spelled f.q (places 1 (index_tail_of f)) heads =
        rw (append-nil heads) at (heads-spelled f.q (index_tail_of f) (head_of f) (λ x. get_or w x 0) (i ∷ []) (rw (append-nil heads) heads-below) (h, tt)) in
        ap (spell f.q (places 1 (index_tail_of f))) offset-is ∙ spell-value f.q (places 1 (index_tail_of f)) heads sp

    zeros : (k : ℕ) → k < parts → (not (eqb (index_part f start) k) && not (eqb (burst_part f start) k)) ≡ true → get_or w (head_of f k) 0 ≡ 0
    unfolding looks_fixed
    zeros k l t =
        let u = neither (eqb (index_part f start) k) (eqb (burst_part f start) k) t in
        let e : k ≡ next parts i = third i k found.below l (rw index_is at u.0) (rw burst-is at u.1) in
        rw e (eqb-true (get_or w (head_of f (next parts i)) 0) 0 found.fixed)

    accepts : has_erasure f.q (pick message (plan f start) w) ≡ false → LeadsTo (construction_b f) w (start ∷ []) (pick message (plan f start) w)
    unfolding plan word_from heads flat_map
    accepts clear =
        let g = frame f start in
        let same : flat_map (λ k. tabulate (suc (index_tail_of f)) (head_of f k) (λ x. get_or w x 0)) (members parts 0 (eqb (index_part f start))) ≡ heads =
        rw (index_is, only_one i found.below) (append-nil heads) in
        record {
          placement = start-placed f start inside;
          count = length-pick message f.n (kind_in g) w ∙ message-cells f ok start inside;
          symbols = whole_below f.q (pick message (plan f start) w) (pick-below message f.n (kind_in g) w (found_bound f.q) small) clear;
          outside = λ x l out. rw digits (rw same at (read-agrees g (framed f ok start inside) w zeros x l out));
        }

  -- what was accepted passed every test
  module _ (ss ms : List ℕ) (i : ℕ) (found : Found (looks_fixed f w) i) where
    past-message : (b : Bool) (whole : has_erasure f.q (first_symbols f w i) ≡ false) (below : written f w i < part_len f (before i))
        (from : f.b ≤ end_at f (before i) (written f w i)) → has_erasure f.q (pick message (plan f (end_at f (before i) (written f w i) - f.b)) w) ≡ b
        → must (not b) (refused erased) (accepted ((end_at f (before i) (written f w i) - f.b) ∷ [])
        (pick message (plan f (end_at f (before i) (written f w i) - f.b)) w)) ≡ accepted ss ms
        → LeadsTo (construction_b f) w ss ms
    unfolding start
    past-message true whole below from c e = not-accepted e
    past-message false whole below from c e =
        let s = end_at f (before i) (written f w i) - f.b in
        let e₁ : (s ∷ []) ≡ ss = cc in
        let e₂ : pick message (plan f s) w ≡ ms = cc in
        rw (e₂, e₁) at (accepts i found whole below from c)

    past_index : (b : Bool) → has_erasure f.q (first_symbols f w i) ≡ b
        → must (not b) (refused erased) (read_part f w (before i) (written f w i)) ≡ accepted ss ms
        → LeadsTo (construction_b f) w ss ms
    unfolding read_part
    past_index true h = λ e. not-accepted e
    past_index false h =
        let v = written f w i in
        let e = before i in
        let s = end_at f e v - f.b in
        let ms' = pick message (plan f s) w in
        let last = must (not (has_erasure f.q ms')) (refused erased) (accepted (s ∷ []) ms') in
        by_le (suc v) (part_len f e)
        (λ t. must t (refused value_too_large) (must (leb f.b (end_at f e v)) (refused disagrees) last) ≡ accepted ss ms → LeadsTo (construction_b f) w ss ms)
        (λ l. by_le f.b (end_at f e v) (λ t. must t (refused disagrees) last ≡ accepted ss ms → LeadsTo (construction_b f) w ss ms)
        (λ g. past-message (has_erasure f.q ms') h l g refl) (λ _ a. not-accepted a))
        (λ _ a. not-accepted a)

  pub sound : (ss ms : List ℕ) → read f w ≡ accepted ss ms → LeadsTo (construction_b f) w ss ms
  unfolding read
  sound ss ms = go (index_found (looks_fixed f w)) (λ i e. found-is (looks_fixed f w) i e)
    where
      go : (o : Option ℕ) → ((i : ℕ) → o ≡ some i → Found (looks_fixed f w) i) → read_from f w o ≡ accepted ss ms → LeadsTo (construction_b f) w ss ms
      go none found = λ e. not-accepted e
      go (some i) found = past_index ss ms i (found i (λ _. some i)) (has_erasure f.q (first_symbols f w i)) refl
