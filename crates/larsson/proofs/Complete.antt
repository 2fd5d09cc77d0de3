-- A word that differs from a written one only inside the runs reads back. Assumes nothing.
use mathlib.Core.Path.{◌≡◌, refl, sym, ap, ◌∙◌}
use mathlib.Core.Bool.{true, false, not, ◌&&◌}
use mathlib.Core.List.{List, [], flat_map}
use mathlib.Core.Option.{some}
use Prim.Native.Nat.{ℕ, suc, ◌+◌, ◌*◌, ◌≤◌, ◌<◌}
use native.Mathlib.Omega.{arith}
use lib.ListN.{length, get_or, length-replicate}
use Rattle.combinatorics.specs.Bursts.{in_burst}
use Rattle.combinatorics.specs.Lists.{all_below}
use Rattle.combinatorics.specs.Majority.{is_value, common}
use Rattle.combinatorics.specs.Stretch.{count}
use Rattle.combinatorics.proofs.Bursts.{Placed, rank_lt, starts-of-rank}
use Rattle.combinatorics.proofs.Cases.{by_bool, leb-holds}
use Rattle.combinatorics.proofs.Majority.{is-value, majority-is}
use Rattle.combinatorics.proofs.Members.{each_member, same-flat, length-flat}
use Rattle.combinatorics.proofs.Stretch.{has-none, count-mono}
use Rattle.cells.specs.Cells.{digit, message, pick}
use Rattle.cells.specs.Codec.{accepted}
use Rattle.cells.specs.Digits.{span}
use Rattle.cells.proofs.Cells.{pick-agrees, length-pick, digits-woven, message-woven}
use Rattle.cells.specs.Erasures.{has_erasure}
use Rattle.cells.proofs.Erasures.{below-whole}
use Rattle.cells.proofs.Digits.{length-spell}
use Rattle.cells.specs.Figures.{Params, placement_count_of, rank}
use Rattle.larsson.specs.Figures.{sub_len_of, sub_blocks}
use Rattle.larsson.specs.Writing.{bears, bearers, kind_at, plan, rank_places, rank_digits, digits, word}
use Rattle.larsson.specs.Reading.{sub_symbols, sub_value, found, agrees, read_value, read}
use Rattle.larsson.proofs.Figures.{Served, span-room}
use Rattle.larsson.proofs.Plan.{bearer-count, bearers-many, kind-burst, digit-count, messages-count}
use Rattle.larsson.proofs.SubBlocks.{length_symbols, value_found, digits_are}

pub length-rank : (f : Params) (ss : List ℕ) → length (rank_digits f ss) ≡ sub_len_of f
unfolding rank_digits
length-rank f ss = length-spell f.q (rank_places f) (rank f ss) ∙ length-replicate (sub_len_of f) _

module _ (f : Params) (ok : Served f) (ss : List ℕ) (h : Placed f.b f.n 0 ss) (e : length ss ≡ f.m) where
  pub rank_below : rank f ss < placement_count_of f
  rank_below = rank_lt f.n f.m f.b ok.range.b-least ss h e

  pub rank-spelled : rank f ss < span f.q (rank_places f)
  rank-spelled = omega (arith, rank_below, span-room f ok)

  pub length_digits : length (digits f ss) ≡ suc f.m * sub_len_of f
  unfolding digits
  length_digits = length-flat (sub_len_of f) (λ _. rank_digits f ss) (bearers f ss) (λ _. length-rank f ss) ∙ ap (λ (y : ℕ). y * sub_len_of f) (bearers-many f ok ss e)

  -- a word that agrees with the written one outside the runs
  module _ (ms w : List ℕ) (k : length ms + f.m * f.b + suc f.m * sub_len_of f ≡ f.n) (symbols : all_below f.q ms ≡ true)
      (outside : (x : ℕ) → x < f.n → in_burst f.b ss x ≡ false → get_or w x 0 ≡ get_or (word f ss ms) x 0) where
    digits-read : flat_map (sub_symbols f w) (bearers f ss) ≡ digits f ss
    unfolding word plan
    digits-read =
        digits_are f w ok ss
        ∙ pick-agrees digit f.n (kind_at f ss) w (word f ss ms) refl (λ x l c. outside x l (sym (kind-burst f ss x) ∙ c))
        ∙ digits-woven (plan f ss) (digits f ss) ms (length_digits ∙ sym (digit-count f ok ss h e) ∙ sym (length-pick digit f.n (kind_at f ss) []))

    message-read : pick message (plan f ss) w ≡ ms
    unfolding word plan
    message-read =
        pick-agrees message f.n (kind_at f ss) w (word f ss ms) refl (λ x l c. outside x l (sym (kind-burst f ss x) ∙ c))
        ∙ message-woven (plan f ss) (digits f ss) ms (omega (arith, messages-count f ok ss h e, length-pick message f.n (kind_at f ss) []))

    -- each bearer has the rank
    borne : (i : ℕ) → i < sub_blocks f → bears f ss i ≡ true → is_value (rank f ss) (sub_value f w i) ≡ true
    unfolding digits rank_digits bearers
    borne i l t =
        let each = same-flat (sub_symbols f w) (λ _. rank_digits f ss) (bearers f ss) (λ j. length_symbols f w j ∙ sym (length-rank f ss)) digits-read in
        is-value (rank f ss) (sub_value f w i)
        (value_found f w i (rank f ss) rank-spelled (each_member (λ j. sub_symbols f w j ≡ rank_digits f ss) (sub_blocks f) 0 (bears f ss) each i (omega arith)
        (omega arith) t))

    -- so that the rank is found
    found-rank : found f w ≡ some (rank f ss)
    unfolding found common
    found-rank =
        let enough : suc f.m ≤ count (sub_blocks f) 0 (λ i. is_value (rank f ss) (sub_value f w i)) =
        omega (
          arith,
          bearer-count f ok ss e,
          count-mono (sub_blocks f) 0 (bears f ss) (λ i. is_value (rank f ss) (sub_value f w i))
              (λ i _ l. borne i (omega arith)),
        ) in
        majority-is (sub_blocks f) (suc f.m) (sub_value f w) (omega arith) (omega arith) (rank f ss)
        (leb-holds (suc f.m) (count (sub_blocks f) 0 (λ i. is_value (rank f ss) (sub_value f w i))) enough)

    agreed : agrees f w (rank f ss) ss ≡ true
    unfolding agrees
    agreed =
        ap not (has-none (sub_blocks f) 0 (λ i. bears f ss i && not (is_value (rank f ss) (sub_value f w i)))
        (λ i _ l. by_bool (bears f ss i) (λ t. rw (t, borne i (omega arith) t)) (λ t. rw t)))

    heard : has_erasure f.q ms ≡ false
    heard = below-whole f.q ms symbols

    pub complete : read f w ≡ accepted ss ms
    unfolding read read_value
    complete =
        rw (
          found-rank,
          starts-of-rank f.n f.m f.b ok.range.b-least ss h e,
          leb-holds (suc (rank f ss)) (placement_count_of f) rank_below,
          agreed,
          message-read,
          heard,
        )
