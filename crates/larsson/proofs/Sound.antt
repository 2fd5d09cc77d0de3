-- A word that the reader accepts differs from the word of what it answers only inside the runs. Assumes nothing.
use mathlib.Core.Path.{◌≡◌, refl, sym, ap, ◌∙◌}
use mathlib.Core.Bool.{Bool, true, false, not, ◌&&◌, true≢false}
use mathlib.Core.List.{List}
use mathlib.Core.Option.{Option, none, some}
use Prim.Native.Nat.{ℕ, suc, ◌<◌}
use native.Mathlib.Omega.{arith}
use lib.ListN.{get_or}
use Rattle.refusals.specs.Refusals.{must, value_too_large, disagrees, erased}
use Rattle.combinatorics.specs.Majority.{is_value}
use Rattle.combinatorics.proofs.Bursts.{rank-of-starts}
use Rattle.combinatorics.proofs.Cases.{by_le, by_bool}
use Rattle.combinatorics.proofs.Majority.{value-is}
use Rattle.combinatorics.proofs.Members.{member-each, flat-same}
use Rattle.combinatorics.proofs.Stretch.{has_some}
use Rattle.cells.specs.Cells.{digit, message, weave, pick}
use Rattle.cells.specs.Codec.{accepted, refused}
use Rattle.cells.specs.Digits.{spell}
use Rattle.cells.specs.Erasures.{found_bound, has_erasure}
use Rattle.cells.proofs.Cells.{length-pick, pick-below, Clean, at-clean, clean-agrees, agree_at}
use Rattle.cells.proofs.Codec.{not-accepted}
use Rattle.cells.proofs.Erasures.{whole_below}
use Rattle.cells.proofs.Figures.{Accepted}
use Rattle.cells.specs.Figures.{Params, placement_count_of, placement_of}
use Rattle.larsson.specs.Figures.{sub_blocks, message_len_of}
use Rattle.larsson.specs.Writing.{bears, bearers, kind_at, plan, rank_places, rank_digits, digits, word}
use Rattle.larsson.specs.Reading.{sub_symbols, sub_value, found, agrees, read_value, read_from, read}
use Rattle.larsson.proofs.Figures.{Served}
use Rattle.larsson.proofs.Plan.{kind-burst, kind-fixed, messages-count}
use Rattle.larsson.proofs.SubBlocks.{found-value, digits_are}

module _ (f : Params) (ok : Served f) (w : List ℕ) (small : (x : ℕ) → get_or w x 0 < found_bound f.q) where
  -- each bearer has the value, where the sub-blocks agree
  held : (v : ℕ) (ss : List ℕ) → agrees f w v ss ≡ true → (i : ℕ) → i < sub_blocks f → bears f ss i ≡ true → sub_value f w i ≡ some v
  unfolding agrees
  held v ss a i l t =
      value-is v (sub_value f w i)
      (by_bool (is_value v (sub_value f w i)) (λ u. u)
      (λ u. absurd (true≢false (sym a
      ∙ ap not (has_some (sub_blocks f) 0 i (λ i. bears f ss i && not (is_value v (sub_value f w i))) (omega arith) (omega arith) (rw (t, u)))))))

  -- the placement of the value found, where that is below T, the sub-blocks agree and the message is heard
  kernel : (v : ℕ) → v < placement_count_of f → agrees f w v (placement_of f v) ≡ true → has_erasure f.q (pick message (plan f (placement_of f v)) w) ≡ false
      → Accepted f (message_len_of f) (word f) w (placement_of f v) (pick message (plan f (placement_of f v)) w)
  unfolding word plan message_len_of digits rank_digits bearers
  kernel v l a heard =
      let ss = placement_of f v in
      let n = f.n in
      let s = rank-of-starts f.n f.m f.b ok.range.b-least ok.total v l in
      let each = member-each (λ i. sub_symbols f w i ≡ rank_digits f ss) (sub_blocks f) 0 (bears f ss)
      (λ i _ k t. found-value f w small i v (held v ss a i (omega arith) t) ∙ ap (spell f.q (rank_places f)) (sym s.rank)) in
      let picked : digits f ss ≡ pick digit (plan f ss) w = sym (flat-same (sub_symbols f w) (λ _. rank_digits f ss) (bearers f ss) each)
      ∙ digits_are f w ok ss in
      let clean : Clean (plan f ss) w = at-clean n 0 (kind_at f ss) w (λ x _ _ c. absurd (true≢false (sym c ∙ kind-fixed f ss x))) in
      record {
        placed = s.placed;
        count = s.count;
        message = omega (arith, length-pick message n (kind_at f ss) w, messages-count f ok ss s.placed s.count);
        symbols = whole_below f.q (pick message (plan f ss) w) (pick-below message n (kind_at f ss) w (found_bound f.q) small) heard;
        outside = λ x lx out.
            rw picked (agree_at n 0 x (kind_at f ss) w (weave (plan f ss) (pick digit (plan f ss) w) (pick message (plan f ss) w))
            (clean-agrees (plan f ss) w clean)
            (omega arith) (omega arith) (kind-burst f ss x ∙ out));
      }

  pub sound : (ss ms : List ℕ) → read f w ≡ accepted ss ms → Accepted f (message_len_of f) (word f) w ss ms
  unfolding read read_value
  sound ss ms = go (found f w)
    where
      in-full : (v : ℕ) (a b : Bool) → v < placement_count_of f → agrees f w v (placement_of f v) ≡ a
          → has_erasure f.q (pick message (plan f (placement_of f v)) w) ≡ b
          → must a (refused disagrees) (must (not b) (refused erased) (accepted (placement_of f v) (pick message (plan f (placement_of f v)) w))) ≡ accepted ss ms
          → Accepted f (message_len_of f) (word f) w ss ms
      in-full v false b l c d e = not-accepted e
      in-full v true true l c d e = not-accepted e
      in-full v true false l c d e =
          let e₁ : placement_of f v ≡ ss = cc in
          let e₂ : pick message (plan f (placement_of f v)) w ≡ ms = cc in
          rw (e₂, e₁) at (kernel v l c d)

      go : (o : Option ℕ) → read_from f w o ≡ accepted ss ms → Accepted f (message_len_of f) (word f) w ss ms
      go none = λ e. not-accepted e
      go (some v) =
          let ms' = pick message (plan f (placement_of f v)) w in
          by_le (suc v) (placement_count_of f)
          (λ t. must t (refused value_too_large) (must (agrees f w v (placement_of f v)) (refused disagrees)
          (must (not (has_erasure f.q ms')) (refused erased) (accepted (placement_of f v) ms')))
          ≡ accepted ss ms → Accepted f (message_len_of f) (word f) w ss ms)
          (λ l. in-full v (agrees f w v (placement_of f v)) (has_erasure f.q ms') l refl refl) (λ _ e. not-accepted e)
