-- A word that the reader accepts differs from the word of what it answers only inside the bursts. Assumes nothing.
use mathlib.Core.Path.{◌≡◌, refl, sym, ap, ◌∙◌}
use mathlib.Core.Logic.{◌≢◌}
use mathlib.Core.Bool.{Bool, true, false, not, ◌&&◌, true≢false}
use mathlib.Core.List.{List, [], ◌∷◌}
use mathlib.Core.Option.{Option, none, some}
use Prim.Native.Nat.{ℕ, suc, ◌*◌, ◌<◌}
use native.Mathlib.Omega.{arith}
use lib.ListN.{length, get_or}
use Rattle.refusals.specs.Refusals.{must, disagrees, value_too_large, erased}
use Rattle.combinatorics.specs.Lists.{same_list}
use Rattle.combinatorics.specs.Stretch.{has}
use Rattle.combinatorics.proofs.Bursts.{rank-of-starts}
use Rattle.combinatorics.proofs.Cases.{by_le, by_bool, eqb-true, eqb-false}
use Rattle.combinatorics.proofs.Lists.{both, list_same}
use Rattle.combinatorics.proofs.Members.{Each}
use Rattle.combinatorics.proofs.Stretch.{has_some}
use Rattle.cells.specs.Cells.{message, pick}
use Rattle.cells.specs.Codec.{accepted, refused}
use Rattle.cells.specs.Digits.{spell, places}
use Rattle.cells.specs.Erasures.{found_bound, has_erasure}
use Rattle.cells.proofs.Cells.{length-pick}
use Rattle.cells.proofs.Codec.{not-accepted}
use Rattle.cells.proofs.Digits.{Spelled, spell-value, heads-spelled}
use Rattle.cells.proofs.Erasures.{whole_below}
use Rattle.cells.proofs.Plan.{read-agrees}
use Rattle.cells.proofs.Figures.{Accepted}
use Rattle.cells.specs.Figures.{Params, placement_count_of, rank, placement_of}
use Rattle.construction_a.specs.Figures.{parts, head_of, index_tail_of, message_len_of}
use Rattle.construction_a.specs.Writing.{index_blocks, is_fixed, frame, kind_at, plan, word}
use Rattle.construction_a.specs.Reading.{looks_fixed, index_found, first_symbols, written, agrees, read_rank, read_from, read}
use Rattle.construction_a.proofs.Found.{heads-below, message-below}
use Rattle.construction_a.proofs.Figures.{Served}
use Rattle.construction_a.proofs.Pattern.{taken-bare}
use Rattle.construction_a.proofs.Plan.{index-blocks, framed, messages-count}
use Rattle.construction_a.proofs.Rule.{not-true}

-- blocks that do not look F start with a symbol other than 0
not-zero : (f : Params) (w ks : List ℕ) → Each (λ k. not (looks_fixed f w k) ≡ true) ks → Each (λ k. get_or w (head_of f k) 0 ≢ 0) ks
unfolding looks_fixed
not-zero f w [] h = tt
not-zero f w (k ∷ ks) h = (eqb-false (get_or w (head_of f k) 0) 0 (not-true (looks_fixed f w k) h.0), not-zero f w ks h.1)

module _ (f : Params) (ok : Served f) (w : List ℕ) (small : (x : ℕ) → get_or w x 0 < found_bound f.q) where
  -- the placement of the value read, where that is below T, the blocks agree and no erasure was read
  kernel : (ks : List ℕ) → index_found (parts f) f.m (looks_fixed f w) ≡ some ks → has_erasure f.q (first_symbols f w ks) ≡ false
      → written f w ks < placement_count_of f
      → agrees f w ks (placement_of f (written f w ks)) ≡ true → has_erasure f.q (pick message (plan f (placement_of f (written f w ks))) w) ≡ false
      → Accepted f (message_len_of f) (word f) w (placement_of f (written f w ks)) (pick message (plan f (placement_of f (written f w ks))) w)
  unfolding agrees first_symbols word plan kind_at written message_len_of index_blocks is_fixed looks_fixed
  kernel ks found whole l a clear =
      let v = written f w ks in
      let ss = placement_of f v in
      let s = rank-of-starts f.n f.m f.b ok.long ok.total v l in
      let n = f.n in
      let ps = places f.m (index_tail_of f) in
      let I = index_blocks f ss in
      let ag = both (same_list I ks) (not (has (parts f * f.m) 0 (λ k. is_fixed f ss k && not (looks_fixed f w k)))) a in
      let same-I : I ≡ ks = list_same I ks ag.0 in
      let lk : length ks ≡ f.m = sym (ap length same-I) ∙ index-blocks f ok.range ss s.placed s.count in
      let sp : Spelled f.q ps (first_symbols f w ks) =
      rw lk at (heads-spelled f.q (index_tail_of f) (head_of f) (λ x. get_or w x 0) ks
      (whole_below f.q (first_symbols f w ks) (heads-below (index_tail_of f) f (found_bound f.q) w ks small) whole)
      (not-zero f w ks (taken-bare (parts f) f.m (looks_fixed f w) ks found))) in
      let spelled : spell f.q ps (rank f ss) ≡ first_symbols f w ks = ap (spell f.q ps) s.rank ∙ spell-value f.q ps (first_symbols f w ks) sp in
      let digits : spell f.q ps (rank f ss) ≡ first_symbols f w I = spelled ∙ ap (first_symbols f w) (sym same-I) in
      let zeros : (k : ℕ) → k < parts f * f.m → is_fixed f ss k ≡ true → get_or w (head_of f k) 0 ≡ 0 =
      λ k lk t. by_bool (looks_fixed f w k) (λ u. eqb-true (get_or w (head_of f k) 0) 0 u)
      (λ u. absurd
      (true≢false (sym ag.1 ∙ ap not (has_some (parts f * f.m) 0 k (λ k. is_fixed f ss k && not (looks_fixed f w k)) (omega arith) (omega arith)
      (rw (t, u)))))) in
      record {
        placed = s.placed;
        count = s.count;
        message = omega (arith, length-pick message n (kind_at f ss) w, messages-count f ok ss s.placed s.count);
        symbols = whole_below f.q (pick message (plan f ss) w) (message-below f (found_bound f.q) w ss small) clear;
        outside = λ x lx out. rw digits (read-agrees (frame f ss) (framed f ok ss s.placed s.count) w zeros x lx out);
      }

  -- what was accepted passed every test
  module _ (ss ms ks : List ℕ) (found : index_found (parts f) f.m (looks_fixed f w) ≡ some ks) where
    v : ℕ
    v = written f w ks

    at : List ℕ
    at = placement_of f v

    taken : List ℕ
    taken = pick message (plan f at) w

    past-message : (b : Bool) → has_erasure f.q (first_symbols f w ks) ≡ false → v < placement_count_of f → agrees f w ks at ≡ true → has_erasure f.q taken ≡ b
        → must (not b) (refused erased) (accepted at taken) ≡ accepted ss ms → Accepted f (message_len_of f) (word f) w ss ms
    unfolding v at taken
    past-message true h l a c e = not-accepted e
    past-message false h l a c e =
        let e₁ : placement_of f (written f w ks) ≡ ss = cc in
        let e₂ : pick message (plan f (placement_of f (written f w ks))) w ≡ ms = cc in
        rw (e₂, e₁) at (kernel ks found h l a c)

    past-blocks : (b : Bool) → has_erasure f.q (first_symbols f w ks) ≡ false → v < placement_count_of f → agrees f w ks at ≡ b
        → must b (refused disagrees) (must (not (has_erasure f.q taken)) (refused erased) (accepted at taken)) ≡ accepted ss ms
        → Accepted f (message_len_of f) (word f) w ss ms
    past-blocks true h l a e = past-message (has_erasure f.q taken) h l a refl e
    past-blocks false h l a e = not-accepted e

    past_index : (b : Bool) → has_erasure f.q (first_symbols f w ks) ≡ b → must (not b) (refused erased) (read_rank f w ks v) ≡ accepted ss ms
        → Accepted f (message_len_of f) (word f) w ss ms
    unfolding read_rank v at taken
    past_index true h = λ e. not-accepted e
    past_index false h =
        by_le (suc (written f w ks)) (placement_count_of f)
        (λ t. must t (refused value_too_large)
        (must (agrees f w ks at) (refused disagrees) (must (not (has_erasure f.q taken)) (refused erased) (accepted at taken))) ≡ accepted ss ms
        → Accepted f (message_len_of f) (word f) w ss ms)
        (λ l. past-blocks (agrees f w ks at) h l refl) (λ _ e. not-accepted e)

  pub sound : (ss ms : List ℕ) → read f w ≡ accepted ss ms → Accepted f (message_len_of f) (word f) w ss ms
  unfolding read v
  sound ss ms = go (index_found (parts f) f.m (looks_fixed f w)) refl
    where
      go : (o : Option (List ℕ)) → index_found (parts f) f.m (looks_fixed f w) ≡ o → read_from f w o ≡ accepted ss ms
          → Accepted f (message_len_of f) (word f) w ss ms
      go none found = λ e. not-accepted e
      go (some ks) found = past_index ss ms ks found (has_erasure f.q (first_symbols f w ks)) refl
