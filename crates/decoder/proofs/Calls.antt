-- That the reader answers as the definitions do, refusal by refusal. Assumes nothing.
use mathlib.Core.Path.{◌≡◌, refl, sym, ap, ◌∙◌}
use mathlib.Core.Logic.{◌≢◌}
use mathlib.Core.Bool.{true, false, not, ◌&&◌}
use mathlib.Core.List.{List}
use Prim.Native.Nat.{ℕ, suc, ◌≤◌, ◌<◌}
use native.Mathlib.Omega.{arith}
use lib.Dec.{eqb}
use lib.ListN.{length}
use Rattle.refusals.specs.Refusals.{must, wrong_length, bad_symbol, value_too_large, disagrees, erased}
use Rattle.combinatorics.specs.Lists.{all_below}
use Rattle.combinatorics.proofs.Cases.{by-eq, by_bool, leb-holds, leb-fails, eqb_same, eqb-other}
use Rattle.cells.specs.Cells.{Cell, message, pick}
use Rattle.cells.specs.Codec.{Reading, accepted, refused, ReadsExactly}
use Rattle.cells.specs.Erasures.{found_bound, has_erasure}
use Rattle.cells.specs.Outcomes.{Coding, Held, held, unserved, figures_under, rank_is, refusal, Decoded, unread, decoded_from, decode_under}
use Rattle.cells.proofs.Outcomes.{refused-alike}
use Rattle.construction_a.specs.DemandTwo.{IndexRead}
use Rattle.cells.specs.Figures.{Params, is_placement, placement_count_of, placement_of}
use Rattle.construction_a.specs.Outcomes.{coding}
use Rattle.construction_a.specs.Reading.{written, agrees, read_rank, read}
use Rattle.cells.proofs.Figures.{placed-starts}
use Rattle.construction_a.proofs.Ranking.{rank-bijection}
use Rattle.params.specs.declared.Layout.{Layout}
use Rattle.params.specs.declared.Spells.{Spells}
use Rattle.params.specs.declared.Spells.TheVariants.{Rank, EndOffset}
use Rattle.params.specs.Given.{figures_of, coding_with, blocks_coding, LayoutFits}
use Rattle.params.proofs.Fitting.{served, shaped, plan-is}
use Rattle.placements.specs.declared.Placement.{Placement}
use Rattle.placements.specs.Bridge.{held_as, PlacesBursts}
use Rattle.placements.proofs.Calls.{starts-held}
use Rattle.decoder.specs.Reader.{read_message}

module _ (d : Coding) (w out : List ℕ) where
  -- 1 and 2, with the number that the figures have alone
  pub decode-unfit : (a : ℕ) → figures_under d ≡ unserved a → decode_under d w out ≡ unread out a
  decode-unfit a e =
      let c = d.codec in
      refused-alike d a (unread out)
      (must (eqb (length w) c.word_len && eqb (length out) c.message_len_of) (unread out wrong_length)
      (must (all_below c.found_bound w) (unread out bad_symbol)
      (decoded_from d.burst_len out (c.decode w)))) e

  module _ (range : d.in_range ≡ true) (fit : d.fits ≡ true) where
    -- 3, for the word and for the buffer
    pub decode-short : length w ≢ d.codec.word_len → decode_under d w out ≡ unread out wrong_length
    decode-short size = rw (range, fit, eqb-other (length w) d.codec.word_len size)

    module _ (whole : length w ≡ d.codec.word_len) where
      pub decode-room : length out ≢ d.codec.message_len_of → decode_under d w out ≡ unread out wrong_length
      decode-room size = rw (range, fit, eqb_same (length w) d.codec.word_len whole, eqb-other (length out) d.codec.message_len_of size)

      module _ (room : length out ≡ d.codec.message_len_of) where
        -- 4
        pub decode-symbol : all_below d.codec.found_bound w ≡ false → decode_under d w out ≡ unread out bad_symbol
        decode-symbol e = rw (range, fit, eqb_same (length w) d.codec.word_len whole, eqb_same (length out) d.codec.message_len_of room, e)

        pub decode-read : all_below d.codec.found_bound w ≡ true → decode_under d w out ≡ decoded_from d.burst_len out (d.codec.decode w)
        decode-read e = rw (range, fit, eqb_same (length w) d.codec.word_len whole, eqb_same (length out) d.codec.message_len_of room, e)

-- the test for 4, by the layout's own numbers
pub found_in : (l : Layout) (w : List ℕ) → all_below (blocks_coding l).codec.found_bound w ≡ all_below (found_bound l.q) w
found_in l w = go l.spells
  where
    go : (s : Spells) → all_below (coding_with s (figures_of l)).codec.found_bound w ≡ all_below (found_bound l.q) w
    go Rank = refl
    go EndOffset = refl

-- ---- Construction A: 8, 9, or what is left once the placement is known

module _ (f : Params) (w ks : List ℕ) where
  pub too_large : placement_count_of f ≤ written f w ks → read_rank f w ks (written f w ks) ≡ refused value_too_large
  unfolding read_rank
  too_large l = rw (leb-fails (suc (written f w ks)) (placement_count_of f) (omega arith))

  pub disagreeing : (v : ℕ) → v < placement_count_of f → agrees f w ks (placement_of f v) ≡ false → read_rank f w ks v ≡ refused disagrees
  unfolding read_rank
  disagreeing v below e = rw (leb-holds (suc v) (placement_count_of f) below, e)

module _ (l : Layout) (g : LayoutFits l) where
  ranked-coding : blocks_coding l ≡ coding (figures_of l)
  ranked-coding = ap (λ (s : Spells). coding_with s (figures_of l)) g.laid.spells-is

  module _ (w ks : List ℕ) (v : ℕ) (below : v < placement_count_of (figures_of l)) where
    pub agreeing : agrees (figures_of l) w ks (placement_of (figures_of l) v) ≡ true
        → read_rank (figures_of l) w ks v ≡ read_message l w (placement_of (figures_of l) v)
    unfolding read_rank
    agreeing e =
        let ss = placement_of (figures_of l) v in
        rw (leb-holds (suc v) (placement_count_of (figures_of l)) below, e)
        (ap (λ (p : List Cell). let ms = pick message p w in must (not (has_erasure l.q ms)) (refused erased) (accepted ss ms)) (sym (plan-is l g ss)))

  pub ranked-read : (w ks : List ℕ) (v : ℕ) → IndexRead (figures_of l) w ks → v ≡ written (figures_of l) w ks
      → (blocks_coding l).codec.decode w ≡ read_rank (figures_of l) w ks v
  unfolding read
  ranked-read w ks v i e = ap (λ (d : Coding). d.codec.decode w) ranked-coding ∙ rw (i.pattern, i.whole, e)

-- the placement of a rank
pub placing : (l : Layout) (v : ℕ) (p : Placement) → LayoutFits l → v < placement_count_of (figures_of l) → held_as p ≡ held (placement_of (figures_of l) v)
    → PlacesBursts l p
placing l v p g below e =
    let f = figures_of l in
    let ss = placement_of f v in
    let valid = (rank-bijection f (served l g)).placed v below in
    record {
      layout = shaped l g;
      count = ap (λ (h : Held). h.count) e ∙ (placed-starts f ss valid).1;
      placed = ap (is_placement f) (starts-held ss e) ∙ valid;
    }

-- ---- An accepted word has a placement of m starts

refused-not : {P : Type 0} (out : List ℕ) (d : Decoded) (a v : ℕ) → d ≡ unread out a → d.answer ≡ rank_is v → P
refused-not out d a v e r =
    absurd (let x : refusal a ≡ rank_is v = sym (ap (λ (d : Decoded). d.answer) e) ∙ r in let z : ◌≡◌ {A = ℕ} 0 1 = cc in omega arith)

module _ (d : Coding) (Listed : List ℕ → ℕ → Type 0) (reads : ReadsExactly d.codec Listed)
    (counts : (ss : List ℕ) → d.codec.placed ss ≡ true → length ss ≡ d.bursts)
    (range : d.in_range ≡ true) (fit : d.fits ≡ true) (w out : List ℕ) (v : ℕ) (r : (decode_under d w out).answer ≡ rank_is v) where
  pub counts-under : (decode_under d w out).placement.count ≡ d.bursts
  counts-under =
      by-eq (length w) d.codec.word_len (λ _. o.placement.count ≡ d.bursts)
      (λ whole. by-eq (length out) d.codec.message_len_of (λ _. o.placement.count ≡ d.bursts)
      (λ room. by_bool (all_below d.codec.found_bound w) (λ low. at whole low (decode-read d w out range fit whole room low))
      (λ high. refused-not out o bad_symbol v (decode-symbol d w out range fit whole room high) r))
      (λ other. refused-not out o wrong_length v (decode-room d w out range fit whole other) r))
      (λ other. refused-not out o wrong_length v (decode-short d w out range fit other) r)
    where
      o : Decoded
      o = decode_under d w out

      at : length w ≡ d.codec.word_len → all_below d.codec.found_bound w ≡ true → o ≡ decoded_from d.burst_len out (d.codec.decode w)
          → o.placement.count ≡ d.bursts
      at whole low e = go (d.codec.decode w) refl
        where
          go : (x : Reading) → d.codec.decode w ≡ x → o.placement.count ≡ d.bursts
          go (accepted ss ms) g =
              let l = (reads.exactly w ss ms (record { complete = whole; symbols = low })).0 g in
              ap (λ (o : Decoded). o.placement.count) (e ∙ ap (decoded_from d.burst_len out) g) ∙ counts ss l.placement
          go (refused a) g = refused-not out o a v (e ∙ ap (decoded_from d.burst_len out) g) r
