-- Altered message cells spoil their own symbols and nothing else. Assumes nothing.
use mathlib.Core.Path.{◌≡◌, refl, sym, ap, ap₂, ◌∙◌}
use mathlib.Core.Bool.{Bool, true, false, not, true≢false}
use mathlib.Core.List.{List, [], map}
use Prim.Native.Nat.{ℕ, suc, ◌*◌, ◌<◌}
use native.Mathlib.Omega.{arith}
use lib.Dec.{eqb}
use lib.ListN.{length, get_or, length-map}
use Rattle.combinatorics.specs.Bursts.{in_burst}
use Rattle.combinatorics.specs.Stretch.{members, tabulate}
use Rattle.combinatorics.proofs.Cases.{by_bool, eqb_same}
use Rattle.combinatorics.proofs.Lists.{below_at, some_below, at-below}
use Rattle.combinatorics.proofs.Stretch.{members-ext}
use Rattle.cells.specs.Cells.{Cell, burst, fixed, digit, message, is, weave, pick}
use Rattle.cells.specs.Codec.{Codec, Word, LeadsTo, Exact}
use Rattle.cells.specs.Digits.{spell, places}
use Rattle.cells.proofs.Cells.{Clean, pick_at, pick-alike, pick_small, length-pick, no-burst, digits-woven, message-woven, woven-clean, clean_at, at-clean}
use Rattle.cells.proofs.Cells.{clean-agrees, agree_at}
use Rattle.cells.proofs.Digits.{length-spell, length-places}
use Rattle.cells.proofs.Erasures.{found-least}
use Rattle.cells.specs.Plan.{kind_in}
use Rattle.cells.proofs.Plan.{kind-burst, digit-count as digits_in}
use Rattle.construction_a.specs.DemandTwo.{construction_a}
use Rattle.cells.specs.Figures.{Params, in_range, rank}
use Rattle.construction_a.specs.Figures.{fits, index_tail_of}
use Rattle.construction_a.specs.Writing.{frame, kind_at, plan, word}
use Rattle.cells.proofs.Figures.{placed-starts}
use Rattle.construction_a.proofs.Figures.{serve}
use Rattle.construction_a.proofs.Plan.{digit-count, message-cells}
use Rattle.construction_b.specs.DemandTwo.{construction_b}
use Rattle.construction_b.specs.Figures.{LongParams, in_range as in_range_b, fits as fits_b, index_tail_of as index_tail_b}
use Rattle.construction_b.specs.Writing.{start_in, index_part, end_offset, frame as frame_b, plan as plan_b, word_from}
use Rattle.construction_b.proofs.Figures.{serve as serve-b, placed-start}
use Rattle.construction_b.proofs.Plan.{count-one, index-lt, framed as framed-b, message-cells as message-cells-b}
use Rattle.params.specs.Bridge.{given, given_long}
use Rattle.codes.specs.Bridge.{coding_of}
use Rattle.codes.specs.declared.Figures.{Figures}
use Rattle.codes.specs.declared.Figures.TheVariants.{Ranked, Long, Larsson}
use Rattle.codes.proofs.Exact.{demand-two}
use Rattle.slips.specs.Slips.{differences, message_positions, Planned, Slips, Stays, SlipsStay, kind_under, HasPlan, SlipsStayIn}
use Rattle.slips.proofs.Kept.{kept-members, kept-places, at_map}
use Rattle.larsson.specs.DemandTwo.{larsson}
use Rattle.larsson.specs.Figures.{fits as fits_larsson}
use Rattle.larsson.specs.Writing.{kind_at as kind_larsson, plan as plan_larsson, digits as digits_larsson, word as word_larsson}
use Rattle.larsson.proofs.Figures.{serve as serve-larsson}
use Rattle.larsson.proofs.Plan.{kind-burst as burst-larsson, digit-count as digits-larsson, message-cells as message-larsson}
use Rattle.larsson.proofs.Complete.{length_digits}

-- a cell of one kind is of no other
other-kind : (kind c : Cell) → is kind message ≡ false → is kind c ≡ true → is message c ≡ false
other-kind kind burst h e = refl
other-kind kind fixed h e = refl
other-kind kind digit h e = refl
other-kind kind message h e = absurd (true≢false (sym e ∙ h))

module _ (c : Codec) (kind : List ℕ → ℕ → Cell) (digits : List ℕ → List ℕ) (planned : Planned c kind digits) (exact : Exact c)
    (starts ms w w' : List ℕ) (d : ℕ) (seen : Word c w) (l : LeadsTo c w starts ms) (s : Slips c (kind starts) w w' d) where
  n : ℕ
  n = c.word_len

  kd : ℕ → Cell
  kd = kind starts

  cells : List Cell
  cells = tabulate n 0 kd

  ms' : List ℕ
  ms' = pick message cells w'

  -- w agrees with the woven word at every cell that is in no burst
  agrees : (x : ℕ) → x < n → is burst (kd x) ≡ false → get_or w x 0 ≡ get_or (weave cells (digits starts) ms) x 0
  unfolding n kd cells
  agrees x lx e =
      l.outside x lx (sym (planned.bursts starts l.placement x) ∙ e) ∙ ap (λ (v : List ℕ). get_or v x 0) (planned.woven starts ms)

  message-there : pick message cells w ≡ ms
  unfolding n kd cells
  message-there =
      pick-alike message c.word_len (kind starts) w (weave (tabulate c.word_len 0 (kind starts)) (digits starts) ms)
      (λ x lx t. agrees x lx (no-burst message (kind starts x) refl t))
      ∙ message-woven (tabulate c.word_len 0 (kind starts)) (digits starts) ms
      (l.count ∙ sym (planned.message-cells starts l.placement) ∙ sym (length-pick message c.word_len (kind starts) []))

  digits-there : pick digit cells w' ≡ digits starts
  unfolding n kd cells
  digits-there =
      pick-alike digit c.word_len (kind starts) w' (weave (tabulate c.word_len 0 (kind starts)) (digits starts) ms)
      (λ x lx t. s.elsewhere x lx (other-kind digit (kind starts x) refl t) ∙ agrees x lx (no-burst digit (kind starts x) refl t))
      ∙ digits-woven (tabulate c.word_len 0 (kind starts)) (digits starts) ms
      (sym (planned.digit-cells starts l.placement) ∙ sym (length-pick digit c.word_len (kind starts) []))

  clean : Clean cells w'
  unfolding n kd cells
  clean =
      at-clean c.word_len 0 (kind starts) w'
      (λ x _ lx t.
      let k : x < c.word_len = omega arith in
      s.elsewhere x k (other-kind fixed (kind starts x) refl t)
      ∙ agrees x k (no-burst fixed (kind starts x) refl t)
      ∙ clean_at c.word_len 0 x (kind starts) (weave (tabulate c.word_len 0 (kind starts)) (digits starts) ms)
      (woven-clean (tabulate c.word_len 0 (kind starts)) (digits starts) ms) (omega arith) (omega arith) t)

  -- what is found now is the word of another message, spoilt in the same bursts
  leads : LeadsTo c w' starts ms'
  unfolding n kd cells ms'
  leads =
      record {
        placement = l.placement;
        count = length-pick message c.word_len (kind starts) w' ∙ planned.message-cells starts l.placement;
        symbols = pick_small message c.word_len (kind starts) w' c.alphabet s.symbols;
        outside = λ x lx out.
            rw (planned.woven starts (pick message (tabulate c.word_len 0 (kind starts)) w'), ← digits-there)
            (agree_at c.word_len 0 x (kind starts) w'
            (weave (tabulate c.word_len 0 (kind starts)) (pick digit (tabulate c.word_len 0 (kind starts)) w')
            (pick message (tabulate c.word_len 0 (kind starts)) w'))
            (clean-agrees (tabulate c.word_len 0 (kind starts)) w' clean) (omega arith) (omega arith) (planned.bursts starts l.placement x ∙ out));
      }

  pub found : Word c w'
  found =
      record {
        complete = s.complete;
        symbols = at-below c.found_bound w'
            (λ x lx.
            let k : x < c.word_len = omega (arith, s.complete) in
            by_bool (is message (kind starts x))
            (λ t. omega (arith, s.symbols x k t, planned.found))
            (λ t. rw (s.elsewhere x k t) (below_at c.found_bound w (some_below c.found_bound w seen.symbols (omega (arith, seen.complete)))
            seen.symbols x)));
      }

  -- the cells that differ
  differs : ℕ → Bool
  differs x = not (eqb (get_or w x 0) (get_or w' x 0))

  -- are message cells
  in-message : (x : ℕ) → x < c.word_len → differs x ≡ true → is message (kind starts x) ≡ true
  unfolding differs
  in-message x lx e =
      by_bool (is message (kind starts x)) (λ t. t)
      (λ t. absurd (true≢false (sym e ∙ ap not (eqb_same (get_or w x 0) (get_or w' x 0) (sym (s.elsewhere x lx t))))))

  -- message symbol i is what stands at the message position with number i
  positions : List ℕ
  positions = members c.word_len 0 (λ x. is message (kind starts x))

  was : ms ≡ map (λ x. get_or w x 0) positions
  unfolding n kd cells positions
  was = sym message-there ∙ pick_at message c.word_len 0 (kind starts) w

  becomes : ms' ≡ map (λ x. get_or w' x 0) positions
  unfolding n kd cells ms' positions
  becomes = pick_at message c.word_len 0 (kind starts) w'

  -- so the message differs where these cells do
  by-position : differences ms ms' ≡ members (length positions) 0 (λ i. differs (get_or positions i 0))
  unfolding differences differs
  by-position =
      ap (λ (k : ℕ). members k 0 (λ i. not (eqb (get_or ms i 0) (get_or ms' i 0)))) (ap length was ∙ length-map positions (λ x. get_or w x 0))
      ∙ members-ext (length positions) 0 (λ i. not (eqb (get_or ms i 0) (get_or ms' i 0))) (λ i. differs (get_or positions i 0))
      (λ i _ li.
      let k : i < length positions = omega arith in
      ap₂ (λ (a b : ℕ). not (eqb a b))
      (ap (λ (v : List ℕ). get_or v i 0) was ∙ at_map (λ x. get_or w x 0) positions i k)
      (ap (λ (v : List ℕ). get_or v i 0) becomes ∙ at_map (λ x. get_or w' x 0) positions i k))

  those : map (λ i. get_or positions i 0) (differences ms ms') ≡ differences w w'
  unfolding differences positions differs
  those =
      ap (map (λ i. get_or positions i 0)) by-position
      ∙ kept-places differs positions
      ∙ kept-members c.word_len 0 (λ x. is message (kind starts x)) differs (λ x _ lx e. in-message x (omega arith) e)
      ∙ ap (λ (k : ℕ). members k 0 differs) (sym seen.complete)

  stays : Stays c (kind starts) starts ms w w' d ms'
  unfolding message_positions positions
  stays =
      record {
        same-placement = (exact w' starts ms' found).1 leads;
        those = those;
        as_many = sym (length-map (differences ms ms') (λ i. get_or positions i 0)) ∙ ap length those ∙ s.altered;
      }

pub slips-stay : SlipsStay
slips-stay c kind digits planned exact starts ms w w' d seen l s =
    (ms' c kind digits planned exact starts ms w w' d seen l s, stays c kind digits planned exact starts ms w w' d seen l s)

-- ---- Under the figures of each code

-- the digits of a placement
abbrev pub digits_of : Figures → List ℕ → List ℕ
digits_of (Ranked p) = λ starts. spell p.q (places p.m (index_tail_of (given p))) (rank (given p) starts)
digits_of (Long p) = λ starts. spell p.q (places 1 (index_tail_b (given_long p))) (end_offset (given_long p) (start_in starts))
digits_of (Larsson p) = digits_larsson (given p)

planned-a : (f : Params) → in_range f ≡ true → fits f ≡ true
    → Planned (construction_a f) (kind_at f) (λ starts. spell f.q (places f.m (index_tail_of f)) (rank f starts))
unfolding word plan kind_at
planned-a f i h =
    let ok = serve f i h in
    record {
      woven = λ starts ms. refl;
      bursts = λ starts e x. kind-burst (frame f starts) x;
      digit-cells = λ starts e.
          let p = placed-starts f starts e in
          digit-count f ok starts p.0 p.1
          ∙ sym (length-spell f.q (places f.m (index_tail_of f)) (rank f starts) ∙ length-places f.m (index_tail_of f));
      message-cells = λ starts e. let p = placed-starts f starts e in message-cells f ok starts p.0 p.1;
      found = found-least f.q;
    }

planned-b : (f : LongParams) → in_range_b f ≡ true → fits_b f ≡ true
    → Planned (construction_b f) (λ starts. kind_in (frame_b f (start_in starts))) (λ starts. spell f.q (places 1 (index_tail_b f)) (end_offset f (start_in starts)))
unfolding word_from plan_b
planned-b f i h =
    let ok = serve-b f i h in
    record {
      woven = λ starts ms. refl;
      bursts = λ starts e x. kind-burst (frame_b f (start_in starts)) x ∙ ap (λ (ss : List ℕ). in_burst f.b ss x) (sym (placed-start f starts e).0);
      digit-cells = λ starts e.
          let p = placed-start f starts e in
          let s = start_in starts in
          digits_in (frame_b f s) (framed-b f ok s p.1) ∙ ap (λ (y : ℕ). y * suc (index_tail_b f)) (count-one (index_part f s) (index-lt f ok s p.1))
          ∙ sym (length-spell f.q (places 1 (index_tail_b f)) (end_offset f s) ∙ length-places 1 (index_tail_b f));
      message-cells = λ starts e. let p = placed-start f starts e in message-cells-b f ok (start_in starts) p.1;
      found = found-least f.q;
    }

planned-larsson : (f : Params) → in_range f ≡ true → fits_larsson f ≡ true → Planned (larsson f) (kind_larsson f) (digits_larsson f)
unfolding word_larsson plan_larsson
planned-larsson f i h =
    let ok = serve-larsson f i h in
    record {
      woven = λ starts ms. refl;
      bursts = λ starts e x. burst-larsson f starts x;
      digit-cells = λ starts e. let p = placed-starts f starts e in digits-larsson f ok starts p.0 p.1 ∙ sym (length_digits f ok starts p.0 p.1);
      message-cells = λ starts e. let p = placed-starts f starts e in message-larsson f ok starts p.0 p.1;
      found = found-least f.q;
    }

pub planned : (f : Figures) → (coding_of f).in_range ≡ true → (coding_of f).fits ≡ true → Planned (coding_of f).codec (kind_under f) (digits_of f)
planned (Ranked p) = planned-a (given p)
planned (Long p) = planned-b (given_long p)
planned (Larsson p) = planned-larsson (given p)

pub has-plan : HasPlan
has-plan f i h = (digits_of f, planned f i h)

pub slips-stay-in : SlipsStayIn
slips-stay-in f i h = slips-stay (coding_of f).codec (kind_under f) (digits_of f) (planned f i h) (demand-two f i h).exactly
