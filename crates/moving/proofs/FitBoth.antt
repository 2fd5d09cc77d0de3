-- The figures of two codes, test by test, and the order of moving that begins with them. Assumes nothing.
use mathlib.Core.Path.{◌≡◌, sym, ap, ap₂, ◌∙◌}
use mathlib.Core.Logic.{◌≢◌}
use mathlib.Core.Bool.{Bool, true, false, ◌&&◌}
use mathlib.Core.List.{List}
use Prim.Native.Nat.{ℕ, ◌≤◌, ◌<◌}
use native.Mathlib.Omega.{arith}
use lib.Dec.{eqb}
use lib.ListN.{length}
use Rattle.refusals.specs.Refusals.{must, invalid, unfit, wrong_length, bad_symbol, bad_payload}
use Rattle.combinatorics.specs.Lists.{all_below}
use Rattle.combinatorics.proofs.Cases.{eqb_same, eqb-other, leb-holds, leb-fails}
use Rattle.cells.specs.Bytes.{payload_len}
use Rattle.cells.specs.Outcomes.{Coding, FiguresOut, figured, unserved, figures_number, figures_under, Encoded, unwritten}
use Rattle.codes.specs.declared.WordLayout.{WordLayout}
use Rattle.codes.specs.Given.{coding_in, Serves}
use Rattle.codes.proofs.Layouts.{in_order, numbers-in, bound, under-layout}
use Rattle.codes.proofs.Exact.{placed-is}
use Rattle.jobs.specs.declared.Entry.{Entry}
use Rattle.jobs.specs.Table.{twice}
use Rattle.payloads.specs.Payload.{carries_job}
use Rattle.jobcodec.proofs.Outcomes.{both_false, both_true}
use Rattle.moving.specs.Move.{move_read, move, same_figures, move_under}
use Rattle.moving.specs.Given.{BothReady}
use Rattle.moving.specs.Both.{after_fitting, from_figures, first_refusal}
use Rattle.moving.proofs.Moving.{Movable}
use Rattle.moving.proofs.Steps.{PlacedIn, Of}
use Rattle.moving.proofs.Figures.{movable-of, same_alike, past-figures}

-- ---- Figures that one of the codes refuses

-- "1 2" by the tests alone: of one code, and of both, where s says whether the figures are the same
abbrev alone : Bool → Bool → ℕ → ℕ → ℕ → FiguresOut
alone i f t r k = must i (unserved invalid) (must f (unserved unfit) (figured t r k))

abbrev begins : (ℕ → Encoded) → Encoded → Bool → Bool → Bool → Bool → Bool → Encoded
begins refuse rest i f j g s = must (i && j) (refuse invalid) (must (s && f && g) (refuse unfit) rest)

module _ (refuse : ℕ → Encoded) (rest : Encoded) (a : ℕ) where
  -- an answer with T, r and k is no refusal
  no-refusal : {P : Type 0} (t r k : ℕ) → figured t r k ≡ unserved a → P
  no-refusal t r k e = let n : ◌≡◌ {A = ℕ} 0 1 = cc in absurd (omega arith)

  first-refuses : (i f j g s : Bool) (t r k t' r' k' : ℕ) → alone i f t r k ≡ unserved a
      → begins refuse rest i f j g s ≡ refuse (first_refusal a (alone j g t' r' k'))
  first-refuses false f false g s t r k t' r' k' e = rw (← ap figures_number e)
  first-refuses false f true false s t r k t' r' k' e = rw (← ap figures_number e)
  first-refuses false f true true s t r k t' r' k' e = ap refuse (ap figures_number e)
  first-refuses true false false g s t r k t' r' k' e = rw (← ap figures_number e)
  first-refuses true false true false true t r k t' r' k' e = rw (← ap figures_number e)
  first-refuses true false true false false t r k t' r' k' e = rw (← ap figures_number e)
  first-refuses true false true true true t r k t' r' k' e = ap refuse (ap figures_number e)
  first-refuses true false true true false t r k t' r' k' e = ap refuse (ap figures_number e)
  first-refuses true true j g s t r k t' r' k' e = no-refusal t r k e

  -- the same where the first code's figures fit
  second-refuses : (j g s : Bool) (t r k : ℕ) → alone j g t r k ≡ unserved a → begins refuse rest true true j g s ≡ refuse a
  second-refuses false g s t r k e = ap refuse (ap figures_number e)
  second-refuses true false true t r k e = ap refuse (ap figures_number e)
  second-refuses true false false t r k e = ap refuse (ap figures_number e)
  second-refuses true true s t r k e = no-refusal t r k e

module _ (d e : Coding) (strip moved a : ℕ) (refuse : ℕ → Encoded) (rest : Encoded) where
  -- the code of the strip that is read
  pub from-refuses : figures_under d ≡ unserved a → from_figures d e strip moved refuse rest ≡ refuse (first_refusal a (figures_under e))
  from-refuses u =
      first-refuses refuse (after_fitting d e strip moved refuse rest) a d.in_range d.fits e.in_range e.fits (same_figures d e)
      d.placement_count_of d.index_tail_of d.codec.message_len_of e.placement_count_of e.index_tail_of e.codec.message_len_of u

  -- the code of the other strip alone: the order of moving ends with its number
  pub to-refuses : d.in_range ≡ true → d.fits ≡ true → figures_under e ≡ unserved a → from_figures d e strip moved refuse rest ≡ refuse a
  to-refuses i h u =
      let next = after_fitting d e strip moved refuse rest in
      ap₂ (λ (x y : Bool). begins refuse next x y e.in_range e.fits (same_figures d e)) i h
      ∙ second-refuses refuse next a e.in_range e.fits (same_figures d e) e.placement_count_of e.index_tail_of e.codec.message_len_of u

-- ---- The bytes of a layout

module _ (l : WordLayout) (g : Serves l) (count : ℕ) (e : count ≡ payload_len l.q l.message_len) where
  bytes-are : count ≡ payload_len (coding_in l).codec.alphabet (coding_in l).codec.message_len_of
  bytes-are = let is = numbers-in l g in e ∙ ap₂ payload_len is.alphabet-is is.len_is

  few : count < 5 → carries_job (coding_in l).codec.alphabet (coding_in l).codec.message_len_of ≡ false
  unfolding carries_job
  few less = leb-fails 5 (payload_len (coding_in l).codec.alphabet (coding_in l).codec.message_len_of) (omega (arith, bytes-are))

  enough : 5 ≤ count → carries_job (coding_in l).codec.alphabet (coding_in l).codec.message_len_of ≡ true
  unfolding carries_job
  enough more = leb-holds 5 (payload_len (coding_in l).codec.alphabet (coding_in l).codec.message_len_of) (omega (arith, bytes-are))

-- ---- Whether two layouts are of the same figures, by their own numbers

module _ (from to : WordLayout) (g : Serves from) (h : Serves to) where
  pub by-numbers : same_figures (coding_in from) (coding_in to) ≡ (eqb from.n to.n && eqb from.q to.q && eqb from.m to.m && eqb from.b to.b)
  unfolding same_figures
  by-numbers =
      let x = numbers-in from g in
      let y = numbers-in to h in
      rw (x.word-is, y.word-is, x.alphabet-is, y.alphabet-is, x.bursts-is, y.bursts-is, x.burst-is, y.burst-is)

-- ---- Figures that fit both: "2 10 3"

module _ (from to : WordLayout) (g : Serves from) (h : Serves to) (strip moved : ℕ) where
  pub differ : same_figures (coding_in from) (coding_in to) ≡ false → (refuse : ℕ → Encoded) (rest : Encoded)
      → from_figures (coding_in from) (coding_in to) strip moved refuse rest ≡ refuse unfit
  differ s refuse rest = rw (s, (in_order from g).0, (in_order to h).0)

  module _ (same : same_figures (coding_in from) (coding_in to) ≡ true) where
    past : (refuse : ℕ → Encoded) (rest : Encoded) → from_figures (coding_in from) (coding_in to) strip moved refuse rest
        ≡ after_fitting (coding_in from) (coding_in to) strip moved refuse rest
    past refuse rest = rw (same, (in_order from g).0, (in_order to h).0, (in_order from g).1, (in_order to h).1)

    module _ (x : ℕ) (x-is : x ≡ payload_len from.q from.message_len) where
      pub from-carries-not : x < 5 → (refuse : ℕ → Encoded) (rest : Encoded)
          → from_figures (coding_in from) (coding_in to) strip moved refuse rest ≡ refuse bad_payload
      from-carries-not less refuse rest = rw (past refuse rest, few from g x x-is less)

      module _ (x-five : 5 ≤ x) (y : ℕ) (y-is : y ≡ payload_len to.q to.message_len) where
        pub to-carries-not : y < 5 → (refuse : ℕ → Encoded) (rest : Encoded)
            → from_figures (coding_in from) (coding_in to) strip moved refuse rest ≡ refuse bad_payload
        to-carries-not less refuse rest = rw (past refuse rest, enough from g x x-is x-five, few to h y y-is less)

        module _ (y-five : 5 ≤ y) where
          pub strip-other : strip ≢ from.n → (refuse : ℕ → Encoded) (rest : Encoded)
              → from_figures (coding_in from) (coding_in to) strip moved refuse rest ≡ refuse wrong_length
          strip-other n refuse rest =
              rw (
                past refuse rest,
                enough from g x x-is x-five,
                enough to h y y-is y-five,
                eqb-other strip (coding_in from).codec.word_len (λ z. n (z ∙ sym (numbers-in from g).word-is)),
              )

          pub moved_other : strip ≡ from.n → moved ≢ to.n → (refuse : ℕ → Encoded) (rest : Encoded)
              → from_figures (coding_in from) (coding_in to) strip moved refuse rest ≡ refuse wrong_length
          moved_other s n refuse rest =
              rw (
                past refuse rest,
                enough from g x x-is x-five,
                enough to h y y-is y-five,
                eqb_same strip (coding_in from).codec.word_len (s ∙ (numbers-in from g).word-is),
                eqb-other moved (coding_in to).codec.word_len (λ z. n (z ∙ sym (numbers-in to h).word-is)),
              )

          pub both-ready : strip ≡ from.n → moved ≡ to.n → BothReady from to strip moved
          both-ready s m =
              record {
                serves-from = g;
                serves-to = h;
                alike = same_alike (coding_in from) (coding_in to) same;
                carries-from = enough from g x x-is x-five;
                carries-to = enough to h y y-is y-five;
                complete = s ∙ (numbers-in from g).word-is;
                lent = m ∙ (numbers-in to h).word-is;
              }

-- ---- What both codes then are

pub of-layout : (l : WordLayout) → Serves l → carries_job (coding_in l).codec.alphabet (coding_in l).codec.message_len_of ≡ true → Of (coding_in l)
of-layout l g carries =
    record {
      range = (in_order l g).0;
      fit = (in_order l g).1;
      movable = under-layout (λ (d : Coding). Movable d.codec) movable-of l g;
      placed = under-layout PlacedIn (λ f _ _. placed-is f) l g;
      short = omega (arith, (bound l g).k-most, (numbers-in l g).len_is);
      carries = carries;
    }

-- ---- The order of moving

module _ (d e : Coding) (es : List Entry) (w out : List ℕ) where
  pub out-twice : twice es ≡ true → move_under d e es w out ≡ unwritten out invalid
  unfolding move_under
  out-twice t = rw (t, both_false (d.in_range && e.in_range))

  pub out-refused : (a : ℕ) → twice es ≡ false
      → ((refuse : ℕ → Encoded) (rest : Encoded) → from_figures d e (length w) (length out) refuse rest ≡ refuse a) → move_under d e es w out ≡ unwritten out a
  unfolding move_under move
  out-refused a once h =
      rw (once, both_true (d.in_range && e.in_range))
      (h (unwritten out) (must (all_below d.codec.found_bound w) (unwritten out bad_symbol) (move_read d.codec e.codec es out (d.codec.decode w))))

-- past "1 2"
pub out-fitting : (from to : WordLayout) (es : List Entry) (w out : List ℕ) → BothReady from to (length w) (length out) → twice es ≡ false
    → move_under (coding_in from) (coding_in to) es w out ≡ move (coding_in from).codec (coding_in to).codec es w out
out-fitting from to es w out r once =
    let x = in_order from r.serves-from in
    let y = in_order to r.serves-to in
    past-figures (coding_in from) (coding_in to) es
    (record { range-from = x.0; range-to = y.0; once = rw once; alike = r.alike; fit-from = x.1; fit-to = y.1 }) w out
