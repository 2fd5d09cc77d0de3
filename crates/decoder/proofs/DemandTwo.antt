-- Demand 2 of what the word reader answers. Assumes nothing.
use mathlib.Core.Path.{◌≡◌, refl, sym, ap, ◌∙◌, subst}
use mathlib.Core.Bool.{true}
use mathlib.Core.List.{List}
use Prim.Native.Nat.{ℕ, ◌-◌}
use native.Mathlib.Omega.{arith}
use lib.ListN.{length, replicate}
use lib.Seq.{take-append_seam}
use Rattle.combinatorics.specs.Bursts.{rank_of}
use Rattle.combinatorics.proofs.Cases.{eqb_same}
use Rattle.cells.specs.Codec.{Reading, accepted, refused, ReadsExactly}
use Rattle.cells.specs.Figures.{max_bursts}
use Rattle.cells.specs.Outcomes.{Coding, in_use, held, rank_is, refusal, answer_number, Decoded, unread, decoded_from, decode_under}
use Rattle.std.specs.Prelude.{Result, Ok, Err}
use Rattle.refusals.specs.declared.Refusal.{Refusal}
use Rattle.refusals.specs.Numbers.{number_of, answer_of}
use Rattle.decoder.specs.declared.Decoded.{Decoded as Answered}
use Rattle.decoder.specs.Answer.{number_by, answer_as, decoded_as}
use Rattle.decoder.specs.DemandTwo.{DecodesExactlyUnder}

held-starts : (ss : List ℕ) → in_use (held ss) ≡ ss
held-starts ss = take-append_seam ss (replicate (max_bursts - length ss) 0)

-- an answer says which reading it came from
module _ (b : ℕ) (out : List ℕ) where
  was-accepted : (r : Reading) (ss ms : List ℕ) → decoded_from b out r ≡ decoded_from b out (accepted ss ms) → r ≡ accepted ss ms
  was-accepted (accepted ss' ms') ss ms e =
      let s : ss' ≡ ss = sym (held-starts ss') ∙ ap (λ (d : Decoded). in_use d.placement) e ∙ held-starts ss in
      let m : ms' ≡ ms = ap (λ (d : Decoded). d.message) e in
      rw (s, m)
  was-accepted (refused a) ss ms e = absurd (let x : refusal a ≡ rank_is (rank_of b ss) = ap (λ (d : Decoded). d.answer) e in let z : ◌≡◌ {A = ℕ} 0 1 = cc in
      omega arith)

  was-refused : (r : Reading) (a : ℕ) → decoded_from b out r ≡ unread out a → r ≡ refused a
  was-refused (accepted ss ms) a e = absurd (let x : rank_is (rank_of b ss) ≡ refusal a = ap (λ (d : Decoded). d.answer) e in let z : ◌≡◌ {A = ℕ} 0 1 = cc in
      omega arith)
  was-refused (refused a') a e = let x : refusal a' ≡ refusal a = ap (λ (d : Decoded). d.answer) e in let s : a' ≡ a = cc in rw s

-- under any figures that give, where they are in range and fit, a code that reads exactly
pub decodes-exactly-under : (d : Coding) (Listed : List ℕ → ℕ → Type 0) → (d.in_range ≡ true → d.fits ≡ true → ReadsExactly d.codec Listed)
    → (w out : List ℕ) → DecodesExactlyUnder d Listed w out (decode_under d w out)
decodes-exactly-under d Listed reads w out g =
    let c = d.codec in
    let b = d.burst_len in
    let two = reads g.range g.fit in
    let e : decode_under d w out ≡ decoded_from b out (c.decode w) =
    rw (g.range, g.fit, eqb_same (length w) c.word_len g.word.complete, eqb_same (length out) c.message_len_of g.buffer, g.word.symbols) in
    record {
      exactly = λ ss ms. (
        λ p. (two.exactly w ss ms g.word).0 (was-accepted b out (c.decode w) ss ms (sym e ∙ p)),
        λ l. e ∙ ap (decoded_from b out) ((two.exactly w ss ms g.word).1 l),
      );
      one-pair = λ ss ms ss' ms'. two.one-pair w ss ms ss' ms' g.word;
      others = λ none. let o = two.others w g.word none in (o.0, e ∙ ap (decoded_from b out) o.1);
      listed = λ a. (
        λ p. (two.listed w a).0 (was-refused b out (c.decode w) a (sym e ∙ p)),
        λ l. e ∙ ap (decoded_from b out) ((two.listed w a).1 l),
      );
    }

-- 0, or a refusal's number, as an answer is read
pub number-of-answer : {A : Type 0} (r : Result A Refusal) → number_by number_of r ≡ answer_of r
number-of-answer (Ok x) = refl
number-of-answer (Err a) = refl

-- an answer's number is that of what it says
number_is : (r : Result ℕ Refusal) → answer_of r ≡ answer_number (answer_as r)
number_is (Ok v) = refl
number_is (Err a) = refl

-- the clauses of a reader's contract, under any figures
pub by-outcome-under : (d : Coding) (Listed : List ℕ → ℕ → Type 0) (w out : List ℕ) → DecodesExactlyUnder d Listed w out (decode_under d w out)
    → (r : Answered Refusal) (left : List ℕ) → decoded_as r left ≡ decode_under d w out
    → (decoded_as r left ≡ decode_under d w out)
    × (DecodesExactlyUnder d Listed w out (decoded_as r left) × (answer_of r.answer ≡ answer_number (decode_under d w out).answer))
by-outcome-under d Listed w out exact r left e =
    (e, (subst (DecodesExactlyUnder d Listed w out) (sym e) exact, number_is r.answer ∙ ap (λ (d : Decoded). answer_number d.answer) e))
