-- Every code reads exactly, and which starts it takes for a placement. Assumes nothing.
use mathlib.Core.Path.{◌≡◌, refl}
use mathlib.Core.Bool.{true, ◌&&◌}
use mathlib.Core.List.{List}
use Prim.Native.Nat.{ℕ, ◌≤◌}
use lib.Dec.{eqb}
use lib.ListN.{length}
use Rattle.combinatorics.specs.Bursts.{apart, in_burst}
use Rattle.combinatorics.proofs.Cases.{eqb_same, eqb-true}
use Rattle.combinatorics.proofs.Lists.{both}
use Rattle.cells.specs.Codec.{OwnRefusals}
use Rattle.cells.specs.Erasures.{found_bound}
use Rattle.cells.proofs.Erasures.{found-least}
use Rattle.cells.specs.Figures.{is_placement}
use Rattle.cells.specs.Outcomes.{answer_number, decode_under}
use Rattle.construction_a.proofs.DemandTwo as A
use Rattle.construction_b.specs.Figures.{is_placement as is_placement_b}
use Rattle.construction_b.proofs.DemandTwo as B
use Rattle.larsson.proofs.DemandTwo as L
use Rattle.params.specs.Bridge.{given, given_long}
use Rattle.refusals.specs.declared.Refusal.{Refusal}
use Rattle.decoder.specs.declared.Decoded.{Decoded as Answered}
use Rattle.refusals.specs.Numbers.{answer_of}
use Rattle.decoder.specs.Answer.{decoded_as}
use Rattle.decoder.proofs.DemandTwo.{decodes-exactly-under, by-outcome-under}
use Rattle.codes.specs.declared.Figures.{Figures}
use Rattle.codes.specs.declared.Figures.TheVariants.{Ranked, Long, Larsson}
use Rattle.codes.specs.Bridge.{coding_of}
use Rattle.codes.specs.DemandTwo.{ListedIn, DemandTwo, DecodesExactly}

pub demand-two : DemandTwo
demand-two (Ranked p) = A.demand-two (given p)
demand-two (Long p) = B.demand-two (given_long p)
demand-two (Larsson p) = L.demand-two (given p)

-- a word is refused with the code's own numbers, whatever the figures
pub own-refusals : (f : Figures) → OwnRefusals (coding_of f).codec
own-refusals (Ranked p) = A.own-refusals (given p)
own-refusals (Long p) = B.own-refusals (given_long p)
own-refusals (Larsson p) = L.own-refusals (given p)

-- the clauses of word read's contract
pub by-outcome : (f : Figures) (w out : List ℕ) (r : Answered Refusal) (left : List ℕ) → decoded_as r left ≡ decode_under (coding_of f) w out
    → (decoded_as r left ≡ decode_under (coding_of f) w out)
    × (DecodesExactly f w out (decoded_as r left) × (answer_of r.answer ≡ answer_number (decode_under (coding_of f) w out).answer))
by-outcome f w out =
    by-outcome-under (coding_of f) (ListedIn f) w out (decodes-exactly-under (coding_of f) (ListedIn f) (demand-two f) w out)

-- ---- Which starts are a placement: as many as there are bursts, each burst behind the one before

pub placed_of : (f : Figures) (ss : List ℕ) → length ss ≡ (coding_of f).bursts → apart (coding_of f).burst_len (coding_of f).codec.word_len 0 ss ≡ true
    → (coding_of f).codec.placed ss ≡ true
unfolding is_placement is_placement_b
placed_of (Ranked p) ss e a = rw (eqb_same (length ss) p.m e) a
placed_of (Long p) ss e a = rw (eqb_same (length ss) 1 e) a
placed_of (Larsson p) ss e a = rw (eqb_same (length ss) p.m e) a

counted : (m b n : ℕ) (ss : List ℕ) → (eqb (length ss) m && apart b n 0 ss) ≡ true → (length ss ≡ m) × (apart b n 0 ss ≡ true)
counted m b n ss e = let v = both (eqb (length ss) m) (apart b n 0 ss) e in (eqb-true (length ss) m v.0, v.1)

pub placed-is : (f : Figures) (ss : List ℕ) → (coding_of f).codec.placed ss ≡ true
    → (length ss ≡ (coding_of f).bursts) × (apart (coding_of f).burst_len (coding_of f).codec.word_len 0 ss ≡ true)
unfolding is_placement is_placement_b
placed-is (Ranked p) ss e = counted p.m p.b p.n ss e
placed-is (Long p) ss e = counted 1 p.b p.n ss e
placed-is (Larsson p) ss e = counted p.m p.b p.n ss e

-- ---- What every code has

-- every symbol can be found
pub more-found : (f : Figures) → (coding_of f).codec.alphabet ≤ (coding_of f).codec.found_bound
more-found (Ranked p) = found-least p.q
more-found (Long p) = found-least p.q
more-found (Larsson p) = found-least p.q

-- the bound of what can be found goes by the alphabet
pub found-is : (f : Figures) → (coding_of f).codec.found_bound ≡ found_bound (coding_of f).codec.alphabet
found-is (Ranked p) = refl
found-is (Long p) = refl
found-is (Larsson p) = refl

-- what is spoilt is what the bursts have
pub spoilt-is : (f : Figures) (ss : List ℕ) (x : ℕ) → (coding_of f).codec.spoilt ss x ≡ in_burst (coding_of f).burst_len ss x
spoilt-is (Ranked p) ss x = refl
spoilt-is (Long p) ss x = refl
spoilt-is (Larsson p) ss x = refl
