-- Demand 2 of each code, and of what word read answers, under any code's figures. The proof is `demand-two` of proofs/Exact.antt. Assumes nothing.
use Rattle.std.specs.Prelude.{◌≡◌, true, List, ℕ}
use Rattle.cells.specs.Codec.{ReadsExactly}
use Rattle.cells.specs.Outcomes.{Decoded}
use Rattle.construction_a.specs.DemandTwo as A
use Rattle.construction_b.specs.DemandTwo as B
use Rattle.larsson.specs.DemandTwo as L
use Rattle.params.specs.Bridge.{given, given_long}
use Rattle.decoder.specs.DemandTwo.{DecodesExactlyUnder}
use Rattle.codes.specs.declared.Figures.{Figures}
use Rattle.codes.specs.declared.Figures.TheVariants.{Ranked, Long, Larsson}
use Rattle.codes.specs.Bridge.{coding_of}

-- the listed conditions of each code: 7, 19, 8 and 9, of the Larsson code 21, 8, 9 and 19
abbrev pub ListedIn : Figures → List ℕ → ℕ → Type 0
ListedIn (Ranked p) = A.Listed (given p)
ListedIn (Long p) = B.Listed (given_long p)
ListedIn (Larsson p) = L.Listed (given p)

-- for all figures of a code that fit
abbrev pub DemandTwo : Type 0
DemandTwo = (f : Figures) → (coding_of f).in_range ≡ true → (coding_of f).fits ≡ true → ReadsExactly (coding_of f).codec (ListedIn f)

abbrev pub DecodesExactly : Figures → List ℕ → List ℕ → Decoded → Type 0
DecodesExactly f = DecodesExactlyUnder (coding_of f) (ListedIn f)
