-- What figures give, whichever code's they are. Assumes nothing.
use Rattle.cells.specs.Outcomes.{Coding}
use Rattle.construction_a.specs.Outcomes as A
use Rattle.construction_b.specs.Outcomes as B
use Rattle.larsson.specs.Outcomes as L
use Rattle.params.specs.Bridge.{given, given_long}
use Rattle.codes.specs.declared.Figures.{Figures}
use Rattle.codes.specs.declared.Figures.TheVariants.{Ranked, Long, Larsson}

abbrev pub coding_of : Figures → Coding
coding_of (Ranked p) = A.coding (given p)
coding_of (Long p) = B.coding (given_long p)
coding_of (Larsson p) = L.coding (given p)
