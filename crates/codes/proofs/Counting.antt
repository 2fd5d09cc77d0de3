-- An accepted word has a placement of m starts, whichever code reads it. Assumes nothing.
use mathlib.Core.Path.{◌≡◌, sym, ◌∙◌}
use mathlib.Core.List.{List}
use Prim.Native.Nat.{ℕ}
use Rattle.cells.specs.Outcomes.{Coding, rank_is, decode_under}
use Rattle.decoder.proofs.Calls.{counts-under}
use Rattle.codes.specs.declared.WordLayout.{WordLayout}
use Rattle.codes.specs.Bridge.{coding_of}
use Rattle.codes.specs.DemandTwo.{ListedIn}
use Rattle.codes.specs.Given.{coding_in, Serves}
use Rattle.codes.proofs.Exact.{demand-two, placed-is}
use Rattle.codes.proofs.Layouts.{under-layout}

abbrev Counts : Coding → Type 0
Counts d = (w out : List ℕ) (v : ℕ) → (decode_under d w out).answer ≡ rank_is v → (decode_under d w out).placement.count ≡ d.bursts

pub accepted-count : (l : WordLayout) → Serves l → (w out : List ℕ) (v : ℕ) → (decode_under (coding_in l) w out).answer ≡ rank_is v
    → (decode_under (coding_in l) w out).placement.count ≡ l.m
accepted-count l g w out v r =
    under-layout Counts (λ f i h. counts-under (coding_of f) (ListedIn f) (demand-two f i h) (λ ss e. (placed-is f ss e).0) i h) l g w out v r
    ∙ sym g.numbers.bursts-is
