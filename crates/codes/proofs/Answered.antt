-- What a caller learns of its figures from their layout. Assumes nothing.
use mathlib.Core.Path.{◌≡◌, refl, sym, ap, subst, ◌∙◌}
use mathlib.Core.Bool.{true}
use Rattle.cells.specs.Outcomes.{Coding, unserved, figures_under}
use Rattle.cells.specs.Figures.{Params}
use Rattle.construction_a.specs.Outcomes.{coding as coding_a}
use Rattle.construction_b.specs.Figures.{LongParams}
use Rattle.construction_b.specs.Outcomes.{coding as coding_b}
use Rattle.larsson.specs.Outcomes.{coding as coding_larsson}
use Rattle.params.specs.Answer.{blocks_figured, LaidIn, LongLaidIn, Small}
use Rattle.params.specs.declared.Layout.{Layout}
use Rattle.params.proofs.Either.{ranked-serves, long-serves}
use Rattle.larsson_params.specs.Answer.{larsson_figured_as, LarssonLaidIn}
use Rattle.larsson_params.specs.declared.LarssonLayout.{LarssonLayout}
use Rattle.larsson_params.proofs.Answered.{fit-learnt}
use Rattle.codes.specs.declared.Figures.{Figures}
use Rattle.codes.specs.declared.WordLayout.{WordLayout}
use Rattle.std.specs.Prelude.{Result, Ok, Err}
use Rattle.refusals.specs.declared.Refusal.{Refusal}
use Rattle.refusals.specs.Numbers.{number_of}
use Rattle.codes.specs.Bridge.{coding_of}
use Rattle.codes.specs.Given.{HasNumbers, of_blocks, of_sub_blocks}
use Rattle.codes.specs.Answer.{figured_as, LaidUnder, LaidAs, ServesAs}
use Rattle.codes.proofs.Layouts.{in_order, small-in, of-blocks, of-sub-blocks}

-- ---- A code's own answer

-- what "figures alone" is to answer
abbrev pub Answers : Coding → Result WordLayout Refusal → Type 0
Answers d r = (figured_as r ≡ figures_under d) × LaidUnder d r

pub by_ranked : (f : Params) (l : Layout) → blocks_figured (Ok l) ≡ figures_under (coding_a f) → LaidIn f (Ok l) → Answers (coding_a f) (Ok (of_blocks l))
by_ranked f l e laid = let own = ranked-serves f (Ok l) l refl e laid in (e, (own.0, of-blocks l own.1))

pub by-long : (f : LongParams) (l : Layout) → blocks_figured (Ok l) ≡ figures_under (coding_b f) → LongLaidIn f (Ok l) → Answers (coding_b f) (Ok (of_blocks l))
by-long f l e laid = let own = long-serves f (Ok l) l refl e laid in (e, (own.0, of-blocks l own.1))

pub by-sub-blocks : (f : Params) (l : LarssonLayout) → larsson_figured_as (Ok l) ≡ figures_under (coding_larsson f) → LarssonLaidIn f (Ok l)
    → Answers (coding_larsson f) (Ok (of_sub_blocks l))
by-sub-blocks f l e laid = let own = fit-learnt f (Ok l) l refl e laid in (e, (ap coding_larsson own.0, of-sub-blocks l own.1))

-- ---- Of an answer that was taken apart

-- a refusal is that of the figures alone
pub refused-learnt : (f : Figures) (r : Result WordLayout Refusal) (a : Refusal) → r ≡ Err a → figured_as r ≡ figures_under (coding_of f) → figures_under (coding_of f) ≡ unserved (number_of a)
refused-learnt f r a e answer = sym answer ∙ ap figured_as e

-- what a layout gives is what the caller's figures give, and they fit
pub serves : (f : Figures) (r : Result WordLayout Refusal) (l : WordLayout) → r ≡ Ok l → figured_as r ≡ figures_under (coding_of f) → LaidAs f r → ServesAs f l
serves f r l e answer laid = subst (LaidAs f) e laid

-- the figures are in range and fit, and the layout has their numbers
pub laid-learnt : (f : Figures) (r : Result WordLayout Refusal) (l : WordLayout) → r ≡ Ok l → figured_as r ≡ figures_under (coding_of f) → LaidAs f r
    → ((coding_of f).in_range ≡ true) × ((coding_of f).fits ≡ true) × HasNumbers (coding_of f) l × Small (coding_of f)
laid-learnt f r l e answer laid =
    let own = serves f r l e answer laid in
    let order = in_order l own.1 in
    subst (λ (d : Coding). (d.in_range ≡ true) × (d.fits ≡ true) × HasNumbers d l × Small d) own.0
    (order.0, order.1, own.1.numbers, small-in l own.1)
