-- Letters that are none of a call's. Assumes nothing.
use mathlib.Core.Path.{◌≡◌}
use mathlib.Core.Logic.{◌≢◌}
use mathlib.Core.Option.{none}
use Prim.Native.Nat.{ℕ}
use Rattle.combinatorics.proofs.Cases.{eqb-other}
use Rattle.jobs.specs.Letters.{kind_of}

pub no_kind : (k : ℕ) → k ≢ 79 → k ≢ 67 → k ≢ 70 → kind_of k ≡ none
unfolding kind_of
no_kind k o c f = rw (eqb-other k 79 o, eqb-other k 67 c, eqb-other k 70 f)
