-- `size_of` meets its contract: where the float of the whole number has the bits of x, x is that number of parts. Otherwise x is none: of so many parts the
-- product would be the number itself, and the bits would agree. Assumes nothing.
use Rattle.std.proofs.Common.{ℕ, ◌<◌, T, sym, subst, arith}
use lib.Ieee.{neg, of_bits}
use Rattle.prescription.specs.Counts.{limit}
use Rattle.prescription.proofs.Counting
use Rattle.prescription.proofs.counts.size_of.Goals as goal
use Rattle.prescription.proofs.counts.size_of.Goals.{else-product-via-then-product+else-product-2, else-product-via-else-product}
use Rattle.prescription.proofs.counts.size_of.Goals.{After-truncating_f64_to_u64-size}

in_reach : (c : After-truncating_f64_to_u64-size)
    → c.truncating_f64_to_u64-size.result < limit
unfolding of_bits
in_reach c = subst (λ (z : ℕ). z < limit) (sym c.truncating_f64_to_u64-size.ensures) (Counting.cut_small _ (subst T (sym c.if-product-2.true) tt))

pub overflow_cast-size : goal.overflow_cast-size
unfolding of_bits
overflow_cast-size c = let h = in_reach (goal.at.overflow_cast-size c).After-truncating_f64_to_u64-size in record { fits = omega arith }

pub float_to_bits-exact : goal.float_to_bits-exact
float_to_bits-exact c =
    Counting.quotient-no-nan c.args.per c.requires c.truncating_f64_to_u64-size.result (in_reach (goal.at.float_to_bits-exact c).After-truncating_f64_to_u64-size)

pub float_to_bits-x : goal.float_to_bits-x
unfolding of_bits neg
float_to_bits-x c = Counting.product-no-nan _ _ (subst T (sym c.if-product.true) tt)

pub returns-then-exact-x : goal.returns-then-exact-x
returns-then-exact-x c =
    Counting.agrees c.args.per c.requires c.args.x c.truncating_f64_to_u64-size.result (in_reach (goal.at.returns-then-exact-x c).After-truncating_f64_to_u64-size)
    c.well_formed.0.1 c.if-exact-x.true

pub returns-else-exact-x : goal.returns-else-exact-x
returns-else-exact-x c =
    Counting.differs c.args.per c.requires c.args.x c.truncating_f64_to_u64-size.result c.well_formed.0.1
    c.truncating_f64_to_u64-size.ensures c.if-exact-x.false

pub returns-else-product : goal.returns-else-product
unfolding of_bits neg
returns-else-product c =
    elim c.else-product.branch [
      | else-product-via-then-product+else-product-2 w ↦ Counting.too_large c.args.per c.requires c.args.x w.if-product-2.false
      | else-product-via-else-product w ↦ Counting.too_small c.args.per c.requires c.args.x w.if-product.false
    ]

pub truncating_f64_to_u64-size-requires-clause-lower_bound : goal.truncating_f64_to_u64-size-requires-clause-lower_bound
unfolding of_bits neg
truncating_f64_to_u64-size-requires-clause-lower_bound c = subst T (sym c.if-product.true) tt

pub truncating_f64_to_u64-size-requires-clause-upper_bound : goal.truncating_f64_to_u64-size-requires-clause-upper_bound
unfolding of_bits neg
truncating_f64_to_u64-size-requires-clause-upper_bound c = Counting.below_64 _ (subst T (sym c.if-product-2.true) tt)
