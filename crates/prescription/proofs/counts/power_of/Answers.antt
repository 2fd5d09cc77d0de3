-- `power_of` meets its contract: a quotient by 8. Assumes nothing.
use Rattle.std.proofs.Common.{◌≡◌, ℕ, suc, refl, ◌-◌, ◌^◌, ◌<◌, ℤ, pos, negsuc, cond, nat_abs, to_z, of_z, w16, ap, ◌∙◌, zero-lt-suc, arith}
use lib.Ieee.{Float, binary64, of_bits, of_int, div}
use mir.Val.{sel}
use Rattle.std.proofs.lemmas.Int.{of_z-to_z}
use Rattle.prescription.specs.Stored.{count_in}
use Rattle.prescription.proofs.Arithmetic.{by-lt}
use Rattle.prescription.proofs.Counting.{quotient, eight_float, eight-worth}
use Rattle.prescription.proofs.counts.power_of.Goals as goal

small : (bits : ℕ) → nat_abs (count_in bits) < 2 ^ 53
small bits = by-lt bits 32768 (λ b. nat_abs (cond b (pos bits) (negsuc (65535 - bits))) < 2 ^ 53) (λ l. omega arith) (λ l. omega arith)

-- as a signed number the bits are the count
signed-is : (bits : ℕ) → to_z w16 bits ≡ count_in bits
signed-is bits =
    by-lt bits 32768 (λ b. sel b (pos bits) (negsuc (65536 - suc bits)) ≡ cond b (pos bits) (negsuc (65535 - bits))) (λ l. refl)
    (λ l. ap negsuc (one-less bits))
  where
    one-less : (bits : ℕ) → 65536 - suc bits ≡ 65535 - bits
    one-less bits = omega arith

pub returns : goal.returns
unfolding of_bits
returns c =
    let bits = c.args.bits in
    ap (λ (x : Float). div binary64 x eight_float) (c.from.ensures
    ∙ ap (λ (z : ℤ). of_int binary64 (to_z w16 (of_z w16 z))) c.cast_signed.ensures
    ∙ ap (of_int binary64) (ap (to_z w16) (of_z-to_z w16 bits c.ranges.bits.fits) ∙ signed-is bits))
    ∙ quotient (count_in bits) 8 eight_float (small bits) (zero-lt-suc 7) eight-worth
