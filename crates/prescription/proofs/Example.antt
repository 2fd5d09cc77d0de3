-- The worked example holds by computation. Assumes nothing.
use Rattle.std.proofs.Common.{refl}
use lib.Ieee.{to_bits, of_bits, round}
use Rattle.prescription.specs.Fractions.{fraction, count_of}
use Rattle.prescription.specs.Lens.{transposed, equivalent}
use Rattle.prescription.specs.Stored.{fields_of, text_of}
use Rattle.prescription.specs.Example.{ExampleHolds}

pub example-holds : ExampleHolds
unfolding text_of fields_of transposed equivalent fraction count_of round to_bits of_bits
example-holds =
    record {
      text = refl;
      transposes = refl;
      equals = refl;
      power = refl;
      distance = refl;
      minus-zero = refl;
      sixteenth = refl;
      no_number = refl;
      infinity = refl;
    }
