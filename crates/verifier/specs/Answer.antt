-- What an answer of the check says, case by case. Assumes nothing.
use Rattle.std.specs.Prelude.{Bool, true, false, Result, Ok, Err}
use Rattle.refusals.specs.declared.Refusal.{Refusal}
use Rattle.refusals.specs.Numbers.{number_of}
use Rattle.verifier.specs.Verify.{Verdict, agreeing, differing, unchecked}

abbrev pub verdict_as : Result Bool Refusal → Verdict
verdict_as (Ok true) = agreeing
verdict_as (Ok false) = differing
verdict_as (Err r) = unchecked (number_of r)
