-- No refusal has the number of an accepted call. Assumes nothing.
use Rattle.std.proofs.Common.{◌≢◌, arith}
use Rattle.refusals.specs.declared.Refusal.{Refusal}
use Rattle.refusals.specs.declared.Refusal.TheVariants.{Invalid, Unfit, Length, Symbol, Starts, Uncovered, Pattern, Value, Disagrees, Payload, Record, Prescription, Depth, Erased, Majority, Surplus, Cancelled, AlreadyOpen, NotOpen, Full, NumberZero, NotCancelled, Held, NotHeld}
use Rattle.refusals.specs.Refusals.{served}
use Rattle.refusals.specs.Numbers.{number_of}

pub never-served : (r : Refusal) → number_of r ≢ served
never-served Invalid e = omega (arith, e)
never-served Unfit e = omega (arith, e)
never-served Length e = omega (arith, e)
never-served Symbol e = omega (arith, e)
never-served Starts e = omega (arith, e)
never-served Uncovered e = omega (arith, e)
never-served Pattern e = omega (arith, e)
never-served Value e = omega (arith, e)
never-served Disagrees e = omega (arith, e)
never-served Payload e = omega (arith, e)
never-served Record e = omega (arith, e)
never-served Prescription e = omega (arith, e)
never-served Depth e = omega (arith, e)
never-served Erased e = omega (arith, e)
never-served Majority e = omega (arith, e)
never-served Surplus e = omega (arith, e)
never-served Cancelled e = omega (arith, e)
never-served AlreadyOpen e = omega (arith, e)
never-served NotOpen e = omega (arith, e)
never-served Full e = omega (arith, e)
never-served NumberZero e = omega (arith, e)
never-served NotCancelled e = omega (arith, e)
never-served Held e = omega (arith, e)
never-served NotHeld e = omega (arith, e)
