-- `Params::in_range` meets its contract: each test that fails leaves a figure out of range. Assumes nothing.
use mathlib.Core.Path.{sym}
use native.Mathlib.Omega.{arith}
use Rattle.cells.proofs.Figures.{in-range, out_of_range}
use Rattle.params.proofs.Params.in_range.Goals as goal

pub returns-then-self-lt-MIN_WORD : goal.returns-then-self-lt-MIN_WORD
returns-then-self-lt-MIN_WORD c = sym (out_of_range _ (λ r. omega arith))

pub returns-then-self-gt-MAX_WORD : goal.returns-then-self-gt-MAX_WORD
returns-then-self-gt-MAX_WORD c = sym (out_of_range _ (λ r. omega arith))

pub returns-then-self-lt-MIN_ALPHABET : goal.returns-then-self-lt-MIN_ALPHABET
returns-then-self-lt-MIN_ALPHABET c = sym (out_of_range _ (λ r. omega arith))

pub returns-then-self-gt-MAX_ALPHABET : goal.returns-then-self-gt-MAX_ALPHABET
returns-then-self-gt-MAX_ALPHABET c = sym (out_of_range _ (λ r. omega arith))

pub returns-then-self-lt-MIN_BURSTS : goal.returns-then-self-lt-MIN_BURSTS
returns-then-self-lt-MIN_BURSTS c = sym (out_of_range _ (λ r. omega arith))

pub returns-then-self-gt-MAX_BURSTS : goal.returns-then-self-gt-MAX_BURSTS
returns-then-self-gt-MAX_BURSTS c = sym (out_of_range _ (λ r. omega arith))

pub returns-then-self-lt-MIN_BURST_LEN : goal.returns-then-self-lt-MIN_BURST_LEN
returns-then-self-lt-MIN_BURST_LEN c = sym (out_of_range _ (λ r. omega arith))

pub returns : goal.returns
returns c =
    sym
    (in-range _
    (record {
      n-least = omega arith;
      n-most = omega arith;
      q-least = omega arith;
      q-most = omega arith;
      m-least = omega arith;
      m-most = omega arith;
      b-least = omega arith;
    }))
