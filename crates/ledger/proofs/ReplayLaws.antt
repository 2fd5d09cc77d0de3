-- The outcome of a replay, refusal by refusal, and what it says of the ledger. Assumes nothing.
use mathlib.Core.Path.{◌≡◌, sym, ap, subst, ◌∙◌}
use mathlib.Core.Logic.{◌≢◌}
use mathlib.Core.Bool.{Bool, true, false}
use mathlib.Core.List.{List}
use Prim.Native.Nat.{ℕ}
use native.Mathlib.Omega.{arith}
use lib.ListN.{length}
use Rattle.refusals.specs.Refusals.{served, wrong_length, bad_record, must}
use Rattle.refusals.specs.Numbers.{answer_of}
use Rattle.combinatorics.specs.Lists.{all}
use Rattle.combinatorics.proofs.Cases.{eqb_same, eqb-other}
use Rattle.jobs.specs.declared.Entry.{Entry}
use Rattle.jobs.specs.Jobs.{Call}
use Rattle.jobs.specs.Table.{TableOut, refuse}
use Rattle.ledger.specs.Simulation.{Agrees, Follows}
use Rattle.jobs.specs.Slots.{CallAnswer, entries, outcome}
use Rattle.jobs.specs.Letters.{is_list_letter}
use Rattle.ledger.specs.Replay.{calls_of, lengths_fit, ReplayOut, replayed, turn_away, made, replay_out, AreCalls}
use Rattle.ledger.proofs.Simulates.{simulation}

-- what a table's refusal is for the whole list
pub turned-away : (r : CallAnswer) (es : List Entry) (a : ℕ) (answers : List ℕ) → outcome r ≡ refuse es a → replayed r answers ≡ turn_away es answers a
turned-away r es a answers out = ap (λ (o : TableOut). record { answer = o.answer; table = o.table; answers = answers }) out

module _ (start : List Entry) (letters numbers answers : List ℕ) where
  fit : length numbers ≡ length letters → length answers ≡ length letters → lengths_fit letters numbers answers ≡ true
  unfolding lengths_fit
  fit n a = rw (eqb_same (length numbers) (length letters) n, eqb_same (length answers) (length letters) a)

  unfit : lengths_fit letters numbers answers ≡ false → turn_away start answers wrong_length ≡ replay_out start letters numbers answers
  unfolding replay_out
  unfit p = rw p

  pub numbers-unfit : length numbers ≢ length letters → turn_away start answers wrong_length ≡ replay_out start letters numbers answers
  unfolding lengths_fit
  numbers-unfit n = unfit (rw (eqb-other (length numbers) (length letters) n))

  pub answers-unfit : length numbers ≡ length letters → length answers ≢ length letters
      → turn_away start answers wrong_length ≡ replay_out start letters numbers answers
  unfolding lengths_fit
  answers-unfit n a = unfit (rw (eqb_same (length numbers) (length letters) n, eqb-other (length answers) (length letters) a))

  pub letter-unknown : length numbers ≡ length letters → length answers ≡ length letters → all is_list_letter letters ≡ false
      → turn_away start answers bad_record ≡ replay_out start letters numbers answers
  unfolding replay_out
  letter-unknown n a k = rw (fit n a, k)

  pub calls-served : AreCalls letters numbers answers → made start (calls_of letters numbers) ≡ replay_out start letters numbers answers
  unfolding replay_out
  calls-served h = rw (fit h.numbers_fit h.answers-fit, h.known-letters)

  -- a list that is served follows the ledger
  served-follows : (before : List Call) → Agrees start before → (replay_out start letters numbers answers).answer ≡ served
      → Follows before (calls_of letters numbers) (replay_out start letters numbers answers).answers (replay_out start letters numbers answers).table
  unfolding replay_out
  served-follows before agrees = go (lengths_fit letters numbers answers) (all is_list_letter letters)
    where
      outcome-of : Bool → Bool → ReplayOut
      outcome-of f k = must f (turn_away start answers wrong_length) (must k (turn_away start answers bad_record) (made start (calls_of letters numbers)))

      go : (f k : Bool) → (outcome-of f k).answer ≡ served → Follows before (calls_of letters numbers) (outcome-of f k).answers (outcome-of f k).table
      go true true p = simulation start before agrees (calls_of letters numbers)
      go true false p = absurd (let z : bad_record ≡ served = p in omega arith)
      go false k p = absurd (let z : wrong_length ≡ served = p in omega arith)

  pub meets : (r : CallAnswer) (after : List ℕ) → replayed r after ≡ replay_out start letters numbers answers
      → (replayed r after ≡ replay_out start letters numbers answers)
      × ((before : List Call) → Agrees start before → answer_of r.answer ≡ served → Follows before (calls_of letters numbers) after (entries r.table))
  meets r after e = (
    e,
    λ before agrees z.
        subst (λ (o : ReplayOut). Follows before (calls_of letters numbers) o.answers o.table) (sym e)
        (served-follows before agrees (sym (ap (λ (o : ReplayOut). o.answer) e) ∙ z)),
  )
