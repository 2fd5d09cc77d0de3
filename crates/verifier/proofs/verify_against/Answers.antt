-- `verify_against` meets its contract: what writing refuses, 4 for the word, or whether the bursts cover every difference. Assumes nothing.
use mathlib.Core.Path.{◌≡◌, refl, sym, ap, ◌∙◌}
use mathlib.Core.Bool.{Bool, true, false, cond}
use Prim.Native.Nat.{ℕ}
use native.Mathlib.Omega.{arith}
use borrow.Author.Rules.{rules}
use lib.ListN.{length}
use Rattle.refusals.specs.Refusals.{must, bad_symbol}
use Rattle.combinatorics.specs.Lists.{all_below}
use Rattle.cells.specs.Outcomes.{Coding}
use Rattle.placements.specs.Bridge.{held_as, starts_in}
use Rattle.codes.specs.declared.WordLayout.{WordLayout}
use Rattle.codes.specs.Given.{coding_in}
use Rattle.codes.proofs.Layouts.{numbers-in, small-in, bound, found_in, spoilt-in}
use Rattle.verifier.specs.Verify.{agrees_outside, agreeing, differing, unchecked, verify_under}
use Rattle.std.specs.Prelude.{Ok}
use Rattle.std.proofs.lemmas.Result.{err_from_is_err_and}
use Rattle.refusals.proofs.Numbers.{never-served}
use Rattle.verifier.specs.Answer.{verdict_as}
use Rattle.verifier.proofs.Calls.{Wrote, verify-refused, verify-passed, agreement}
use Rattle.verifier.proofs.verify_against.Goals as goal
use Rattle.verifier.proofs.verify_against.Goals.{After-all_below, After-cover_differences, In_ok-encode_fitting, Start}

abbrev l : Start → WordLayout
l s = s.args.layout

abbrev d : Start → Coding
d s = coding_in s.args.layout

-- writing was refused nothing
wrote : (c : In_ok-encode_fitting) → Wrote (d (goal.at.In_ok-encode_fitting c).Start)
    (held_as c.args.at)
    c.args.message.now
    c.args.word.now
    c.args.expected.now
wrote c =
    verify-passed (d (goal.at.In_ok-encode_fitting c).Start) (held_as c.args.at) c.args.message.now c.args.word.now c.args.expected.now (c.requires.room ∙ sym c.requires.complete)
    (sym c.in_ok-encode_fitting.ensures.answer)

-- the test of the word's symbols
symbols-are : (c : After-all_below) → c.all_below.result ≡ all_below
    (d (goal.at.After-all_below c).Start).codec.found_bound
    c.args.word.now
symbols-are c =
    c.all_below.ensures
    ∙ ap (λ (n : ℕ). all_below n c.args.word.now) (c.found_bound.ensures ∙ sym (found_in (l (goal.at.After-all_below c).Start) c.requires.serves))

pub overflow_cast-layout : goal.overflow_cast-layout
overflow_cast-layout c =
    omega (arith, bound (l (goal.at.overflow_cast-layout c).Start) c.requires.serves)

pub cover_differences-requires : goal.cover_differences-requires
cover_differences-requires c =
    let few = small-in (l (goal.at.cover_differences-requires c).Start) c.requires.serves in
    let same : length c.encode_fitting.new.word ≡ length c.args.expected.now =
    search rules in
    (omega (arith, (wrote (goal.at.cover_differences-requires c).In_ok-encode_fitting).count, few.bursts-most), same ∙ c.requires.room ∙ sym c.requires.complete)

-- the verdict is that of the differences
judged : (c : After-cover_differences) (b : Bool) → c.cover_differences.result ≡ b
    → verify_under (d (goal.at.After-cover_differences c).Start)
    (held_as c.args.at)
    c.args.message.now
    c.args.word.now
    ≡ cond b agreeing differing
judged c b e =
    let w = c.args.word.now in
    let ss = starts_in c.args.at in
    let ms = c.args.message.now in
    let held = wrote (goal.at.After-cover_differences c).In_ok-encode_fitting in
    let n-is : length w ≡ (d (goal.at.After-cover_differences c).Start).codec.word_len = c.requires.complete ∙ (numbers-in (l (goal.at.After-cover_differences c).Start) c.requires.serves).word-is in
    let agrees : agrees_outside (d (goal.at.After-cover_differences c).Start).codec w ss ms ≡ b =
    rw (
      ← agreement (d (goal.at.After-cover_differences c).Start).codec (l (goal.at.After-cover_differences c).Start).b (spoilt-in (l (goal.at.After-cover_differences c).Start) c.requires.serves) w ss ms,
      ← n-is,
      ← held.word-is,
      ← c.encode_fitting.ensures.word,
      ← c.cover_differences.ensures,
    ) e in
    held.rest
    ∙ ap (λ (t : Bool). must t (unchecked bad_symbol) (cond (agrees_outside (d (goal.at.After-cover_differences c).Start).codec w ss ms) agreeing differing))
    (sym (symbols-are (goal.at.After-cover_differences c).After-all_below) ∙ c.if-not-all_below.false)
    ∙ ap (λ (t : Bool). cond t agreeing differing) agrees

pub returns-in_err-encode_fitting : goal.returns-in_err-encode_fitting
returns-in_err-encode_fitting c =
    let a = c.args in
    let p = err_from_is_err_and c.from_residual.result c.from_residual.ensures.1 in
    let e = c.in_err-encode_fitting.ensures.answer in
    rw (p.1, p.2) (ap unchecked e ∙ sym (verify-refused (d (goal.at.returns-in_err-encode_fitting c).Start) (held_as a.at) a.message.now a.word.now a.expected.now
    (c.requires.room ∙ sym c.requires.complete) (λ z. never-served _ (e ∙ z))))

pub returns : goal.returns
returns c = by_bool c.cover_differences.result refl
  where
    by_bool : (b : Bool) → c.cover_differences.result ≡ b → verdict_as (Ok c.cover_differences.result)
        ≡ verify_under (d (goal.at.returns c).Start) (held_as c.args.at) c.args.message.now c.args.word.now
    by_bool true e = rw e (sym (judged (goal.at.returns c).After-cover_differences true e))
    by_bool false e = rw e (sym (judged (goal.at.returns c).After-cover_differences false e))
