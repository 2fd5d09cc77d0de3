-- `spelled` meets its contract: the digits of the blocks from `block` on are made. Assumes nothing.
use mathlib.Core.Path.{◌≡◌, refl, ap, ◌∙◌, subst}
use Prim.Native.Nat.{ℕ, suc, ◌+◌, ◌*◌, ◌%◌, ◌≤◌, ◌<◌, ◌-◌}
use native.Mathlib.Numerals.{add-one}
use native.Mathlib.Nat.{zero-mul, suc-mul, mul-le-mul_right, add_comm}
use native.Mathlib.Omega.{arith}
use lib.ListN.{length, length-set, replicate}
use Rattle.cells.specs.Digits.{lead, places}
use Rattle.cells.proofs.Digits.{length-places}
use Rattle.encoder.specs.Digits.{max_digits, SpelledFrom}
use Rattle.encoder.proofs.Spelling.{start, turn, done, lead-there, plain-there}
use Rattle.encoder.proofs.digits.spelled.Goals as goal
use Rattle.encoder.proofs.digits.spelled.Goals.{In-loop-block}

-- all places
places-len : (m r : ℕ) → length (places m r) ≡ m * (r + 1)
places-len m r = rw (add-one r) (length-places m r)

pub loop-block-init : goal.loop-block-init
loop-block-init c =
    let a = c.args in
    let n = places-len a.m a.tail in
    let ps = places a.m a.tail in (
      refl,
      subst (λ (y : ℕ). SpelledFrom a.q ps a.value y a.value (replicate 128 0)) n
          (start a.q ps a.value c.requires.alphabet (replicate 128 0) c.requires.below (omega (arith, c.requires.room, length-places a.m a.tail))),
    )

-- a block's places lie among all
block_within : (c : In-loop-block)
    → (c.loop-block.block - 1) * (c.args.tail + 1) + 1 + c.args.tail
    ≤ length (places c.args.m c.args.tail)
block_within c =
    let t = c.args.tail + 1 in
    let l : suc (c.loop-block.block - 1) ≤ c.args.m = omega arith in
    omega (arith, suc-mul (c.loop-block.block - 1) t, mul-le-mul_right t l, places-len c.args.m c.args.tail)

few : (c : In-loop-block) → length (places c.args.m c.args.tail) ≤ max_digits
few c = omega (arith, length-places c.args.m c.args.tail, c.requires.room)

pub loop-block-preserved : goal.loop-block-preserved
loop-block-preserved c =
    let a = c.args in
    let k = c.loop-block.block - 1 in
    let t = a.tail + 1 in
    let ps = places a.m a.tail in
    let l : k < a.m = omega arith in
    let is : c.loop-block.block ≡ suc k = omega arith in
    let to : c.loop-block.block * t ≡ k * t + 1 + a.tail = ap (λ (y : ℕ). y * t) is ∙ omega (arith, suc-mul k t) in
    let inside = block_within (goal.at.loop-block-preserved c).In-loop-block in
    let fit = few (goal.at.loop-block-preserved c).In-loop-block in
    let e = c.put_plain-high.ensures in
    let behind = e.spelled ps a.value fit inside (λ j h. plain-there a.m a.tail k j l h)
    (subst (λ (y : ℕ). SpelledFrom a.q ps a.value y c.loop-block.left c.loop-block.digits) to c.loop-block.invariant.1) in
    let next = turn a.q ps a.value c.requires.alphabet (k * t) c.put_plain-high.result c.put_plain-high.new.digits lead (omega (arith, inside))
    (omega (arith, fit, e.size)) (lead-there a.m a.tail k l)
    (subst (λ (y : ℕ). SpelledFrom a.q ps a.value y c.put_plain-high.result c.put_plain-high.new.digits) (add-one (k * t)) behind) in
    (simp length-set e.size, rw (add_comm 1 (c.put_plain-high.result % (a.q - 1))) at next)

pub returns : goal.returns
returns c =
    let a = c.args in
    let ps = places a.m a.tail in
    let none : c.loop-block.block ≡ 0 = omega arith in
    let e : c.loop-block.block * (a.tail + 1) ≡ 0 = ap (λ (y : ℕ). y * (a.tail + 1)) none ∙ zero-mul (a.tail + 1) in
    rw (← length-places a.m a.tail)
    (done a.q ps a.value c.requires.alphabet c.loop-block.left c.loop-block.digits
    (subst (λ (y : ℕ). SpelledFrom a.q ps a.value y c.loop-block.left c.loop-block.digits) e c.loop-block.invariant.1))
