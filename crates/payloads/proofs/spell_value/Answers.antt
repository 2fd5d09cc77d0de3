-- `spell_value` meets its contract: the symbols from i on are made. Assumes nothing.
use mathlib.Core.Path.{◌≡◌, refl, subst}
use Prim.Native.Nat.{ℕ}
use native.Mathlib.Omega.{arith}
use lib.ListN.{length}
use Rattle.payloads.proofs.Spelling.{Made, made_none, made-turn, made_all}
use Rattle.payloads.proofs.spell_value.Goals as goal

pub loop-i-init : goal.loop-i-init
loop-i-init c = let a = c.args in made_none a.q (length a.symbols.now) a.value c.requires.alphabet a.symbols.now refl c.requires.below

pub loop-i-preserved : goal.loop-i-preserved
loop-i-preserved c =
    let a = c.args in
    let t = c.loop-i in
    made-turn a.q (length a.symbols.now) a.value c.requires.alphabet t.i t.left t.symbols (omega arith) (omega arith) t.invariant

pub returns : goal.returns
returns c =
    let a = c.args in
    let t = c.loop-i in
    let e : t.i ≡ 0 = omega arith in
    made_all a.q (length a.symbols.now) a.value c.requires.alphabet t.left t.symbols
    (subst (λ (x : ℕ). Made a.q (length a.symbols.now) a.value x t.left t.symbols) e t.invariant)
