-- Serving ends, and what every record served keeps holds where the system is wanted. Assumes nothing.
use mathlib.Core.Path.{◌≡◌, refl, sym, ap, subst, ◌∙◌}
use mathlib.Core.Bool.{Bool, true, false, cond, ◌&&◌, true≢false, false≢true}
use mathlib.Core.List.{List, [], ◌∷◌}
use Prim.Native.Nat.{ℕ, zero, suc, ◌≤◌, ◌<◌}
use native.Mathlib.Omega.{arith}
use lib.Dec.{eqb}
use lib.ListN.{length, take, drop, length-take, length-drop}
use Rattle.combinatorics.proofs.Cases.{by_bool, by_le, by-eq, eqb-other}
use Rattle.combinatorics.proofs.Lists.{both}
use Rattle.records.specs.Session.{Session}
use Rattle.transfer.specs.Steps.{step_out}
use Rattle.records.specs.Records.{begun_len, needed_for}
use Rattle.records.proofs.Readable.{needed-least}
use Rattle.turns.specs.declared.Phase.{Phase}
use Rattle.turns.specs.declared.Phase.TheVariants.{Open, Ended, Failed, Done}
use Rattle.turns.specs.declared.Wants.{Wants}
use Rattle.turns.specs.declared.Wants.TheVariants.{Read, Write, Stop}
use Rattle.turns.specs.View.{View, at_begin, wants_at, wants_of, needs, ready_at, room_at, is_servable, step_at, step_for, served_out, served_view, advance_out}

-- ---- A record that is served and does not stop has a byte

no_bytes : (s : Session) (bytes : List ℕ) → length bytes ≡ 0 → (step_out s bytes).stops ≡ true
unfolding step_out
no_bytes s [] e = refl
no_bytes s (x ∷ xs) e = absurd (omega arith)

step-shorter : (p : Phase) (s : Session) (w : List ℕ) → (step_at p s (take (needed_for s w) w)).stops ≡ false → length (drop (needed_for s w) w) < length w
step-shorter p s w goes =
    by_bool (step_out s (take (needed_for s w) w)).stops (λ e. absurd (true≢false (sym (same p e) ∙ goes)))
    (λ e. by-eq (length w) 0 (λ b. length (drop (needed_for s w) w) < length w)
    (λ z. absurd (true≢false (sym (no_bytes s (take (needed_for s w) w) (omega (arith, length-take (needed_for s w) w))) ∙ e)))
    (λ z. omega (arith, length-drop (needed_for s w) w, needed-least s w)))
  where
    same : (p : Phase) → (step_out s (take (needed_for s w) w)).stops ≡ true → (step_at p s (take (needed_for s w) w)).stops ≡ true
    same Open e = e
    same Ended e = e
    same Failed e = refl
    same Done e = e

pub served-shorter : (v : View) → (step_for v).stops ≡ false → length (served_out v).waiting < length v.waiting
served-shorter v goes = step-shorter v.phase v.session v.waiting goes

-- ---- Serving ends

pub done-rests : (v : View) → v.phase ≡ Done → is_servable v ≡ false
done-rests v e = rw e (never (room_at (length v.gathered)))
  where
    never : (b : Bool) → (b && false) ≡ false
    never true = refl
    never false = refl

serve-rests : (most : ℕ) (v : View) → is_servable v ≡ false → served_view most v ≡ v
unfolding served_view
serve-rests zero v e = refl
serve-rests (suc most) v e = rw e

stopped-done : (v : View) → (step_for v).stops ≡ true → (served_out v).phase ≡ Done
stopped-done v e = rw e

-- as many as there are bytes, and one more, are enough
serve-enough : (k j : ℕ) (v : View) → length v.waiting < k → length v.waiting < j → served_view k v ≡ served_view j v
unfolding served_view
serve-enough zero j v h g = absurd (omega arith)
serve-enough (suc k) zero v h g = absurd (omega arith)
serve-enough (suc k) (suc j) v h g =
    ap (λ (x : View). cond (is_servable v) x v)
    (by_bool (step_for v).stops
    (λ e. let rests = done-rests (served_out v) (stopped-done v e) in serve-rests k (served_out v) rests ∙ sym (serve-rests j (served_out v) rests))
    (λ e. let l = served-shorter v e in serve-enough k j (served_out v) (omega arith) (omega arith)))

pub advance-rests : (v : View) → is_servable v ≡ false → advance_out v ≡ v
advance-rests v e = serve-rests (suc (length v.waiting)) v e

pub advance-serves : (v : View) → is_servable v ≡ true → advance_out v ≡ advance_out (served_out v)
unfolding served_view
advance-serves v e =
    rw e
    (by_bool (step_for v).stops
    (λ s. let rests = done-rests (served_out v) (stopped-done v s) in
    serve-rests (length v.waiting) (served_out v) rests ∙ sym (advance-rests (served_out v) rests))
    (λ s. let l = served-shorter v s in serve-enough (length v.waiting) (suc (length (served_out v).waiting)) (served_out v) (omega arith) (omega arith)))

-- ---- What holds then

module _ (P : View → Type 0) (keep : (v : View) → is_servable v ≡ true → P v → P (served_out v)) where
  serve-keeps : (most : ℕ) (v : View) → P v → P (served_view most v)
  unfolding served_view
  serve-keeps zero v p = p
  serve-keeps (suc most) v p = go (is_servable v) (λ e. serve-keeps most (served_out v) (keep v e p))
    where
      go : (b : Bool) → (b ≡ true → P (served_view most (served_out v))) → P (cond b (served_view most (served_out v)) v)
      go true more = more refl
      go false more = p

  pub advance-keeps : (v : View) → P v → P (advance_out v)
  advance-keeps v p = serve-keeps (suc (length v.waiting)) v p

serve-ends : (most : ℕ) (v : View) → length v.waiting < most → is_servable (served_view most v) ≡ false
unfolding served_view
serve-ends zero v h = absurd (omega arith)
serve-ends (suc most) v h = go (is_servable v) refl (λ s. let l = served-shorter v s in serve-ends most (served_out v) (omega arith))
  where
    go : (b : Bool) → is_servable v ≡ b → ((step_for v).stops ≡ false → is_servable (served_view most (served_out v)) ≡ false)
        → is_servable (cond b (served_view most (served_out v)) v) ≡ false
    go true e more =
        by_bool (step_for v).stops
        (λ s. let rests = done-rests (served_out v) (stopped-done v s) in
        subst (λ (x : View). is_servable x ≡ false) (sym (serve-rests most (served_out v) rests)) rests)
        more
    go false e more = e

-- no more can be served
pub advance-ends : (v : View) → is_servable (advance_out v) ≡ false
advance-ends v = serve-ends (suc (length v.waiting)) v (omega arith)

-- ---- What is wanted then

-- nothing is gathered
none-gathered : (g : List ℕ) (p : Phase) → (w : Wants) → wants_at (length g) p ≡ w → (w ≡ Write → ⊥) → g ≡ []
none-gathered [] p w e n = refl
none-gathered (x ∷ xs) p w e n =
    let some : eqb (length (x ∷ xs)) 0 ≡ false = eqb-other (length (x ∷ xs)) 0 (λ z. omega arith) in
    absurd (n (sym e ∙ rw some))

reads-open : (p : Phase) (s : Session) (w : List ℕ) → is_servable (record { session = s; waiting = w; gathered = []; phase = p }) ≡ false
    → wants_at 0 p ≡ Read → (p ≡ Open) × (length w < needed_for s w)
reads-open Open s w h e = (refl, by_le (needed_for s w) (length w) (λ b. b ≡ false → length w < needed_for s w) (λ _ f. absurd (true≢false f)) (λ l _. l) h)
reads-open Ended s w h e = absurd (true≢false h)
reads-open Failed s w h e = absurd (true≢false h)
reads-open Done s w h e = let z : ◌≡◌ {A = ℕ} 0 1 = cc in absurd (omega arith)

pub record Reading (v : View) : Type 0 where
  pub open-still : v.phase ≡ Open
  pub written_all : v.gathered ≡ []
  pub lacks : length v.waiting < needs v

-- a read is wanted only of an input that goes on, with all lines written, and where the next record is not there as a whole
pub reads : (v : View) → is_servable v ≡ false → wants_of v ≡ Read → Reading v
reads v rests e =
    let g = none-gathered v.gathered v.phase Read e (λ (f : Read ≡ Write). let z : ◌≡◌ {A = ℕ} 0 1 = cc in omega arith) in
    let o = reads-open v.phase v.session v.waiting (rw g at rests) (rw g at e) in
    record { open-still = o.0; written_all = g; lacks = o.1 }

stops-done : (p : Phase) → wants_at 0 p ≡ Stop → p ≡ Done
stops-done Open e = let z : ◌≡◌ {A = ℕ} 0 1 = cc in absurd (omega arith)
stops-done Ended e = let z : ◌≡◌ {A = ℕ} 0 1 = cc in absurd (omega arith)
stops-done Failed e = let z : ◌≡◌ {A = ℕ} 0 1 = cc in absurd (omega arith)
stops-done Done e = refl

-- the program stops where the last line is written
pub stops-written : (v : View) → wants_of v ≡ Stop → (v.phase ≡ Done) × (v.gathered ≡ [])
stops-written v e =
    let g = none-gathered v.gathered v.phase Stop e (λ (f : Stop ≡ Write). let z : ◌≡◌ {A = ℕ} 0 1 = cc in omega arith) in
    (stops-done v.phase (rw g at e), g)

pub begin-rests : is_servable at_begin ≡ false
unfolding begun_len
begin-rests = refl

-- ---- How many may be served at most

abbrev pub turns_at : Phase → ℕ → ℕ
turns_at Open n = suc n
turns_at Ended n = suc n
turns_at Failed n = suc n
turns_at Done n = 0

going-turns : (p : Phase) (n : ℕ) → turns_at p n ≤ suc n
going-turns Open n = omega arith
going-turns Ended n = omega arith
going-turns Failed n = omega arith
going-turns Done n = omega arith

ready-turns : (p : Phase) (k m n : ℕ) → ready_at p k m ≡ true → turns_at p n ≡ suc n
ready-turns Open k m n h = refl
ready-turns Ended k m n h = refl
ready-turns Failed k m n h = refl
ready-turns Done k m n h = absurd (false≢true h)

pub serves-less : (v : View) → is_servable v ≡ true → turns_at (served_out v).phase (length (served_out v).waiting) < turns_at v.phase (length v.waiting)
serves-less v e =
    let is = ready-turns v.phase (needs v) (length v.waiting) (length v.waiting)
    (both (room_at (length v.gathered)) (ready_at v.phase (needs v) (length v.waiting)) e).1 in
    by_bool (step_for v).stops
    (λ s. let d : turns_at (served_out v).phase (length (served_out v).waiting) ≡ 0 =
    ap (λ (p : Phase). turns_at p (length (served_out v).waiting)) (stopped-done v s) in omega arith)
    (λ s. omega (arith, served-shorter v s, going-turns (served_out v).phase (length (served_out v).waiting)))
