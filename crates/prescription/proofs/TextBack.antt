-- A prescription that keeps the rules reads back from its text, and document 02's fields in worked examples. Assumes nothing.
use Rattle.std.proofs.Common.{◌≡◌, ℕ, suc, ◌+◌, ◌-◌, ◌*◌, ◌/◌, ◌%◌, ◌<◌, ◌≤◌, Bool, true, ◌&&◌, eqb, List, ◌∷◌, ◌++◌, length, replicate, ℤ, pos, nat_abs, refl, ap, ◌∙◌, div-add-mod', arith, le-leb}
use mathlib.Core.Option.{Option, none, some}
use Rattle.refusals.specs.Refusals.{must}
use Rattle.combinatorics.specs.Lists.{all}
use Rattle.combinatorics.proofs.Lists.{all_replicate}
use Rattle.prescription.specs.declared.fields.StoredEye.{StoredEye}
use Rattle.prescription.specs.Lens.{Lens, plano, sphere, toric, keeps}
use Rattle.prescription.specs.Eyes.{ruled, Prescribed, KeepsRules, joined_eyes, prescription_of}
use Rattle.prescription.specs.Stored.{bits_of, count_in, fields, fields_of, lens_in, bytes_of, fields_at, stored_len, text_of, prescribed_in, prescribed_at}
use Rattle.prescription.specs.Counts.{limit}
use Rattle.prescription.specs.Outcomes.{answered, or_refused, read_text_out}
use Rattle.prescription.proofs.Storing.{count-of-bits}
use Rattle.prescription.proofs.Lenses.{toric-kept, sphere-kept, cylinder-in}
use Rattle.prescription.proofs.LensOfEye.{rule-kept}

below : (n m : ℕ) → n ≤ m → m ≤ 1024 → n < limit
below n m h k = omega arith

-- fields of a lens that keeps the rules
pub fields_back : (l : Lens) → keeps l ≡ true → lens_in (fields_of l) ≡ some l
unfolding lens_in fields_of
fields_back plano h = refl
fields_back (sphere p) h = ap (λ (c : ℤ). ruled (sphere c)) (count-of-bits p (below (nat_abs p) 240 (sphere-kept p h) (omega arith))) ∙ rule-kept (sphere p) h
fields_back (toric s c a) h =
    let k = toric-kept s c a h in
    ap (λ (z : ℤ). ruled (toric z (count_in (bits_of c)) a)) (count-of-bits s (below (nat_abs s) 240 k.sphere-in (omega arith)))
    ∙ ap (λ (z : ℤ). ruled (toric s z a)) (count-of-bits c (below (nat_abs c) 480 (cylinder-in s c a k) (omega arith)))
    ∙ rule-kept (toric s c a) h

joined_bytes : (f : StoredEye) → fields f.kind (f.sphere / 256 * 256 + f.sphere % 256) (f.cylinder / 256 * 256 + f.cylinder % 256) f.axis ≡ f
joined_bytes f =
    ap (λ (s : ℕ). fields f.kind s (f.cylinder / 256 * 256 + f.cylinder % 256) f.axis) (div-add-mod' f.sphere 256)
    ∙ ap (λ (c : ℕ). fields f.kind f.sphere c f.axis) (div-add-mod' f.cylinder 256)

pub text-back : (n : ℕ) (x : Prescribed) → KeepsRules x → prescribed_in (text_of n x) ≡ some x
unfolding prescribed_in text_of
text-back n x k =
    let zeros : List ℕ = replicate (n - stored_len) 0 in
    ap (λ (b : Bool). must (b && all (λ y. eqb y 0) zeros) none
    (prescribed_at (bytes_of (fields_of x.right) ++ (bytes_of (fields_of x.left) ++ (x.halves ∷ zeros)))))
    (le-leb stored_len (length (bytes_of (fields_of x.right) ++ (bytes_of (fields_of x.left) ++ (x.halves ∷ zeros)))) (long (length zeros)))
    ∙ ap (λ (b : Bool). must (true && b) none (prescribed_at (bytes_of (fields_of x.right) ++ (bytes_of (fields_of x.left) ++ (x.halves ∷ zeros)))))
    (all_replicate (λ y. eqb y 0) (n - stored_len) 0 refl)
    ∙ ap (λ (f : StoredEye). joined_eyes (lens_in f)
    (lens_in (fields_at (bytes_of (fields_of x.right) ++ (bytes_of (fields_of x.left) ++ (x.halves ∷ zeros))) 6))
    (some (pos x.halves))) (joined_bytes (fields_of x.right))
    ∙ ap (λ (f : StoredEye). joined_eyes (lens_in (fields_of x.right)) (lens_in f) (some (pos x.halves))) (joined_bytes (fields_of x.left))
    ∙ ap (λ (o : Option Lens). joined_eyes o (lens_in (fields_of x.left)) (some (pos x.halves))) (fields_back x.right k.right_kept)
    ∙ ap (λ (o : Option Lens). joined_eyes (some x.right) o (some (pos x.halves))) (fields_back x.left k.left-kept)
    ∙ ap (λ (b : Bool). must b none (some x)) k.distance
  where
    long : (j : ℕ) → 13 ≤ suc (suc (suc (suc (suc (suc (suc (suc (suc (suc (suc (suc (suc j))))))))))))
    long j = omega arith

-- what is read from the text of a prescription is its floats
pub reads-back : (n : ℕ) (x : Prescribed) → KeepsRules x → read_text_out (text_of n x) ≡ answered (prescription_of x)
unfolding read_text_out
reads-back n x k = ap (or_refused prescription_of) (text-back n x k)
