-- The text that a prescription is stored as. Assumes nothing.
use Rattle.std.proofs.Common.{◌≡◌, ℕ, suc, ◌-◌, ◌<◌, ◌≤◌, Bool, true, false, ◌&&◌, leb, List, ◌∷◌, ◌++◌, length, set, replicate, ℤ, pos, negsuc, nat_abs, sym, refl, ap, ◌∙◌, arith, le-leb}
use mathlib.Core.Option.{Option, none, some, none-ne-some}
use borrow.Author.Tests.{lt-leb}
use Rattle.refusals.specs.Refusals.{must, served, bad_prescription}
use Rattle.prescription.specs.declared.texts.Prescription.{Prescription}
use Rattle.prescription.specs.declared.fields.StoredEye.{StoredEye}
use Rattle.prescription.specs.Fractions.{count_of}
use Rattle.prescription.specs.Lens.{Lens}
use Rattle.prescription.specs.Eyes.{lens_of, is_distance, Prescribed, joined_eyes, prescribed_of}
use Rattle.prescription.specs.Stored.{bits_of, fields_of, bytes_of, stored_len, text_of}
use Rattle.prescription.specs.Counts.{limit, bits_in, stored_of, with_eye, stored_text, stored_out}
use Rattle.prescription.specs.Outcomes.{written_text, written_or, write_text_out}
use Rattle.prescription.proofs.Storing.{beyond, bits-told, no_second}

-- ---- Byte by byte

-- a text of 13 bytes and j more
laid_on : (j : ℕ) (r l : StoredEye) (h : ℕ)
    → set (with_eye (with_eye (replicate (suc (suc (suc (suc (suc (suc (suc (suc (suc (suc (suc (suc (suc j))))))))))))) 0) 0 r) 6 l) 12 h
    ≡ bytes_of r ++ (bytes_of l ++ (h ∷ replicate j 0))
laid_on j r l h = refl

longer : (n : ℕ) → 13 ≤ n → n ≡ suc (suc (suc (suc (suc (suc (suc (suc (suc (suc (suc (suc (suc (n - 13)))))))))))))
longer n h = omega arith

pub laid : (n : ℕ) (r l : StoredEye) (h : ℕ) → 13 ≤ n → set (with_eye (with_eye (replicate n 0) 0 r) 6 l) 12 h ≡ stored_text n r l h
unfolding stored_text
laid n r l h k = ap (λ (m : ℕ). set (with_eye (with_eye (replicate m 0) 0 r) 6 l) 12 h) (longer n k) ∙ laid_on (n - 13) r l h

-- ---- The distance

pub short-distance : (t : List ℕ) (r l : StoredEye) (h : ℕ) → h < 80 → written_text bad_prescription t ≡ stored_out t r l h
unfolding stored_out
short-distance t r l h k = ap (λ (b : Bool). must (b && leb h 160) (written_text bad_prescription t) (written_text served (stored_text (length t) r l h)))
    (sym (lt-leb 80 h k))

pub long-distance : (t : List ℕ) (r l : StoredEye) (h : ℕ) → 160 < h → written_text bad_prescription t ≡ stored_out t r l h
unfolding stored_out
long-distance t r l h k = ap (λ (b : Bool). must b (written_text bad_prescription t) (written_text served (stored_text (length t) r l h)))
    (sym (no_second (leb 80 h) (leb h 160) (lt-leb h 160 k)))

pub right-distance : (t x : List ℕ) (r l : StoredEye) (h : ℕ) → 80 ≤ h → h ≤ 160 → x ≡ stored_text (length t) r l h → written_text served x ≡ stored_out t r l h
unfolding stored_out
right-distance t x r l h j k e =
    ap (written_text served) e
    ∙ ap (λ (b : Bool). must (true && b) (written_text bad_prescription t) (written_text served (stored_text (length t) r l h))) (sym (le-leb h 160 k))
    ∙ ap (λ (b : Bool). must (b && leb h 160) (written_text bad_prescription t) (written_text served (stored_text (length t) r l h))) (sym (le-leb 80 h j))

-- ---- The whole

pub write-short : (p : Prescription) (t : List ℕ) → length t < stored_len → written_text bad_prescription t ≡ write_text_out p t
unfolding write_text_out
write-short p t h = ap (λ (b : Bool). must b (written_text bad_prescription t) (written_or t (prescribed_of p))) (sym (lt-leb stored_len (length t) h))

nothing : (p : Prescription) (t : List ℕ) → prescribed_of p ≡ none → written_text bad_prescription t ≡ write_text_out p t
unfolding write_text_out
nothing p t h = go (leb stored_len (length t)) ∙ ap (λ (o : Option Prescribed). must (leb stored_len (length t)) (written_text bad_prescription t) (written_or t o))
    (sym h)
  where
    go : (b : Bool) → written_text bad_prescription t ≡ must b (written_text bad_prescription t) (written_text bad_prescription t)
    go true = refl
    go false = refl

stored-none : (o : Option Lens) → none ≡ stored_of o → o ≡ none
stored-none none h = refl
stored-none (some l) h = absurd (none-ne-some _ h)

no-left : (r : Option Lens) (h : Option ℤ) → joined_eyes r none h ≡ none
no-left none h = refl
no-left (some r) h = refl

no_distance : (r l : Option Lens) (o : Option ℤ) → none ≡ bits_in o → joined_eyes r l o ≡ none
no_distance none l o h = refl
no_distance (some r) none o h = refl
no_distance (some r) (some l) none h = refl
no_distance (some r) (some l) (some (negsuc n)) h = refl
no_distance (some r) (some l) (some (pos n)) h =
    ap (λ (b : Bool). must b none (some (record { right = r; left = l; halves = n })))
    (no_second (leb 80 n) (leb n 160) (lt-leb n 160 (let k = beyond (pos n) h in omega arith)))

pub write-no-right : (p : Prescription) (t : List ℕ) → none ≡ stored_of (lens_of p.right) → written_text bad_prescription t ≡ write_text_out p t
unfolding prescribed_of
write-no-right p t h = nothing p t
    (ap (λ (o : Option Lens). joined_eyes o (lens_of p.left) (count_of 2 p.pupil_distance)) (stored-none (lens_of p.right) h))

pub write-no-left : (p : Prescription) (t : List ℕ) → none ≡ stored_of (lens_of p.left) → written_text bad_prescription t ≡ write_text_out p t
unfolding prescribed_of
write-no-left p t h =
    nothing p t (ap (λ (o : Option Lens). joined_eyes (lens_of p.right) o (count_of 2 p.pupil_distance)) (stored-none (lens_of p.left) h)
    ∙ no-left (lens_of p.right) (count_of 2 p.pupil_distance))

pub write-no-distance : (p : Prescription) (t : List ℕ) → none ≡ bits_in (count_of 2 p.pupil_distance) → written_text bad_prescription t ≡ write_text_out p t
unfolding prescribed_of
write-no-distance p t h = nothing p t (no_distance (lens_of p.right) (lens_of p.left) (count_of 2 p.pupil_distance) h)

pub record LensTold (o : Option Lens) (e : StoredEye) : Type 0 where
  pub lens : Lens
  pub is : o ≡ some lens
  pub fields-are : e ≡ fields_of lens

lens-told : (o : Option Lens) (e : StoredEye) → some e ≡ stored_of o → LensTold o e
lens-told none e h = absurd (none-ne-some e (sym h))
lens-told (some l) e h = record { lens = l; is = refl; fields-are = cc }

-- by the sign of the count
by_count : (t : List ℕ) (r l : Lens) (c : ℤ) → nat_abs c < limit
    → stored_out t (fields_of r) (fields_of l) (bits_of c) ≡ written_or t (joined_eyes (some r) (some l) (some c))
unfolding stored_out text_of stored_text
by_count t r l (pos h) k = go (is_distance h)
  where
    go : (b : Bool) → must b (written_text bad_prescription t) (written_text served (stored_text (length t) (fields_of r) (fields_of l) h)) ≡ written_or t
        (must b none (some (record { right = r; left = l; halves = h })))
    go true = refl
    go false = refl
by_count t r l (negsuc n) k = sym (long-distance t (fields_of r) (fields_of l) (65535 - n) (omega arith))

pub write-told : (p : Prescription) (t : List ℕ) (e f : StoredEye) (u : ℕ) → stored_len ≤ length t → some e ≡ stored_of (lens_of p.right)
    → some f ≡ stored_of (lens_of p.left)
    → some u ≡ bits_in (count_of 2 p.pupil_distance) → stored_out t e f u ≡ write_text_out p t
unfolding write_text_out prescribed_of
write-told p t e f u n a b c =
    let r = lens-told (lens_of p.right) e a in
    let l = lens-told (lens_of p.left) f b in
    let h = bits-told (count_of 2 p.pupil_distance) u c in
    ap (λ (x : StoredEye). stored_out t x f u) r.fields-are
    ∙ ap (λ (x : StoredEye). stored_out t (fields_of r.lens) x u) l.fields-are
    ∙ ap (stored_out t (fields_of r.lens) (fields_of l.lens)) h.bits
    ∙ by_count t r.lens l.lens h.count h.small
    ∙ ap (λ (o : Option Lens). written_or t (joined_eyes o (some l.lens) (some h.count))) (sym r.is)
    ∙ ap (λ (o : Option Lens). written_or t (joined_eyes (lens_of p.right) o (some h.count))) (sym l.is)
    ∙ ap (λ (o : Option ℤ). written_or t (joined_eyes (lens_of p.right) (lens_of p.left) o)) (sym h.is)
    ∙ ap (λ (x : Bool). must x (written_text bad_prescription t) (written_or t (prescribed_of p))) (sym (le-leb stored_len (length t) n))
