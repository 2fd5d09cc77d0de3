-- A text that is read is the text of what it stands for, byte by byte. Assumes nothing.
use Rattle.std.proofs.Common.{◌≡◌, ℕ, suc, ◌+◌, ◌-◌, ◌*◌, ◌/◌, ◌%◌, ◌<◌, Bool, true, false, cond, ◌&&◌, eqb, leb, List, [], ◌∷◌, ◌++◌, length, drop, replicate, pos, negsuc, sym, refl, ap, ◌∙◌, zero-lt-suc, arith}
use mathlib.Core.Option.{Option, none, some, none-ne-some, some-injective}
use Rattle.refusals.specs.Refusals.{must, served, bad_prescription}
use Rattle.combinatorics.specs.Lists.{all, all_below}
use Rattle.combinatorics.proofs.Cases.{by-eq, eqb-true}
use Rattle.combinatorics.proofs.Lists.{both, below_at, all_same}
use Rattle.prescription.specs.declared.fields.StoredEye.{StoredEye}
use Rattle.prescription.specs.Lens.{Lens, plano, sphere, toric, keeps}
use Rattle.prescription.specs.Eyes.{ruled, Prescribed, KeepsRules, prescribed_of, prescription_of, prescription_fits}
use Rattle.prescription.specs.Outcomes.{answered, or_refused, read_text_out, written_text, written_or, write_text_out}
use Rattle.prescription.specs.Laws.{TextsReadBack}
use Rattle.prescription.specs.declared.texts.Prescription.{Prescription}
use Rattle.prescription.specs.Stored.{bits_of, count_in, fields, fields_of, lens_in, bytes_of, byte_at, fields_at, stored_len, text_of, prescribed_in}
use Rattle.prescription.specs.Stored.{prescribed_at}
use Rattle.prescription.proofs.Arithmetic.{by-lt}
use Rattle.prescription.proofs.Storing.{passed}
use Rattle.prescription.proofs.InMemory.{joined-told, held-exactly}
use Rattle.prescription.proofs.TextBack.{reads-back}

pub bits-of-count : (u : ℕ) → u < 65536 → bits_of (count_in u) ≡ u
bits-of-count u h = by-lt u 32768 (λ b. bits_of (cond b (pos u) (negsuc (65535 - u))) ≡ u) (λ l. refl) (λ l. omega arith)

-- ---- Fields

pub record FieldsAre (f : StoredEye) (l : Lens) : Type 0 where
  pub are : fields_of l ≡ f
  pub kept : keeps l ≡ true

module _ (f : StoredEye) (l : Lens) (s-fits : f.sphere < 65536) (c-fits : f.cylinder < 65536) where
  of-plano : f.kind ≡ 0 → must (eqb f.sphere 0 && eqb f.cylinder 0 && eqb f.axis 0) none (some plano) ≡ some l → FieldsAre f l
  unfolding fields_of keeps
  of-plano k h =
      let p = passed (eqb f.sphere 0 && eqb f.cylinder 0 && eqb f.axis 0) (some plano) l h in
      let front = both (eqb f.sphere 0 && eqb f.cylinder 0) (eqb f.axis 0) p.0 in
      let pair = both (eqb f.sphere 0) (eqb f.cylinder 0) front.0 in
      let is : plano ≡ l = some-injective plano l p.1 in
      record {
        are =
            ap fields_of (sym is)
            ∙ ap (λ (z : ℕ). fields z 0 0 0) (sym k)
            ∙ ap (λ (z : ℕ). fields f.kind z 0 0) (sym (eqb-true f.sphere 0 pair.0))
            ∙ ap (λ (z : ℕ). fields f.kind f.sphere z 0) (sym (eqb-true f.cylinder 0 pair.1))
            ∙ ap (λ (z : ℕ). fields f.kind f.sphere f.cylinder z) (sym (eqb-true f.axis 0 front.1));
        kept = ap keeps (sym is);
      }

  of-sphere : f.kind ≡ 1 → must (eqb f.cylinder 0 && eqb f.axis 0) none (ruled (sphere (count_in f.sphere))) ≡ some l → FieldsAre f l
  unfolding fields_of
  of-sphere k h =
      let p = passed (eqb f.cylinder 0 && eqb f.axis 0) (ruled (sphere (count_in f.sphere))) l h in
      let q = passed (keeps (sphere (count_in f.sphere))) (some (sphere (count_in f.sphere))) l p.1 in
      let pair = both (eqb f.cylinder 0) (eqb f.axis 0) p.0 in
      let is : sphere (count_in f.sphere) ≡ l = some-injective (sphere (count_in f.sphere)) l q.1 in
      record {
        are =
            ap fields_of (sym is)
            ∙ ap (λ (z : ℕ). fields z (bits_of (count_in f.sphere)) 0 0) (sym k)
            ∙ ap (λ (z : ℕ). fields f.kind z 0 0) (bits-of-count f.sphere s-fits)
            ∙ ap (λ (z : ℕ). fields f.kind f.sphere z 0) (sym (eqb-true f.cylinder 0 pair.0))
            ∙ ap (λ (z : ℕ). fields f.kind f.sphere f.cylinder z) (sym (eqb-true f.axis 0 pair.1));
        kept = ap keeps (sym is) ∙ q.0;
      }

  of-toric : f.kind ≡ 2 → ruled (toric (count_in f.sphere) (count_in f.cylinder) f.axis) ≡ some l → FieldsAre f l
  unfolding fields_of
  of-toric k h =
      let t = toric (count_in f.sphere) (count_in f.cylinder) f.axis in
      let q = passed (keeps t) (some t) l h in
      let is : t ≡ l = some-injective t l q.1 in
      record {
        are =
            ap fields_of (sym is)
            ∙ ap (λ (z : ℕ). fields z (bits_of (count_in f.sphere)) (bits_of (count_in f.cylinder)) f.axis) (sym k)
            ∙ ap (λ (z : ℕ). fields f.kind z (bits_of (count_in f.cylinder)) f.axis) (bits-of-count f.sphere s-fits)
            ∙ ap (λ (z : ℕ). fields f.kind f.sphere z f.axis) (bits-of-count f.cylinder c-fits);
        kept = ap keeps (sym is) ∙ q.0;
      }

  pub fields-only : lens_in f ≡ some l → FieldsAre f l
  unfolding lens_in
  fields-only =
      by-eq f.kind 0 (λ b. cond b (must (eqb f.sphere 0 && eqb f.cylinder 0 && eqb f.axis 0) none (some plano))
      (cond (eqb f.kind 1) (must (eqb f.cylinder 0 && eqb f.axis 0) none (ruled (sphere (count_in f.sphere))))
      (cond (eqb f.kind 2) (ruled (toric (count_in f.sphere) (count_in f.cylinder) f.axis)) none)) ≡ some l → FieldsAre f l)
      (λ k. of-plano k)
      (λ _. by-eq f.kind 1 (λ b. cond b (must (eqb f.cylinder 0 && eqb f.axis 0) none (ruled (sphere (count_in f.sphere))))
      (cond (eqb f.kind 2) (ruled (toric (count_in f.sphere) (count_in f.cylinder) f.axis)) none) ≡ some l → FieldsAre f l)
      (λ k. of-sphere k)
      (λ _. by-eq f.kind 2 (λ b. cond b (ruled (toric (count_in f.sphere) (count_in f.cylinder) f.axis)) none ≡ some l → FieldsAre f l)
      (λ k. of-toric k)
      (λ _ h. absurd (none-ne-some l h))))

-- ---- Bytes

high : (a b : ℕ) → b < 256 → (a * 256 + b) / 256 ≡ a
high a b h = omega arith

low : (a b : ℕ) → b < 256 → (a * 256 + b) % 256 ≡ b
low a b h = omega arith

-- six bytes are those of their fields
pub bytes-only : (k s₁ s₀ c₁ c₀ a : ℕ) → s₀ < 256 → c₀ < 256 → bytes_of (fields k (s₁ * 256 + s₀) (c₁ * 256 + c₀) a) ≡ k ∷ s₁ ∷ s₀ ∷ c₁ ∷ c₀ ∷ a ∷ []
bytes-only k s₁ s₀ c₁ c₀ a h g =
    ap (λ (z : ℕ). k ∷ z ∷ (s₁ * 256 + s₀) % 256 ∷ (c₁ * 256 + c₀) / 256 ∷ (c₁ * 256 + c₀) % 256 ∷ a ∷ []) (high s₁ s₀ h)
    ∙ ap (λ (z : ℕ). k ∷ s₁ ∷ z ∷ (c₁ * 256 + c₀) / 256 ∷ (c₁ * 256 + c₀) % 256 ∷ a ∷ []) (low s₁ s₀ h)
    ∙ ap (λ (z : ℕ). k ∷ s₁ ∷ s₀ ∷ z ∷ (c₁ * 256 + c₀) % 256 ∷ a ∷ []) (high c₁ c₀ g)
    ∙ ap (λ (z : ℕ). k ∷ s₁ ∷ s₀ ∷ c₁ ∷ z ∷ a ∷ []) (low c₁ c₀ g)

-- ---- The whole text

two-fit : (a b : ℕ) → a < 256 → b < 256 → a * 256 + b < 65536
two-fit a b h k = omega arith

-- one eye of a text
eye-bytes : (k s₁ s₀ c₁ c₀ a : ℕ) (l : Lens) → s₁ < 256 → s₀ < 256 → c₁ < 256 → c₀ < 256 → lens_in (fields k (s₁ * 256 + s₀) (c₁ * 256 + c₀) a) ≡ some l
    → bytes_of (fields_of l) ≡ k ∷ s₁ ∷ s₀ ∷ c₁ ∷ c₀ ∷ a ∷ []
eye-bytes k s₁ s₀ c₁ c₀ a l p q r t e =
    ap bytes_of (fields-only (fields k (s₁ * 256 + s₀) (c₁ * 256 + c₀) a) l (two-fit s₁ s₀ p q) (two-fit c₁ c₀ r t) e).are ∙ bytes-only k s₁ s₀ c₁ c₀ a q t

under : (n : ℕ) → suc (suc (suc (suc (suc (suc (suc (suc (suc (suc (suc (suc (suc n)))))))))))) - 13 ≡ n
under n = omega arith

counted : (a b : ℕ) → some (pos a) ≡ some (pos b) → a ≡ b
counted a b h = cc

-- "any text .. outside these rules" is not read
text-kept : (t : List ℕ) (x : Prescribed) → all_below 256 t ≡ true → prescribed_in t ≡ some x → KeepsRules x
unfolding prescribed_in
text-kept t x v e =
    let b : (i : ℕ) → byte_at t i < 256 = below_at 256 t (zero-lt-suc 255) v in
    let p = passed (leb stored_len (length t) && all (λ y. eqb y 0) (drop stored_len t)) (prescribed_at t) x e in
    let j = joined-told (lens_in (fields_at t 0)) (lens_in (fields_at t 6)) (some (pos (byte_at t 12))) x p.1 in
    let eye : (i : ℕ) (l : Lens) → lens_in (fields_at t i) ≡ some l → keeps l ≡ true =
    λ i l h. (fields-only (fields_at t i) l (two-fit (byte_at t (i + 1)) (byte_at t (i + 2)) (b (i + 1)) (b (i + 2)))
    (two-fit (byte_at t (i + 3)) (byte_at t (i + 4)) (b (i + 3)) (b (i + 4))) h).kept in
    record { right_kept = eye 0 x.right j.right_is; left-kept = eye 6 x.left j.left_is; distance = j.distance }

long : (t : List ℕ) (x : Prescribed) → prescribed_in t ≡ some x → leb stored_len (length t) ≡ true
unfolding prescribed_in
long t x e =
    (both (leb stored_len (length t)) (all (λ y. eqb y 0) (drop stored_len t))
    (passed (leb stored_len (length t) && all (λ y. eqb y 0) (drop stored_len t)) (prescribed_at t) x e).0).0

text-only : (t : List ℕ) (x : Prescribed) → all_below 256 t ≡ true → prescribed_in t ≡ some x → text_of (length t) x ≡ t
unfolding prescribed_in text_of
text-only (k ∷ s₁ ∷ s₀ ∷ c₁ ∷ c₀ ∷ a ∷ k' ∷ s₁' ∷ s₀' ∷ c₁' ∷ c₀' ∷ a' ∷ h ∷ rest) x v e =
    let t = k ∷ s₁ ∷ s₀ ∷ c₁ ∷ c₀ ∷ a ∷ k' ∷ s₁' ∷ s₀' ∷ c₁' ∷ c₀' ∷ a' ∷ h ∷ rest in
    let b : (i : ℕ) → byte_at t i < 256 = below_at 256 t (zero-lt-suc 255) v in
    let p = passed (leb stored_len (length t) && all (λ y. eqb y 0) rest) (prescribed_at t) x e in
    let zeros = (both (leb stored_len (length t)) (all (λ y. eqb y 0) rest) p.0).1 in
    let j = joined-told (lens_in (fields_at t 0)) (lens_in (fields_at t 6)) (some (pos h)) x p.1 in
    ap (λ (y : List ℕ). y ++ (bytes_of (fields_of x.left) ++ (x.halves ∷ replicate (length t - stored_len) 0)))
    (eye-bytes k s₁ s₀ c₁ c₀ a x.right (b 1) (b 2) (b 3) (b 4) j.right_is)
    ∙ ap (λ (y : List ℕ). (k ∷ s₁ ∷ s₀ ∷ c₁ ∷ c₀ ∷ a ∷ []) ++ (y ++ (x.halves ∷ replicate (length t - stored_len) 0)))
    (eye-bytes k' s₁' s₀' c₁' c₀' a' x.left (b 7) (b 8) (b 9) (b 10) j.left_is)
    ∙ ap (λ (y : ℕ). k ∷ s₁ ∷ s₀ ∷ c₁ ∷ c₀ ∷ a ∷ k' ∷ s₁' ∷ s₀' ∷ c₁' ∷ c₀' ∷ a' ∷ y ∷ replicate (length t - stored_len) 0)
    (counted x.halves h (sym j.halves-is))
    ∙ ap (λ (n : ℕ). k ∷ s₁ ∷ s₀ ∷ c₁ ∷ c₀ ∷ a ∷ k' ∷ s₁' ∷ s₀' ∷ c₁' ∷ c₀' ∷ a' ∷ h ∷ replicate n 0) (under (length rest))
    ∙ ap (λ (y : List ℕ). k ∷ s₁ ∷ s₀ ∷ c₁ ∷ c₀ ∷ a ∷ k' ∷ s₁' ∷ s₀' ∷ c₁' ∷ c₀' ∷ a' ∷ h ∷ y) (sym (all_same 0 rest zeros))
text-only [] x b e = absurd (none-ne-some x e)
text-only (a ∷ []) x b e = absurd (none-ne-some x e)
text-only (a ∷ c ∷ []) x b e = absurd (none-ne-some x e)
text-only (a ∷ c ∷ d ∷ []) x b e = absurd (none-ne-some x e)
text-only (a ∷ c ∷ d ∷ f ∷ []) x b e = absurd (none-ne-some x e)
text-only (a ∷ c ∷ d ∷ f ∷ g ∷ []) x b e = absurd (none-ne-some x e)
text-only (a ∷ c ∷ d ∷ f ∷ g ∷ h ∷ []) x b e = absurd (none-ne-some x e)
text-only (a ∷ c ∷ d ∷ f ∷ g ∷ h ∷ i ∷ []) x b e = absurd (none-ne-some x e)
text-only (a ∷ c ∷ d ∷ f ∷ g ∷ h ∷ i ∷ j ∷ []) x b e = absurd (none-ne-some x e)
text-only (a ∷ c ∷ d ∷ f ∷ g ∷ h ∷ i ∷ j ∷ k ∷ []) x b e = absurd (none-ne-some x e)
text-only (a ∷ c ∷ d ∷ f ∷ g ∷ h ∷ i ∷ j ∷ k ∷ l ∷ []) x b e = absurd (none-ne-some x e)
text-only (a ∷ c ∷ d ∷ f ∷ g ∷ h ∷ i ∷ j ∷ k ∷ l ∷ m ∷ []) x b e = absurd (none-ne-some x e)
text-only (a ∷ c ∷ d ∷ f ∷ g ∷ h ∷ i ∷ j ∷ k ∷ l ∷ m ∷ n ∷ []) x b e = absurd (none-ne-some x e)

-- ---- Both ways

written-reads : (p : Prescription) (text : List ℕ) → prescription_fits p ≡ true → (write_text_out p text).answer ≡ served
    → read_text_out (write_text_out p text).text ≡ answered p
unfolding write_text_out
written-reads p text t = go (leb stored_len (length text)) (prescribed_of p) refl
  where
    go : (b : Bool) (o : Option Prescribed) → prescribed_of p ≡ o → (must b (written_text bad_prescription text) (written_or text o)).answer ≡ served
        → read_text_out (must b (written_text bad_prescription text) (written_or text o)).text ≡ answered p
    go false o e h = absurd (omega arith)
    go true none e h = absurd (omega arith)
    go true (some x) e h = reads-back (length text) x (held-exactly.ruled p x e) ∙ ap answered (sym (held-exactly.alone p x t e))

read-writes : (p : Prescription) (text lent : List ℕ) → all_below 256 text ≡ true → length lent ≡ length text → read_text_out text ≡ answered p
    → write_text_out p lent ≡ written_text served text
unfolding read_text_out write_text_out
read-writes p text lent v l = go (prescribed_in text) refl
  where
    go : (o : Option Prescribed) → prescribed_in text ≡ o → or_refused prescription_of o ≡ answered p
        → must (leb stored_len (length lent)) (written_text bad_prescription lent) (written_or lent (prescribed_of p)) ≡ written_text served text
    go none e h = absurd (none-ne-some p (ap (λ a. a.value) h))
    go (some x) e h =
        let is : prescription_of x ≡ p = some-injective (prescription_of x) p (ap (λ a. a.value) h) in
        let stands : prescribed_of p ≡ some x = ap prescribed_of (sym is) ∙ held-exactly.stands x (text-kept text x v e) in
        rw (l, long text x e, stands) (ap (λ (n : ℕ). written_text served (text_of n x)) l ∙ ap (written_text served) (text-only text x v e))

pub texts-read-back : TextsReadBack
texts-read-back = record { written-reads = written-reads; read-writes = read-writes }
