-- A prescription that was written reads back under the same table, however its word is spoilt inside the placement's bursts. Assumes nothing.
use mathlib.Core.Path.{◌≡◌, refl, sym, ap, subst, ◌∙◌}
use mathlib.Core.Bool.{Bool, true, false, not, ◌&&◌}
use mathlib.Core.List.{List, ◌∷◌, ◌++◌}
use mathlib.Core.Option.{Option, none, some}
use Prim.Native.Nat.{ℕ, ◌-◌, ◌/◌, ◌%◌, ◌^◌, ◌≤◌, ◌<◌}
use native.Mathlib.Omega.{arith}
use lib.Dec.{T, eqb, leb, ltb, leb→le}
use lib.ListN.{length, get_or, drop, replicate, length-replicate}
use lib.Seq.{drop_at}
use lib.IntN.{ℤ, pos, negsuc, nat_abs}
use borrow.Author.Tests.{lt-ltb}
use Rattle.refusals.specs.Refusals.{must, served, invalid, unfit, wrong_length, bad_starts, bad_payload, bad_prescription}
use Rattle.combinatorics.specs.Lists.{all, any, all_below}
use Rattle.combinatorics.specs.Bursts.{apart}
use Rattle.combinatorics.proofs.Cases.{eqb_same}
use Rattle.combinatorics.proofs.Lists.{all_append, all_replicate, both}
use Rattle.cells.specs.Bytes.{byte_values, payload_len}
use Rattle.cells.specs.Codec.{Word}
use Rattle.cells.specs.Digits.{plain, spell, span}
use Rattle.cells.proofs.Digits.{length-spell, value-spell, value-front, spell-spelled, spelled-plain, span-plain}
use Rattle.cells.specs.Figures.{max_bursts}
use Rattle.cells.specs.Outcomes.{Coding, Held, in_use, Encoded, unwritten}
use Rattle.codes.specs.Bridge.{coding_of}
use Rattle.jobs.specs.declared.Entry.{Entry}
use Rattle.jobs.specs.Table.{twice}
use Rattle.payloads.specs.Payload.{carries_job, job_number}
use Rattle.payloads.proofs.Payload.{payload-back, payload-passes}
use Rattle.jobcodec.specs.DemandThree.{is_refusal}
use Rattle.jobcodec.proofs.Pairs.{not-served, read-pair}
use Rattle.jobcodec.proofs.DemandThree.{ReadsWhereFit, reads_in}
use Rattle.jobcodec.proofs.RoundTrip.{passed, written-under, written-gives}
use Rattle.prescription.specs.declared.texts.Prescription.{Prescription}
use Rattle.prescription.specs.Lens.{Lens, plano, sphere, toric, keeps}
use Rattle.prescription.specs.Eyes.{is_distance, Prescribed, KeepsRules, prescribed_of, prescription_of}
use Rattle.prescription.specs.Stored.{bits_of, fields_of, bytes_of, text_of, stored_len}
use Rattle.prescription.specs.Outcomes.{answered}
use Rattle.prescription.proofs.Lenses.{toric-kept, sphere-kept, cylinder-in}
use Rattle.prescription.proofs.InMemory.{held-exactly}
use Rattle.prescription.proofs.TextBack.{text-back}
use Rattle.prescription.specs.declared.fields.StoredEye.{StoredEye}
use Rattle.prescriptioncodec.specs.PrescriptionWrite.{number_len, number_bytes, prescription_payload, min_prescription_len, write_prescribed}
use Rattle.prescriptioncodec.specs.PrescriptionWrite.{prescription_write_under}
use Rattle.prescriptioncodec.specs.PrescriptionRead.{prescription_read_under}
use Rattle.prescriptioncodec.specs.Laws.{ReadBackUnder, PrescriptionsReadBack}
use Rattle.prescriptioncodec.proofs.Calls.{writes-job}
use Rattle.prescriptioncodec.proofs.Reading.{word-first}

-- ---- Its bytes are bytes

cons-below : (a : ℕ) (xs : List ℕ) → a < 256 → all_below 256 xs ≡ true → all_below 256 (a ∷ xs) ≡ true
unfolding all
cons-below a xs h k = ap (λ (b : Bool). b && all (λ x. ltb x 256) xs) (lt-ltb a 256 h) ∙ k

bits_below : (c : ℤ) → nat_abs c ≤ 480 → bits_of c < 65536
bits_below (pos n) h = omega arith
bits_below (negsuc n) h = omega arith

six-below : (f : StoredEye) (xs : List ℕ) → f.kind < 256 → f.sphere < 65536 → f.cylinder < 65536 → f.axis < 256 → all_below 256 xs ≡ true
    → all_below 256 (bytes_of f ++ xs) ≡ true
six-below f xs k s c a h =
    cons-below f.kind _ k (cons-below (f.sphere / 256) _ (omega arith) (cons-below (f.sphere % 256) _ (omega arith)
    (cons-below (f.cylinder / 256) _ (omega arith) (cons-below (f.cylinder % 256) _ (omega arith) (cons-below f.axis xs a h)))))

eye-below : (l : Lens) (xs : List ℕ) → keeps l ≡ true → all_below 256 xs ≡ true → all_below 256 (bytes_of (fields_of l) ++ xs) ≡ true
unfolding fields_of
eye-below plano xs k h = six-below (fields_of plano) xs (omega arith) (omega arith) (omega arith) (omega arith) h
eye-below (sphere p) xs k h = six-below (fields_of (sphere p)) xs (omega arith) (bits_below p (let l = sphere-kept p k in omega arith)) (omega arith)
    (omega arith) h
eye-below (toric s c a) xs k h =
    let t = toric-kept s c a k in
    six-below (fields_of (toric s c a)) xs (omega arith) (bits_below s (let l = t.sphere-in in omega arith)) (bits_below c (cylinder-in s c a t))
    (let l = t.high in omega arith) h

distance-below : (h : ℕ) → is_distance h ≡ true → h < 256
distance-below h e = let l = leb→le h 160 (subst T (sym (both (leb 80 h) (leb h 160) e).1) tt) in omega arith

text-below : (t : ℕ) (x : Prescribed) → KeepsRules x → all_below 256 (text_of t x) ≡ true
unfolding text_of
text-below t x k =
    eye-below x.right _ k.right_kept (eye-below x.left _ k.left-kept
    (cons-below x.halves (replicate (t - stored_len) 0) (distance-below x.halves k.distance) (all_replicate (λ y. ltb y 256) (t - stored_len) 0 refl)))

-- ---- The number

number-fits : (n : ℕ) → n < 2 ^ 32 → n < span byte_values (replicate number_len plain)
number-fits n h = subst (λ (z : ℕ). n < z) (sym (span-plain byte_values number_len)) h

payload-below : (K n : ℕ) (x : Prescribed) → n < 2 ^ 32 → KeepsRules x → all_below byte_values (prescription_payload K n x) ≡ true
unfolding prescription_payload number_bytes
payload-below K n x h k =
    all_append (λ y. ltb y 256) (spell byte_values (replicate number_len plain) n) (text_of (K - number_len) x)
    (spelled-plain byte_values number_len (spell byte_values (replicate number_len plain) n)
    (spell-spelled byte_values (replicate number_len plain) n (number-fits n h)))
    (text-below (K - number_len) x k)

number-length : (n : ℕ) → length (spell byte_values (replicate number_len plain) n) ≡ 4
number-length n = length-spell byte_values (replicate number_len plain) n ∙ length-replicate number_len plain

pub number-back : (K n : ℕ) (x : Prescribed) → n < 2 ^ 32 → job_number (prescription_payload K n x) ≡ n
unfolding job_number prescription_payload number_bytes
number-back K n x h =
    value-front byte_values (replicate 4 plain) (spell byte_values (replicate number_len plain) n) (text_of (K - number_len) x)
    (length-spell byte_values (replicate number_len plain) n)
    ∙ value-spell byte_values (replicate number_len plain) n (number-fits n h)

pub text-of-payload : (K n : ℕ) (x : Prescribed) → drop number_len (prescription_payload K n x) ≡ text_of (K - number_len) x
unfolding prescription_payload number_bytes
text-of-payload K n x = drop_at (spell byte_values (replicate number_len plain) n) (text_of (K - number_len) x) 4 (number-length n)

-- ---- What an accepted writing says of its input

found-prescribed : (d : Coding) (es : List Entry) (at : Held) (n : ℕ) (out : List ℕ) (o : Option Prescribed) → (write_prescribed d es at n o out).answer ≡ served
    → (x : Prescribed) × (o ≡ some x)
unfolding is_refusal any
found-prescribed d es at n out none e = not-served bad_prescription refl e
found-prescribed d es at n out (some x) e = (x, refl)

written-told : (d : Coding) (es : List Entry) (at : Held) (n : ℕ) (p : Prescription) (out : List ℕ) → (prescription_write_under d es at n p out).answer ≡ served
    → (min_prescription_len ≤ payload_len d.codec.alphabet d.codec.message_len_of) × ((x : Prescribed) × (prescribed_of p ≡ some x))
unfolding is_refusal any
written-told d es at n p out e =
    let c = d.codec in
    let k = c.message_len_of in
    let K = payload_len c.alphabet k in
    let last = write_prescribed d es at n (prescribed_of p) out in
    let enough = must (leb min_prescription_len K) (unwritten out bad_prescription) last in
    let starts = must (apart d.burst_len c.word_len 0 (in_use at)) (unwritten out bad_starts) enough in
    let lengths = must (eqb at.count d.bursts && eqb (length out) c.word_len) (unwritten out wrong_length) starts in
    let five = must (carries_job c.alphabet k) (unwritten out bad_payload) lengths in
    let p₁ = passed (d.in_range && not (twice es)) out invalid (must d.fits (unwritten out unfit) five) refl e in
    let p₂ = passed d.fits out unfit five refl p₁.1 in
    let p₃ = passed (carries_job c.alphabet k) out bad_payload lengths refl p₂.1 in
    let p₄ = passed (eqb at.count d.bursts && eqb (length out) c.word_len) out wrong_length starts refl p₃.1 in
    let p₅ = passed (apart d.burst_len c.word_len 0 (in_use at)) out bad_starts enough refl p₄.1 in
    let p₆ = passed (leb min_prescription_len K) out bad_prescription last refl p₅.1 in
    (leb→le min_prescription_len K (subst T (sym p₆.0) tt), found-prescribed d es at n out (prescribed_of p) p₆.1)

-- ---- Reading it back

module _ (d : Coding) (reads : ReadsWhereFit d) (es : List Entry) (at : Held) (n : ℕ) (p : Prescription) (x : Prescribed) (out : List ℕ)
    (enough : min_prescription_len ≤ payload_len d.codec.alphabet d.codec.message_len_of) (number : n < 2 ^ 32) (is : prescribed_of p ≡ some x)
    (sized : length at.starts ≡ max_bursts) where
  prescription-reads : (w : List ℕ) → (prescription_write_under d es at n p out).answer ≡ served → Word d.codec w
      → ((i : ℕ) → i < d.codec.word_len → d.codec.spoilt (in_use at) i ≡ false → get_or w i 0 ≡ get_or (prescription_write_under d es at n p out).word i 0)
      → prescription_read_under d es w ≡ answered (record { number = n; prescription = prescription_of x })
  prescription-reads w e found outside =
      let c = d.codec in
      let q = c.alphabet in
      let k = c.message_len_of in
      let K = payload_len q k in
      let y = prescription_payload K n x in
      let kept = held-exactly.ruled p x is in
      let job = writes-job d es at n p x out enough is in
      let wr = written-under d es at y out (ap (λ (r : Encoded). r.answer) (sym job) ∙ e) in
      let bytes = payload-below K n x number kept in
      let g = written-gives d es at y out reads sized bytes w wr (λ i l b. outside i l b ∙ ap (λ (r : Encoded). get_or r.word i 0) job) in
      let r = reads wr.ready.range wr.ready.fit in
      word-first d es w wr.ready
      ∙ rw (
        eqb_same (length w) c.word_len found.complete,
        found.symbols,
        read-pair c r.exactly r.two w found (in_use at) y g,
        payload-passes q k r.two y g.whole,
        payload-back q k r.two y g.whole,
        text-of-payload K n x,
        text-back (K - number_len) x kept,
        wr.is_open,
        number-back K n x number,
      )

pub read-back-under : (d : Coding) → ReadsWhereFit d → ReadBackUnder d
read-back-under d reads es at n p out w sized number floats e found outside =
    let told = written-told d es at n p out e in
    let x = told.1.0 in
    prescription-reads d reads es at n p x out told.0 number told.1.1 sized w e found outside
    ∙ ap (λ (q : Prescription). answered (record { number = n; prescription = q })) (sym (held-exactly.alone p x floats told.1.1))

-- ---- Under any code's figures

pub prescriptions-read-back : PrescriptionsReadBack
prescriptions-read-back f = read-back-under (coding_of f) (reads_in f)
