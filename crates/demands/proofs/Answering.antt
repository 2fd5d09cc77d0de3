-- How an outcome is seen to answer by an order: the two ways to answer, and the tests of an order one after the other. Assumes nothing.
use mathlib.Core.Path.{◌≡◌, refl}
use mathlib.Core.Bool.{Bool, true, false, not, ◌&&◌, ◌||◌}
use mathlib.Core.List.{List, [], ◌∷◌}
use Prim.Native.Nat.{ℕ}
use lib.Dec.{eqb}
use Rattle.refusals.specs.Refusals.{must, served, invalid, unfit, wrong_length, bad_symbol, bad_payload, bad_prescription, job_cancelled, job_held, not_open}
use Rattle.refusals.specs.Refusals.{pattern_refusals, majority_refusals}
use Rattle.combinatorics.specs.Lists.{all, any}
use Rattle.combinatorics.proofs.Lists.{in_all}
use Rattle.cells.specs.Codec.{Reading, accepted, refused}
use Rattle.cells.specs.Outcomes.{Coding, Encoded}
use Rattle.codes.specs.declared.Figures.{Figures}
use Rattle.codes.specs.declared.Figures.TheVariants.{Ranked, Long, Larsson}
use Rattle.codes.specs.Bridge.{coding_of}
use Rattle.codes.proofs.Exact.{own-refusals}
use Rattle.jobs.specs.declared.Entry.{Entry}
use Rattle.jobs.specs.Jobs.{Status, unknown, opened, on_hold, cancelled}
use Rattle.jobs.specs.Table.{twice}
use Rattle.payloads.specs.Payload.{carries_job}
use Rattle.jobcodec.specs.DemandThree.{is_refusal}
use Rattle.jobcodec.specs.JobWrite.{where_open}
use Rattle.lent_jobs.specs.Jobs.{has_table_len, slots_fit, with_table}
use Rattle.demands.specs.Orders.{own_of, word_read, job_read, prescription_read}
use Rattle.demands.specs.DemandOne.{AnswersBy}

-- ---- The two ways to answer, and an order of refusals test by test

module _ {A : Type 0} {order : List ℕ} where
  -- a refusal of the order, with what was lent as it was
  pub keep : {a : ℕ} {lent : A} → all is_refusal order ≡ true → any (eqb a) (served ∷ order) ≡ true → AnswersBy order a lent lent
  keep n h = record { numbers = n; answer = h; keeps = λ _. refl }

  pub done : {lent left : A} → all is_refusal order ≡ true → AnswersBy order served lent left
  unfolding any
  done n = record { numbers = n; answer = refl; keeps = λ d. absurd (d refl) }

module _ {O : Type 0} (P : O → Type 0) where
  pub tested : (t : Bool) {x rest : O} → P x → P rest → P (must t x rest)
  tested true p r = r
  tested false p r = p

  -- "12 14", and 23 between them
  pub where-open : (refuse : ℕ → O) (s : Status) {rest : O}
      → P (refuse job_cancelled) → P (refuse job_held) → P (refuse not_open) → P rest → P (where_open s refuse rest)
  where-open refuse (cancelled s) p h q r = p
  where-open refuse on_hold p h q r = h
  where-open refuse unknown p h q r = q
  where-open refuse opened p h q r = r

  -- "1 2 10" before a call on a job
  pub job-tests : (d : Coding) (es : List Entry) {x₁ x₂ x₁₀ rest : O} → P x₁ → P x₂ → P x₁₀ → P rest
      → P (must (d.in_range && not (twice es)) x₁ (must d.fits x₂ (must (carries_job d.codec.alphabet d.codec.message_len_of) x₁₀ rest)))
  job-tests d es p₁ p₂ p₁₀ r =
      tested (d.in_range && not (twice es)) p₁ (tested d.fits p₂ (tested (carries_job d.codec.alphabet d.codec.message_len_of) p₁₀ r))

-- ---- Any code's reading, by an order that has its refusals

pub data Owned (order : List ℕ) : Reading → Type 0 where
  turned : (a : ℕ) → any (eqb a) (served ∷ order) ≡ true → Owned order (refused a)
  handed : (ss ms : List ℕ) → Owned order (accepted ss ms)

abbrev pub Owns : List ℕ → Coding → Type 0
Owns order d = (w : List ℕ) → Owned order (d.codec.decode w)

pub by-own : {order : List ℕ} (P : Reading → Type 0) → ((a : ℕ) → any (eqb a) (served ∷ order) ≡ true → P (refused a))
    → ((ss ms : List ℕ) → P (accepted ss ms)) → (r : Reading) → Owned order r → P r
by-own P no_word word (refused _) (turned a h) = no_word a h
by-own P no_word word (accepted _ _) (handed ss ms) = word ss ms

-- the numbers of a list stand in the order
abbrev pub Within : List ℕ → List ℕ → Type 0
Within numbers order = all (λ a. any (eqb a) (served ∷ order)) numbers ≡ true

pub one-within : (numbers order : List ℕ) → Within numbers order → (a : ℕ) → any (eqb a) numbers ≡ true → any (eqb a) (served ∷ order) ≡ true
one-within numbers order h a e = in_all (λ x. any (eqb x) (served ∷ order)) numbers a h e

pub owns : (f : Figures) (order : List ℕ) → Within (own_of f) order → Owns order (coding_of f)
owns f order h w = go ((coding_of f).codec.decode w) (own-refusals f w)
  where
    go : (r : Reading) → ((a : ℕ) → r ≡ refused a → any (eqb a) (own_of f) ≡ true) → Owned order r
    go (refused a) own = turned a (one-within (own_of f) order h a (own a refl))
    go (accepted ss ms) own = handed ss ms

-- an order that begins with 1 2 3 4, as every word read's does
pub record Begins (order : List ℕ) : Type 0 where
  pub numbers : all is_refusal order ≡ true
  pub one : any (eqb invalid) (served ∷ order) ≡ true
  pub two : any (eqb unfit) (served ∷ order) ≡ true
  pub three : any (eqb wrong_length) (served ∷ order) ≡ true
  pub four : any (eqb bad_symbol) (served ∷ order) ≡ true

-- and has 10 12 23 14, as every job read's does
pub record BeginsJob (order : List ℕ) : Type 0 where
  pub begins : Begins order
  pub ten : any (eqb bad_payload) (served ∷ order) ≡ true
  pub twelve : any (eqb job_cancelled) (served ∷ order) ≡ true
  pub twenty-three : any (eqb job_held) (served ∷ order) ≡ true
  pub fourteen : any (eqb not_open) (served ∷ order) ≡ true

begins : {order : List ℕ} → all is_refusal order ≡ true → Within (invalid ∷ unfit ∷ wrong_length ∷ bad_symbol ∷ []) order → Begins order
unfolding any
begins {order} numbers h =
    let has = one-within (invalid ∷ unfit ∷ wrong_length ∷ bad_symbol ∷ []) order h in
    record { numbers = numbers; one = has invalid refl; two = has unfit refl; three = has wrong_length refl; four = has bad_symbol refl }

begins-job : {order : List ℕ} → Begins order → Within (bad_payload ∷ job_cancelled ∷ job_held ∷ not_open ∷ []) order → BeginsJob order
unfolding any
begins-job {order} first h =
    let has = one-within (bad_payload ∷ job_cancelled ∷ job_held ∷ not_open ∷ []) order h in
    record { begins = first; ten = has bad_payload refl; twelve = has job_cancelled refl; twenty-three = has job_held refl; fourteen = has not_open refl }

-- the orders of a code's readings
pub record Orders (own : List ℕ) : Type 0 where
  pub word : Begins (word_read own)
  pub word-own : Within own (word_read own)
  pub job : BeginsJob (job_read own)
  pub job-own : Within own (job_read own)
  pub prescription : BeginsJob (prescription_read own)
  pub prescription-own : Within own (prescription_read own)
  pub sixteen : any (eqb bad_prescription) (served ∷ prescription_read own) ≡ true

by-pattern : Orders pattern_refusals
unfolding is_refusal all any
by-pattern =
    record {
      word = begins refl refl;
      word-own = refl;
      job = begins-job (begins refl refl) refl;
      job-own = refl;
      prescription = begins-job (begins refl refl) refl;
      prescription-own = refl;
      sixteen = refl;
    }

by-majority : Orders majority_refusals
unfolding is_refusal all any
by-majority =
    record {
      word = begins refl refl;
      word-own = refl;
      job = begins-job (begins refl refl) refl;
      job-own = refl;
      prescription = begins-job (begins refl refl) refl;
      prescription-own = refl;
      sixteen = refl;
    }

pub orders : (f : Figures) → Orders (own_of f)
orders (Ranked p) = by-pattern
orders (Long p) = by-pattern
orders (Larsson p) = by-majority

-- "1 2 10 3" before a job's own
pub with-table : {O : Type 0} (P : O → Type 0) (d : Coding) (table : List ℕ) (lengths : Bool) (refuse : ℕ → O) {rest : O}
    → P (refuse invalid) → P (refuse unfit) → P (refuse bad_payload) → P (refuse wrong_length) → P rest → P (with_table d table lengths refuse rest)
with-table P d table lengths refuse p₁ p₂ p₁₀ p₃ r =
    tested P (d.in_range && slots_fit table) p₁
    (tested P d.fits p₂
    (tested P (carries_job d.codec.alphabet d.codec.message_len_of) p₁₀
    (tested P (has_table_len table && lengths) p₃ r)))

-- a word is lent
abbrev pub Writes : List ℕ → List ℕ → Encoded → Type 0
Writes order out o = AnswersBy order o.answer out o.word

-- one more number in front of an order
pub one_more : (a b c : Bool) → (a || c) ≡ true → (a || (b || c)) ≡ true
one_more true b c h = refl
one_more false true c h = refl
one_more false false c h = h
