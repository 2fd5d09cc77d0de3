-- A record that is served: its line is printed and the session goes on. Assumes nothing.
use mathlib.Core.Path.{◌≡◌, refl, sym, ap, ap₂, subst, ◌∙◌}
use mathlib.Core.Logic.{◌≢◌}
use mathlib.Core.Bool.{Bool, true, false, not, ◌&&◌}
use mathlib.Core.List.{List, ◌∷◌}
use mathlib.Core.Option.{Option}
use Prim.Native.Nat.{ℕ, zero, suc, ◌≤◌, ◌<◌}
use native.Mathlib.Omega.{arith}
use lib.Dec.{eqb}
use lib.ListN.{length, take, drop, replicate}
use Rattle.refusals.specs.Refusals.{must, served, invalid, unfit, wrong_length, bad_payload}
use Rattle.combinatorics.proofs.Cases.{eqb_same, eqb-other, eqb-true, leb-holds, leb-fails}
use Rattle.cells.specs.Bytes.{payload_len}
use Rattle.cells.specs.Outcomes.{Coding, Held, Encoded, figures_under}
use Rattle.codes.specs.Bridge.{coding_of}
use Rattle.codes.specs.declared.Figures.{Figures}
use Rattle.codes.specs.declared.WordLayout.{WordLayout}
use Rattle.jobs.specs.declared.Entry.{Entry}
use Rattle.jobs.specs.Letters.{kind_of, call_by, is_letter}
use Rattle.jobs.specs.Table.{twice}
use Rattle.payloads.specs.Payload.{carries_job, job_number}
use Rattle.payloads.proofs.Payload.{carries-five}
use Rattle.jobcodec.specs.JobWrite.{job_write_under}
use Rattle.jobcodec.specs.JobRead.{JobRead, withhold, job_reading, job_read_under}
use Rattle.text.specs.Text.{overwrite}
use Rattle.transfer.specs.declared.StepAnswer.{StepAnswer}
use Rattle.records.specs.Session.{Session, max_records}
use Rattle.lines.specs.Lines.{refusal_line, served_line, max_line}
use Rattle.records.specs.Records.{record_head_len, letter_of, current, readable, figures_in, long_figures_in}
use Rattle.transfer.specs.Steps.{stopped, ended, goes_on, figures_step, call_step, job_step, write_step, read_step, write_out, read_out, serve_out, step_out}
use Rattle.records.specs.Bridge.{session_of, IsCurrent}
use Rattle.records.proofs.Lengths.{current-serves}
use Rattle.transfer.specs.Bridge.{Shown, Put, RecordLaid}

module _ (r : StepAnswer) (before line : List ℕ) where
  pub shown-goes : (next : Session) (text : List ℕ) (n : ℕ) → (session_of r.next ≡ next) × ((r.len ≡ n) × (r.stops ≡ false))
      → (line ≡ overwrite 0 text before) × (n ≡ length text) → Shown r before line (goes_on next text)
  shown-goes next text n went put = record { next = went.0; printed = put.0; len = went.1.0 ∙ put.1; stops = went.1.1 }

-- ---- W and R: the line by the answer

module _ (n : ℕ) (before line : List ℕ) (letter : ℕ) where
  -- the same line by another name
  put_as : (text text' : List ℕ) → text ≡ text' → (line ≡ overwrite 0 text before) × (n ≡ length text)
      → (line ≡ overwrite 0 text' before) × (n ≡ length text')
  put_as text text' e = subst (λ (x : List ℕ). (line ≡ overwrite 0 x before) × (n ≡ length x)) e

  pub put_refused : (a a' : ℕ) (fields : List (List ℕ)) → a ≡ a' → a ≢ served
      → (line ≡ overwrite 0 (refusal_line letter a) before) × (n ≡ length (refusal_line letter a)) → Put n before line (λ s. job_step s letter a' fields)
  put_refused a a' fields e h put =
      let is = put_as (refusal_line letter a) (must (eqb a' served) (refusal_line letter a') (served_line letter fields))
      (ap (refusal_line letter) e
      ∙ sym (ap (λ (t : Bool). must t (refusal_line letter a') (served_line letter fields)) (eqb-other a' served (λ z. h (e ∙ z))))) put in
      record { printed = λ s. is.0; length-is = λ s. is.1 }

  pub put-served : (a a' : ℕ) (fields fields' : List (List ℕ)) → a ≡ a' → a ≡ served → fields ≡ fields'
      → (line ≡ overwrite 0 (served_line letter fields) before) × (n ≡ length (served_line letter fields)) → Put n before line (λ s. job_step s letter a' fields')
  put-served a a' fields fields' e h f put =
      let is = put_as (served_line letter fields) (must (eqb a' served) (refusal_line letter a') (served_line letter fields'))
      (ap (served_line letter) f
      ∙ sym (ap (λ (t : Bool). must t (refusal_line letter a') (served_line letter fields')) (eqb_same a' served (sym e ∙ h)))) put in
      record { printed = λ s. is.0; length-is = λ s. is.1 }

-- ---- A payload that is handed out has a job number

pub read_number : (d : Coding) (es : List Entry) (w out : List ℕ) → (job_read_under d es w out).answer ≡ served → 4 ≤ length out
unfolding job_reading
read_number d es w out =
    go (d.in_range && not (twice es)) d.fits (carries_job d.codec.alphabet d.codec.message_len_of)
    (carries-five d.codec.alphabet d.codec.message_len_of) (eqb (length w) d.codec.word_len)
    (eqb (length out) (payload_len d.codec.alphabet d.codec.message_len_of))
    (eqb-true (length out) (payload_len d.codec.alphabet d.codec.message_len_of)) _
  where
    go : (a b c : Bool) → (c ≡ true → 5 ≤ payload_len d.codec.alphabet d.codec.message_len_of) → (x e : Bool)
        → (e ≡ true → length out ≡ payload_len d.codec.alphabet d.codec.message_len_of) → (rest : JobRead)
        → (must a (withhold out invalid) (must b (withhold out unfit)
        (must c (withhold out bad_payload) (must (x && e) (withhold out wrong_length) rest)))).answer ≡ served
        → 4 ≤ length out
    go false b c k x e l rest h = absurd (omega (arith, h))
    go true false c k x e l rest h = absurd (omega (arith, h))
    go true true false k x e l rest h = absurd (omega (arith, h))
    go true true true k false e l rest h = absurd (omega (arith, h))
    go true true true k true false l rest h = absurd (omega (arith, h))
    go true true true k true true l rest h = omega (arith, k refl, l refl)

-- ---- What the lent buffers and parts are

take-replicate : (n m a : ℕ) → n ≤ m → take n (replicate m a) ≡ replicate n a
take-replicate zero m a h = refl
take-replicate (suc n) zero a h = absurd (omega arith)
take-replicate (suc n) (suc m) a h = ap {B = List ℕ} (λ r. a ∷ r) (take-replicate n m a (omega arith))

-- the first n places of a buffer that holds 0
pub zeros : (n room : ℕ) → n ≤ room → take {A = ℕ} n (replicate room 0) ≡ replicate n 0
zeros n room h = take-replicate n room 0 h

module _ (n : ℕ) (before line : List ℕ) (es : List Entry) where
  pub put-write : (d d' : Coding) (at at' : Held) (y y' w w' : List ℕ) → d ≡ d' → at ≡ at' → y ≡ y' → w ≡ w'
      → Put n before line (λ s. write_step s (job_write_under d es at y w)) → Put n before line (λ s. write_step s (job_write_under d' es at' y' w'))
  put-write d d' at at' y y' w w' e₁ e₂ e₃ e₄ =
      subst (λ (o : Encoded). Put n before line (λ s. write_step s o))
      (ap₂ (λ (x : Coding) (h : Held). job_write_under x es h y w) e₁ e₂ ∙ ap₂ (λ (a b : List ℕ). job_write_under d' es at' a b) e₃ e₄)

  pub put-read : (d d' : Coding) (w w' y y' : List ℕ) → d ≡ d' → w ≡ w' → y ≡ y'
      → Put n before line (λ s. read_step s (job_read_under d es w y)) → Put n before line (λ s. read_step s (job_read_under d' es w' y'))
  put-read d d' w w' y y' e₁ e₂ e₃ =
      subst (λ (o : JobRead). Put n before line (λ s. read_step s o))
      (ap (λ (x : Coding). job_read_under x es w y) e₁ ∙ ap₂ (λ (a b : List ℕ). job_read_under d' es a b) e₂ e₃)

-- figures that are the current ones, and what is known of the table
pub record-laid : (last : Option Figures) (f : Figures) (l : WordLayout) → IsCurrent last f l → (es : List Entry) (is_twice : Bool) → is_twice ≡ twice es
    → (line : List ℕ) → max_line ≤ length line → (long : ℕ) (bytes : List ℕ) → long ≤ length bytes → RecordLaid es line f l is_twice long bytes
record-laid last f l is es is_twice told line room long bytes enough =
    let gives = current-serves last f l is in
    record {
      room = room;
      same = gives.0;
      table = record { serves = gives.1; told = told };
      numbers = is.numbers;
      small = is.small;
      long-enough = enough;
    }

-- ---- The record of a letter

module _ (s : Session) (letter : ℕ) (bytes : List ℕ) where
  pub serve-S : letter ≡ 83 → serve_out s letter bytes ≡ figures_step s letter (figures_in bytes) (figures_under (coding_of (figures_in bytes)))
  unfolding serve_out
  serve-S e = rw e

  pub serve-L : letter ≡ 76 → serve_out s letter bytes ≡ figures_step s letter (long_figures_in bytes) (figures_under (coding_of (long_figures_in bytes)))
  unfolding serve_out
  serve-L e = rw e

  pub serve-W : letter ≡ 87 → serve_out s letter bytes ≡ write_out s bytes (current s.figures)
  unfolding serve_out kind_of
  serve-W e = rw e

  pub serve-R : letter ≡ 82 → serve_out s letter bytes ≡ read_out s bytes (current s.figures)
  unfolding serve_out kind_of
  serve-R e = rw e

  pub serve-call-is : letter ≢ 83 → letter ≢ 76 → is_letter letter ≡ true
      → serve_out s letter bytes ≡ call_step s letter (call_by (kind_of letter) s.table (job_number (drop record_head_len bytes)))
  unfolding serve_out
  serve-call-is a l e = rw (eqb-other letter 83 a, eqb-other letter 76 l, e)

-- ---- A step, by what is tested

module _ (s : Session) (bytes : List ℕ) where
  pub step_end : length bytes ≡ 0 → step_out s bytes ≡ ended s
  unfolding step_out
  step_end e = rw (eqb_same (length bytes) 0 e)

  pub step-many : length bytes ≢ 0 → max_records ≤ s.count → step_out s bytes ≡ stopped s
  unfolding step_out
  step-many a h = rw (eqb-other (length bytes) 0 a, leb-fails (suc s.count) max_records (omega arith))

  module _ (a : length bytes ≢ 0) (h : s.count < max_records) where
    pub step-unreadable : readable s bytes ≡ false → step_out s bytes ≡ stopped s
    unfolding step_out
    step-unreadable e = rw (eqb-other (length bytes) 0 a, leb-holds (suc s.count) max_records h, e)

    pub step-serves : readable s bytes ≡ true → step_out s bytes ≡ serve_out s (letter_of bytes) bytes
    unfolding step_out
    step-serves e = rw (eqb-other (length bytes) 0 a, leb-holds (suc s.count) max_records h, e)
