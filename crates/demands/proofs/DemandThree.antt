-- Demand 3 holds of calls on a table in bytes, and of every R of the transfer program. Assumes nothing.
use mathlib.Core.Path.{◌≡◌, refl, sym, ap, subst, ◌∙◌}
use mathlib.Core.Logic.{◌≢◌}
use mathlib.Core.Bool.{Bool, true, false, not, cond, true≢false, false≢true}
use mathlib.Core.List.{List, [], ◌∷◌, ◌++◌}
use mathlib.Core.Option.{Option, none, some}
use Prim.Native.Nat.{ℕ, ◌+◌, ◌≤◌, ◌<◌}
use native.Mathlib.Omega.{arith}
use borrow.Author.Tests.{not-true}
use lib.Dec.{eqb, ltb}
use lib.ListN.{length, drop, replicate, length-append, get_or-append}
use lib.Seq.{take-append_seam, drop-append_seam}
use Rattle.refusals.specs.Refusals.{must, served, invalid, unfit}
use Rattle.combinatorics.proofs.Cases.{by_bool, eqb-true, eqb_same, eqb-other}
use Rattle.combinatorics.proofs.Lists.{both}
use Rattle.cells.specs.Outcomes.{FiguresOut, figured, unserved, figures_number, figures_under}
use Rattle.codes.specs.declared.Figures.{Figures}
use Rattle.codes.specs.Bridge.{coding_of}
use Rattle.jobs.specs.declared.Entry.{Entry}
use Rattle.jobs.specs.Jobs.{Kind, Call}
use Rattle.jobs.specs.Letters.{kind_of, known, call_by, is_letter}
use Rattle.jobs.specs.Table.{TableOut, empty_table}
use Rattle.ledger.specs.Replay.{call_before}
use Rattle.ledger.specs.Simulation.{empty}
use Rattle.ledger.specs.Calls.{answers_from, table_from}
use Rattle.ledger.proofs.Simulates.{simulation-from-start}
use Rattle.payloads.specs.Payload.{job_number}
use Rattle.jobcodec.specs.DemandThree.{Claim}
use Rattle.jobcodec.specs.JobRead.{JobRead, job_read_under}
use Rattle.jobcodec.proofs.DemandThree.{follows-figures}
use Rattle.lent_jobs.specs.Follows.{answers_on, bytes_after}
use Rattle.lent_jobs.specs.Table.{table_in}
use Rattle.lent_jobs.proofs.Follows.{bytes_left, bytes-follow}
use Rattle.lent_jobs.proofs.JobLaws.{read_whole}
use Rattle.records.specs.Session.{Session, at_start, max_records, next_session}
use Rattle.lines.specs.Lines.{refusal_line, letter_s, letter_l, letter_w, letter_r}
use Rattle.records.specs.Records.{record_head_len, is_marked, is_empty, is_whole, letter_of, current, payload_len_of, record_len, readable, reach, figures_in}
use Rattle.records.specs.Records.{long_figures_in}
use Rattle.records.proofs.Readable.{readable-whole, whole_long}
use Rattle.transfer.specs.Steps.{Step, stopped, ended, figures_step, read_step, write_out, read_out, serve_out, step_out}
use Rattle.transfer.proofs.Kept.{Accepted, start-accepted, step-accepted}
use Rattle.transfer.specs.Program.{next_record, behind}
use Rattle.transfer.proofs.Program.{step_counts, printed_on, printed-goes}
use Rattle.transfer.proofs.Serving.{step-unreadable, step-serves, serve-S, serve-L, serve-R}
use Rattle.demands.specs.DemandThree.{BytesClaimed, session_after, all_served, is_accepted, figures_carried, figures_after, calls_in, call_lines, answer_lines}
use Rattle.demands.specs.DemandThree.{SessionClaim, StopsAfter, ReadAfter, SessionClaimed}

-- ---- A program in C

pub bytes-claimed : BytesClaimed
bytes-claimed f bytes es before b s calls w out h =
    let last = bytes_after bytes calls in
    let left = bytes_left bytes es before b s calls h in
    subst (λ (r : JobRead). Claim (coding_of f) before calls w out (answers_on bytes calls) r) (read_whole (coding_of f) last w out left.size left.known)
    (follows-figures f before calls (answers_on bytes calls) (table_in last) w out (bytes-follow bytes es before b s calls h))

-- ---- The transfer program: what a record that is served makes of the session

-- a step that goes on could read its record, and served it
served-is : (s : Session) (r : List ℕ) → (step_out s r).stops ≡ false → (readable s r ≡ true) × (step_out s r ≡ serve_out s (letter_of r) r)
unfolding step_out
served-is s r = go (is_empty r) (ltb s.count max_records) (readable s r) (serve_out s (letter_of r) r)
  where
    go : (a b c : Bool) (o : Step) → (cond a (ended s) (must b (stopped s) (must c (stopped s) o))).stops ≡ false
        → (c ≡ true) × (cond a (ended s) (must b (stopped s) (must c (stopped s) o)) ≡ o)
    go true b c o h = absurd (true≢false h)
    go false false c o h = absurd (true≢false h)
    go false true false o h = absurd (true≢false h)
    go false true true o h = (refl, refl)

-- the call of a letter, and those behind it; another letter leaves the table
module _ (es : List Entry) (n : ℕ) where
  table_before : (cs : List Call) (k : Option Kind) → table_from es (call_before k n cs) ≡ table_from (call_by k es n).table cs
  unfolding table_from
  table_before cs (some k) = refl
  table_before cs none = refl

  no_call : (k : Option Kind) → known k ≡ false → (call_by k es n).table ≡ es
  no_call (some k) h = absurd (true≢false h)
  no_call none h = refl

-- S and L: figures that are answered 0 are in force from then on
figures-made : (s : Session) (letter : ℕ) (f : Figures) → (figures_step s letter f (figures_under (coding_of f))).next
    ≡ next_session s (cond (eqb (figures_number (figures_under (coding_of f))) served) (some f) s.figures) s.table
figures-made s letter f = go (coding_of f).in_range (coding_of f).fits
  where
    out : Bool → Bool → FiguresOut
    out a b = must a (unserved invalid) (must b (unserved unfit) (figured (coding_of f).placement_count_of (coding_of f).index_tail_of (coding_of f).codec.message_len_of))

    go : (a b : Bool)
        → (figures_step s letter f (out a b)).next ≡ next_session s (cond (eqb (figures_number (out a b)) served) (some f) s.figures) s.table
    go false b = refl
    go true false = refl
    go true true = refl

module _ (s : Session) (r : List ℕ) where
  abbrev l : ℕ
  l = letter_of r

  -- what its call answers and hands back; the table as it is where the letter is no call's
  abbrev called : TableOut
  called = call_by (kind_of l) s.table (job_number (drop record_head_len r))

  abbrev in_force : Option Figures
  in_force = cond (is_accepted r) (some (figures_carried r)) s.figures

  -- what its step makes of the session, and the line of a call
  record Makes (o : Step) : Type 0 where
    figures : o.next.figures ≡ in_force
    table : o.next.table ≡ called.table
    line : is_letter l ≡ true → o.line ≡ refusal_line l called.answer

  -- a record that is no call
  module _ (other : is_letter l ≡ false) where
    no-call-makes : (o : Step) → o.next.figures ≡ in_force → o.next.table ≡ s.table → Makes o
    no-call-makes o f e =
        record {
          figures = f;
          table = e ∙ sym (no_call s.table (job_number (drop record_head_len r)) (kind_of l) other);
          line = λ h. absurd (false≢true (sym other ∙ h));
        }

    figures-make : (f : Figures) → cond (eqb (figures_number (figures_under (coding_of f))) served) (some f) s.figures ≡ in_force
        → Makes (figures_step s l f (figures_under (coding_of f)))
    figures-make f is =
        let made = figures-made s l f in
        no-call-makes (figures_step s l f (figures_under (coding_of f))) (ap (λ (t : Session). t.figures) made ∙ is) (ap (λ (t : Session). t.table) made)

    -- W and R, with and without figures, and a letter of no record
    rest-makes : is_accepted r ≡ false → (c d : Bool) (f : Option Figures) → Makes (cond c (write_out s r f) (cond d (read_out s r f) (stopped s)))
    rest-makes a true d none = no-call-makes (write_out s r none) (rw a) refl
    rest-makes a true d (some f) = no-call-makes (write_out s r (some f)) (rw a) refl
    rest-makes a false true none = no-call-makes (read_out s r none) (rw a) refl
    rest-makes a false true (some f) = no-call-makes (read_out s r (some f)) (rw a) refl
    rest-makes a false false f = no-call-makes (stopped s) (rw a) refl

  serve-makes : Makes (serve_out s l r)
  unfolding serve_out kind_of
  serve-makes =
      by_bool (eqb l letter_s)
      (λ e. let is = eqb-true l letter_s e in rw (serve-S s l r is) (figures-make (rw is) (figures_in r) (rw is)))
      (λ short. by_bool (eqb l letter_l)
      (λ e. let is = eqb-true l letter_l e in rw (serve-L s l r is) (figures-make (rw is) (long_figures_in r) (rw is)))
      (λ long. by_bool (is_letter l)
      (λ e. rw (short, long, e) (record { figures = rw (short, long); table = refl; line = λ _. refl }))
      (λ e. rw (short, long, e) (rest-makes e (rw (short, long)) (eqb l letter_w) (eqb l letter_r) (current s.figures)))))

  served-makes : (step_out s r).stops ≡ false → Makes (step_out s r)
  served-makes h = rw (served-is s r h).1 serve-makes

-- ---- Any records that are served

-- a record that is no call takes none of the answers
lines-without : (rs : List (List ℕ)) → answer_lines rs [] ≡ []
unfolding answer_lines
lines-without [] = refl
lines-without (r ∷ rs) = refl

lines-behind : (r : List ℕ) (rs : List (List ℕ)) (answers : List ℕ) → is_letter (letter_of r) ≡ false → answer_lines (r ∷ rs) answers ≡ answer_lines rs answers
unfolding answer_lines
lines-behind r rs [] h = sym (lines-without rs)
lines-behind r rs (a ∷ answers) h = rw h

-- the lines of the calls, by the first record's letter
lines-made : (r : List ℕ) (rs : List (List ℕ)) (es : List Entry) (n : ℕ) (cs : List Call) (line : List ℕ) (lines : List (List ℕ)) (k : Option Kind)
    → kind_of (letter_of r) ≡ k → (known k ≡ true → line ≡ refusal_line (letter_of r) (call_by k es n).answer)
    → lines ≡ answer_lines rs (answers_from (call_by k es n).table cs)
    → cond (known k) (line ∷ lines) lines ≡ answer_lines (r ∷ rs) (answers_from es (call_before k n cs))
unfolding answer_lines answers_from
lines-made r rs es n cs line lines (some k) is first more = rw (is, first refl, more)
lines-made r rs es n cs line lines none is first more = more ∙ sym (lines-behind r rs (answers_from es cs) (ap known is))

-- their steps make of the session what the definitions say
record Made (s : Session) (rs : List (List ℕ)) : Type 0 where
  lines : call_lines s rs ≡ answer_lines rs (answers_from s.table (calls_in rs))
  figures : (session_after s rs).figures ≡ figures_after s.figures rs
  accepted : Accepted s → Accepted (session_after s rs)
  table : (session_after s rs).table ≡ table_from s.table (calls_in rs)
  count : (session_after s rs).count ≡ s.count + length rs

all_made : (rs : List (List ℕ)) (s : Session) → all_served s rs ≡ true → Made s rs
unfolding all_served session_after figures_after calls_in call_lines answer_lines answers_from table_from
all_made [] s h = record { lines = refl; figures = refl; accepted = λ a. a; table = refl; count = omega arith }
all_made (r ∷ rs) s h =
    let next = (step_out s r).next in
    let n = job_number (drop record_head_len r) in
    let b = both (not (step_out s r).stops) (all_served next rs) h in
    let goes = not-true (step_out s r).stops b.0 in
    let one = served-makes s r goes in
    let more = all_made rs next b.1 in
    record {
      lines =
          lines-made r rs s.table n (calls_in rs) (step_out s r).line (call_lines next rs) (kind_of (letter_of r)) refl one.line
          (more.lines ∙ ap (λ (es : List Entry). answer_lines rs (answers_from es (calls_in rs))) one.table);
      figures = more.figures ∙ ap (λ (f : Option Figures). figures_after f rs) one.figures;
      accepted = λ a. more.accepted (step-accepted s a r);
      table =
          more.table ∙ ap (λ (es : List Entry). table_from es (calls_in rs)) one.table
          ∙ sym (table_before s.table n (calls_in rs) (kind_of (letter_of r)));
      count = omega (arith, more.count, (step_counts s r goes).1);
    }

-- ---- An R behind them

some_bytes : (r : List ℕ) → letter_of r ≡ letter_r → length r ≢ 0
some_bytes [] e z = omega (arith, e)
some_bytes (b ∷ bs) e z = omega (arith, z)

module _ (before : List (List ℕ)) (reading : List ℕ) (h : all_served at_start before ≡ true) (few : length before < max_records) where
  abbrev last : Session
  last = session_after at_start before

  made : Made at_start before
  made = all_made before at_start h

  module _ (marked : is_marked reading ≡ true) (is-R : letter_of reading ≡ letter_r) where
    module _ (f : Figures) (held : current last.figures ≡ some f) (whole : length reading ≡ record_head_len + (coding_of f).codec.word_len) where
      abbrev calls : List Call
      calls = calls_in before

      abbrev read_by : List Entry → JobRead
      read_by es = job_read_under (coding_of f) es (drop record_head_len reading) (replicate (payload_len_of f) 0)

      prints : step_out last reading ≡ read_step last (read_by (table_from empty_table calls))
      unfolding readable record_len kind_of
      prints =
          let len = record_head_len + (coding_of f).codec.word_len in
          step-serves last reading (some_bytes reading is-R) (omega (arith, made.count, few)) (rw (marked, is-R, held, whole) (eqb_same len len refl))
          ∙ serve-R last (letter_of reading) reading is-R
          ∙ ap (read_out last reading) held
          ∙ ap (λ (es : List Entry). read_step last (read_by es)) made.table

      is-claimed : SessionClaim before f reading (answers_from empty_table calls) (read_by (table_from empty_table calls))
      is-claimed =
          record {
            claim =
                follows-figures f [] calls (answers_from empty_table calls) (table_from empty_table calls) (drop record_head_len reading)
                (replicate (payload_len_of f) 0) (simulation-from-start empty_table [] empty calls);
            answered = made.lines;
            printed = prints;
          }

    is-stopped : readable last reading ≡ false → StopsAfter before reading
    is-stopped = step-unreadable last reading (some_bytes reading is-R) (omega (arith, made.count, few))

    read-after : (x : Option Figures) → current last.figures ≡ x → ReadAfter before reading x
    unfolding readable record_len kind_of
    read-after none e = is-stopped (rw (marked, is-R, e))
    read-after (some f) e =
        let len = record_head_len + (coding_of f).codec.word_len in
        ((λ whole. (_, _, is-claimed f e whole)), (λ cut. is-stopped (rw (marked, is-R, e) (eqb-other (length reading) len cut))))

pub session-claimed : SessionClaimed
session-claimed before reading h few marked is-R =
    let m = made before reading h few in
    read-after before reading h few marked is-R (figures_after none before) (m.accepted start-accepted ∙ m.figures)

-- ---- The bytes of a record that is served, and any behind them: it is cut off as it is, and its line is printed first

module _ (s : Session) (r rest : List ℕ) (goes : (step_out s r).stops ≡ false) where
  whole-record : is_whole r (record_len s (letter_of r)) ≡ true
  whole-record = readable-whole s r (served-is s r goes).0

  long : record_head_len ≤ length r
  long = whole_long s (letter_of r) r whole-record

  same-letter : letter_of (r ++ rest) ≡ letter_of r
  same-letter = get_or-append r rest 0 2 (omega (arith, long))

  reaches_end : reach (record_len s (letter_of (r ++ rest))) ≡ length r
  reaches_end = rw same-letter (go (record_len s (letter_of r)) whole-record)
    where
      go : (k : Option ℕ) → is_whole r k ≡ true → reach k ≡ length r
      go none h = absurd (false≢true h)
      go (some k) h = sym (eqb-true (length r) k h)

  is-next : next_record s (r ++ rest) ≡ r
  is-next = rw reaches_end (take-append_seam r rest)

  is-behind : behind s (r ++ rest) ≡ rest
  is-behind = rw reaches_end (drop-append_seam r rest)

  pub record-prints : (last : List ℕ) → printed_on last s (r ++ rest) ≡ (step_out s r).line ++ printed_on last (step_out s r).next rest
  record-prints last =
      printed-goes last s (r ++ rest) (eqb-other (length (r ++ rest)) 0 (λ z. omega (arith, z, long, length-append r rest)))
      (omega (arith, (step_counts s r goes).0)) (rw is-next goes)
      ∙ rw (is-next, is-behind)
