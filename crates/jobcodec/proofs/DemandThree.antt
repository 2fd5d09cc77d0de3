-- Demand 3 holds: for every exact codec, and so under the figures of each code. Assumes nothing.
use mathlib.Core.Path.{◌≡◌, refl, sym, ap, ◌∙◌}
use mathlib.Core.Bool.{Bool, true, false, true≢false}
use mathlib.Core.List.{List, []}
use Prim.Native.Nat.{ℕ, ◌≤◌}
use native.Mathlib.Omega.{arith}
use lib.Dec.{eqb}
use lib.ListN.{length}
use Rattle.refusals.specs.Refusals.{invalid, unfit, wrong_length, bad_symbol, bad_payload}
use Rattle.combinatorics.specs.Bursts.{apart}
use Rattle.combinatorics.specs.Lists.{all, any, all_below}
use Rattle.combinatorics.proofs.Cases.{by_bool, eqb_same, eqb-true}
use Rattle.combinatorics.proofs.Lists.{in_all}
use Rattle.cells.specs.Bytes.{payload_len}
use Rattle.cells.specs.Codec.{Reading, accepted, refused, Codec, Word, Exact, OwnRefusals}
use Rattle.cells.specs.Figures.{max_bursts}
use Rattle.cells.specs.Outcomes.{Coding}
use Rattle.construction_a.specs.DemandTwo.{construction_a}
use Rattle.codes.specs.Bridge.{coding_of}
use Rattle.codes.specs.declared.Figures.{Figures}
use Rattle.codes.specs.declared.Figures.TheVariants.{Ranked, Long, Larsson}
use Rattle.codes.proofs.Exact.{demand-two, placed_of}
use Rattle.codes.proofs.Layouts.{small}
use Rattle.jobs.specs.declared.Entry.{Entry}
use Rattle.jobs.specs.Jobs.{Call, needs_open}
use Rattle.jobs.specs.Table.{empty_table, twice}
use Rattle.ledger.specs.Calls.{answers_from, table_from}
use Rattle.ledger.specs.Ledger.{history_of, last_left, answer_after, status, ledger_from, accepted_by}
use Rattle.ledger.specs.Simulation.{Agrees, Follows, empty}
use Rattle.ledger.proofs.Simulates.{simulation-from-start, accepted-by}
use Rattle.ledger.proofs.Striking.{left-decides}
use Rattle.payloads.specs.Payload.{carries_job, job_number, message_of, payload_in, spells_payload}
use Rattle.jobcodec.specs.JobWrite.{where_open, unless}
use Rattle.jobcodec.specs.JobRead.{hand_out, withhold, job_in, job_reading, job_read_under, job_read_out}
use Rattle.jobcodec.specs.DemandThree.{BothFacts, is_refusal, is_word_refusal, is_call_refusal, HandsOut, Presented, Claim}
use Rattle.jobcodec.specs.DemandThree.{DemandThreeUnder, DemandThree}
use Rattle.jobcodec.proofs.Examples.{figures, word_with, buffer, opened, computed}
use Rattle.payloads.proofs.Payload.{payload-passes}
use Rattle.jobcodec.proofs.Pairs.{read-pair, pair_read, only-pair, none-gives, one-gives}

-- ---- The job reading, under any exact codec whose refusals are document 01's

-- a number of the code's own is one of a word's
own-word : (c : Codec) (a : ℕ) → any (eqb a) c.word_refusals ≡ true → is_word_refusal c a ≡ true
unfolding is_word_refusal any
own-word c a h = by_bool (eqb a bad_payload) (λ e. rw e) (λ e. rw e h)

module _ (c : Codec) (exact : Exact c) (two : 2 ≤ c.alphabet) (own : OwnRefusals c) (numbers : all is_refusal c.word_refusals ≡ true)
    (es : List Entry) (h : List Call) (g : Agrees es h) (w out : List ℕ) (found : Word c w) where
  -- "12 and 14 go by what is left"
  goes_by : (n : ℕ) → needs_open (status h n) ≡ answer_after (last_left h n)
  unfolding status
  goes_by n = (left-decides (history_of h n) (g.accepted n)).answers

  spelled : (starts ms : List ℕ) (b : Bool) → c.decode w ≡ accepted starts ms → spells_payload c.alphabet c.message_len_of ms ≡ b
      → HandsOut c h w out (job_in c.alphabet c.message_len_of es out (accepted starts ms))
  unfolding is_refusal is_word_refusal any
  spelled starts ms true e t =
      let y = payload_in c.alphabet c.message_len_of ms in
      rw (t, g.same (job_number y))
      (one-gives c h w out starts y (only-pair c exact two w found starts y (pair_read c exact two w found starts ms e t))
      (where_open (status h (job_number y)) (withhold out) (hand_out y)) (ap (λ (a : ℕ). unless a (withhold out) (hand_out y)) (goes_by (job_number y))))
  spelled starts ms false e t =
      let q = c.alphabet in
      let k = c.message_len_of in
      rw t
      (none-gives c h w out
      (λ starts' y' u.
      let e' = read-pair c exact two w found starts' y' u in
      let m : message_of q k y' ≡ ms = cc in
      true≢false (sym (payload-passes q k two y' u.whole) ∙ ap (spells_payload q k) m ∙ t))
      bad_payload refl refl)

  by-reading : (d : Reading) → c.decode w ≡ d → HandsOut c h w out (job_in c.alphabet c.message_len_of es out d)
  by-reading (accepted starts ms) e = spelled starts ms (spells_payload c.alphabet c.message_len_of ms) e refl
  by-reading (refused a) e =
      none-gives c h w out
      (λ starts y u.
      let e' = read-pair c exact two w found starts y u in
      let z : ◌≡◌ {A = ℕ} 0 1 = cc in
      omega arith)
      a (in_all is_refusal c.word_refusals a numbers (own w a e)) (own-word c a (own w a e))

  pub reading-hands-out : carries_job c.alphabet c.message_len_of ≡ true → length out ≡ payload_len c.alphabet c.message_len_of
      → HandsOut c h w out (job_reading c es w out)
  unfolding job_reading
  reading-hands-out five lent =
      rw (five, eqb_same (length w) c.word_len found.complete, eqb_same (length out) (payload_len c.alphabet c.message_len_of) lent, found.symbols)
      (by-reading (c.decode w) refl)

-- ---- The claim, under any figures that give such a codec where they are in range and fit

-- an exact codec whose refusals are document 01's, and placements of no more starts than are held
pub record Reads (d : Coding) : Type 0 where
  pub exactly : Exact d.codec
  pub two : 2 ≤ d.codec.alphabet
  pub own : OwnRefusals d.codec
  pub numbers : all is_refusal d.codec.word_refusals ≡ true
  pub few : d.bursts ≤ max_bursts
  pub placed : (ss : List ℕ) → length ss ≡ d.bursts → apart d.burst_len d.codec.word_len 0 ss ≡ true → d.codec.placed ss ≡ true

abbrev pub ReadsWhereFit : Coding → Type 0
ReadsWhereFit d = d.in_range ≡ true → d.fits ≡ true → Reads d

-- a reading that the claim is not about fails one of the tests before the word is read
turn-away : (d : Coding) (es : List Entry) (w out : List ℕ) → twice es ≡ false → (Presented d w out → ⊥)
    → (a : ℕ) × (is_call_refusal a ≡ true) × (job_read_under d es w out ≡ withhold out a)
unfolding job_reading is_call_refusal any
turn-away d es w out once unpresented =
    let c = d.codec in
    let K = payload_len c.alphabet c.message_len_of in
    by_bool d.in_range
    (λ i. by_bool d.fits
    (λ g. by_bool (carries_job c.alphabet c.message_len_of)
    (λ v. by_bool (eqb (length w) c.word_len)
    (λ n. by_bool (eqb (length out) K)
    (λ l. by_bool (all_below c.found_bound w)
    (λ s. absurd
    (unpresented
    (record {
      range = i;
      fit = g;
      carries = v;
      found = record { complete = eqb-true (length w) c.word_len n; symbols = s };
      lent =
          eqb-true (length out) K l;
    })))
    (λ s. (bad_symbol, refl, rw (i, once, g, v, n, l, s))))
    (λ l. (wrong_length, refl, rw (i, once, g, v, n, l))))
    (λ n. (wrong_length, refl, rw (i, once, g, v, n))))
    (λ v. (bad_payload, refl, rw (i, once, g, v))))
    (λ g. (unfit, refl, rw (i, once, g))))
    (λ i. (invalid, refl, rw i))

-- of what was seen of a list of calls, after whatever calls, and a job reading under the table after it
pub follows-under : (d : Coding) → ReadsWhereFit d
    → (before calls : List Call) (answers : List ℕ) (es : List Entry) (w out : List ℕ) → Follows before calls answers es
    → Claim d before calls w out answers (job_read_under d es w out)
follows-under d reads before calls answers es w out follows =
    record {
      judged = follows.judged;
      reading = λ p.
          let s = reads p.range p.fit in
          rw (follows.judged, accepted-by before calls, p.range, p.fit, follows.agrees.once)
          (reading-hands-out d.codec s.exactly s.two s.own s.numbers es (ledger_from before calls) follows.agrees w out p.found p.carries
          p.lent);
      turned-away = turn-away d es w out follows.agrees.once;
    }

pub demand-three-under : (d : Coding) → ReadsWhereFit d → DemandThreeUnder d
demand-three-under d reads es before s calls w out =
    follows-under d reads before calls (answers_from es calls) (table_from es calls) w out (simulation-from-start es before s calls)

-- ---- Each code

own-numbers : (f : Figures) → all is_refusal (coding_of f).codec.word_refusals ≡ true
unfolding is_refusal all any
own-numbers (Ranked p) = refl
own-numbers (Long p) = refl
own-numbers (Larsson p) = refl

pub reads_in : (f : Figures) → ReadsWhereFit (coding_of f)
reads_in f i h =
    let two = demand-two f i h in
    let few = small f i in
    record {
      exactly = two.exactly;
      two = few.alphabet-least;
      own = two.own;
      numbers = own-numbers f;
      few = few.bursts-most;
      placed = placed_of f;
    }

pub demand-three : DemandThree
demand-three f = demand-three-under (coding_of f) (reads_in f)

pub follows-figures : (f : Figures) (before calls : List Call) (answers : List ℕ) (es : List Entry) (w out : List ℕ) → Follows before calls answers es
    → Claim (coding_of f) before calls w out answers (job_read_under (coding_of f) es w out)
follows-figures f = follows-under (coding_of f) (reads_in f)

-- it is not empty: both facts hold of the transfer example's word
both_facts : (starts : List ℕ) × (y : List ℕ)
    × BothFacts (construction_a figures) (accepted_by opened (answers_from empty_table opened) []) (word_with 255) starts y
unfolding job_read_out
both_facts =
    ((demand-three (Ranked (record { n = figures.n; q = figures.q; m = figures.m; b = figures.b })) empty_table [] empty opened (word_with 255) buffer
    ).reading computed.presented).exactly.0 computed.handed
