-- Demand 1 holds of every outcome: a field for each, from the file of its subject. Assumes nothing.
use mathlib.Core.Path.{◌≡◌}
use mathlib.Core.Bool.{true}
use mathlib.Core.List.{List}
use Prim.Native.Nat.{ℕ}
use Rattle.cells.specs.Ranking.{CoversLeast}
use Rattle.cells.specs.Outcomes.{defect_at}
use Rattle.codes.specs.declared.Figures.{Figures}
use Rattle.codes.specs.declared.Figures.TheVariants.{Ranked, Long, Larsson}
use Rattle.params.specs.Bridge.{given, given_long}
use Rattle.codes.specs.Bridge.{coding_of}
use Rattle.codes.proofs.Exact.{demand-two}
use Rattle.construction_a.proofs.Ranking.{faithful}
use Rattle.construction_b.proofs.Ranking.{faithful as faithful-b}
use Rattle.larsson.proofs.Figures.{serve}
use Rattle.larsson.proofs.Ranking.{covers-least}
use Rattle.ledger.proofs.Simulates.{simulation}
use Rattle.demands.specs.Orders.{own_of, word_read, job_read, prescription_read}
use Rattle.demands.proofs.Answering.{owns, orders}
use Rattle.demands.proofs.Moves.{move, move-bytes}
use Rattle.demands.proofs.Prescriptions.{transpose, spherical-equivalent, read-text, write-text, prescription-write, prescription-read}
use Rattle.demands.proofs.Prescriptions.{transpose-lent, equivalent-lent, prescription-write-bytes, prescription-read-bytes}
use Rattle.demands.proofs.Words.{figures-alone, word-write, cover, word-read, ReadsBehind, behind, verify}
use Rattle.demands.proofs.Words.{interleave, deinterleave}
use Rattle.demands.proofs.Jobs.{open-job, cancel-job, finish-job, reinstate-job, hold-job, release-job, call-by, replay}
use Rattle.demands.proofs.Jobs.{job-write, job-read, list-and-read}
use Rattle.demands.proofs.Bytes.{figures-lent, word-write-bytes, verify-bytes, cover-bytes, word-read-bytes, job-write-bytes, job-read-bytes, call-bytes}
use Rattle.demands.proofs.Transfer.{step}
use Rattle.demands.specs.DemandOne.{DemandOne}

cover-conditions : (f : Figures) → (coding_of f).in_range ≡ true → (coding_of f).fits ≡ true → (map : List ℕ) → CoversLeast (coding_of f) (defect_at map)
cover-conditions (Ranked p) i h map = (faithful (given p) i h).covers (defect_at map)
cover-conditions (Long p) i h map = (faithful-b (given_long p) i h).covers (defect_at map)
cover-conditions (Larsson p) i h map = covers-least (given p) (serve (given p) i h) (defect_at map)

-- each code's reading, behind the tests of its lengths and symbols
reads-behind : (f : Figures) → ReadsBehind (word_read (own_of f)) (coding_of f)
reads-behind f = behind (word_read (own_of f)) (orders f).word.numbers (coding_of f) (owns f (word_read (own_of f)) (orders f).word-own)

pub demand-one : DemandOne
demand-one =
    record {
      figures-alone = λ f. figures-alone (coding_of f);
      word-write = λ f. word-write (coding_of f);
      cover = λ f. cover (coding_of f);
      word-read = λ f. word-read (word_read (own_of f)) (orders f).word (coding_of f) (reads-behind f);
      interleave = λ f. interleave (coding_of f);
      deinterleave = λ f. deinterleave (coding_of f);
      verify = λ f. verify (coding_of f);
      open-job = open-job;
      cancel-job = cancel-job;
      finish-job = finish-job;
      reinstate-job = reinstate-job;
      hold-job = hold-job;
      release-job = release-job;
      call-by = λ k es n. call-by es k n;
      replay = replay;
      job-write = λ f. job-write (coding_of f);
      job-read = λ f. job-read (job_read (own_of f)) (orders f).job (coding_of f) (owns f _ (orders f).job-own);
      list-and-read = λ f. list-and-read (job_read (own_of f)) (orders f).job (coding_of f) (owns f _ (orders f).job-own);
      move = move;
      transpose = transpose;
      spherical-equivalent = spherical-equivalent;
      read-text = read-text;
      write-text = λ p text. write-text text p;
      prescription-write = λ f es at n p out. prescription-write (coding_of f) es at n out p;
      prescription-read = λ f.
          let o = orders f in
          prescription-read (prescription_read (own_of f)) o.prescription o.sixteen (coding_of f) (owns f _ o.prescription-own);
      figures-lent = λ f. figures-lent (coding_of f);
      word-read-bytes = λ f w out starts.
          word-read-bytes out starts (word_read (own_of f)) (orders f).word (coding_of f) (reads-behind f) w;
      word-write-bytes = λ f. word-write-bytes (coding_of f);
      verify-bytes = λ f. verify-bytes (coding_of f);
      cover-bytes = λ f map starts. cover-bytes starts (coding_of f) map;
      call-bytes = λ k table. call-bytes table k;
      job-write-bytes = λ f. job-write-bytes (coding_of f);
      job-read-bytes = λ f. job-read-bytes (job_read (own_of f)) (orders f).job (coding_of f) (owns f _ (orders f).job-own);
      move-bytes = move-bytes;
      transpose-lent = λ e marks powers. transpose-lent marks powers e;
      equivalent-lent = λ e power. equivalent-lent power e;
      prescription-write-bytes = λ f. prescription-write-bytes (coding_of f);
      prescription-read-bytes = λ f table w marks powers.
          let o = orders f in
          prescription-read-bytes marks powers (prescription_read (own_of f)) o.prescription o.sixteen (coding_of f) (owns f _ o.prescription-own) table w;
      step = step;
      table-conditions = simulation;
      cover-conditions = cover-conditions;
      read-conditions = demand-two;
    }
