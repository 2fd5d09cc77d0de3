-- Moving under any two codes' figures, as an instance of moving between any two exact codecs. Assumes nothing.
use mathlib.Core.Path.{◌≡◌, sym, ap₂, ◌∙◌}
use mathlib.Core.Bool.{true, not, ◌&&◌}
use mathlib.Core.List.{List}
use Prim.Native.Nat.{ℕ, ◌-◌}
use native.Mathlib.Omega.{arith}
use lib.Dec.{eqb}
use lib.ListN.{length, replicate}
use lib.Seq.{take-append_seam}
use Rattle.refusals.specs.Refusals.{must, served, invalid, unfit}
use Rattle.combinatorics.specs.Bursts.{apart}
use Rattle.combinatorics.proofs.Cases.{eqb_same, eqb-true}
use Rattle.combinatorics.proofs.Lists.{both, in_all}
use Rattle.cells.specs.Bytes.{payload_len}
use Rattle.cells.specs.Figures.{max_bursts}
use Rattle.cells.specs.Outcomes.{Coding, unwritten}
use Rattle.codes.specs.declared.Figures.{Figures}
use Rattle.codes.specs.Bridge.{coding_of}
use Rattle.codes.proofs.Layouts.{small}
use Rattle.codes.proofs.Exact.{demand-two, more-found, placed_of, placed-is}
use Rattle.jobs.specs.declared.Entry.{Entry}
use Rattle.jobs.specs.Table.{twice}
use Rattle.jobcodec.specs.DemandThree.{is_refusal}
use Rattle.jobcodec.specs.JobWrite.{job_write_under}
use Rattle.jobcodec.proofs.Pairs.{not-served}
use Rattle.jobcodec.proofs.DemandThree.{reads_in}
use Rattle.moving.specs.Given.{Alike}
use Rattle.moving.specs.Move.{job_word, move, same_figures, move_under}
use Rattle.moving.specs.ThereAndBack.{ThereAndBack, MovesJob}
use Rattle.moving.proofs.Moving.{Movable, Passed, WritesJobs, passed, accepted-move, returned, same-job}
use Rattle.moving.proofs.Steps.{PlacedIn}

-- ---- Each code

pub movable-of : (f : Figures) → (coding_of f).in_range ≡ true → (coding_of f).fits ≡ true → Movable (coding_of f).codec
movable-of f i h =
    let d = demand-two f i h in
    record {
      exact = d.exactly;
      writes = d.written;
      two = (small f i).alphabet-least;
      finds = more-found f;
      numbered = λ w a e z. not-served a (in_all is_refusal (coding_of f).codec.word_refusals a (reads_in f i h).numbers (d.own w a e)) z;
    }

writes-jobs : (d : Coding) (es : List Entry) → d.in_range ≡ true → not (twice es) ≡ true → d.fits ≡ true → PlacedIn d
    → WritesJobs d.codec es (job_write_under d es)
unfolding job_word
writes-jobs d es range once fit starts-are ss payload out placed carries is number is_open lent =
    let at = starts-are ss placed in
    rw (
      range,
      once,
      fit,
      carries,
      eqb_same (length ss) d.bursts at.0,
      eqb_same (length payload) (payload_len d.codec.alphabet d.codec.message_len_of) is.count,
      eqb_same (length out) d.codec.word_len lent,
      take-append_seam ss (replicate (max_bursts - length ss) 0),
      at.1,
      number,
      is_open,
    )

-- ---- The same figures

module _ (d e : Coding) where
  pub alike_same : Alike d e → same_figures d e ≡ true
  unfolding same_figures
  alike_same a =
      rw (
        eqb_same d.codec.word_len e.codec.word_len a.word,
        eqb_same d.codec.alphabet e.codec.alphabet a.alphabet,
        eqb_same d.bursts e.bursts a.bursts,
        eqb_same d.burst_len e.burst_len a.burst,
      )

  pub same_alike : same_figures d e ≡ true → Alike d e
  unfolding same_figures
  same_alike h =
      let n = eqb d.codec.word_len e.codec.word_len in
      let q = eqb d.codec.alphabet e.codec.alphabet in
      let m = eqb d.bursts e.bursts in
      let b = eqb d.burst_len e.burst_len in
      let v = both (n && q && m) b h in
      let x = both (n && q) m v.0 in
      let y = both n q x.0 in
      record {
        word = eqb-true d.codec.word_len e.codec.word_len y.0;
        alphabet = eqb-true d.codec.alphabet e.codec.alphabet y.1;
        bursts = eqb-true d.bursts e.bursts x.1;
        burst = eqb-true d.burst_len e.burst_len v.1;
      }

  -- and the other way round
  pub flipped : Alike d e → Alike e d
  flipped a = record { word = sym a.word; alphabet = sym a.alphabet; bursts = sym a.bursts; burst = sym a.burst }

-- a placement of one is a placement of the other
placed_alike : (from to : Figures) → Alike (coding_of from) (coding_of to) → (ss : List ℕ) → (coding_of from).codec.placed ss ≡ true
    → (coding_of to).codec.placed ss ≡ true
placed_alike from to a ss p =
    let v = placed-is from ss p in
    placed_of to ss (v.0 ∙ a.bursts) (sym (ap₂ (λ (b n : ℕ). apart b n 0 ss) a.burst a.word) ∙ v.1)

-- ---- Figures that are accepted

-- past "1 2"
pub record Fitting (d e : Coding) (es : List Entry) : Type 0 where
  pub range-from : d.in_range ≡ true
  pub range-to : e.in_range ≡ true
  pub once : not (twice es) ≡ true
  pub alike : Alike d e
  pub fit-from : d.fits ≡ true
  pub fit-to : e.fits ≡ true

module _ (d e : Coding) (es : List Entry) where
  pub fitting-back : Fitting d e es → Fitting e d es
  fitting-back g =
      record {
        range-from = g.range-to;
        range-to = g.range-from;
        once = g.once;
        alike = flipped d e g.alike;
        fit-from = g.fit-to;
        fit-to = g.fit-from;
      }

  pub past-figures : Fitting d e es → (w out : List ℕ) → move_under d e es w out ≡ move d.codec e.codec es w out
  unfolding move_under
  past-figures g w out = rw (alike_same d e g.alike, g.range-from, g.range-to, g.once, g.fit-from, g.fit-to)

  pub fitting : (w out : List ℕ) → (move_under d e es w out).answer ≡ served → Fitting d e es × ((move d.codec e.codec es w out).answer ≡ served)
  unfolding move_under
  fitting w out s =
      let rest = move d.codec e.codec es w out in
      let range = d.in_range && e.in_range && not (twice es) in
      let fit = same_figures d e && d.fits && e.fits in
      let p₁ = passed range out invalid (must fit (unwritten out unfit) rest) (λ z. omega arith) s in
      let p₂ = passed fit out unfit rest (λ z. omega arith) p₁.1 in
      let v = both (d.in_range && e.in_range) (not (twice es)) p₁.0 in
      let u = both d.in_range e.in_range v.0 in
      let g = both (same_figures d e && d.fits) e.fits p₂.0 in
      let h = both (same_figures d e) d.fits g.0 in (
        record { range-from = u.0; range-to = u.1; once = v.1; alike = same_alike d e h.0; fit-from = h.1; fit-to = g.1 },
        p₂.1,
      )

-- ---- An accepted move, from any code to any other

module _ (from to : Figures) (es : List Entry) (w out : List ℕ) (s : (move_under (coding_of from) (coding_of to) es w out).answer ≡ served) where
  abbrev d : Coding
  d = coding_of from

  abbrev e : Coding
  e = coding_of to

  own : Fitting d e es
  own = (fitting d e es w out s).0

  from-ok : Movable d.codec
  from-ok = movable-of from own.range-from own.fit-from

  to-ok : Movable e.codec
  to-ok = movable-of to own.range-to own.fit-to

  past : (starts : List ℕ) × (message : List ℕ) × Passed d.codec e.codec es w out starts message
  past = accepted-move d.codec e.codec es w out (from-ok.numbered w) (fitting d e es w out s).1

pub there_and_back : ThereAndBack
there_and_back from to es w out s =
    let d = coding_of from in
    let e = coding_of to in
    let g = own from to es w out s in
    let p = past from to es w out s in
    rw (past-figures d e es g w out)
    (returned d.codec e.codec (from-ok from to es w out s) (to-ok from to es w out s) (placed_alike from to g.alike) es w out p.0 p.1 p.2
    (move_under e d es) (past-figures e d es (fitting-back d e es g)))

pub moves-job : MovesJob
moves-job from to es w out s =
    let d = coding_of from in
    let e = coding_of to in
    let g = own from to es w out s in
    let p = past from to es w out s in
    rw (past-figures d e es g w out)
    (same-job d.codec e.codec (from-ok from to es w out s) (to-ok from to es w out s) (placed_alike from to g.alike) es w out p.0 p.1 p.2
    (job_write_under e es) (writes-jobs e es g.range-to g.once g.fit-to (placed-is to)))
