-- Laws of moving with a table in bytes: what the table is refused with, and a move with one that is not refused. Assumes nothing.
use mathlib.Core.Path.{◌≡◌, refl, sym, ap, ap₂, ◌∙◌}
use mathlib.Core.Logic.{◌≢◌}
use mathlib.Core.Bool.{Bool, true, false, not, ◌&&◌}
use mathlib.Core.List.{List, []}
use Prim.Native.Nat.{ℕ}
use native.Mathlib.Omega.{arith}
use lib.Dec.{eqb}
use lib.ListN.{length}
use Rattle.refusals.specs.Refusals.{must, served, invalid, unfit, wrong_length, bad_symbol, bad_payload}
use Rattle.combinatorics.specs.Lists.{all_below}
use Rattle.combinatorics.proofs.Cases.{by_bool, by-eq, eqb_same, eqb-other}
use Rattle.cells.specs.Outcomes.{Coding, Encoded, unwritten}
use Rattle.codes.specs.declared.WordLayout.{WordLayout}
use Rattle.codes.specs.Given.{coding_in}
use Rattle.codes.proofs.Layouts.{in_order}
use Rattle.jobs.specs.Table.{twice}
use Rattle.payloads.specs.Payload.{carries_job}
use Rattle.jobcodec.proofs.Outcomes.{both_true, both_false}
use Rattle.moving.specs.Move.{move_read, move, same_figures, move_under}
use Rattle.moving.specs.Given.{BothReady}
use Rattle.moving.specs.Both.{from_figures}
use Rattle.moving.proofs.Figures.{alike_same}
use Rattle.lent_jobs.specs.Table.{table_len, states_known, table_in}
use Rattle.lent_moving.specs.Moves.{move_bytes_under}
use Rattle.lent_moving.specs.Given.{move_without_table}

-- both payloads have five bytes or more
abbrev both_carry : Coding → Coding → Bool
both_carry d e = carries_job d.codec.alphabet d.codec.message_len_of && carries_job e.codec.alphabet e.codec.message_len_of

-- ---- A table of another length

-- the figures of both codes refuse, for whatever lengths of the strips; 3 comes in any case
pub without-refused : (d e : Coding) (strip moved a : ℕ)
    → ((refuse : ℕ → Encoded) (rest : Encoded) → from_figures d e strip moved refuse rest ≡ refuse a) → a ≡ move_without_table d e
unfolding move_without_table
without-refused d e strip moved a h =
    ap (λ (o : Encoded). o.answer) (sym (h (unwritten []) (unwritten [] wrong_length)))
    ∙ go (d.in_range && e.in_range) (same_figures d e && d.fits && e.fits) (both_carry d e) (eqb strip d.codec.word_len && eqb moved e.codec.word_len)
  where
    none : ℕ → Encoded
    none = unwritten []

    go : (a b c d : Bool) → (must a (none invalid) (must b (none unfit) (must c (none bad_payload) (must d (none wrong_length) (none wrong_length))))).answer
        ≡ must a invalid (must b unfit (must c bad_payload wrong_length))
    go false b c d = refl
    go true false c d = refl
    go true true false d = refl
    go true true true false = refl
    go true true true true = refl

pub without-fit : (d e : Coding) (from to : WordLayout) (strip moved : ℕ) → coding_in from ≡ d → coding_in to ≡ e → BothReady from to strip moved
    → wrong_length ≡ move_without_table d e
unfolding move_without_table
without-fit d e from to strip moved e₁ e₂ r =
    let x = in_order from r.serves-from in
    let y = in_order to r.serves-to in
    let whole : wrong_length ≡ move_without_table (coding_in from) (coding_in to) =
    rw (alike_same (coding_in from) (coding_in to) r.alike, x.0, y.0, x.1, y.1, r.carries-from, r.carries-to) in
    whole ∙ ap₂ move_without_table e₁ e₂

-- it is refused in any case
without-refuses : (d e : Coding) → move_without_table d e ≢ served
unfolding move_without_table
without-refuses d e = go (d.in_range && e.in_range) (same_figures d e && d.fits && e.fits) (both_carry d e)
  where
    go : (a b c : Bool) → must a invalid (must b unfit (must c bad_payload wrong_length)) ≢ served
    go false b c e = absurd (omega (arith, e))
    go true false c e = absurd (omega (arith, e))
    go true true false e = absurd (omega (arith, e))
    go true true true e = absurd (omega (arith, e))

-- ---- Test by test

module _ (d e : Coding) (table w out : List ℕ) where
  pub bytes-other : length table ≢ table_len → unwritten out (move_without_table d e) ≡ move_bytes_under d e table w out
  unfolding move_without_table move_bytes_under
  bytes-other other =
      rw (eqb-other (length table) table_len other, both_true (d.in_range && e.in_range))
      (go (d.in_range && e.in_range) (same_figures d e && d.fits && e.fits) (both_carry d e))
    where
      go : (a b c : Bool) → unwritten out (must a invalid (must b unfit (must c bad_payload wrong_length)))
          ≡ must a (unwritten out invalid) (must b (unwritten out unfit) (must c (unwritten out bad_payload) (unwritten out wrong_length)))
      go false b c = refl
      go true false c = refl
      go true true false = refl
      go true true true = refl

  module _ (size : length table ≡ table_len) where
    pub bytes-state : states_known table ≡ false → unwritten out invalid ≡ move_bytes_under d e table w out
    unfolding move_bytes_under
    bytes-state s = rw (eqb_same (length table) table_len size, s, both_false (d.in_range && e.in_range))

    -- the move asks for its own tests once more
    pub bytes_whole : states_known table ≡ true → move_under d e (table_in table) w out ≡ move_bytes_under d e table w out
    unfolding move_bytes_under move_under move
    bytes_whole s =
        rw (eqb_same (length table) table_len size, s)
        (again (d.in_range && e.in_range && not (twice (table_in table))) (same_figures d e && d.fits && e.fits) (both_carry d e)
        (unwritten out invalid) (unwritten out unfit) (unwritten out bad_payload)
        (must (eqb (length w) d.codec.word_len && eqb (length out) e.codec.word_len) (unwritten out wrong_length)
        (must (all_below d.codec.found_bound w) (unwritten out bad_symbol)
        (move_read d.codec e.codec (table_in table) out (d.codec.decode w)))))
      where
        again : (a b c : Bool) (x y z rest : Encoded)
            → must a x (must b y (must c z rest)) ≡ must a x (must b y (must c z (must a x (must b y (must c z rest)))))
        again false b c x y z rest = refl
        again true false c x y z rest = refl
        again true true false x y z rest = refl
        again true true true x y z rest = refl

  -- an accepted move has a table
  pub accepted-table : (move_bytes_under d e table w out).answer ≡ served → (length table ≡ table_len) × (states_known table ≡ true)
  accepted-table is =
      by-eq (length table) table_len (λ _. (length table ≡ table_len) × (states_known table ≡ true))
      (λ size. by_bool (states_known table) (λ s. (size, s)) (λ s. absurd (omega (arith, ap (λ (o : Encoded). o.answer) (bytes-state size s) ∙ is))))
      (λ other. absurd (without-refuses d e (ap (λ (o : Encoded). o.answer) (bytes-other other) ∙ is)))
