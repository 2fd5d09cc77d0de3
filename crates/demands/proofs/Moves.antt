-- Demand 1 holds of the outcomes of moving. Assumes nothing.
use mathlib.Core.Path.{◌≡◌, refl}
use mathlib.Core.Bool.{true, not, ◌&&◌}
use mathlib.Core.List.{List, ◌∷◌}
use Prim.Native.Nat.{ℕ}
use lib.Dec.{eqb}
use lib.ListN.{length}
use Rattle.refusals.specs.Refusals.{invalid, unfit, wrong_length, bad_symbol}
use Rattle.combinatorics.specs.Lists.{all, any, all_below}
use Rattle.cells.specs.Codec.{Reading}
use Rattle.cells.specs.Outcomes.{Coding, unwritten}
use Rattle.codes.specs.declared.Figures.{Figures}
use Rattle.codes.specs.declared.Figures.TheVariants.{Ranked, Long, Larsson}
use Rattle.codes.specs.Bridge.{coding_of}
use Rattle.jobs.specs.declared.Entry.{Entry}
use Rattle.jobs.specs.Jobs.{is_job}
use Rattle.jobs.specs.Table.{twice}
use Rattle.payloads.specs.Payload.{carries_job, job_number, payload_in, spells_payload}
use Rattle.jobcodec.specs.DemandThree.{is_refusal}
use Rattle.jobcodec.specs.JobWrite.{job_status}
use Rattle.moving.specs.Resize.{has_room}
use Rattle.moving.specs.Move.{payload_bytes, move_job, move_message, move_read, same_figures, move_under}
use Rattle.moving.specs.Move as Move
use Rattle.lent_jobs.specs.Table.{table_in}
use Rattle.lent_jobs.specs.Jobs.{has_table_len, slots_fit}
use Rattle.lent_moving.specs.Moves.{move_bytes_under}
use Rattle.demands.specs.Orders.{own_of, move_accepted, moving}
use Rattle.demands.specs.DemandOne.{AnswersBy}
use Rattle.demands.proofs.Answering.{keep, done, tested, where-open, by-own, Within, one-within, Owns, owns, Writes}

-- what every move is refused with: 1 2 3 4 and, once a word is accepted, 10, 12 23 14, 22, 17
abbrev common : List ℕ
common = invalid ∷ unfit ∷ wrong_length ∷ bad_symbol ∷ move_accepted

-- the order of moves from a code with these refusals
record Moves (own : List ℕ) : Type 0 where
  pub numbers : all is_refusal (moving own) ≡ true
  pub has : Within common (moving own)
  pub has-own : Within own (moving own)

moves-in : (f : Figures) → Moves (own_of f)
unfolding is_refusal all any
moves-in (Ranked p) = record { numbers = refl; has = refl; has-own = refl }
moves-in (Long p) = record { numbers = refl; has = refl; has-own = refl }
moves-in (Larsson p) = record { numbers = refl; has = refl; has-own = refl }

-- ---- From a reader whose refusals stand in the order

module _ (order : List ℕ) (numbers : all is_refusal order ≡ true) (has : Within common order) where
  one_of : {a : ℕ} {out : List ℕ} → any (eqb a) common ≡ true → AnswersBy order a out out
  one_of {a} h = keep numbers (one-within common order has a h)

  module _ (d e : Coding) (reads : Owns order d) where
    read-and-moved : (es : List Entry) (out starts ms : List ℕ) → Writes order out (move_message d.codec e.codec es out starts ms)
    unfolding move_message move_job any
    read-and-moved es out starts ms =
        let P = Writes order out in
        let payload = payload_in d.codec.alphabet d.codec.message_len_of ms in
        tested P (spells_payload d.codec.alphabet d.codec.message_len_of ms) (one_of refl)
        (where-open P (unwritten out) (job_status es payload) (one_of refl) (one_of refl) (one_of refl)
        (tested P (has_room (payload_bytes e.codec) payload) (one_of refl)
        (tested P (is_job (job_number payload)) (one_of refl)
        (done numbers))))

    behind : (es : List Entry) (w out : List ℕ) → Writes order out (move_read d.codec e.codec es out (d.codec.decode w))
    behind es w out =
        by-own (λ (r : Reading). Writes order out (move_read d.codec e.codec es out r)) (λ a h. keep numbers h) (read-and-moved es out)
        (d.codec.decode w) (reads w)

    moved : (es : List Entry) (w out : List ℕ) → Writes order out (move_under d e es w out)
    unfolding move_under Move.move any
    moved es w out =
        let P = Writes order out in
        let from = d.codec in
        let to = e.codec in
        tested P (d.in_range && e.in_range && not (twice es)) (one_of refl)
        (tested P (same_figures d e && d.fits && e.fits) (one_of refl)
        (tested P (carries_job from.alphabet from.message_len_of && carries_job to.alphabet to.message_len_of) (one_of refl)
        (tested P (eqb (length w) from.word_len && eqb (length out) to.word_len) (one_of refl)
        (tested P (all_below from.found_bound w) (one_of refl)
        (behind es w out)))))

    moved-bytes : (table w out : List ℕ) → Writes order out (move_bytes_under d e table w out)
    unfolding move_bytes_under any
    moved-bytes table w out =
        let P = Writes order out in
        let from = d.codec in
        let to = e.codec in
        tested P (d.in_range && e.in_range && slots_fit table) (one_of refl)
        (tested P (same_figures d e && d.fits && e.fits) (one_of refl)
        (tested P (carries_job from.alphabet from.message_len_of && carries_job to.alphabet to.message_len_of) (one_of refl)
        (tested P (has_table_len table) (one_of refl)
        (moved (table_in table) w out))))

-- ---- From any code to any other

pub move : (f g : Figures) (es : List Entry) (w out : List ℕ) → Writes (moving (own_of f)) out (move_under (coding_of f) (coding_of g) es w out)
move f g =
    let o = moves-in f in
    moved (moving (own_of f)) o.numbers o.has (coding_of f) (coding_of g) (owns f (moving (own_of f)) o.has-own)

pub move-bytes : (f g : Figures) (table w out : List ℕ) → Writes (moving (own_of f)) out (move_bytes_under (coding_of f) (coding_of g) table w out)
move-bytes f g =
    let o = moves-in f in
    moved-bytes (moving (own_of f)) o.numbers o.has (coding_of f) (coding_of g) (owns f (moving (own_of f)) o.has-own)
