-- Demand 3: after any list of calls on the job table, a job is handed out exactly when one pair of placement and payload, and no other, gives a word
-- that differs from the found one only inside its bursts, and its last accepted call that is not struck out was an opening. The statement; its proof is
-- `demand-three` of proofs/DemandThree.antt. Assumes nothing.
use Rattle.std.specs.Prelude.{◌≡◌, ◌↔◌, Bool, true, List, [], ◌∷◌, ℕ, eqb, length}
use Rattle.std.proofs.Math.Option.{none, some}
use Rattle.refusals.specs.Refusals.{served, invalid, unfit, wrong_length, bad_symbol, bad_payload, job_cancelled, not_open, job_held, refusals}
use Rattle.combinatorics.specs.Lists.{any}
use Rattle.cells.specs.Bytes.{payload_len}
use Rattle.cells.specs.Codec.{Codec, Word, LeadsTo}
use Rattle.cells.specs.Outcomes.{Coding}
use Rattle.codes.specs.Bridge.{coding_of}
use Rattle.codes.specs.declared.Figures.{Figures}
use Rattle.jobs.specs.declared.Entry.{Entry}
use Rattle.jobs.specs.Jobs.{opening, cancelling, finishing, holding, Call}
use Rattle.ledger.specs.Calls.{answers_from, table_from}
use Rattle.ledger.specs.Ledger.{last_left, answer_after, verdicts_from, accepted_by}
use Rattle.ledger.specs.Simulation.{Start}
use Rattle.payloads.specs.Payload.{IsPayload, carries_job, job_number, message_of}
use Rattle.jobcodec.specs.JobWrite.{unless}
use Rattle.jobcodec.specs.JobRead.{JobRead, hand_out, withhold, job_read_under}

-- ---- The first fact, under any codec

-- "A pair gives the word of its placement and of the message that spells its payload, leftovers 0", and w differs from it only inside the
-- placement's bursts
pub record Gives (c : Codec) (w starts payload : List ℕ) : Type 0 where
  pub whole : IsPayload c.alphabet c.message_len_of payload
  pub leads : LeadsTo c w starts (message_of c.alphabet c.message_len_of payload)

-- one pair does, and no other. "Placements whose m starts agree are one": a placement is the list of its starts.
pub record OnlyPair (c : Codec) (w starts payload : List ℕ) : Type 0 where
  pub gives : Gives c w starts payload
  pub no_other : (starts' payload' : List ℕ) → Gives c w starts' payload' → (starts' ≡ starts) × (payload' ≡ payload)

-- ---- Both facts, by the accepted calls, newest first
-- document 02, ticket 7: "once each cancellation followed by its reinstatement is struck out, the job's last accepted call is an opening; 12 and 14 go by
-- what is left"; ticket 10: "a hold followed by its release is struck from the number's history like a cancellation followed by its reinstatement, inner
-- pairs first, and what is left must end in an opening"

pub record BothFacts (c : Codec) (ledger : List Call) (w starts payload : List ℕ) : Type 0 where
  pub only : OnlyPair c w starts payload
  pub opened : last_left ledger (job_number payload) ≡ some opening

-- a number of document 01's two lists, which document 02's join
unfoldable pub is_refusal : ℕ → Bool
is_refusal a = any (eqb a) refusals

-- what a word is refused with that no pair gives: 10, or one of the code's own numbers
unfoldable pub is_word_refusal : Codec → ℕ → Bool
is_word_refusal c a = any (eqb a) (bad_payload ∷ c.word_refusals)

-- 1, 2, 3, 4 or 10: what is refused before a word is read
unfoldable pub is_call_refusal : ℕ → Bool
is_call_refusal a = any (eqb a) (invalid ∷ unfit ∷ wrong_length ∷ bad_symbol ∷ bad_payload ∷ [])

-- what a job reading of w after those calls is to be
pub record HandsOut (c : Codec) (ledger : List Call) (w out : List ℕ) (r : JobRead) : Type 0 where
  -- the job is handed out exactly when both facts hold
  pub exactly : (r.answer ≡ served) ↔ ((starts : List ℕ) × (payload : List ℕ) × BothFacts c ledger w starts payload)
  -- and it is that payload
  pub hands : (starts payload : List ℕ) → BothFacts c ledger w starts payload → r ≡ hand_out payload
  -- otherwise it is refused, and the lent buffer keeps what it held; the fields below say with which number
  pub otherwise : ((starts payload : List ℕ) → BothFacts c ledger w starts payload → ⊥) → (a : ℕ) × (is_refusal a ≡ true) × (r ≡ withhold out a)
  -- where the first fact fails, with 7, 19, 8 or 9, by the Larsson code with 21, 8, 9 or 19, and by each with 10; which of them, the word alone says
  -- (`job_read_under`)
  pub no-pair : ((starts payload : List ℕ) → Gives c w starts payload → ⊥) → (a : ℕ) × (is_word_refusal c a ≡ true) × (r ≡ withhold out a)
  -- "Where only the second fact fails, the refusal is 12 after a cancellation, 14 after a finishing or no accepted call."
  pub after-cancelling : (starts payload : List ℕ) → OnlyPair c w starts payload → last_left ledger (job_number payload) ≡ some cancelling
      → r ≡ withhold out job_cancelled
  pub after-finishing : (starts payload : List ℕ) → OnlyPair c w starts payload → last_left ledger (job_number payload) ≡ some finishing
      → r ≡ withhold out not_open
  -- document 02, ticket 10: "It refuses with 23 .. reading .. a held job"
  pub after-holding : (starts payload : List ℕ) → OnlyPair c w starts payload → last_left ledger (job_number payload) ≡ some holding
      → r ≡ withhold out job_held
  pub none-accepted : (starts payload : List ℕ) → OnlyPair c w starts payload → last_left ledger (job_number payload) ≡ none
      → r ≡ withhold out not_open
  -- and so whatever is left of its calls: "12 and 14 go by what is left", by `answer_after`
  pub by_left : (starts payload : List ℕ) → OnlyPair c w starts payload
      → r ≡ unless (answer_after (last_left ledger (job_number payload))) (withhold out) (hand_out payload)

-- ---- The claim

-- what the claim is about: figures in range that fit; a payload of 5 bytes or more ("10: K below 5" otherwise); "A strip is complete at n symbols", each up
-- to q ("demands 2 and 3 .. now allow any value up to q"); "buffers fit where refusal 3 doesn't apply"
pub record Presented (d : Coding) (w out : List ℕ) : Type 0 where
  pub range : d.in_range ≡ true
  pub fit : d.fits ≡ true
  pub carries : carries_job d.codec.alphabet d.codec.message_len_of ≡ true
  pub found : Word d.codec w
  pub lent : length out ≡ payload_len d.codec.alphabet d.codec.message_len_of

-- "It is a single claim about the whole list and the job reading after it", of what was seen: the answers of the calls, and the outcome of the
-- reading under the table that the last call handed back. `before` are the calls accepted earlier.
pub record Claim (d : Coding) (before calls : List Call) (w out answers : List ℕ) (r : JobRead) : Type 0 where
  -- "Each call answers as the ledger does, 0 for accepted."
  pub judged : answers ≡ verdicts_from before calls
  pub reading : Presented d w out → HandsOut d.codec (accepted_by calls answers before) w out r
  -- and nothing is handed out of anything else: 1, 2, 3, 4 or 10; which of them, the order says (`job_read_under`)
  pub turned-away : (Presented d w out → ⊥) → (a : ℕ) × (is_call_refusal a ≡ true) × (r ≡ withhold out a)

-- under any figures, for every list of calls, refused ones included, all words and buffers: "in a ledger that begins with every number unknown"; document
-- 02, ticket 3: "its list may also start from a book that holds 0 alone, in any place, open or cancelled, as if former accepted calls had put it there"
abbrev pub DemandThreeUnder : Coding → Type 0
DemandThreeUnder d =
    (es : List Entry) (before : List Call) → Start es before → (calls : List Call) (w out : List ℕ)
    → Claim d before calls w out (answers_from es calls) (job_read_under d (table_from es calls) w out)

-- ---- For all figures of each code: "Demands 2 and 3 hold for these strips under their own figures, with construction B's word"; and a job on an older tray,
-- under the same table

abbrev pub DemandThree : Type 0
DemandThree = (f : Figures) → DemandThreeUnder (coding_of f)
