-- What is promised of job write and job read together, under any figures; the proof under those of each code is `reads-back` of proofs/RoundTrip.antt.
-- Assumes nothing.
use Rattle.std.specs.Prelude.{◌≡◌, true, false, List, ℕ, ◌<◌, length, get_or}
use Rattle.refusals.specs.Refusals.{served}
use Rattle.combinatorics.specs.Lists.{all_below}
use Rattle.cells.specs.Bytes.{byte_values, payload_len}
use Rattle.cells.specs.Codec.{Word}
use Rattle.cells.specs.Figures.{max_bursts}
use Rattle.cells.specs.Outcomes.{Coding, Held, in_use}
use Rattle.codes.specs.Bridge.{coding_of}
use Rattle.codes.specs.declared.Figures.{Figures}
use Rattle.jobs.specs.declared.Entry.{Entry}
use Rattle.jobcodec.specs.JobWrite.{job_write_under}
use Rattle.jobcodec.specs.JobRead.{hand_out, job_read_under}

-- a job that was written is handed out under the same table, from every found word that differs from the written one only inside the placement's bursts
abbrev pub JobsReadBackUnder : Coding → Type 0
JobsReadBackUnder d =
    (es : List Entry) (at : Held) (payload out w buffer : List ℕ) → length at.starts ≡ max_bursts → all_below byte_values payload ≡ true
    → (job_write_under d es at payload out).answer ≡ served → Word d.codec w
    → ((x : ℕ) → x < d.codec.word_len → d.codec.spoilt (in_use at) x ≡ false → get_or w x 0 ≡ get_or (job_write_under d es at payload out).word x 0)
    → length buffer ≡ payload_len d.codec.alphabet d.codec.message_len_of → job_read_under d es w buffer ≡ hand_out payload

-- under the figures of each code
abbrev pub JobsReadBack : Type 0
JobsReadBack = (f : Figures) → JobsReadBackUnder (coding_of f)
