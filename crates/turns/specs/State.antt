-- The declared state as a view of it and of the two buffers, and what its functions ask for and answer. Assumes nothing.
use Rattle.std.specs.Prelude.{◌≡◌, Bool, false, cond, ◌&&◌, List, ℕ, ◌+◌, ◌-◌, ◌≤◌, ◌<◌, eqb, ltb, ℤ, pos, negsuc, length, take, drop}
use Rattle.records.specs.Session.{at_start}
use Rattle.lines.specs.Lines.{max_line}
use Rattle.records.specs.Bridge.{session_of}
use Rattle.turns.specs.declared.State.{State}
use Rattle.turns.specs.declared.Phase.{Phase}
use Rattle.turns.specs.declared.Phase.TheVariants.{Open, Ended, Failed, Done}
use Rattle.turns.specs.declared.Wants.TheVariants.{Read}
use Rattle.turns.specs.View.{buffer_len, View, wants_at}

abbrev pub Buffers : List ℕ → List ℕ → Type 0
Buffers input output = (length input ≡ buffer_len) × (length output ≡ buffer_len)

-- what waits lies in the input buffer, and what is gathered in the output buffer
pub record WithinBuffers (s : State) : Type 0 where
  pub ordered : s.from ≤ s.to
  pub read : s.to ≤ buffer_len
  pub gathered : s.gathered ≤ buffer_len

-- .. and any line has room behind it
pub record Roomy (s : State) : Type 0 where
  pub within : WithinBuffers s
  pub room : s.gathered + max_line ≤ buffer_len

abbrev pub waiting_in : State → List ℕ → List ℕ
waiting_in s input = take (s.to - s.from) (drop s.from input)

-- a state with its buffers
abbrev pub view_of : State → List ℕ → List ℕ → View
view_of s input output =
    record { session = session_of s.session; waiting = waiting_in s input; gathered = take s.gathered output; phase = s.phase }

-- more interrupted reads than a program meets are made again, but not without end
abbrev pub max_repeats : ℕ
max_repeats = 18446744073709551615

pub record Begun (s : State) : Type 0 where
  pub session : session_of s.session ≡ at_start
  pub from : s.from ≡ 0
  pub to : s.to ≡ 0
  pub gathered : s.gathered ≡ 0
  pub phase : s.phase ≡ Open
  pub repeats : s.repeats ≡ max_repeats

-- a read has the buffer behind what waits, and there is room for a byte
abbrev pub WaitsInFront : State → Type 0
WaitsInFront s = wants_at s.gathered s.phase ≡ Read → (s.from ≡ 0) × (s.to < buffer_len)

-- the same but for where it waits
pub record Fronted (s r : State) : Type 0 where
  pub session : r.session ≡ s.session
  pub gathered : r.gathered ≡ s.gathered
  pub phase : r.phase ≡ s.phase
  pub repeats : r.repeats ≡ s.repeats
  pub within : WithinBuffers r
  pub len : r.to - r.from ≡ s.to - s.from
  pub front : wants_at s.gathered s.phase ≡ Read → r.from ≡ 0

-- ---- What the system answers, and what that changes

-- what a read that has room for so many bytes answers: how many it brought, or -1
abbrev pub Moved : ℕ → ℤ → Type 0
Moved n (pos count) = count ≤ n
Moved n (negsuc below) = below ≡ 0

-- so many bytes more wait
abbrev pub with_more : State → ℕ → State
with_more s count =
    record { session = s.session; from = s.from; to = s.to + count; gathered = s.gathered; phase = s.phase; repeats = s.repeats }

-- one repeat fewer is left
abbrev pub repeated : State → State
repeated s =
    record { session = s.session; from = s.from; to = s.to; gathered = s.gathered; phase = s.phase; repeats = s.repeats - 1 }

abbrev pub in_phase : State → Phase → State
in_phase s phase =
    record { session = s.session; from = s.from; to = s.to; gathered = s.gathered; phase = phase; repeats = s.repeats }

-- the error's number is that of a call that a signal interrupted
abbrev pub is_interrupted : ℤ → Bool
is_interrupted (pos number) = eqb number 4
is_interrupted (negsuc _) = false

-- a read that failed by this error is made again: one that a signal interrupted, while repeats are left
abbrev pub is_repeated : State → ℤ → Bool
is_repeated s error = is_interrupted error && ltb 0 s.repeats

-- what a read answered: so many bytes, none at the end of input, less than none where it failed, and then by which error
abbrev pub after_read : State → ℤ → ℤ → State
after_read s (pos count) error = cond (eqb count 0) (in_phase s Ended) (with_more s count)
after_read s (negsuc _) error = cond (is_repeated s error) (repeated s) (in_phase s Failed)

-- whether what was gathered was written
abbrev pub after_write : State → Bool → State
after_write s is_written =
    record { session = s.session; from = s.from; to = s.to; gathered = 0; phase = cond is_written s.phase Done; repeats = s.repeats }
