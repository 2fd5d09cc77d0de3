-- `read_spelled` meets its contract: the decoder's answer, and 10 where an accepted word's message spells no payload. Assumes nothing.
use Prim.Native.Nat.{ℕ, ◌≤◌}
use Rattle.codes.proofs.Layouts.{bound}
use Rattle.jobcodec.proofs.read_spelled.Goals as goal
use Rattle.jobcodec.proofs.read_spelled.Goals.{Start}

-- what the contract says, from what the decoder answered
abbrev q : (s : Start) → ℕ
q s = s.args.layout.q

few : (s : Start) → (2 ≤ (q s)) × ((q s) ≤ 256)
few s = let l = s.args.layout in let is = bound l s.requires in (is.q-least, is.q-most)

pub payload_len-count-requires : goal.payload_len-count-requires
payload_len-count-requires c = (few (goal.at.payload_len-count-requires c).Start).1

pub byte_width-requires : goal.byte_width-requires
byte_width-requires c = (few (goal.at.byte_width-requires c).Start).1

pub spells-requires : goal.spells-requires
spells-requires c =
    record { alphabet = (few (goal.at.spells-requires c).Start).0; bytes = (few (goal.at.spells-requires c).Start).1; width_is = c.byte_width.ensures; count-is = c.payload_len-count.ensures }
