-- `write_message` meets its contract: the word is that of the payload's message. Assumes nothing.
use Prim.Native.Nat.{◌≤◌}
use Rattle.codes.proofs.Layouts.{bound}
use Rattle.jobcodec.proofs.write_message.Goals as goal
use Rattle.jobcodec.proofs.write_message.Goals.{Start}

few : (s : Start) → (2 ≤ s.args.layout.q) × (s.args.layout.q ≤ 256)
few s = let l = s.args.layout in let is = bound l s.requires.serves in (is.q-least, is.q-most)

pub byte_width-requires : goal.byte_width-requires
byte_width-requires c = (few (goal.at.byte_width-requires c).Start).1

pub spell_payload-requires : goal.spell_payload-requires
spell_payload-requires c =
    record { alphabet = (few (goal.at.spell_payload-requires c).Start).0; bytes = (few (goal.at.spell_payload-requires c).Start).1; width_is = c.byte_width.ensures; count-is = c.requires.count }
