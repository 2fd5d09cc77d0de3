-- `cover_fitting` meets its contract: the layout's own numbers are those that its figures give. Assumes nothing.
use Rattle.codes.proofs.Covering.{room_in, covers-within}
use Rattle.codes.proofs.cover_fitting.Goals as goal

pub cover_within-requires : goal.cover_within-requires
cover_within-requires c =
    room_in c.args.layout c.requires

pub returns : goal.returns
returns c =
    rw (covers-within c.args.layout c.requires c.args.map.now) at c.cover_within.ensures
