-- There and back with a table in bytes, from the law for the table that the bytes are. Assumes nothing.
use mathlib.Core.Path.{◌≡◌, sym, ap, subst, ◌∙◌}
use mathlib.Core.List.{List}
use Prim.Native.Nat.{ℕ}
use Rattle.cells.specs.Codec.{Codec}
use Rattle.cells.specs.Outcomes.{Encoded}
use Rattle.codes.specs.Bridge.{coding_of}
use Rattle.moving.specs.Move.{move_under}
use Rattle.moving.specs.ThereAndBack.{Returned}
use Rattle.moving.proofs.Figures.{there_and_back}
use Rattle.lent_jobs.specs.Table.{table_in}
use Rattle.lent_moving.specs.Moves.{move_bytes_under}
use Rattle.lent_moving.specs.ThereAndBack.{ThereAndBackBytes}
use Rattle.lent_moving.proofs.MoveLaws.{bytes_whole, accepted-table}

-- moved back by a call that answers the same
back-alike : {from to : Codec} {w moved : List ℕ} (back other : List ℕ → List ℕ → Encoded) → ((w' out : List ℕ) → other w' out ≡ back w' out)
    → Returned from to w moved back → Returned from to w moved other
back-alike back other e r =
    record {
      starts = r.starts;
      message = r.message;
      read = r.read;
      returns = λ w' out found outside lent. e w' out ∙ r.returns w' out found outside lent;
      unspoilt = r.unspoilt;
      again = r.again;
    }

pub there-and-back-bytes : ThereAndBackBytes
there-and-back-bytes from to table w out is =
    let d = coding_of from in
    let e = coding_of to in
    let es = table_in table in
    let has = accepted-table d e table w out is in
    let same = bytes_whole d e table w out has.0 has.1 in
    subst (λ (o : Encoded). Returned d.codec e.codec w o.word (move_bytes_under e d table)) same
    (back-alike (move_under e d es) (move_bytes_under e d table) (λ w' out'. sym (bytes_whole e d table w' out' has.0 has.1))
    (there_and_back from to es w out (ap (λ (o : Encoded). o.answer) same ∙ is)))
