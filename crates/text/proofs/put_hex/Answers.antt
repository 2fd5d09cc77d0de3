-- `put_hex` meets its contract: whole chunks, then what is left. Assumes nothing.
use native.Mathlib.Omega.{arith}
use lib.ListN.{length}
use lib.Seq.{take_all}
use Rattle.text.proofs.Hex.{chunks-put, chunk-turn}
use Rattle.text.proofs.put_hex.Goals as goal

pub returns-clause-line : goal.returns-clause-line
returns-clause-line c =
    let a = c.args in
    let bytes = a.bytes.now in
    let whole = c.put_hex_chunks-done in
    let rest = c.put_hex_chunk in
    let within = whole.ensures.rest.0 in
    let p = chunks-put a.at bytes a.line.now whole.new.line whole.result c.requires within whole.ensures.line in
    let q =
    chunk-turn a.at bytes a.line.now whole.new.line whole.result c.requires within (length bytes) within (omega arith) rest.new.line p
    rest.ensures in
    rw (take_all (length bytes) bytes (omega arith)) at q.put
