-- `run` meets its contract: the state of every turn is that at the end of a trace of the core. Assumes nothing.
use Rattle.std.proofs.Common.{sym, ◌∙◌, rules}
use mir.Syntax.{w32}
use mir.Val.{to_z, of_z}
use Rattle.burgzemi.proofs.Going.{Answered, begun-going, read-came, read-failed, write-answered, ok-holds, turn-less, turn-going, served}
use Rattle.burgzemi.proofs.run.Goals as goal
use Rattle.burgzemi.proofs.run.Goals.{in-Read+in-Ok, in-Read+in-Err, in-Write}

pub loop-state-init : goal.loop-state-init
loop-state-init g c =
    begun-going c.start-state.result c.args.input.now c.args.output.now (g.R.Read.remaining c.args.reader.now) (g.W.Write.contents c.args.writer.now)
    c.requires c.start-state.ensures

pub returns-in-Stop-clause-served : goal.returns-in-Stop-clause-served
returns-in-Stop-clause-served g c = served c.loop-state.invariant c.wants-wants.ensures c.in-Stop.is

-- the state before the core goes on, three times over: what is kept of it, what the core asks for, and that less is left
pub advance-state-requires : goal.advance-state-requires
advance-state-requires g c =
    let l = c.loop-state in
    let m = c.match-wants in
    let a : Answered l.state m.state l.input m.input l.output (g.R.Read.remaining l.reader) (g.R.Read.remaining m.reader) (g.W.Write.contents l.writer)
    (g.W.Write.contents m.writer) =
    elim m.branch [
      | in-Read+in-Ok w ↦
          rw (w.reader-is, w.writer-is)
          (read-came l.invariant c.wants-wants.ensures w.in-Read.is w.read-answer.new.buf m.input m.state (g.R.Read.remaining w.read-answer.new.self)
          w.read-answer.auto.buf w.input-is w.in-Ok.got w.in-Ok.ensures.bound.0 (w.state-is ∙ w.after_read-state.ensures) w.in-Ok.ensures.bytes)
      | in-Read+in-Err w ↦
          rw (w.reader-is, w.writer-is)
          (read-failed l.invariant c.wants-wants.ensures w.in-Read.is w.read-answer.new.buf m.input m.state (g.R.Read.remaining w.read-answer.new.self)
          w.read-answer.auto.buf w.input-is (to_z w32 (of_z w32 w.unwrap_or.result)) (w.state-is ∙ w.after_read-state-in-Err.ensures) w.in-Err.ensures.bytes)
      | in-Write w ↦
          rw (w.reader-is, w.writer-is)
          (write-answered l.invariant c.wants-wants.ensures w.in-Write.is w.is_ok.result m.input m.state (g.W.Write.contents w.write_all-answer.new.self)
          (w.state-is ∙ w.after_write-state.ensures) w.input-is
          (λ t. ok-holds w.write_all-answer.result w.write_all-answer.ensures.bytes (sym w.is_ok.ensures.value ∙ t)))
    ] in
    ((a.size, l.invariant.buffers.1), a.within)

pub loop-state-smaller : goal.loop-state-smaller
loop-state-smaller g c =
    let l = c.loop-state in
    let m = c.match-wants in
    let a : Answered l.state m.state l.input m.input l.output (g.R.Read.remaining l.reader) (g.R.Read.remaining m.reader) (g.W.Write.contents l.writer)
    (g.W.Write.contents m.writer) =
    elim m.branch [
      | in-Read+in-Ok w ↦
          rw (w.reader-is, w.writer-is)
          (read-came l.invariant c.wants-wants.ensures w.in-Read.is w.read-answer.new.buf m.input m.state (g.R.Read.remaining w.read-answer.new.self)
          w.read-answer.auto.buf w.input-is w.in-Ok.got w.in-Ok.ensures.bound.0 (w.state-is ∙ w.after_read-state.ensures) w.in-Ok.ensures.bytes)
      | in-Read+in-Err w ↦
          rw (w.reader-is, w.writer-is)
          (read-failed l.invariant c.wants-wants.ensures w.in-Read.is w.read-answer.new.buf m.input m.state (g.R.Read.remaining w.read-answer.new.self)
          w.read-answer.auto.buf w.input-is (to_z w32 (of_z w32 w.unwrap_or.result)) (w.state-is ∙ w.after_read-state-in-Err.ensures) w.in-Err.ensures.bytes)
      | in-Write w ↦
          rw (w.reader-is, w.writer-is)
          (write-answered l.invariant c.wants-wants.ensures w.in-Write.is w.is_ok.result m.input m.state (g.W.Write.contents w.write_all-answer.new.self)
          (w.state-is ∙ w.after_write-state.ensures) w.input-is
          (λ t. ok-holds w.write_all-answer.result w.write_all-answer.ensures.bytes (sym w.is_ok.ensures.value ∙ t)))
    ] in
    let v = c.advance-state in
    turn-less l.invariant v.result v.new.input v.new.output a v.ensures.view v.ensures.repeats

pub loop-state-preserved : goal.loop-state-preserved
loop-state-preserved g c =
    let l = c.loop-state in
    let m = c.match-wants in
    let a : Answered l.state m.state l.input m.input l.output (g.R.Read.remaining l.reader) (g.R.Read.remaining m.reader) (g.W.Write.contents l.writer)
    (g.W.Write.contents m.writer) =
    elim m.branch [
      | in-Read+in-Ok w ↦
          rw (w.reader-is, w.writer-is)
          (read-came l.invariant c.wants-wants.ensures w.in-Read.is w.read-answer.new.buf m.input m.state (g.R.Read.remaining w.read-answer.new.self)
          w.read-answer.auto.buf w.input-is w.in-Ok.got w.in-Ok.ensures.bound.0 (w.state-is ∙ w.after_read-state.ensures) w.in-Ok.ensures.bytes)
      | in-Read+in-Err w ↦
          rw (w.reader-is, w.writer-is)
          (read-failed l.invariant c.wants-wants.ensures w.in-Read.is w.read-answer.new.buf m.input m.state (g.R.Read.remaining w.read-answer.new.self)
          w.read-answer.auto.buf w.input-is (to_z w32 (of_z w32 w.unwrap_or.result)) (w.state-is ∙ w.after_read-state-in-Err.ensures) w.in-Err.ensures.bytes)
      | in-Write w ↦
          rw (w.reader-is, w.writer-is)
          (write-answered l.invariant c.wants-wants.ensures w.in-Write.is w.is_ok.result m.input m.state (g.W.Write.contents w.write_all-answer.new.self)
          (w.state-is ∙ w.after_write-state.ensures) w.input-is
          (λ t. ok-holds w.write_all-answer.result w.write_all-answer.ensures.bytes (sym w.is_ok.ensures.value ∙ t)))
    ] in
    let v = c.advance-state in
    turn-going l.invariant v.result v.new.input v.new.output a v.ensures.view v.ensures.repeats (search rules, search rules) v.ensures.within v.ensures.room
