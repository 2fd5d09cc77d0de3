-- `take_message` meets its contract: the message of the blocks so far is taken. Assumes nothing.
use Rattle.blocks.specs.Numbers.{kind_numbers}
use Rattle.stretches.specs.Take.{TakenTo, ComesTo}
use Rattle.stretches.proofs.taking.take_message.Given as goal

abbrev pub invariant-loop-block : goal.invariant-loop-block
invariant-loop-block l =
    ComesTo l.walk l.at l.heads (kind_numbers l.kinds) l.block l.here × TakenTo l.walk l.at l.heads (kind_numbers l.kinds) l.word l.message l.here
