-- `take_message` meets its contract. Assumes nothing.
use Rattle.larsson_words.proofs.Walking.{walks-of, plan-of, message-of}
use Rattle.larsson_words.proofs.take_message.Goals as goal

pub take_message-requires : goal.take_message-requires
take_message-requires c =
    let W = c.requires.tables.walked in
    record {
      tables = record { walks = walks-of W; whole = c.requires.tables.complete; room = message-of W c.args.message.now c.requires.tables.room };
      known = c.requires.known;
    }

pub returns : goal.returns
returns c =
    rw (plan-of c.requires.tables.walked) at c.take_message.ensures
