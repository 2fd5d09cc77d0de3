-- `fill` meets its contract: the rank's digits in each bearer, and the message in what remains. Assumes nothing.
use Rattle.larsson.specs.Writing.{word}
use Rattle.larsson_words.proofs.Walking.{walks-of, plan-of, message-of, digits-lent, digits-of}
use Rattle.larsson_words.proofs.fill.Goals as goal

pub fill_cells-requires : goal.fill_cells-requires
fill_cells-requires c =
    let W = c.requires.tables.walked in
    record {
      tables = record {
        walks = walks-of W;
        digits-lent = rw c.requires.tables.digits_are (digits-lent W);
        message-lent = message-of W c.args.message.now c.requires.tables.sent;
        room = c.requires.tables.room;
      };
      known = c.requires.known;
    }

pub returns : goal.returns
unfolding word
returns c =
    let W = c.requires.tables.walked in
    rw (c.requires.tables.digits_are, plan-of W, digits-of W) at c.fill_cells.ensures
