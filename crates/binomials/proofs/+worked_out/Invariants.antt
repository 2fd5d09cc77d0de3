-- `worked_out` meets its contract: it calls itself for one thing fewer. Assumes nothing.
use Rattle.binomials.proofs.+worked_out.Given as goal

-- how many things are chosen
abbrev pub decreases-worked_out : goal.decreases-worked_out
decreases-worked_out l = l.k
