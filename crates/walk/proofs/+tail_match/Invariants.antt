use Rattle.walk.proofs.+tail_match.Given as goal

abbrev pub decreases-tail_match : goal.decreases-tail_match
decreases-tail_match l = l.left
