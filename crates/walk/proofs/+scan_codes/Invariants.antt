use Rattle.walk.proofs.+scan_codes.Given as goal

abbrev pub decreases-scan_codes : goal.decreases-scan_codes
decreases-scan_codes l = l.left
