use Rattle.head_tree.proofs.checking.+roots_by.Given as goal

abbrev pub decreases-roots_by : goal.decreases-roots_by
decreases-roots_by l = l.new
