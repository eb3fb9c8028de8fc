use Rattle.garde_toml.proofs.spots.Spots.+list.Given as goal

abbrev pub decreases-list : goal.decreases-list
decreases-list l = l.depth
