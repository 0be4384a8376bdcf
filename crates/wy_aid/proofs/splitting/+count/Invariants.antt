use Rattle.wy_aid.proofs.splitting.+count.Given as goal

-- how deep the tree is still walked
abbrev pub decreases-count : goal.decreases-count
decreases-count l = l.room
