use Rattle.sh_shelf.proofs.tests.+stand_beside.Given as goal

abbrev pub decreases-stand_beside : goal.decreases-stand_beside
decreases-stand_beside g l = l.shelves
