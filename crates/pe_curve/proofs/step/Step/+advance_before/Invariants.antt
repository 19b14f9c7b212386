use Rattle.pe_curve.proofs.step.Step.+advance_before.Given as goal

abbrev pub decreases-advance_before : goal.decreases-advance_before
decreases-advance_before l = l.axes
