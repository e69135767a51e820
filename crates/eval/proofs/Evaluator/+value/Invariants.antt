use Rattle.eval.proofs.Evaluator.+value.Given as goal

abbrev pub decreases-value : goal.decreases-value
decreases-value l = l.levels
