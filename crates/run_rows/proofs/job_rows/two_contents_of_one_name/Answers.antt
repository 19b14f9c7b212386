use Rattle.std.proofs.Common.{inr, [], ◌∷◌, refl}
use Rattle.run_rows.proofs.job_rows.two_contents_of_one_name.Goals as goal

pub returns-clause-untold : goal.returns-clause-untold
returns-clause-untold c = inr (1 ∷ [], tt, inr (2 ∷ [], tt, refl))
