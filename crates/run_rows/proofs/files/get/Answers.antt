use Rattle.pe_run.proofs.Reading.{IsGiven-longer}
use Rattle.run_rows.proofs.files.get.Goals as goal

pub returns-in-Longer-clause-given : goal.returns-in-Longer-clause-given
returns-in-Longer-clause-given g c = IsGiven-longer (g.H.Shelf.contents c.args.shelf.now) c.args.name.now 4 c.in-Longer.ensures.told
