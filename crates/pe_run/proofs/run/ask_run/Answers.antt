use Rattle.pe_scene.specs.SaidView.{said_of}
use Rattle.pe_scene.proofs.FewTraversals.{few_traversals}
use Rattle.pe_run.proofs.run.ask_run.Goals as goal

pub returns-clause-few : goal.returns-clause-few
returns-clause-few g c = few_traversals c.deref.result.now (said_of c.in_ok-read_scenario.field-0) c.in_ok-read_scenario.ensures.said
