use Rattle.pe_base.proofs.EventNames.{is_event_named}
use Rattle.pe_base.proofs.event.Event.of_name.Goals as goal

pub returns-clause-value : goal.returns-clause-value
returns-clause-value c = is_event_named c.args.name.now c.spelled.result c.spelled.ensures.found c.spelled.ensures.only
