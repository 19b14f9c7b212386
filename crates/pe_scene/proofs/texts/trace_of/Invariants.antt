use Rattle.std.proofs.Common.{◌≡◌, List, [], drop}
use Rattle.toml.specs.View.{items_view}
use Rattle.pe_base.specs.declared.event.Event.{Event}
use Rattle.pe_base.specs.Acts.Events.{is_among}
use Rattle.pe_scene.specs.Trace.{traces}
use Rattle.pe_scene.specs.Texts.{events_after}
use Rattle.pe_scene.proofs.texts.trace_of.Given as goal

-- the events seen so far are traced, and with those to come they are those of all names
abbrev pub invariant-loop-name : goal.invariant-loop-name
invariant-loop-name l =
    (seen : List Event) × (traces l.trace ≡ is_among seen) × (events_after seen (items_view (drop l.name-index l.names)) ≡ events_after [] (items_view l.names))
