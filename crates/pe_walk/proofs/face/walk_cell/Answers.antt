use Rattle.std.proofs.Common.{◌≡◌, suc, Ok, Err, sym, ap, subst, ◌∙◌, arith}
use Rattle.pe_base.specs.declared.place.Place.{Place}
use Rattle.pe_stacks.specs.Sights.{record_of, seen_cell, corner_records}
use Rattle.pe_hang.specs.InHand.{setting_of, cells_on_stacks}
use Rattle.pe_base.specs.Calls.Follows.{Fits, Follows}
use Rattle.pe_mapping.specs.Held.{found_of}
use Rattle.pe_stacks.specs.RecordsOut.{held_by}
use Rattle.pe_adapt.specs.Ages.{AreAgesOf, GiveKinds}
use Rattle.pe_adapt.specs.Stops.{failure_of, failure_of_halt}
use Rattle.pe_walk.specs.Machine.{kind_among}
use Rattle.pe_walk.specs.Machine as machine
use Rattle.pe_walk.specs.Gridded.{stream_stacks_of}
use Rattle.pe_adapt.specs.WalkedCells.{machine_in_hand}
use Rattle.pe_walk.specs.Traversing.{Stores}
use Rattle.pe_walk.proofs.AgeLaws.{length-seen}
use Rattle.pe_walk.proofs.Simulation.Tallied.Alike.{is_seen, alike-sym}
use Rattle.pe_walk.proofs.WalkedCells.{cell-fits, cell_answers, same-course}
use Rattle.pe_walk.proofs.Simulation.CutCells.{beneath_stays}
use Rattle.pe_walk.proofs.face.walk_cell.Goals as goal

pub walk_cell-walked-requires-clause-kinds : goal.walk_cell-walked-requires-clause-kinds
walk_cell-walked-requires-clause-kinds g c =
    let its = corner_records g.M.Mapping.numbers.vertex c.args.parents.now in
    let s = c.settings_at-settings.result in
    let dim : s.setup.dim ≡ (g.M.Mapping.held c.args.m.now).dim = ap (λ setup. setup.dim) c.settings_at-settings.ensures.setup ∙ sym c.requires.dim in
    let aged : AreAgesOf s.setup.dim its c.ages_of-ages.result =
    subst (λ d. AreAgesOf d its c.ages_of-ages.result) (sym (ap (λ setup. setup.dim) c.settings_at-settings.ensures.setup)) (c.ages_of-ages.ensures g.M.Mapping.numbers.vertex) in
    subst (λ place. GiveKinds (g.M.Mapping.held c.args.m.now).dim s.traversal place its c.walked_cell-cell.result.ages) (sym c.walked_cell-cell.ensures.place)
    (subst (λ d. GiveKinds d s.traversal c.args.at.now its c.walked_cell-cell.result.ages) dim (c.walked_cell-cell.ensures.kinds its aged))

pub walk_cell-walked-requires-clause-kind : goal.walk_cell-walked-requires-clause-kind
walk_cell-walked-requires-clause-kind g c =
    let axes = (g.M.Mapping.held c.args.m.now).dim in
    let its = corner_records g.M.Mapping.numbers.vertex c.args.parents.now in
    let aged : AreAgesOf axes its c.ages_of-ages.result = subst (λ d. AreAgesOf d its c.ages_of-ages.result) (sym c.requires.dim) (c.ages_of-ages.ensures g.M.Mapping.numbers.vertex) in
    ap (λ traversal. kind_among traversal c.walked_cell-cell.result.place its) c.settings_at-settings.ensures.traversal
    ∙ c.kind_at-kind.ensures axes c.walked_cell-cell.result.place its c.requires.called.stands.grid (ap (λ place. place.level) c.walked_cell-cell.ensures.place)
    (length-seen g.M.Mapping.numbers.vertex axes c.args.parents.now c.requires.full) aged

pub walk_cell-walked-requires-clause-may : goal.walk_cell-walked-requires-clause-may
walk_cell-walked-requires-clause-may g c =
    let held = g.M.Mapping.held c.args.m.now in
    let moment = c.requires.may.0 in
    let can = c.requires.may.1 in
    let begins = machine_in_hand g.M.Mapping.numbers (g.DV.Depot.holds c.args.dv.now) (cells_on_stacks g.M.Mapping.numbers (g.DC.Depot.holds c.args.dc.now)) c.args.parents.now c.args.parent.now held.list c.args.tally.now in
    let set = setting_of g.M.Effects.rules held c.args.setup.now.start_level c.args.setup.now.max_cells c.args.traversal in
    let setup = c.settings_at-settings.ensures.setup in
    let fits = subst Fits
    (sym (same-course g.M.Effects.rules held c.args.setup.now c.settings_at-settings.result c.args.traversal c.args.input c.args.cell_input c.walked_cell-cell.result.place c.args.at.now begins moment
    c.settings_at-settings.ensures.setup c.settings_at-settings.ensures.traversal c.settings_at-settings.ensures.input c.settings_at-settings.ensures.cell_input c.walked_cell-cell.ensures.place can.here))
    (cell-fits set moment begins can.may) in
    record {
      dim = c.requires.dim ∙ sym (ap (λ setup. setup.dim) setup);
      levels = omega (arith, ap (λ (place : Place). place.level) c.walked_cell-cell.ensures.place, c.args.setup.now.levels.few, c.requires.called.place.level);
      full = c.requires.full;
      few = omega (arith, c.requires.few.few, ap (λ setup. setup.max_cells) setup);
      fits = fits;
    }

pub returns-in-Ok-clause-answers : goal.returns-in-Ok-clause-answers
returns-in-Ok-clause-answers g c moment can =
    let numbers = g.M.Mapping.numbers in
    let held = g.M.Mapping.held c.args.m.now in
    let begins = machine_in_hand numbers (g.DV.Depot.holds c.args.dv.now) (cells_on_stacks numbers (g.DC.Depot.holds c.args.dc.now)) c.args.parents.now c.args.parent.now held.list c.args.tally.now in
    let ends = machine_in_hand numbers (g.DV.Depot.holds c.walk_cell-walked.new.dv) (cells_on_stacks numbers (g.DC.Depot.holds c.walk_cell-walked.new.dc)) c.walk_cell-walked.new.parents c.walk_cell-walked.new.parent
    (g.M.Mapping.held c.walk_cell-walked.new.m).list c.walk_cell-walked.new.progress.tally in
    let set = setting_of g.M.Effects.rules held c.args.setup.now.start_level c.args.setup.now.max_cells c.args.traversal in
    let found = found_of held (held_by (g.DV.Depot.holds c.args.dv.now) (g.DV.Depot.room c.args.dv.now)) (held_by (g.DC.Depot.holds c.args.dc.now) (g.DC.Depot.room c.args.dc.now)) in
    let told = (g.M.Mapping.held c.walk_cell-walked.new.m).told in
    let before : Stores g.row.M-V.Denot g.row.M-C.Denot = record { vertices = g.DV.Depot.holds c.args.dv.now; cells = g.DC.Depot.holds c.args.dc.now } in
    let after : Stores g.row.M-V.Denot g.row.M-C.Denot = record { vertices = g.DV.Depot.holds c.walk_cell-walked.new.dv; cells = g.DC.Depot.holds c.walk_cell-walked.new.dc } in
    let same = same-course g.M.Effects.rules held c.args.setup.now c.settings_at-settings.result c.args.traversal c.args.input c.args.cell_input c.walked_cell-cell.result.place c.args.at.now begins moment
    c.settings_at-settings.ensures.setup c.settings_at-settings.ensures.traversal c.settings_at-settings.ensures.input c.settings_at-settings.ensures.cell_input c.walked_cell-cell.ensures.place can.here in
    cell_answers set moment begins can.may found before told after ends (alike-sym (is_seen (record_of numbers.vertex) before.vertices)) (alike-sym (is_seen (seen_cell numbers.cell) before.cells))
    (alike-sym (is_seen (record_of numbers.vertex) after.vertices)) (alike-sym (is_seen (seen_cell numbers.cell) after.cells)) c.requires.few failure_of (Ok (tt {0}))
    (subst (λ course. Follows course (λ (done : Unit {0}). ends) (Ok (tt {0})) found told) same c.in-Ok.ensures.follows)

pub returns-in-Ok-clause-beneath : goal.returns-in-Ok-clause-beneath
returns-in-Ok-clause-beneath g c moment can =
    let numbers = g.M.Mapping.numbers in
    let held = g.M.Mapping.held c.args.m.now in
    let begins = machine_in_hand numbers (g.DV.Depot.holds c.args.dv.now) (cells_on_stacks numbers (g.DC.Depot.holds c.args.dc.now)) c.args.parents.now c.args.parent.now held.list c.args.tally.now in
    let ends = machine_in_hand numbers (g.DV.Depot.holds c.walk_cell-walked.new.dv) (cells_on_stacks numbers (g.DC.Depot.holds c.walk_cell-walked.new.dc)) c.walk_cell-walked.new.parents c.walk_cell-walked.new.parent
    (g.M.Mapping.held c.walk_cell-walked.new.m).list c.walk_cell-walked.new.progress.tally in
    let set = setting_of g.M.Effects.rules held c.args.setup.now.start_level c.args.setup.now.max_cells c.args.traversal in
    let found = found_of held (held_by (g.DV.Depot.holds c.args.dv.now) (g.DV.Depot.room c.args.dv.now)) (held_by (g.DC.Depot.holds c.args.dc.now) (g.DC.Depot.room c.args.dc.now)) in
    let told = (g.M.Mapping.held c.walk_cell-walked.new.m).told in
    let same = same-course g.M.Effects.rules held c.args.setup.now c.settings_at-settings.result c.args.traversal c.args.input c.args.cell_input c.walked_cell-cell.result.place c.args.at.now begins moment
    c.settings_at-settings.ensures.setup c.settings_at-settings.ensures.traversal c.settings_at-settings.ensures.input c.settings_at-settings.ensures.cell_input c.walked_cell-cell.ensures.place can.here in
    let follows : Follows (machine.walk_cell set (stream_stacks_of moment.foreseen_start.outlook.swapped) (suc moment.levels) moment.stage.cell begins) (λ (done : Unit {0}). ends) (Ok (tt {0})) found told =
    subst (λ course. Follows course (λ (done : Unit {0}). ends) (Ok (tt {0})) found told) same c.in-Ok.ensures.follows in
    beneath_stays set moment begins ends can.may follows.ends

pub returns-in-Err-clause-answers : goal.returns-in-Err-clause-answers
returns-in-Err-clause-answers g c moment can =
    let numbers = g.M.Mapping.numbers in
    let held = g.M.Mapping.held c.args.m.now in
    let begins = machine_in_hand numbers (g.DV.Depot.holds c.args.dv.now) (cells_on_stacks numbers (g.DC.Depot.holds c.args.dc.now)) c.args.parents.now c.args.parent.now held.list c.args.tally.now in
    let ends = machine_in_hand numbers (g.DV.Depot.holds c.walk_cell-walked.new.dv) (cells_on_stacks numbers (g.DC.Depot.holds c.walk_cell-walked.new.dc)) c.walk_cell-walked.new.parents c.walk_cell-walked.new.parent
    (g.M.Mapping.held c.walk_cell-walked.new.m).list c.walk_cell-walked.new.progress.tally in
    let set = setting_of g.M.Effects.rules held c.args.setup.now.start_level c.args.setup.now.max_cells c.args.traversal in
    let found = found_of held (held_by (g.DV.Depot.holds c.args.dv.now) (g.DV.Depot.room c.args.dv.now)) (held_by (g.DC.Depot.holds c.args.dc.now) (g.DC.Depot.room c.args.dc.now)) in
    let told = (g.M.Mapping.held c.walk_cell-walked.new.m).told in
    let before : Stores g.row.M-V.Denot g.row.M-C.Denot = record { vertices = g.DV.Depot.holds c.args.dv.now; cells = g.DC.Depot.holds c.args.dc.now } in
    let after : Stores g.row.M-V.Denot g.row.M-C.Denot = record { vertices = g.DV.Depot.holds c.walk_cell-walked.new.dv; cells = g.DC.Depot.holds c.walk_cell-walked.new.dc } in
    let same = same-course g.M.Effects.rules held c.args.setup.now c.settings_at-settings.result c.args.traversal c.args.input c.args.cell_input c.walked_cell-cell.result.place c.args.at.now begins moment
    c.settings_at-settings.ensures.setup c.settings_at-settings.ensures.traversal c.settings_at-settings.ensures.input c.settings_at-settings.ensures.cell_input c.walked_cell-cell.ensures.place can.here in
    cell_answers set moment begins can.may found before told after ends (alike-sym (is_seen (record_of numbers.vertex) before.vertices)) (alike-sym (is_seen (seen_cell numbers.cell) before.cells))
    (alike-sym (is_seen (record_of numbers.vertex) after.vertices)) (alike-sym (is_seen (seen_cell numbers.cell) after.cells)) c.requires.few failure_of (Err c.of_halt.result)
    (subst (λ failure. Follows {A = Unit {0}} (machine.walk_cell set (stream_stacks_of moment.foreseen_start.outlook.swapped) (suc moment.levels) moment.stage.cell begins) (λ done. ends) (Err failure) found told) (sym c.of_halt.ensures.failure)
    (subst (λ course. Follows {A = Unit {0}} course (λ done. ends) (Err (failure_of_halt c.walk_cell-walked.new.progress.at c.in-Err.halt)) found told) same c.in-Err.ensures.follows))
