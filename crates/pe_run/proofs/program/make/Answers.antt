use Rattle.std.proofs.Common.{◌≡◌, rules, None, refl, subst, sym, map, string_bytes, true≢false}
use Rattle.pe_io.specs.Sink.{told_by}
use Rattle.pe_words.specs.Words.{job_of}
use Rattle.pe_run.specs.declared.refusal.Refusal.TheVariants as refusal
use Rattle.pe_run.specs.declared.refusal.Fault.TheVariants.{Words}
use Rattle.pe_run.specs.Tasks.{task_for, task_of}
use Rattle.pe_run.specs.Stages.{IsMade}
use Rattle.pe_run.proofs.RunLaws.{IsMade-none}
use Rattle.pe_run.proofs.program.make.Goals as goal

pub returns-in-Err-NoJob-clause-made : goal.returns-in-Err-NoJob-clause-made
returns-in-Err-NoJob-clause-made g c =
    let tells = told_by g.K.Sink.text g.K.Sink.writes g.K.Sink.faults in
    let none : job_of (map string_bytes c.args.words.now) ≡ None = search rules in
    subst (λ job. IsMade (task_for job) (g.H.Shelf.contents c.args.shelf.now) (g.H.Shelf.faults c.args.shelf.now) (g.H.Shelf.faults c.args.shelf.now) (g.H.Shelf.last_failed c.args.shelf.now)
    (tells c.args.sink.now) (tells c.args.sink.now) (g.DV.Depot.holds c.args.vertices.now) (g.DC.Depot.holds c.args.cells.now) c.last.result) (sym none)
    (IsMade-none (task_for None) (g.H.Shelf.contents c.args.shelf.now) (g.H.Shelf.faults c.args.shelf.now) (g.H.Shelf.faults c.args.shelf.now) (g.H.Shelf.last_failed c.args.shelf.now)
    (tells c.args.sink.now) (g.DV.Depot.holds c.args.vertices.now) (g.DC.Depot.holds c.args.cells.now) (refusal.Fault Words) c.last.result (λ known. refl) c.last.ensures.last)

pub returns-in-Err-Memory-clause-made : goal.returns-in-Err-Memory-clause-made
returns-in-Err-Memory-clause-made g c =
    let tells = told_by g.K.Sink.text g.K.Sink.writes g.K.Sink.faults in
    IsMade-none (task_of (map string_bytes c.args.words.now)) (g.H.Shelf.contents c.args.shelf.now) (g.H.Shelf.faults c.args.shelf.now) (g.H.Shelf.faults c.args.shelf.now) (g.H.Shelf.last_failed c.args.shelf.now)
    (tells c.args.sink.now) (g.DV.Depot.holds c.args.vertices.now) (g.DC.Depot.holds c.args.cells.now) refusal.Memory c.last-in-Err-Memory.result (λ known. absurd (true≢false known)) c.last-in-Err-Memory.ensures.last
