use Rattle.std.proofs.Common.{Some, None, inl, inr, refl, sym, subst, ◌∙◌, arith}
use Rattle.std.proofs.lemmas.Bool.{false≢true}
use Rattle.toml.specs.View.{table_view}
use Rattle.pe_scene.specs.Faults.{Gives}
use Rattle.pe_scene.specs.SaidView.{said_of}
use Rattle.pe_scene.proofs.NotTooLong.{never_too_long}
use Rattle.pe_scene.proofs.SaidLemmas.{document_of-text, scenario_of-document}
use Rattle.pe_scene.proofs.read.read_scenario.Goals as goal

pub returns-in-Ok-clause-said : goal.returns-in-Ok-clause-said
returns-in-Ok-clause-said c =
    subst (Gives said_of c.said_in.result)
    (sym (scenario_of-document c.args.bytes.now (Some (table_view c.in-Ok.table)) (omega arith)
    (document_of-text c.args.bytes.now (Some (table_view c.in-Ok.table)) (λ _. c.in-Ok.ensures.ok.1) (inr c.in-Ok.ensures.ok.0))))
    c.said_in.ensures

pub returns-in-Ok-clause-too_long : goal.returns-in-Ok-clause-too_long
returns-in-Ok-clause-too_long c = (λ long. absurd (never_too_long (Some (table_view c.in-Ok.table)) (rw long at c.said_in.ensures)), λ over. absurd (omega arith))

pub returns-in-Err-2-clause-said : goal.returns-in-Err-2-clause-said
returns-in-Err-2-clause-said c =
    scenario_of-document c.args.bytes.now None (omega arith)
    (document_of-text c.args.bytes.now None (c.in-Err.ensures.refused (λ memory. absurd (false≢true (sym c.if-is_memory.false ∙ c.is_memory.ensures.1 memory)))) (inl refl))
