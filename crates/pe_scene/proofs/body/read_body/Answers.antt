use Rattle.std.proofs.Common.{◌≡◌, ◌∙◌, Ok, sym, ap, subst}
use Rattle.pe_lex.specs.Tokens.{tokens_of}
use Rattle.pe_check.specs.FieldNames.{names_view}
use Rattle.pe_check.specs.Resolving.{context_at}
use Rattle.pe_check.specs.Checking.{body_of}
use Rattle.pe_parse.specs.Statements.{statements_of}
use Rattle.pe_scene.specs.declared.fault.SceneFault.{SceneFault}
use Rattle.pe_scene.specs.Faults.{Refuses}
use Rattle.pe_scene.specs.BodyTexts.{or_refused, body_text}
use Rattle.pe_scene.proofs.BodyText.{body_text_is, refuses_name}
use Rattle.pe_scene.proofs.body.read_body.Goals as goal

pub returns-in-Ok-check-clause-gives : goal.returns-in-Ok-check-clause-gives
returns-in-Ok-check-clause-gives c =
    let are : tokens_of c.args.text.now ≡ Ok c.as_slice.result.now = c.in-Ok.ensures ∙ ap Ok (sym c.as_slice.ensures.value) in
    body_text_is (context_at c.args.event c.args.dim (names_view c.args.names.now)) c.args.event c.args.text.now c.as_slice.result.now
    (statements_of c.in-Ok-parse.body) are c.in-Ok-parse.ensures.first c.in-Ok-parse.ensures.tree
    ∙ ap (or_refused c.args.event) c.in-Ok-check.ensures.answer

pub returns-clause-gives : goal.returns-clause-gives
returns-clause-gives c =
    let context = context_at c.args.event c.args.dim (names_view c.args.names.now) in
    let are : tokens_of c.args.text.now ≡ Ok c.as_slice.result.now = c.in-Ok.ensures ∙ ap Ok (sym c.as_slice.ensures.value) in
    let said = body_text_is context c.args.event c.args.text.now c.as_slice.result.now (statements_of c.in-Ok-parse.body) are c.in-Ok-parse.ensures.first c.in-Ok-parse.ensures.tree in
    subst (λ (fault : SceneFault). Refuses fault (body_text context c.args.event c.args.text.now)) (sym c.check_fault.ensures)
    (refuses_name c.args.event c.in-Err-check.fault (body_of context (statements_of c.in-Ok-parse.body)) (body_text context c.args.event c.args.text.now) said c.in-Err-check.ensures.answer)
