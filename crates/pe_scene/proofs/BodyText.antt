-- The body of a text, once its tokens and its tree are known.
use Rattle.std.proofs.Common.{◌≡◌, ℕ, List, Option, Some, None, Result, Ok, refl, ap, ◌∙◌}
use Rattle.pe_base.specs.declared.event.Event.{Event}
use Rattle.pe_lex.specs.declared.token.Token.{Token}
use Rattle.pe_lex.specs.Tokens.{tokens_of}
use Rattle.pe_parse.specs.declared.fault.ParseFault.{ParseFault}
use Rattle.pe_parse.specs.Lexemes.{lexemes_of}
use Rattle.pe_parse.specs.Statements.{Statements}
use Rattle.pe_parse.specs.Grammar.{All, Spells}
use Rattle.pe_parse.specs.Faults.{fault_of}
use Rattle.pe_parse.proofs.FaultFree.{tree_of}
use Rattle.pe_parse.proofs.OneTree.{one_body}
use Rattle.pe_check.specs.declared.cause.CheckFault.{CheckFault}
use Rattle.pe_check.specs.declared.cause.CheckFault.TheVariants.{UnknownName, NotHere, Corner, ReadOnly, Memory}
use Rattle.pe_check.specs.Answers as checking
use Rattle.pe_check.specs.Resolving.{Context}
use Rattle.pe_check.specs.Checking.{body_of}
use Rattle.pe_scene.specs.declared.fault.SceneFault.{SceneFault}
use Rattle.pe_scene.specs.Faults.{Refuses}
use Rattle.pe_scene.specs.BodyTexts.{check_fault, or_refused, parsed, lexed, body_text}

parsed_is : (context : Context) (event : Event) (text : List ℕ) (tokens : List Token) (body : Statements) (found : Option ParseFault) (is : fault_of text tokens ≡ found) → fault_of text tokens ≡ None
    → Spells (All body) (lexemes_of text tokens) → parsed context event text tokens found is ≡ or_refused event (body_of context body)
parsed_is context event text tokens body (Some fault) is none_ spelled = absurd (cc)
parsed_is context event text tokens body None is none_ spelled =
    let tree = tree_of text tokens is in
    ap (λ body. or_refused event (body_of context body)) (one_body (lexemes_of text tokens) tree.body body tree.spelled spelled)

-- what a text says that spells a tree
pub body_text_is : (context : Context) (event : Event) (text : List ℕ) (tokens : List Token) (body : Statements) → tokens_of text ≡ Ok tokens → fault_of text tokens ≡ None
    → Spells (All body) (lexemes_of text tokens) → body_text context event text ≡ or_refused event (body_of context body)
body_text_is context event text tokens body are none_ spelled =
    ap (lexed context event text) are ∙ parsed_is context event text tokens body (fault_of text tokens) refl none_ spelled

-- a refused name is what the text is refused for
pub refuses_name : {X : Type 0} (event : Event) (fault : CheckFault) (checked : Result X CheckFault) (said : Result X SceneFault) → said ≡ or_refused event checked → checking.Refuses fault checked → Refuses (check_fault event fault) said
refuses_name event (UnknownName at) checked said is h = is ∙ ap (or_refused event) h
refuses_name event (NotHere at) checked said is h = is ∙ ap (or_refused event) h
refuses_name event (Corner at) checked said is h = is ∙ ap (or_refused event) h
refuses_name event (ReadOnly at) checked said is h = is ∙ ap (or_refused event) h
refuses_name event Memory checked said is h = tt
