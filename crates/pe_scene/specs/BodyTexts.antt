-- The body of an event, from its text: first its tokens, then its tree, then its names.
use Rattle.std.specs.Prelude.{◌≡◌, ℕ, List, Option, Some, None, Result, Ok, Err, refl}
use Rattle.pe_base.specs.declared.event.Event.{Event}
use Rattle.pe_lex.specs.declared.token.Token.{Token}
use Rattle.pe_lex.specs.declared.token.LexFault.{LexFault}
use Rattle.pe_lex.specs.declared.token.LexFault.TheVariants as lexing
use Rattle.pe_lex.specs.Tokens.{tokens_of}
use Rattle.pe_parse.specs.declared.fault.ParseFault.{ParseFault}
use Rattle.pe_parse.specs.declared.fault.ParseFault.TheVariants as parsing
use Rattle.pe_parse.specs.Faults.{fault_of}
use Rattle.pe_parse.proofs.FaultFree.{tree_of}
use Rattle.pe_check.specs.declared.checked.Stmt.{Stmt}
use Rattle.pe_check.specs.declared.cause.CheckFault.{CheckFault}
use Rattle.pe_check.specs.declared.cause.CheckFault.TheVariants as checking
use Rattle.pe_check.specs.Resolving.{Context}
use Rattle.pe_check.specs.Checking.{body_of}
use Rattle.pe_scene.specs.declared.fault.BodyCause.TheVariants.{Character, Syntax, TooDeep, TooMany, Literal, UnknownName, NotHere, Corner, ReadOnly}
use Rattle.pe_scene.specs.declared.fault.SceneFault.{SceneFault}
use Rattle.pe_scene.specs.declared.fault.SceneFault.TheVariants.{Body, Memory}

-- the faults of its tokens, of its tree and of its names
abbrev pub lex_fault : Event → LexFault → SceneFault
lex_fault event (lexing.Character at) = Body event at Character
lex_fault event lexing.Memory = Memory

abbrev pub parse_fault : Event → ParseFault → SceneFault
parse_fault event (parsing.Syntax at) = Body event at Syntax
parse_fault event (parsing.TooDeep at) = Body event at TooDeep
parse_fault event (parsing.TooMany at) = Body event at TooMany
parse_fault event (parsing.Literal at) = Body event at Literal
parse_fault event parsing.Memory = Memory

abbrev pub check_fault : Event → CheckFault → SceneFault
check_fault event (checking.UnknownName at) = Body event at UnknownName
check_fault event (checking.NotHere at) = Body event at NotHere
check_fault event (checking.Corner at) = Body event at Corner
check_fault event (checking.ReadOnly at) = Body event at ReadOnly
check_fault event checking.Memory = Memory

abbrev pub or_refused : {X : Type 0} → Event → Result X CheckFault → Result X SceneFault
or_refused event (Ok x) = Ok x
or_refused event (Err fault) = Err (check_fault event fault)

-- the body of tokens with this fault, or with none: then they spell one tree
abbrev pub parsed : Context → Event → (text : List ℕ) (tokens : List Token) (found : Option ParseFault) → fault_of text tokens ≡ found → Result (List Stmt) SceneFault
parsed context event text tokens (Some fault) is = Err (parse_fault event fault)
parsed context event text tokens None is = or_refused event (body_of context (tree_of text tokens is).body)

abbrev pub lexed : Context → Event → List ℕ → Result (List Token) ℕ → Result (List Stmt) SceneFault
lexed context event text (Err at) = Err (Body event at Character)
lexed context event text (Ok tokens) = parsed context event text tokens (fault_of text tokens) refl

abbrev pub body_text : Context → Event → List ℕ → Result (List Stmt) SceneFault
body_text context event text = lexed context event text (tokens_of text)
