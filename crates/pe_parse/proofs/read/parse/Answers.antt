use Rattle.std.proofs.Common.{◌≡◌, ℕ, None, Result, Ok, Err}
use Rattle.std.specs.Prelude.{MatchResult, IfErr, List, [], ◌∷◌}
use Rattle.pe_parse.specs.declared.fault.ParseFault.{ParseFault}
use Rattle.pe_parse.specs.declared.tree.Stmt.{Stmt}
use Rattle.pe_parse.specs.Lexemes.{Lexeme}
use Rattle.pe_parse.specs.Frames.{Sequence}
use Rattle.pe_parse.specs.Faults.{fault_from}
use Rattle.pe_parse.specs.Reading.{IsFault}
use Rattle.pe_parse.specs.Bodies.{Refused}
use Rattle.pe_parse.proofs.Refusals.{refused_for}
use Rattle.pe_parse.proofs.read.parse.Goals as goal

each_refused : (size : ℕ) (xs : List Lexeme) (answer : Result (List Stmt) ParseFault)
    → MatchResult answer (λ _. fault_from size (Sequence ∷ []) xs ≡ None) (λ fault. IsFault (fault_from size (Sequence ∷ []) xs) fault) → IfErr answer (λ fault. Refused size xs fault)
each_refused size xs (Ok body) h = tt
each_refused size xs (Err fault) h = refused_for size xs fault h

pub returns-clause-refused : goal.returns-clause-refused
returns-clause-refused c = each_refused _ _ c.whole_body.result c.whole_body.ensures.first
