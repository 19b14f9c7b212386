-- Tokens without a fault spell a body.
use Rattle.std.proofs.Common.{◌≡◌, ℕ, List, [], ◌∷◌, length, Option, Some, None, Bool, true, false, cond, refl, ◌∙◌, ap}
use Rattle.pe_parse.specs.declared.fault.ParseFault.{ParseFault}
use Rattle.pe_parse.specs.declared.fault.ParseFault.TheVariants.{Syntax}
use Rattle.pe_parse.specs.Lexemes.{Lexeme, lexemes_of}
use Rattle.pe_parse.specs.Frames.{Frame, Sequence, step, ends}
use Rattle.pe_parse.specs.Faults.{passed_limit, or_fault, at_token, fault_from}
use Rattle.pe_parse.specs.Trees.{AreSpelled}
use Rattle.pe_parse.proofs.Accepts.{accepts, on_step}
use Rattle.pe_parse.proofs.Completes.{accepted_body}

may_end : (size : ℕ) (b : Bool) → cond b None (Some (Syntax size)) ≡ None → b ≡ true
may_end size true h = refl
may_end size false h = absurd (cc)

no_later : (o later : Option ParseFault) → or_fault o later ≡ None → later ≡ None
no_later (Some fault) later h = absurd (cc)
no_later None later h = h

step_accepted : (size : ℕ) (fs : List Frame) (x : Lexeme) (xs : List Lexeme) (o : Option (List Frame)) → step fs x.kind ≡ o → ((gs : List Frame) → fault_from size gs xs ≡ None → accepts gs xs ≡ true)
    → at_token o x (λ gs. fault_from size gs xs) ≡ None → accepts fs (x ∷ xs) ≡ true
step_accepted size fs x xs None is later h = absurd (cc)
step_accepted size fs x xs (Some gs) is later h = ap (λ (o : Option (List Frame)). on_step o (λ gs. accepts gs xs)) is ∙ later gs (no_later (passed_limit gs x) (fault_from size gs xs) h)

fault_free_accepted : (size : ℕ) (fs : List Frame) (xs : List Lexeme) → fault_from size fs xs ≡ None → accepts fs xs ≡ true
fault_free_accepted size fs [] h = may_end size (ends fs) h
fault_free_accepted size fs (x ∷ xs) h = step_accepted size fs x xs (step fs x.kind) refl (λ gs. fault_free_accepted size gs xs) h

-- the tree of tokens without a fault
pub tree_of : AreSpelled
tree_of text tokens h =
    let found = accepted_body (lexemes_of text tokens) (fault_free_accepted (length text) (Sequence ∷ []) (lexemes_of text tokens) h) in
    record { body = found.0; spelled = found.1 }
