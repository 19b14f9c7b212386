-- The text of a body is read as that body, but for the offsets.
use Rattle.std.proofs.Common.{◌≡◌, ℕ, ◌+◌, ◌-◌, suc, List, [], ◌∷◌, ◌++◌, map, length, take, drop, Option, Some, None, true, Ok, refl, sym, ◌∙◌, ap, subst, drop-drop, arith}
use Rattle.std.proofs.Math.Seq.{take-append_seam}
use Rattle.pe_lex.specs.declared.token.Token.{Token}
use Rattle.pe_lex.specs.Forms.{kind_of}
use Rattle.pe_lex.specs.Spans.{AreTokensOf}
use Rattle.pe_lex.specs.Tokens.{tokens_from, tokens_of}
use Rattle.pe_lex.proofs.Spans.{tokens_are}
use Rattle.pe_lex.proofs.Spaced as spaced_text
use Rattle.pe_parse.specs.Lexemes.{Lexeme, lexemes_of}
use Rattle.pe_parse.specs.Statements.{Statements}
use Rattle.pe_parse.specs.Grammar.{All, Spells}
use Rattle.pe_parse.specs.Frames.{Frame, Sequence, step}
use Rattle.pe_parse.specs.Printed.{Pieces, body_pieces, spaced, text_of, unplaced}
use Rattle.pe_parse.specs.Laws.{IsTextOf}
use Rattle.pe_parse.proofs.Accepts.{accepts, on_step, body_accepted}
use Rattle.pe_parse.proofs.Completes.{accepted_body}
use Rattle.pe_parse.proofs.OneTree.{one_body}
use Rattle.pe_parse.proofs.Unplaced.{bare, bare_spelled}
use Rattle.pe_parse.proofs.Printing.{kind_or, lexeme_for, lexed, AreTokens, AreKinds, body_printed, body_tokens}

-- the tokens of a text that was read are each of their kind
kinds_are : (text : List ℕ) (tokens : List Token) → AreTokensOf text tokens → AreKinds (lexemes_of text tokens)
kinds_are text [] are = tt
kinds_are text (t ∷ ts) are = (are.0.is, kinds_are text ts are.1)

-- pieces with their kinds
abbrev marked : Pieces → spaced_text.Marked
marked pieces = map (λ (piece : List ℕ). (kind_or (kind_of piece), piece)) pieces

marked_text : (pieces : Pieces) → spaced_text.spelled (marked pieces) ≡ spaced pieces
marked_text [] = refl
marked_text (piece ∷ pieces) = ap (λ (text : List ℕ). piece ++ 32 ∷ text) (marked_text pieces)

marked_tokens : (pieces : Pieces) → AreTokens pieces → spaced_text.AreTokens (marked pieces)
marked_tokens [] are = tt
marked_tokens (piece ∷ pieces) are = (are.0, marked_tokens pieces are.1)

lexed_again : (pieces : Pieces) → AreTokens pieces → tokens_of (spaced pieces) ≡ Ok (spaced_text.placed 0 (marked pieces))
lexed_again pieces are = ap (tokens_from 0 0) (sym (marked_text pieces)) ∙ spaced_text.spaced_tokens (marked pieces) 0 (marked_tokens pieces are)

-- what such tokens spell, without offsets
drop_piece : (piece rest : List ℕ) → drop (length piece + 1) (piece ++ 32 ∷ rest) ≡ rest
drop_piece [] rest = refl
drop_piece (c ∷ cs) rest = ap (λ (n : ℕ). drop n (c ∷ (cs ++ 32 ∷ rest))) (next (length cs)) ∙ drop_piece cs rest
  where
    next : (n : ℕ) → suc n + 1 ≡ suc (n + 1)
    next n = omega arith

spelled_again : (text : List ℕ) (pieces : Pieces) (at : ℕ) → drop at text ≡ spaced pieces → map bare (lexemes_of text (spaced_text.placed at (marked pieces))) ≡ lexed pieces
spelled_again text [] at here = refl
spelled_again text (piece ∷ pieces) at here =
    let width : at + length piece - at ≡ length piece = omega arith in
    let bytes : take (at + length piece - at) (drop at text) ≡ piece =
    ap (λ (n : ℕ). take n (drop at text)) width ∙ ap (take (length piece)) here ∙ take-append_seam piece (32 ∷ spaced pieces) in
    let behind : drop (at + length piece + 1) text ≡ spaced pieces =
    ap (λ (n : ℕ). drop n text) (omega arith) ∙ sym (drop-drop (length piece + 1) at text) ∙ ap (drop (length piece + 1)) here ∙ drop_piece piece (spaced pieces) in
    ap (λ (bytes : List ℕ). record { kind = kind_or (kind_of piece); bytes = bytes; at = 0 } ∷ map bare (lexemes_of text (spaced_text.placed (at + length piece + 1) (marked pieces)))) bytes
    ∙ ap (λ (xs : List Lexeme). lexeme_for piece ∷ xs) (spelled_again text pieces (at + length piece + 1) behind)

-- tokens are accepted by their kinds alone
bare_step : (o : Option (List Frame)) (xs : List Lexeme) → ((gs : List Frame) → accepts gs (map bare xs) ≡ accepts gs xs) → on_step o (λ gs. accepts gs (map bare xs)) ≡ on_step o (λ gs. accepts gs xs)
bare_step None xs later = refl
bare_step (Some gs) xs later = later gs

bare_accepted : (fs : List Frame) (xs : List Lexeme) → accepts fs (map bare xs) ≡ accepts fs xs
bare_accepted fs [] = refl
bare_accepted fs (x ∷ xs) = bare_step (step fs x.kind) xs (λ gs. bare_accepted gs xs)

-- A body is read again.
pub read_again : (text : List ℕ) (body : Statements) → IsTextOf text body → (again : Statements) × IsTextOf (text_of body) again × (unplaced again ≡ unplaced body)
read_again text body is =
    let pieces = body_pieces body in
    let kinds = kinds_are text is.tokens (tokens_are text is.tokens is.lexed) in
    let printed = body_printed body (lexemes_of text is.tokens) is.spelled kinds in
    let are = body_tokens body (lexemes_of text is.tokens) is.spelled kinds in
    let tokens = spaced_text.placed 0 (marked pieces) in
    let xs = lexemes_of (spaced pieces) tokens in
    let same : map bare xs ≡ lexed pieces = spelled_again (spaced pieces) pieces 0 refl in
    let accepted : accepts (Sequence ∷ []) xs ≡ true = sym (bare_accepted (Sequence ∷ []) xs) ∙ ap (accepts (Sequence ∷ [])) same ∙ body_accepted (unplaced body) (lexed pieces) printed in
    let found = accepted_body xs accepted in
    let again : Spells (All (unplaced found.0)) (lexed pieces) = subst (Spells (All (unplaced found.0))) same (bare_spelled (All found.0) xs found.1) in
    (found.0, record { tokens = tokens; lexed = lexed_again pieces are; spelled = found.1 }, one_body (lexed pieces) (unplaced found.0) (unplaced body) again printed)
