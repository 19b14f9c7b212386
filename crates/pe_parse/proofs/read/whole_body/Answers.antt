use Rattle.std.proofs.Common.{◌≡◌, ◌<◌, ℕ, List, length, Some, sym, ◌∙◌, ap, subst, arith}
use Rattle.pe_lex.specs.Spans.{AreTokensOf}
use Rattle.pe_lex.proofs.Spans.{tokens_are}
use Rattle.pe_parse.specs.Lexemes.{Lexeme, lexemes_of}
use Rattle.pe_parse.specs.Faults.{fault_of}
use Rattle.pe_parse.specs.Reading.{IsFault}
use Rattle.pe_parse.specs.declared.fault.ParseFault.TheVariants.{Syntax}
use Rattle.pe_parse.proofs.Spelled.{lexemes_length}
use Rattle.pe_parse.proofs.Whole.{left, stopped}
use Rattle.pe_parse.proofs.read.whole_body.Goals as goal

pub body-requires : goal.body-requires
body-requires c = record {
  tokens = subst (λ (b : List ℕ). AreTokensOf b c.args.tokens.now) (sym c.as_bytes.ensures.value) (tokens_are c.args.text.now c.args.tokens.now c.requires);
  shallow = omega arith;
  within = omega arith;
}

pub returns-in-Err : goal.returns-in-Err
returns-in-Err c = record {
  tree = tt;
  first = subst (λ (b : List ℕ). IsFault (fault_of b c.args.tokens.now) c.in-Err.fault) c.as_bytes.ensures.value
      (stopped _ (lexemes_of c.as_bytes.result.now c.args.tokens.now) c.in-Err.fault c.in-Err.ensures);
}

pub returns-then-next-tokens-clause-first : goal.returns-then-next-tokens-clause-first
returns-then-next-tokens-clause-first c =
    let all : List Lexeme = lexemes_of c.as_bytes.result.now c.args.tokens.now in
    let over : c.in-Ok.found.1 < length all = omega (arith, lexemes_length c.as_bytes.result.now c.args.tokens.now) in
    subst (λ (b : List ℕ). fault_of b c.args.tokens.now ≡ Some (Syntax c.offset.result)) c.as_bytes.ensures.value
    (left _ all c.in-Ok.found.1 c.in-Ok.ensures.0 over ∙ ap (λ (n : ℕ). Some (Syntax n)) (sym c.offset.ensures))
