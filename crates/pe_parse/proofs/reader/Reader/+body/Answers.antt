use Rattle.std.proofs.Common.{◌≡◌, ◌≤◌, ◌+◌, ◌++◌, ◌∷◌, [], ℕ, List, Ok, Some, length, subst, sym, ap, ◌∙◌, rules, arith}
use Rattle.std.proofs.lemmas.Grind.{common_steps}
use Rattle.pe_parse.specs.declared.fault.ParseFault.TheVariants.{TooDeep}
use Rattle.pe_parse.specs.declared.tree.Stmt.{Stmt}
use Rattle.pe_lex.specs.declared.token.TokenKind.{TokenKind}
use Rattle.pe_parse.specs.declared.reader.Reader.{Reader}
use Rattle.pe_parse.specs.Lexemes.{kind_at}
use Rattle.pe_parse.specs.Statements.{statements_of}
use Rattle.pe_parse.specs.Grammar.{All}
use Rattle.pe_parse.specs.Frames.{Block, Sequence}
use Rattle.pe_parse.specs.Reading.{seen, size_of, Stopped, ReadsAs}
use Rattle.pe_parse.proofs.Spelled.{lexemes_length}
use Rattle.pe_parse.proofs.TokenMoves.{skips, stands, at_within}
use Rattle.pe_parse.proofs.Blocks.{Running, block_bare, block_deep, block_stop, block_open, block_read, choose_stop, choose_first, choose_read, choose_second, choose_both, no_statement, no_kind, run_start, run_more, run_end, run_stop}
use Rattle.pe_parse.proofs.reader.Reader.+body.Goals as goal

seen_length : (r : Reader) → length (seen r) ≡ length r.tokens.now
seen_length r = lexemes_length r.text.now r.tokens.now

next_within : (r : Reader) (at inside : ℕ) {k : TokenKind} → inside ≡ at + 1 → kind_at (seen r) at ≡ Some k → inside ≤ length r.tokens.now
next_within r at inside {k} next_is is =
    let st = stands (seen r) at k is in
    omega (arith, at_within (seen r) at st.token st.is, seen_length r)

pub block-returns-in-Err : goal.block-returns-in-Err
block-returns-in-Err t c =
    block_bare (size_of c.args.self.now) (seen c.args.self.now) c.args.depth c.args.at c.requires.shallow c.in-Err.fault c.in-Err.ensures

pub block-returns-then-depth-ge-DEEPEST : goal.block-returns-then-depth-ge-DEEPEST
block-returns-then-depth-ge-DEEPEST t c =
    subst (λ (n : ℕ). Stopped (size_of c.args.self.now) (seen c.args.self.now) (Block ∷ []) c.args.depth c.args.at (TooDeep n)) (sym c.offset.ensures) (block_deep (size_of c.args.self.now) (seen c.args.self.now) c.args.depth c.args.at c.requires.shallow c.in-Ok.inside c.if-depth-ge-DEEPEST.true c.in-Ok.ensures)

pub block-body-requires : goal.block-body-requires
block-body-requires t c =
    (search rules, (c.requires.tokens, (omega arith, next_within c.args.self.now c.args.at c.in-Ok.inside c.in-Ok.ensures.0 c.in-Ok.ensures.1)))

pub block-returns-in-Err-body : goal.block-returns-in-Err-body
block-returns-in-Err-body t c =
    block_stop (size_of c.args.self.now) (seen c.args.self.now) c.args.depth c.args.at c.requires.shallow c.in-Ok.inside c.in-Err-body.fault c.if-depth-ge-DEEPEST.false c.in-Ok.ensures c.in-Err-body.ensures

pub block-returns-in-Ok-needs : goal.block-returns-in-Ok-needs
block-returns-in-Ok-needs t c =
    block_read (size_of c.args.self.now) (seen c.args.self.now) c.args.depth c.args.at c.requires.shallow c.in-Ok.inside c.in-Ok-body.found.1 c.in-Ok-needs.next c.in-Ok-body.found.0 c.if-depth-ge-DEEPEST.false c.in-Ok.ensures c.in-Ok-body.ensures c.in-Ok-needs.ensures

pub block-returns-in-Err-needs : goal.block-returns-in-Err-needs
block-returns-in-Err-needs t c =
    block_open (size_of c.args.self.now) (seen c.args.self.now) c.args.depth c.args.at c.requires.shallow c.in-Ok.inside c.in-Ok-body.found.1 c.in-Ok-body.found.0 c.in-Err-needs.fault c.if-depth-ge-DEEPEST.false c.in-Ok.ensures c.in-Ok-body.ensures c.in-Err-needs.ensures

pub choose-returns-in-Err : goal.choose-returns-in-Err
choose-returns-in-Err t c =
    choose_stop (size_of c.args.self.now) (seen c.args.self.now) c.args.depth c.args.at c.requires.shallow c.in-Err.fault c.requires.kind c.in-Err.ensures

pub choose-returns-in-Err-block : goal.choose-returns-in-Err-block
choose-returns-in-Err-block t c =
    choose_first (size_of c.args.self.now) (seen c.args.self.now) c.args.depth c.args.at c.requires.shallow c.in-Ok.found.1 c.in-Ok.found.0 c.in-Err-block.fault c.requires.kind c.in-Ok.ensures c.in-Err-block.ensures

pub choose-returns-in-Err-needs : goal.choose-returns-in-Err-needs
choose-returns-in-Err-needs t c =
    choose_read (size_of c.args.self.now) (seen c.args.self.now) c.args.depth c.args.at c.requires.shallow c.in-Ok.found.1 c.in-Ok-block.found.1 c.in-Ok.found.0 c.in-Ok-block.found.0 c.in-Err-needs.field-0 c.requires.kind c.in-Ok.ensures c.in-Ok-block.ensures c.in-Err-needs.ensures

pub choose-returns-in-Ok-block-2 : goal.choose-returns-in-Ok-block-2
choose-returns-in-Ok-block-2 t c =
    choose_both (size_of c.args.self.now) (seen c.args.self.now) c.args.depth c.args.at c.requires.shallow c.in-Ok.found.1 c.in-Ok-block.found.1 c.in-Ok-needs.other c.in-Ok-block-2.next c.in-Ok.found.0 c.in-Ok-block.found.0 c.in-Ok-block-2.otherwise c.requires.kind c.in-Ok.ensures c.in-Ok-block.ensures c.in-Ok-needs.ensures c.in-Ok-block-2.ensures

pub choose-returns-in-Err-block-2 : goal.choose-returns-in-Err-block-2
choose-returns-in-Err-block-2 t c =
    choose_second (size_of c.args.self.now) (seen c.args.self.now) c.args.depth c.args.at c.requires.shallow c.in-Ok.found.1 c.in-Ok-block.found.1 c.in-Ok-needs.other c.in-Ok.found.0 c.in-Ok-block.found.0 c.in-Err-block-2.fault c.requires.kind c.in-Ok.ensures c.in-Ok-block.ensures c.in-Ok-needs.ensures c.in-Err-block-2.ensures

pub statement-returns-in_default : goal.statement-returns-in_default
statement-returns-in_default t c =
    λ within. no_statement (size_of c.args.self.now) (seen c.args.self.now) c.args.depth c.args.at c.requires.shallow (ap (skips Sequence) (sym c.in_default.ensures)) within

pub statement-returns-in_default-kind : goal.statement-returns-in_default-kind
statement-returns-in_default-kind t c =
    let o = c.in_default-kind in
    λ within. no_statement (size_of c.args.self.now) (seen c.args.self.now) c.args.depth c.args.at c.requires.shallow (ap (skips Sequence) (sym c.in-Some.ensures) ∙ no_kind (size_of c.args.self.now) (seen c.args.self.now) c.args.depth c.args.at c.requires.shallow c.in-Some.kind o.not-Word o.not-Refine o.not-Erase o.not-Print o.not-If) within

pub body-loop-found-init : goal.body-loop-found-init
body-loop-found-init t c =
    subst (λ (b : List Stmt). Running (size_of c.args.self.now) (seen c.args.self.now) c.args.depth c.args.at c.args.at b) (sym c.new-statements.ensures.items) (run_start (size_of c.args.self.now) (seen c.args.self.now) c.args.depth c.args.at c.requires.shallow (omega (arith, seen_length c.args.self.now)))

pub body-loop-found-preserved : goal.body-loop-found-preserved
body-loop-found-preserved t c =
    let pushed : c.push.new.self.items ≡ c.loop-found.statements.items ++ c.in-Ok-Some.found.0 ∷ [] = grind (arith, common_steps) in
    let read = rw c.in-Ok-Some.field-0-is at c.in-Ok-Some.ensures in
    subst (λ (b : List Stmt). Running (size_of c.args.self.now) (seen c.args.self.now) c.args.depth c.args.at c.in-Ok-Some.found.1 b) (sym pushed) (run_more (size_of c.args.self.now) (seen c.args.self.now) c.args.depth c.args.at c.requires.shallow c.loop-found.next c.loop-found.statements.items c.loop-found.invariant c.in-Ok-Some.found.0 c.in-Ok-Some.found.1 read)

pub body-returns-in-Ok-None : goal.body-returns-in-Ok-None
body-returns-in-Ok-None t c =
    let none_ = rw c.in-Ok-None.field-0-is at c.in-Ok-None.ensures in
    subst (λ (b : List Stmt). ReadsAs (λ body. All (statements_of body)) (size_of c.args.self.now) (seen c.args.self.now) (Sequence ∷ []) c.args.depth c.args.at (Ok (b, c.loop-found.next))) (sym c.new.ensures) (run_end (size_of c.args.self.now) (seen c.args.self.now) c.args.depth c.args.at c.requires.shallow c.loop-found.next c.loop-found.statements.items c.loop-found.invariant none_)

pub body-returns-in-Err : goal.body-returns-in-Err
body-returns-in-Err t c =
    run_stop (size_of c.args.self.now) (seen c.args.self.now) c.args.depth c.args.at c.requires.shallow c.loop-found.next c.loop-found.statements.items c.loop-found.invariant c.in-Err.fault c.in-Err.ensures
