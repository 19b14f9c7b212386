use Rattle.std.proofs.Common.{arith}
use Rattle.pe_lex.specs.declared.token.Token.{Token}
use Rattle.pe_lex.specs.declared.token.TokenKind.TheVariants as kind
use Rattle.pe_lex.proofs.Spans.{token_is}
use Rattle.pe_parse.proofs.Spelled.{spelled_is}
use Rattle.pe_parse.proofs.reader.Reader.bytes.Goals as goal

abbrev none_ : Token
none_ = record { kind = kind.Word; start = 0; end = 0 }

pub slice_bounds-result-count : goal.slice_bounds-result-count
slice_bounds-result-count c =
    let t = token_is c.args.self.now.text.now c.args.self.now.tokens.now c.args.at none_ c.requires.tokens c.requires.within in
    let some = t.some in omega arith

pub slice_bounds-result-start : goal.slice_bounds-result-start
slice_bounds-result-start c =
    let t = token_is c.args.self.now.text.now c.args.self.now.tokens.now c.args.at none_ c.requires.tokens c.requires.within in
    let some = t.some in omega arith

pub slice_bounds-result-end : goal.slice_bounds-result-end
slice_bounds-result-end c =
    let t = token_is c.args.self.now.text.now c.args.self.now.tokens.now c.args.at none_ c.requires.tokens c.requires.within in
    t.within

pub returns : goal.returns
returns c = spelled_is c.args.self.now.text.now c.args.self.now.tokens.now c.args.at none_ c.requires.within
