use Rattle.std.proofs.Common.{subst, sym}
use Rattle.std.specs.Prelude.{IsUtf8}
use Rattle.pe_parse.proofs.Spelled.{word_text}
use Rattle.pe_parse.proofs.reader.Reader.word.Goals as goal

pub unreachable-requires : goal.unreachable-requires
unreachable-requires c =
    let facts = c.in-Err.ensures in
    facts.cases.0 (subst IsUtf8 (sym c.bytes.ensures) (word_text c.args.self.now.text.now c.args.self.now.tokens.now c.args.at c.requires.tokens c.requires.word))
