use Rattle.pe_parse.specs.Reading.{seen, size_of}
use Rattle.pe_parse.proofs.Operands.{name_plain, name_dotted, name_broken}
use Rattle.pe_parse.proofs.reader.Reader.name.Goals as goal

pub returns-in-Err-needs : goal.returns-in-Err-needs
returns-in-Err-needs c =
    name_plain (size_of c.args.self.now) (seen c.args.self.now) c.args.at c.in-Ok.text c.offset-start.result _ c.requires.word c.in-Ok.ensures c.offset-start.ensures c.in-Err-needs.ensures

pub returns-in-Err-needs-2 : goal.returns-in-Err-needs-2
returns-in-Err-needs-2 c =
    name_broken (size_of c.args.self.now) (seen c.args.self.now) c.args.at _ _ c.in-Ok-needs.ensures c.in-Err-needs-2.ensures

pub returns-in-Ok-word : goal.returns-in-Ok-word
returns-in-Ok-word c =
    name_dotted (size_of c.args.self.now) (seen c.args.self.now) c.args.at _ _ c.in-Ok.text c.in-Ok-word.text c.offset-start.result c.requires.word c.in-Ok.ensures c.offset-start.ensures
    c.in-Ok-needs.ensures c.in-Ok-needs-2.ensures c.in-Ok-word.ensures
