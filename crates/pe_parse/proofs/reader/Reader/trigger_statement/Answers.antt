use Rattle.pe_parse.specs.Reading.{seen, size_of}
use Rattle.pe_parse.proofs.Bodies.{triggers_bare, triggers_open, triggers_read}
use Rattle.pe_parse.proofs.reader.Reader.trigger_statement.Goals as goal

pub returns-in-Err : goal.returns-in-Err
returns-in-Err c =
    triggers_bare (size_of c.args.self.now) (seen c.args.self.now) c.args.depth c.args.at c.requires.shallow c.args.trigger c.in-Err.fault c.requires.kind c.in-Err.ensures

pub returns-in-Err-needs : goal.returns-in-Err-needs
returns-in-Err-needs c =
    triggers_open (size_of c.args.self.now) (seen c.args.self.now) c.args.depth c.args.at c.requires.shallow c.args.trigger c.in-Ok.behind c.in-Err-needs.fault c.requires.kind c.in-Ok.ensures c.in-Err-needs.ensures

pub returns-in-Ok-word : goal.returns-in-Ok-word
returns-in-Ok-word c =
    triggers_read (size_of c.args.self.now) (seen c.args.self.now) c.args.depth c.args.at c.requires.shallow c.args.trigger c.in-Ok.behind c.in-Ok-needs.next c.in-Ok-word.text c.offset-start.result c.requires.kind c.in-Ok.ensures c.in-Ok-needs.ensures c.in-Ok-word.ensures c.offset-start.ensures
