use Rattle.pe_parse.specs.Reading.{seen, size_of}
use Rattle.pe_parse.proofs.Bodies.{assign_broken, assign_bare, assign_stop, assign_read}
use Rattle.pe_parse.proofs.reader.Reader.assign.Goals as goal

pub returns-in-Err : goal.returns-in-Err
returns-in-Err c =
    assign_broken (size_of c.args.self.now) (seen c.args.self.now) c.args.depth c.args.at c.requires.shallow c.in-Err.fault c.requires.kind c.in-Err.ensures

pub returns-in-Err-needs : goal.returns-in-Err-needs
returns-in-Err-needs c =
    assign_bare (size_of c.args.self.now) (seen c.args.self.now) c.args.depth c.args.at c.requires.shallow c.in-Ok.found.1 c.in-Ok.found.0 c.in-Err-needs.fault c.requires.kind c.in-Ok.ensures c.in-Err-needs.ensures

pub returns-in-Ok-closed : goal.returns-in-Ok-closed
returns-in-Ok-closed c =
    assign_read (size_of c.args.self.now) (seen c.args.self.now) c.args.depth c.args.at c.requires.shallow c.in-Ok.found.1 c.in-Ok-needs.inside c.in-Ok-closed.next c.in-Ok.found.0 c.in-Ok-closed.value c.requires.kind c.in-Ok.ensures c.in-Ok-needs.ensures c.in-Ok-closed.ensures

pub returns-in-Err-closed : goal.returns-in-Err-closed
returns-in-Err-closed c =
    assign_stop (size_of c.args.self.now) (seen c.args.self.now) c.args.depth c.args.at c.requires.shallow c.in-Ok.found.1 c.in-Ok-needs.inside c.in-Ok.found.0 c.in-Err-closed.fault c.requires.kind c.in-Ok.ensures c.in-Ok-needs.ensures c.in-Err-closed.ensures
