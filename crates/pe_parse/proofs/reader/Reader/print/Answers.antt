use Rattle.pe_parse.specs.Reading.{seen, size_of}
use Rattle.pe_parse.proofs.Bodies.{print_read, print_stop, print_open}
use Rattle.pe_parse.proofs.reader.Reader.print.Goals as goal

pub returns-in-Err : goal.returns-in-Err
returns-in-Err c =
    print_stop (size_of c.args.self.now) (seen c.args.self.now) c.args.depth c.args.at c.requires.shallow c.in-Err.fault c.requires.kind c.in-Err.ensures

pub returns-in-Ok-needs : goal.returns-in-Ok-needs
returns-in-Ok-needs c =
    print_read (size_of c.args.self.now) (seen c.args.self.now) c.args.depth c.args.at c.requires.shallow c.in-Ok.found.1 c.in-Ok-needs.next c.in-Ok.found.0 c.requires.kind c.in-Ok.ensures c.in-Ok-needs.ensures

pub returns-in-Err-needs : goal.returns-in-Err-needs
returns-in-Err-needs c =
    print_open (size_of c.args.self.now) (seen c.args.self.now) c.args.depth c.args.at c.requires.shallow c.in-Ok.found.1 c.in-Ok.found.0 c.in-Err-needs.fault c.requires.kind c.in-Ok.ensures c.in-Err-needs.ensures
