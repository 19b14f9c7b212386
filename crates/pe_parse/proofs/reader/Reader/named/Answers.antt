use Rattle.pe_parse.specs.Reading.{seen, size_of}
use Rattle.pe_parse.proofs.Operands.{name_read, name_stop}
use Rattle.pe_parse.proofs.reader.Reader.named.Goals as goal

pub returns-in-Ok : goal.returns-in-Ok
returns-in-Ok c depth limited =
    name_read (size_of c.args.self.now) (seen c.args.self.now) c.args.at c.in-Ok.next c.in-Ok.name depth limited c.requires.kind c.in-Ok.ensures

pub returns-in-Err : goal.returns-in-Err
returns-in-Err c depth limited =
    name_stop (size_of c.args.self.now) (seen c.args.self.now) c.args.at c.in-Err.fault depth limited c.requires.kind c.in-Err.ensures
