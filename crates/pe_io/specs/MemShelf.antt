-- What contracts see of a shelf in memory.
use Rattle.std.specs.Prelude.{ℕ, List}
use Rattle.pe_io.specs.declared.mem_shelf.MemShelf.{MemShelf}
use Rattle.pe_io.specs.Shelf.{Contents}
use Rattle.pe_io.specs.NamedBytes.{bytes_in}
use Rattle.pe_io.specs.CallLog.{Calls}

-- the bytes under a name, or none
abbrev pub bytes_under : MemShelf → Contents
bytes_under shelf = bytes_in shelf.held

-- what it remembers of its calls
abbrev pub calls_of : MemShelf → Calls
calls_of shelf = shelf.calls

-- the numbers of the calls that are to fail
abbrev pub failing_of : MemShelf → List ℕ
failing_of shelf = shelf.failing.keys
