-- What contracts see of a shelf in memory that never fails.
use Rattle.std.specs.Prelude.{ℕ}
use Rattle.pe_io.specs.declared.sure_shelf.SureShelf.{SureShelf}
use Rattle.pe_io.specs.Shelf.{Contents}
use Rattle.pe_io.specs.NamedBytes.{bytes_in}

-- the bytes under a name, or none
abbrev pub bytes_under : SureShelf → Contents
bytes_under shelf = bytes_in shelf.held

-- how many calls were made
abbrev pub calls_of : SureShelf → ℕ
calls_of shelf = shelf.calls
