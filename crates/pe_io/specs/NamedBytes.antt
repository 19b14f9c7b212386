-- What contracts see of the names and bytes of a shelf in memory.
use Rattle.std.specs.Prelude.{option_map}
use Rattle.std.specs.BTreeMap.{get_by_text}
use Rattle.pe_io.specs.declared.named_bytes.NamedBytes.{NamedBytes}
use Rattle.pe_io.specs.Shelf.{Contents}

-- the bytes under each name, or none
abbrev pub bytes_in : NamedBytes → Contents
bytes_in held name = option_map (λ bytes. bytes.items) (get_by_text held.files name)
