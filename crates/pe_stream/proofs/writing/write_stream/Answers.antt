use Rattle.pe_stream.specs.declared.fault.HeaderField.TheVariants.{VertexFields, CellFields, GlobalFields}
use Rattle.pe_stream.proofs.writing.write_stream.Goals as goal

pub write_fields-requires : goal.write_fields-requires
write_fields-requires c = (c.requires.header GlobalFields).1

pub write_fields-requires-2 : goal.write_fields-requires-2
write_fields-requires-2 c = (c.requires.header CellFields).1

pub write_vertices-requires : goal.write_vertices-requires
write_vertices-requires c = (c.requires.header VertexFields).1

pub write_cells-requires : goal.write_cells-requires
write_cells-requires c = (c.requires.header CellFields).1
