use Rattle.pe_stream.specs.Layout.{fields_bytes, fields_size}
use Rattle.pe_stream.specs.Parts.{IsReadPayload}
use Rattle.pe_stream.proofs.Pieces.{splits_at, read_one_more}
use Rattle.pe_stream.proofs.parts.read_cells.Goals as goal

pub loop-preserved : goal.loop-preserved
loop-preserved c =
    let count = c.args.fields in
    let rest = c.loop.rest.now in
    let here : IsReadPayload count c.read_fields.result = record { padded = c.read_fields.ensures.padded; payload = c.read_fields.ensures.payload } in
    let split = splits_at c.fields_size-size.result (fields_size count) rest _ _ c.fields_size-size.ensures c.split_at.ensures.front c.split_at.ensures.back in
    read_one_more (fields_bytes count) (IsReadPayload count) (fields_size count) c.args.bytes.now c.loop.cells.items c.push.new.self.items rest _ _ c.loop.counter c.read_fields.result
    split c.in_ok-push.ensures.items c.read_fields.ensures.bytes here c.loop.invariant
