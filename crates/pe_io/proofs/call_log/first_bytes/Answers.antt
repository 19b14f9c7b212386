use Rattle.std.proofs.lemmas.List.{take_min}
use Rattle.pe_io.proofs.call_log.first_bytes.Goals as goal

pub returns : goal.returns
returns c = rw (c.in-Ok.ensures.ok, c.new-first.ensures, c.min-kept.ensures) (take_min 4096 c.args.bytes.now)
