use Rattle.std.proofs.Common.{◌^◌}
use Rattle.pe_stacks.specs.VecDepot.{holdings_of}
use Rattle.pe_stacks.proofs.Raising.{within_new}
use Rattle.bench_depot.proofs.main.Goals as goal

pub measure_rounds-requires-clause-counts : goal.measure_rounds-requires-clause-counts
measure_rounds-requires-clause-counts c = within_new (holdings_of c.in_ok-depot.depot) 2 (2 ^ 60) c.in_ok-depot.ensures
