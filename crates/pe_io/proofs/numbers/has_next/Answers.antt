use Rattle.pe_io.proofs.NumberSets.{IsNextListed-from_test, IsNextListed-past_last}
use Rattle.pe_io.proofs.numbers.has_next.Goals as goal

pub returns-in-Some : goal.returns-in-Some
returns-in-Some c =
    IsNextListed-from_test c.args.set.now c.args.count _ _ c.in-Some.ensures.0 c.in-Some.ensures.1 c.contains.ensures

pub returns-in-None : goal.returns-in-None
returns-in-None c = IsNextListed-past_last c.args.set.now.keys c.args.count c.in-None.ensures
