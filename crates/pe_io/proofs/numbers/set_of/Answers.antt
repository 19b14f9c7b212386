use Rattle.std.proofs.Common.{rules}
use Rattle.std.specs.BTreeSet.{IsFromIterResult}
use Rattle.std.specs.Ordering.{nat_cmp}
use Rattle.std.proofs.lemmas.Result.{IfOk-weaker}
use Rattle.pe_io.proofs.NumberSets.{Contains-from_list}
use Rattle.pe_io.proofs.numbers.set_of.Goals as goal

pub returns : goal.returns
returns c = IfOk-weaker c.collect.result (IsFromIterResult nat_cmp c.args.numbers.now) _ (Contains-from_list c.args.numbers.now) (search rules)
