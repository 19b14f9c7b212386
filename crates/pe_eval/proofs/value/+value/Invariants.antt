use Rattle.std.proofs.Common.{◌≡◌, Ok, drop}
use Rattle.pe_eval.specs.Values.{value_of, value_behind}
use Rattle.pe_eval.specs.Sights.{situation}
use Rattle.pe_eval.proofs.value.+value.Given as goal

-- the links that are left give what the whole chain gives
abbrev pub invariant-compound-loop-sign : goal.invariant-compound-loop-sign
invariant-compound-loop-sign l = value_behind (Ok l.so_far) (drop l.sign-index l.sign-items) (situation l.view) ≡ value_of l.expr (situation l.view)
