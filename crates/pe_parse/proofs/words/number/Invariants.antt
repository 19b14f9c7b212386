use Rattle.std.proofs.Common.{◌≡◌, ◌≤◌, drop}
use Rattle.pe_parse.specs.Lexemes.{value_from, value_of}
use Rattle.pe_parse.proofs.words.number.Given as goal

-- the digits so far have this value, and the others follow
abbrev pub invariant-loop-digit : goal.invariant-loop-digit
invariant-loop-digit l = record {
  so_far : value_from l.value (drop l.digit-index l.digits) ≡ value_of l.digits;
  small : l.value ≤ 9223372036854775807;
}
