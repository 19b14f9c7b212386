use Rattle.std.proofs.Common.{◌≡◌, ◌-◌, ◌≤◌, length, drop}
use Rattle.pe_lex.specs.Tokens.{tokens_from, tokens_of}
use Rattle.pe_lex.proofs.Reading.{after}
use Rattle.pe_lex.proofs.scan.lex.Given as goal

-- the tokens so far, and those that follow, are those of the text
abbrev pub invariant-loop-at : goal.invariant-loop-at
invariant-loop-at l = record {
  within : l.at ≤ length l.bytes;
  told : after l.tokens.items (tokens_from 0 l.at (drop l.at l.bytes)) ≡ tokens_of l.bytes;
}

abbrev pub decreases-loop-at : goal.decreases-loop-at
decreases-loop-at l = length l.bytes - l.at
