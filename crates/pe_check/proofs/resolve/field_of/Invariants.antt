use Rattle.std.proofs.Common.{◌≡◌, drop}
use Rattle.std.specs.List.{position_from}
use Rattle.std.specs.Str.{bytes_eq}
use Rattle.pe_check.specs.Resolving.{field_of}
use Rattle.pe_check.proofs.resolve.field_of.Given as goal

-- the word is sought among the fields that are left
abbrev pub invariant-loop-i : goal.invariant-loop-i
invariant-loop-i l = position_from (λ field. bytes_eq field l.word) l.i (drop l.i l.fields) ≡ field_of l.fields l.word
