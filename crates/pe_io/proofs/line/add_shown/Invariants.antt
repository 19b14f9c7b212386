use Rattle.std.proofs.Common.{◌≡◌, ◌++◌, map, take}
use Rattle.pe_base.specs.Lines.{shown_byte}
use Rattle.pe_io.proofs.line.add_shown.Given as goal

-- the bytes so far are added
abbrev pub invariant-loop-byte : goal.invariant-loop-byte
invariant-loop-byte l = l.line.items ≡ l.initial.line.items ++ map shown_byte (take l.byte-index l.bytes)
