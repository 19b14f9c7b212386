use Rattle.std.proofs.Common.{◌-◌, length}
use Rattle.pe_parse.specs.Reading.{seen, size_of}
use Rattle.pe_parse.proofs.Bodies.{Listing}
use Rattle.pe_parse.proofs.reader.Reader.values.Given as goal

-- so many values have been read
abbrev pub invariant-loop-behind : goal.invariant-loop-behind
invariant-loop-behind l = Listing (size_of l.self) (seen l.self) l.depth l.at l.next l.items.items

abbrev pub decreases-loop-behind : goal.decreases-loop-behind
decreases-loop-behind l = length l.self.tokens.now - l.next
