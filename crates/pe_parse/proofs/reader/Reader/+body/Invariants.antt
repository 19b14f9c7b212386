use Rattle.std.proofs.Common.{◌+◌, ◌-◌, ◌*◌, ℕ, length}
use Rattle.pe_parse.specs.Reading.{seen, size_of}
use Rattle.pe_parse.proofs.Blocks.{Running}
use Rattle.pe_parse.proofs.reader.Reader.+body.Given as goal

-- the nesting that is left, and within it how far the calls have come
abbrev nesting_left : ℕ → ℕ
nesting_left depth = (65 - depth) * 4

abbrev pub decreases-body : goal.decreases-body
decreases-body l = nesting_left l.depth + 3

abbrev pub decreases-statement : goal.decreases-statement
decreases-statement l = nesting_left l.depth + 2

abbrev pub decreases-choose : goal.decreases-choose
decreases-choose l = nesting_left l.depth + 1

abbrev pub decreases-block : goal.decreases-block
decreases-block l = nesting_left l.depth

-- so many statements have been read
abbrev pub invariant-body-loop-found : goal.invariant-body-loop-found
invariant-body-loop-found l = Running (size_of l.self) (seen l.self) l.depth l.at l.next l.statements.items

abbrev pub decreases-body-loop-found : goal.decreases-body-loop-found
decreases-body-loop-found l = length l.self.tokens.now - l.next
