use Rattle.std.proofs.Common.{◌+◌, ◌-◌, ◌*◌, ℕ, length}
use Rattle.pe_parse.specs.declared.rank.Rank.{Rank}
use Rattle.pe_parse.specs.declared.rank.Rank.TheVariants.{Disjunction, Conjunction, Comparison, Sum, Product}
use Rattle.pe_parse.specs.Reading.{seen, size_of}
use Rattle.pe_parse.proofs.Chains.{Linking}
use Rattle.pe_parse.proofs.reader.Reader.+expr.Given as goal

-- a chain of looser signs calls one of tighter signs
abbrev chain_rest : Rank → ℕ
chain_rest Disjunction = 11
chain_rest Conjunction = 9
chain_rest Comparison = 8
chain_rest Sum = 6
chain_rest Product = 4

abbrev tighter_rest : Rank → ℕ
tighter_rest Disjunction = 10
tighter_rest Conjunction = 8
tighter_rest Comparison = 7
tighter_rest Sum = 5
tighter_rest Product = 3

-- the nesting that is left, and within it how far the calls have come
abbrev nesting_left : ℕ → ℕ
nesting_left depth = (65 - depth) * 16

abbrev pub decreases-absolute : goal.decreases-absolute
decreases-absolute l = nesting_left l.depth + 1

abbrev pub decreases-extreme : goal.decreases-extreme
decreases-extreme l = nesting_left l.depth + 1

abbrev pub decreases-group : goal.decreases-group
decreases-group l = nesting_left l.depth + 1

abbrev pub decreases-prefixed : goal.decreases-prefixed
decreases-prefixed l = nesting_left l.depth + 1

abbrev pub decreases-operand : goal.decreases-operand
decreases-operand l = nesting_left l.depth + 2

abbrev pub decreases-chain : goal.decreases-chain
decreases-chain l = nesting_left l.depth + chain_rest l.rank

abbrev pub decreases-tighter : goal.decreases-tighter
decreases-tighter l = nesting_left l.depth + tighter_rest l.rank

abbrev pub decreases-comparison : goal.decreases-comparison
decreases-comparison l = nesting_left l.depth + 7

abbrev pub decreases-closed : goal.decreases-closed
decreases-closed l = nesting_left l.depth + 12

-- so many links of the chain have been read
abbrev pub invariant-chain-loop-sign : goal.invariant-chain-loop-sign
invariant-chain-loop-sign l = Linking (size_of l.self) (seen l.self) l.rank l.depth l.at l.next l.first l.links.items

abbrev pub decreases-chain-loop-sign : goal.decreases-chain-loop-sign
decreases-chain-loop-sign l = length l.self.tokens.now - l.next
