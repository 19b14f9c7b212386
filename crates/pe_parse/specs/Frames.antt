-- What may come next, and what is open: the frames of what has begun, innermost first.
use Rattle.std.specs.Prelude.{ℕ, ◌+◌, ◌==◌, nat_le, Bool, true, false, ◌&&◌, List, [], ◌∷◌, ◌++◌, Option, Some, None, if◌then◌else◌}
use Rattle.pe_lex.specs.declared.token.TokenKind.{TokenKind}
use Rattle.pe_lex.specs.declared.token.TokenKind.TheVariants as kind
use Rattle.pe_parse.specs.declared.tree.Sign.{Sign}
use Rattle.pe_parse.specs.declared.rank.Rank.{Rank}
use Rattle.pe_parse.specs.declared.rank.Rank.TheVariants.{Disjunction, Conjunction, Comparison, Sum, Product}
use Rattle.pe_parse.specs.Grammar.{rank_of, sign_of}

pub data Frame : Type 0 where
  -- this token must come
  Needs : TokenKind → Frame
  -- an operand must come
  Value : Frame
  -- so many operands of a chain have come, and its next sign may come
  Links : Rank → ℕ → Frame
  -- the dot and the second word of a name may come
  Second : Frame
  -- here ends the operand of a sign before it
  Ending : Frame
  -- the values of min or max must come in parentheses, or the one of abs
  Pair : Frame
  Single : Frame
  -- so many values of a print have come, and the next comma may come
  Values : ℕ → Frame
  -- statements must come in braces
  Block : Frame
  -- an else may come
  Otherwise : Frame
  -- statements may come
  Sequence : Frame

-- what one token does to a frame: it begins what the frame is for, and these frames are left of it; or
-- nothing comes of the frame, and the token is of the frame behind it; or the token may not come
pub data Move : Type 0 where
  Takes : List Frame → Move
  Skips : Move
  Refuses : Move

-- an operand of a chain of this rank
abbrev pub operand_frames : Rank → List Frame
operand_frames Product = Value ∷ []
operand_frames Sum = Value ∷ Links Product 1 ∷ []
operand_frames Comparison = Value ∷ Links Product 1 ∷ Links Sum 1 ∷ []
operand_frames Conjunction = Value ∷ Links Product 1 ∷ Links Sum 1 ∷ Links Comparison 1 ∷ []
operand_frames Disjunction = Value ∷ Links Product 1 ∷ Links Sum 1 ∷ Links Comparison 1 ∷ Links Conjunction 1 ∷ []

-- a chain of this rank
abbrev pub chain_frames : Rank → List Frame
chain_frames r = operand_frames r ++ Links r 1 ∷ []

-- behind a sign of this rank and its operand
abbrev pub more_links : Rank → ℕ → List Frame
more_links Comparison n = []
more_links r n = Links r (n + 1) ∷ []

abbrev pub same_rank : Rank → Rank → Bool
same_rank Disjunction Disjunction = true
same_rank Conjunction Conjunction = true
same_rank Comparison Comparison = true
same_rank Sum Sum = true
same_rank Product Product = true
same_rank _ _ = false

-- the sign of this rank that a token is
abbrev pub sign_if : Rank → Option Sign → Option Sign
sign_if r None = None
sign_if r (Some sign) = if same_rank r (rank_of sign) then Some sign else None

abbrev pub link_move : Rank → ℕ → Option Sign → Move
link_move r n None = Skips
link_move r n (Some sign) = Takes (operand_frames r ++ more_links r n)

-- the number of a kind of token, to compare kinds
abbrev pub kind_number : TokenKind → ℕ
kind_number kind.Word = 0
kind_number kind.Number = 1
kind_number kind.If = 2
kind_number kind.Else = 3
kind_number kind.Refine = 4
kind_number kind.Erase = 5
kind_number kind.Print = 6
kind_number kind.Min = 7
kind_number kind.Max = 8
kind_number kind.Abs = 9
kind_number kind.Assign = 10
kind_number kind.Equal = 11
kind_number kind.NotEqual = 12
kind_number kind.Not = 13
kind_number kind.Less = 14
kind_number kind.LessOrEqual = 15
kind_number kind.Greater = 16
kind_number kind.GreaterOrEqual = 17
kind_number kind.Plus = 18
kind_number kind.Minus = 19
kind_number kind.Star = 20
kind_number kind.Slash = 21
kind_number kind.Percent = 22
kind_number kind.And = 23
kind_number kind.Or = 24
kind_number kind.OpenRound = 25
kind_number kind.CloseRound = 26
kind_number kind.OpenCurly = 27
kind_number kind.CloseCurly = 28
kind_number kind.Comma = 29
kind_number kind.Semicolon = 30
kind_number kind.Dot = 31

abbrev pub expression : List Frame
expression = chain_frames Disjunction

-- what a token begins where an operand must come
abbrev pub value_move : TokenKind → Move
value_move kind.Number = Takes []
value_move kind.Word = Takes (Second ∷ [])
value_move kind.OpenRound = Takes (expression ++ Needs kind.CloseRound ∷ [])
value_move kind.Min = Takes (Pair ∷ [])
value_move kind.Max = Takes (Pair ∷ [])
value_move kind.Abs = Takes (Single ∷ [])
value_move kind.Minus = Takes (Value ∷ Ending ∷ [])
value_move kind.Not = Takes (Value ∷ Ending ∷ [])
value_move _ = Refuses

-- what a token begins where a statement may come
abbrev pub statement_move : TokenKind → Move
statement_move kind.Word = Takes (Second ∷ Needs kind.Assign ∷ expression ++ Needs kind.Semicolon ∷ Sequence ∷ [])
statement_move kind.Refine = Takes (Needs kind.Word ∷ Needs kind.Semicolon ∷ Sequence ∷ [])
statement_move kind.Erase = Takes (Needs kind.Word ∷ Needs kind.Semicolon ∷ Sequence ∷ [])
statement_move kind.Print = Takes (expression ++ Values 1 ∷ Needs kind.Semicolon ∷ Sequence ∷ [])
statement_move kind.If = Takes (expression ++ Block ∷ Otherwise ∷ Sequence ∷ [])
statement_move _ = Skips

-- The table of what a token does to a frame.
abbrev pub move : Frame → TokenKind → Move
move (Needs kind) t = if kind_number kind == kind_number t then Takes [] else Refuses
move Value t = value_move t
move (Links r n) t = link_move r n (sign_if r (sign_of t))
move Second kind.Dot = Takes (Needs kind.Word ∷ [])
move Second _ = Skips
move Ending _ = Skips
move Pair kind.OpenRound = Takes (expression ++ Needs kind.Comma ∷ expression ++ Needs kind.CloseRound ∷ [])
move Pair _ = Refuses
move Single kind.OpenRound = Takes (expression ++ Needs kind.CloseRound ∷ [])
move Single _ = Refuses
move (Values n) kind.Comma = Takes (expression ++ Values (n + 1) ∷ [])
move (Values n) _ = Skips
move Block kind.OpenCurly = Takes (Sequence ∷ Needs kind.CloseCurly ∷ [])
move Block _ = Refuses
move Otherwise kind.Else = Takes (Block ∷ [])
move Otherwise _ = Skips
move Sequence t = statement_move t

abbrev pub moved : Move → List Frame → Option (List Frame) → Option (List Frame)
moved (Takes frames) behind later = Some (frames ++ behind)
moved Skips behind later = later
moved Refuses behind later = None

-- what is open after one more token, or None where it may not come
abbrev pub step : List Frame → TokenKind → Option (List Frame)
step [] t = None
step (f ∷ fs) t = moved (move f t) fs (step fs t)

-- the tokens may end here
abbrev pub can_end : Frame → Bool
can_end (Links r n) = true
can_end Second = true
can_end Ending = true
can_end (Values n) = true
can_end Otherwise = true
can_end Sequence = true
can_end _ = false

abbrev pub ends : List Frame → Bool
ends [] = true
ends (f ∷ fs) = can_end f && ends fs

-- an open parenthesis, an open brace, or a sign before an operand that has not ended
abbrev pub nests : Frame → ℕ
nests (Needs kind.CloseRound) = 1
nests (Needs kind.CloseCurly) = 1
nests Ending = 1
nests _ = 0

abbrev pub nesting : List Frame → ℕ
nesting [] = 0
nesting (f ∷ fs) = nests f + nesting fs

-- no more than 64 operands of a chain and 8 values of a print
abbrev pub is_counted : Frame → Bool
is_counted (Links r n) = nat_le n 64
is_counted (Values n) = nat_le n 8
is_counted _ = true

abbrev pub are_counted : List Frame → Bool
are_counted [] = true
are_counted (f ∷ fs) = is_counted f && are_counted fs
