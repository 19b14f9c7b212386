-- What is spelled is accepted, token by token.
use Rattle.std.proofs.Common.{◌≡◌, ℕ, ◌+◌, List, [], ◌∷◌, ◌++◌, Option, Some, None, Bool, true, false, cond, ◌&&◌, refl, sym, ◌∙◌, ap, subst, append_assoc, append-nil}
use Rattle.std.specs.Prelude.{slice_get}
use Rattle.pe_lex.specs.declared.token.TokenKind.{TokenKind}
use Rattle.pe_lex.specs.declared.token.TokenKind.TheVariants as kind
use Rattle.pe_parse.specs.declared.rank.Rank.{Rank}
use Rattle.pe_parse.specs.declared.rank.Rank.TheVariants.{Disjunction, Conjunction, Comparison, Sum, Product}
use Rattle.pe_parse.specs.declared.tree.Sign.{Sign}
use Rattle.pe_parse.specs.declared.tree.Prefix.{Prefix}
use Rattle.pe_parse.specs.declared.tree.Choice.{Choice}
use Rattle.pe_parse.specs.declared.tree.Trigger.{Trigger}
use Rattle.pe_parse.specs.declared.tree.Prefix.TheVariants as prefix
use Rattle.pe_parse.specs.declared.tree.Choice.TheVariants as choice
use Rattle.pe_parse.specs.declared.tree.Trigger.TheVariants as trigger
use Rattle.pe_parse.specs.declared.tree.Name.{Name}
use Rattle.pe_parse.specs.declared.tree.Expr.{Expr}
use Rattle.pe_parse.specs.Lexemes.{Lexeme, kind_in}
use Rattle.pe_parse.specs.Statements.{Statement, Statements}
use Rattle.pe_parse.specs.Grammar.{Phrase, Chained, Operand, Linked, Listed, One, All, Names, plain, dotted, Spells, number, name, prefixed, group, extreme, absolute, single, chain, linked_none, linked, listed_none, listed, assigns, triggers, prints, chooses, chooses_else, nothing, then_more, MayFollow, operand_of, rank_of, sign_of, prefix_kind, choice_kind, trigger_kind}
use Rattle.pe_parse.specs.Frames.{Frame, Needs, Value, Links, Second, Ending, Pair, Single, Values, Block, Otherwise, Sequence, Move, Takes, move, moved, link_move, sign_if, same_rank, step, ends, operand_frames, chain_frames, more_links, expression}
use Rattle.pe_parse.proofs.TokenMoves.{is_skip, skips, skip_is, needs_takes}

abbrev pub on_step : Option (List Frame) → (List Frame → Bool) → Bool
on_step None later = false
on_step (Some fs) later = later fs

-- the tokens may come, and may end there
abbrev pub accepts : List Frame → List Lexeme → Bool
accepts fs [] = ends fs
accepts fs (x ∷ xs) = on_step (step fs x.kind) (λ gs. accepts gs xs)

abbrev pub head : List Lexeme → Option TokenKind
head v = kind_in (slice_get v 0)

takes_on : (f : Frame) (g fs : List Frame) (x : Lexeme) (v : List Lexeme) (k : TokenKind) → x.kind ≡ k → move f k ≡ Takes g → accepts (f ∷ fs) (x ∷ v) ≡ accepts (g ++ fs) v
takes_on f g fs x v k is takes_g = ap (λ (m : Move). on_step (moved m fs (step fs x.kind)) (λ gs. accepts gs v)) (ap (move f) is ∙ takes_g)

skip_on : (f : Frame) (fs : List Frame) (v : List Lexeme) → skips f (head v) ≡ true → accepts (f ∷ fs) v ≡ accepts fs v
skip_on f fs [] h = ap (λ (b : Bool). b && ends fs) h
skip_on f fs (x ∷ v) h = ap (λ (m : Move). on_step (moved m fs (step fs x.kind)) (λ gs. accepts gs v)) (skip_is (move f x.kind) h)

needs_on : (k : TokenKind) (fs : List Frame) (x : Lexeme) (v : List Lexeme) → x.kind ≡ k → accepts (Needs k ∷ fs) (x ∷ v) ≡ accepts fs v
needs_on k fs x v is = takes_on (Needs k) [] fs x v k is (needs_takes k)

-- what does not go on with an operand of a chain of a rank, or with the chain
pub record AfterOperand (o : Option TokenKind) : Type 0 where
  pub second : skips Second o ≡ true

pub record AfterProduct (o : Option TokenKind) : Type 0 where
  pub inside : AfterOperand o
  pub links : (n : ℕ) → skips (Links Product n) o ≡ true

pub record AfterSum (o : Option TokenKind) : Type 0 where
  pub inside : AfterProduct o
  pub links : (n : ℕ) → skips (Links Sum n) o ≡ true

pub record AfterComparison (o : Option TokenKind) : Type 0 where
  pub inside : AfterSum o
  pub links : (n : ℕ) → skips (Links Comparison n) o ≡ true

pub record AfterConjunction (o : Option TokenKind) : Type 0 where
  pub inside : AfterComparison o
  pub links : (n : ℕ) → skips (Links Conjunction n) o ≡ true

pub record AfterDisjunction (o : Option TokenKind) : Type 0 where
  pub inside : AfterConjunction o
  pub links : (n : ℕ) → skips (Links Disjunction n) o ≡ true

abbrev pub Inside : Rank → Option TokenKind → Type 0
Inside Product o = AfterOperand o
Inside Sum o = AfterProduct o
Inside Comparison o = AfterSum o
Inside Conjunction o = AfterComparison o
Inside Disjunction o = AfterConjunction o

abbrev pub After : Rank → Option TokenKind → Type 0
After Product o = AfterProduct o
After Sum o = AfterSum o
After Comparison o = AfterComparison o
After Conjunction o = AfterConjunction o
After Disjunction o = AfterDisjunction o

pub inside_of : (r : Rank) (o : Option TokenKind) → After r o → Inside r o
inside_of Product o a = a.inside
inside_of Sum o a = a.inside
inside_of Comparison o a = a.inside
inside_of Conjunction o a = a.inside
inside_of Disjunction o a = a.inside

pub links_of : (r : Rank) (o : Option TokenKind) (n : ℕ) → After r o → skips (Links r n) o ≡ true
links_of Product o n a = a.links n
links_of Sum o n a = a.links n
links_of Comparison o n a = a.links n
links_of Conjunction o n a = a.links n
links_of Disjunction o n a = a.links n

-- what stands behind an expression in a rule
abbrev pub closes : TokenKind → Bool
closes kind.CloseRound = true
closes kind.Comma = true
closes kind.Semicolon = true
closes kind.OpenCurly = true
closes _ = false

after_closing : (k : TokenKind) → closes k ≡ true → AfterDisjunction (Some k)
after_closing kind.CloseRound h = record { inside = record { inside = record { inside = record { inside = record { inside = record { second = refl }; links = λ n. refl }; links = λ n. refl }; links = λ n. refl }; links = λ n. refl }; links = λ n. refl }
after_closing kind.Comma h = record { inside = record { inside = record { inside = record { inside = record { inside = record { second = refl }; links = λ n. refl }; links = λ n. refl }; links = λ n. refl }; links = λ n. refl }; links = λ n. refl }
after_closing kind.Semicolon h = record { inside = record { inside = record { inside = record { inside = record { inside = record { second = refl }; links = λ n. refl }; links = λ n. refl }; links = λ n. refl }; links = λ n. refl }; links = λ n. refl }
after_closing kind.OpenCurly h = record { inside = record { inside = record { inside = record { inside = record { inside = record { second = refl }; links = λ n. refl }; links = λ n. refl }; links = λ n. refl }; links = λ n. refl }; links = λ n. refl }
after_closing _ h = absurd (cc)

pub closing_head : (y : Lexeme) (v : List Lexeme) (k : TokenKind) → y.kind ≡ k → closes k ≡ true → AfterDisjunction (head (y ∷ v))
closing_head y v k is h = after_closing y.kind (ap closes is ∙ h)

-- a sign of a rank ends each operand of its chain
sign_second : (k : TokenKind) (s : Sign) → sign_of k ≡ Some s → skips Second (Some k) ≡ true
sign_second kind.Dot s h = absurd (cc)
sign_second _ s h = refl

other_rank : (r : Rank) (s : Sign) (k : TokenKind) (n : ℕ) → sign_of k ≡ Some s → same_rank r (rank_of s) ≡ false → skips (Links r n) (Some k) ≡ true
other_rank r s k n is other =
    ap (λ (o : Option Sign). is_skip (link_move r n (sign_if r o))) is ∙ ap (λ (b : Bool). is_skip (link_move r n (cond b (Some s) None))) other

differ : (r q : Rank) (s : Sign) → rank_of s ≡ q → same_rank r q ≡ false → same_rank r (rank_of s) ≡ false
differ r q s is h = ap (same_rank r) is ∙ h

pub sign_inside : (r : Rank) (s : Sign) (k : TokenKind) → sign_of k ≡ Some s → rank_of s ≡ r → Inside r (Some k)
sign_inside Product s k is rank = record { second = sign_second k s is }
sign_inside Sum s k is rank = record { inside = record { second = sign_second k s is }; links = λ n. other_rank Product s k n is (differ Product Sum s rank refl) }
sign_inside Comparison s k is rank = record {
  inside = record { inside = record { second = sign_second k s is }; links = λ n. other_rank Product s k n is (differ Product Comparison s rank refl) };
  links = λ n. other_rank Sum s k n is (differ Sum Comparison s rank refl);
}
sign_inside Conjunction s k is rank = record {
  inside = record {
    inside = record { inside = record { second = sign_second k s is }; links = λ n. other_rank Product s k n is (differ Product Conjunction s rank refl) };
    links = λ n. other_rank Sum s k n is (differ Sum Conjunction s rank refl);
  };
  links = λ n. other_rank Comparison s k n is (differ Comparison Conjunction s rank refl);
}
sign_inside Disjunction s k is rank = record {
  inside = record {
    inside = record {
      inside = record { inside = record { second = sign_second k s is }; links = λ n. other_rank Product s k n is (differ Product Disjunction s rank refl) };
      links = λ n. other_rank Sum s k n is (differ Sum Disjunction s rank refl);
    };
    links = λ n. other_rank Comparison s k n is (differ Comparison Disjunction s rank refl);
  };
  links = λ n. other_rank Conjunction s k n is (differ Conjunction Disjunction s rank refl);
}

-- What is spelled is taken, from the frames for it, and what follows comes next.
abbrev Taken : Phrase → List Lexeme → Type 0
Taken (Operand e) w = (fs : List Frame) (v : List Lexeme) → AfterOperand (head v) → accepts (Value ∷ fs) (w ++ v) ≡ accepts fs v
Taken (Chained r e) w = (fs : List Frame) (v : List Lexeme) → After r (head v) → accepts (chain_frames r ++ fs) (w ++ v) ≡ accepts fs v
Taken (Linked r links) w = (n : ℕ) (fs : List Frame) (v : List Lexeme) → After r (head v) → accepts (Links r n ∷ fs) (w ++ v) ≡ accepts fs v
Taken (Listed es) w = (n : ℕ) (fs : List Frame) (v : List Lexeme) → AfterDisjunction (head v) → ((m : ℕ) → skips (Values m) (head v) ≡ true) → accepts (Values n ∷ fs) (w ++ v) ≡ accepts fs v
Taken (One s) w = (fs : List Frame) (v : List Lexeme) → skips Otherwise (head v) ≡ true → accepts (Sequence ∷ fs) (w ++ v) ≡ accepts (Sequence ∷ fs) v
Taken (All ss) w = (fs : List Frame) (v : List Lexeme) → skips Otherwise (head v) ≡ true → skips Sequence (head v) ≡ true → accepts (Sequence ∷ fs) (w ++ v) ≡ accepts fs v

operand_taken : (r : Rank) (e : Expr) (w : List Lexeme) → Taken (operand_of r e) w → (fs : List Frame) (v : List Lexeme) → Inside r (head v) → accepts (operand_frames r ++ fs) (w ++ v) ≡ accepts fs v
operand_taken Product e w t = t
operand_taken Sum e w t = t
operand_taken Comparison e w t = t
operand_taken Conjunction e w t = t
operand_taken Disjunction e w t = t

-- what follows an operand: a link of its chain, or what follows the chain
pub linked_head : (r : Rank) (links : List (Sign × Expr)) (w v : List Lexeme) → Spells (Linked r links) w → After r (head v) → Inside r (head (w ++ v))
linked_head r links w v (linked_none r2) after_ = inside_of r (head v) after_
linked_head r links w v (linked r2 x s is rank may first rest) after_ = sign_inside r s x.kind is rank

pub rank_same : (r : Rank) → same_rank r r ≡ true
rank_same Disjunction = refl
rank_same _ = refl

link_takes_on : (r : Rank) (s : Sign) (k : TokenKind) (n : ℕ) → sign_of k ≡ Some s → rank_of s ≡ r → move (Links r n) k ≡ Takes (operand_frames r ++ more_links r n)
link_takes_on r s k n is rank =
    ap (λ (o : Option Sign). link_move r n (sign_if r o)) is ∙ ap (λ (b : Bool). link_move r n (cond b (Some s) None)) (ap (same_rank r) rank ∙ rank_same r)

empty_links : (r : Rank) (w : List Lexeme) → Spells (Linked r []) w → w ≡ []
empty_links r w (linked_none r2) = refl

pub none_left : (r : Rank) (ls : List (Sign × Expr)) (w : List Lexeme) → ls ≡ [] → Spells (Linked r ls) w → w ≡ []
none_left r ls w h d = empty_links r w (subst (λ (ls : List (Sign × Expr)). Spells (Linked r ls) w) h d)

more_taken : (r : Rank) (links : List (Sign × Expr)) (w : List Lexeme) → MayFollow r links → Spells (Linked r links) w → Taken (Linked r links) w → (n : ℕ) (fs : List Frame) (v : List Lexeme) → After r (head v)
    → accepts (more_links r n ++ fs) (w ++ v) ≡ accepts fs v
more_taken Comparison links w may d t n fs v after_ = ap (λ (u : List Lexeme). accepts fs (u ++ v)) (none_left Comparison links w may d)
more_taken Disjunction links w may d t n fs v after_ = t (n + 1) fs v after_
more_taken Conjunction links w may d t n fs v after_ = t (n + 1) fs v after_
more_taken Sum links w may d t n fs v after_ = t (n + 1) fs v after_
more_taken Product links w may d t n fs v after_ = t (n + 1) fs v after_

prefix_move : (p : Prefix) → move Value (prefix_kind p) ≡ Takes (Value ∷ Ending ∷ [])
prefix_move prefix.Minus = refl
prefix_move prefix.Not = refl

choice_move : (c : Choice) → move Value (choice_kind c) ≡ Takes (Pair ∷ [])
choice_move choice.Min = refl
choice_move choice.Max = refl

trigger_move : (t : Trigger) → move Sequence (trigger_kind t) ≡ Takes (Needs kind.Word ∷ Needs kind.Semicolon ∷ Sequence ∷ [])
trigger_move trigger.Refine = refl
trigger_move trigger.Erase = refl

ending_on : (fs : List Frame) (v : List Lexeme) → accepts (Ending ∷ fs) v ≡ accepts fs v
ending_on fs [] = refl
ending_on fs (x ∷ v) = refl

pub listed_head : (es : List Expr) (ys v : List Lexeme) → Spells (Listed es) ys → AfterDisjunction (head v) → AfterDisjunction (head (ys ++ v))
listed_head es ys v listed_none after_ = after_
listed_head es ys v (listed x comma first rest) after_ = after_closing x.kind (ap closes comma)

kind_otherwise : (x : Lexeme) (k : TokenKind) → x.kind ≡ k → skips Otherwise (Some k) ≡ true → skips Otherwise (Some x.kind) ≡ true
kind_otherwise x k is h = ap (λ (k : TokenKind). skips Otherwise (Some k)) is ∙ h

trigger_otherwise : (t : Trigger) → skips Otherwise (Some (trigger_kind t)) ≡ true
trigger_otherwise trigger.Refine = refl
trigger_otherwise trigger.Erase = refl

names_head : (n : Name) (xs v : List Lexeme) → Names xs n → skips Otherwise (head (xs ++ v)) ≡ true
names_head n xs v (plain x word) = kind_otherwise x kind.Word word refl
names_head n xs v (dotted x y z word dot other) = kind_otherwise x kind.Word word refl

-- no statement begins with else
one_head : (s : Statement) (w v : List Lexeme) → Spells (One s) w → skips Otherwise (head (w ++ v)) ≡ true
one_head s w v (assigns y z {xs = xs} {ys = ys} {n = n} names sign_ value close) =
    subst (λ (u : List Lexeme). skips Otherwise (head u) ≡ true) (sym (append_assoc (xs ++ y ∷ ys) (z ∷ []) v ∙ append_assoc xs (y ∷ ys) (z ∷ v))) (names_head n xs (y ∷ ys ++ z ∷ v) names)
one_head s w v (triggers t x y z is word close) = kind_otherwise x (trigger_kind t) is (trigger_otherwise t)
one_head s w v (prints x z is first rest close) = kind_otherwise x kind.Print is refl
one_head s w v (chooses x o y is condition open_ body close) = kind_otherwise x kind.If is refl
one_head s w v (chooses_else x o y e p z is condition open_ body close else_ open2 body2 close2) = kind_otherwise x kind.If is refl

pub all_head : (ss : Statements) (w v : List Lexeme) → Spells (All ss) w → skips Otherwise (head v) ≡ true → skips Otherwise (head (w ++ v)) ≡ true
all_head ss w v nothing h = h
all_head ss w v (then_more {xs = us} {ys = vs} {s = s} one rest) h = subst (λ (u : List Lexeme). skips Otherwise (head u) ≡ true) (sym (append_assoc us vs v)) (one_head s us (vs ++ v) one)

-- an expression and the token that closes it
closed_taken : (e : Expr) (ys : List Lexeme) (z : Lexeme) (v : List Lexeme) (k : TokenKind) (fs : List Frame) → Taken (Chained Disjunction e) ys → z.kind ≡ k → closes k ≡ true
    → accepts (expression ++ Needs k ∷ fs) (ys ++ z ∷ v) ≡ accepts fs v
closed_taken e ys z v k fs value is h = value (Needs k ∷ fs) (z ∷ v) (closing_head z v k is h) ∙ needs_on k fs z v is

-- the condition of an if and the statements behind it
block_taken : (e : Expr) (ss : Statements) (xs : List Lexeme) (o : Lexeme) (ys : List Lexeme) (y : Lexeme) (v : List Lexeme) (fs : List Frame) → Taken (Chained Disjunction e) xs → Taken (All ss) ys → o.kind ≡ kind.OpenCurly
    → y.kind ≡ kind.CloseCurly → accepts (expression ++ Block ∷ Otherwise ∷ Sequence ∷ fs) (xs ++ (o ∷ (ys ++ y ∷ v))) ≡ accepts (Otherwise ∷ Sequence ∷ fs) v
block_taken e ss xs o ys y v fs value body open_ close =
    value (Block ∷ Otherwise ∷ Sequence ∷ fs) (o ∷ (ys ++ y ∷ v)) (closing_head o (ys ++ y ∷ v) kind.OpenCurly open_ refl)
    ∙ takes_on Block (Sequence ∷ Needs kind.CloseCurly ∷ []) (Otherwise ∷ Sequence ∷ fs) o (ys ++ y ∷ v) kind.OpenCurly open_ refl
    ∙ body (Needs kind.CloseCurly ∷ Otherwise ∷ Sequence ∷ fs) (y ∷ v) (ap (λ (k : TokenKind). skips Otherwise (Some k)) close) (ap (λ (k : TokenKind). skips Sequence (Some k)) close)
    ∙ needs_on kind.CloseCurly (Otherwise ∷ Sequence ∷ fs) y v close

-- what is spelled is taken
taken : (p : Phrase) (w : List Lexeme) → Spells p w → Taken p w
taken p w (number x is) = λ fs v after_. takes_on Value [] fs x v kind.Number is refl
taken p w (name (plain x word)) = λ fs v after_. takes_on Value (Second ∷ []) fs x v kind.Word word refl ∙ skip_on Second fs v after_.second
taken p w (name (dotted x y z word dot other)) = λ fs v after_.
    takes_on Value (Second ∷ []) fs x (y ∷ z ∷ v) kind.Word word refl ∙ takes_on Second (Needs kind.Word ∷ []) fs y (z ∷ v) kind.Dot dot refl ∙ needs_on kind.Word fs z v other
taken p w (prefixed q x {xs = xs} {e = e} is d) = λ fs v after_.
    takes_on Value (Value ∷ Ending ∷ []) fs x (xs ++ v) (prefix_kind q) is (prefix_move q) ∙ taken (Operand e) xs d (Ending ∷ fs) v after_ ∙ ending_on fs v
taken p w (group x y {xs = xs} {e = e} open_ d close) = λ fs v after_.
    takes_on Value (expression ++ Needs kind.CloseRound ∷ []) fs x ((xs ++ y ∷ []) ++ v) kind.OpenRound open_ refl
    ∙ ap (accepts (expression ++ Needs kind.CloseRound ∷ fs)) (append_assoc xs (y ∷ []) v)
    ∙ closed_taken e xs y v kind.CloseRound fs (taken (Chained Disjunction e) xs d) close refl
taken p w (extreme c x o y z {xs = xs} {ys = ys} {a = a} {b = b} is open_ d comma f close) = λ fs v after_.
    takes_on Value (Pair ∷ []) fs x (o ∷ (((xs ++ y ∷ ys) ++ z ∷ []) ++ v)) (choice_kind c) is (choice_move c)
    ∙ takes_on Pair (expression ++ Needs kind.Comma ∷ expression ++ Needs kind.CloseRound ∷ []) fs o (((xs ++ y ∷ ys) ++ z ∷ []) ++ v) kind.OpenRound open_ refl
    ∙ ap (accepts (expression ++ Needs kind.Comma ∷ expression ++ Needs kind.CloseRound ∷ fs)) (append_assoc (xs ++ y ∷ ys) (z ∷ []) v ∙ append_assoc xs (y ∷ ys) (z ∷ v))
    ∙ closed_taken a xs y (ys ++ z ∷ v) kind.Comma (expression ++ Needs kind.CloseRound ∷ fs) (taken (Chained Disjunction a) xs d) comma refl
    ∙ closed_taken b ys z v kind.CloseRound fs (taken (Chained Disjunction b) ys f) close refl
taken p w (absolute x o y {xs = xs} {e = e} is open_ d close) = λ fs v after_.
    takes_on Value (Single ∷ []) fs x (o ∷ ((xs ++ y ∷ []) ++ v)) kind.Abs is refl
    ∙ takes_on Single (expression ++ Needs kind.CloseRound ∷ []) fs o ((xs ++ y ∷ []) ++ v) kind.OpenRound open_ refl
    ∙ ap (accepts (expression ++ Needs kind.CloseRound ∷ fs)) (append_assoc xs (y ∷ []) v)
    ∙ closed_taken e xs y v kind.CloseRound fs (taken (Chained Disjunction e) xs d) close refl
taken p w (single r {e = e} d) = λ fs v after_.
    ap (λ (g : List Frame). accepts g (w ++ v)) (append_assoc (operand_frames r) (Links r 1 ∷ []) fs)
    ∙ operand_taken r e w (taken (operand_of r e) w d) (Links r 1 ∷ fs) v (inside_of r (head v) after_)
    ∙ skip_on (Links r 1) fs v (links_of r (head v) 1 after_)
taken p w (chain r {xs = xs} {ys = ys} e {link = l} {links = ls} d f) = λ fs v after_.
    ap (λ (g : List Frame). accepts g ((xs ++ ys) ++ v)) (append_assoc (operand_frames r) (Links r 1 ∷ []) fs)
    ∙ ap (accepts (operand_frames r ++ Links r 1 ∷ fs)) (append_assoc xs ys v)
    ∙ operand_taken r e xs (taken (operand_of r e) xs d) (Links r 1 ∷ fs) (ys ++ v) (linked_head r (l ∷ ls) ys v f after_)
    ∙ taken (Linked r (l ∷ ls)) ys f 1 fs v after_
taken p w (linked_none r) = λ n fs v after_. skip_on (Links r n) fs v (links_of r (head v) n after_)
taken p w (linked r x s {xs = xs} {ys = ys} {e = e} {links = ls} is rank may d f) = λ n fs v after_.
    takes_on (Links r n) (operand_frames r ++ more_links r n) fs x ((xs ++ ys) ++ v) x.kind refl (link_takes_on r s x.kind n is rank)
    ∙ ap (λ (g : List Frame). accepts g ((xs ++ ys) ++ v)) (append_assoc (operand_frames r) (more_links r n) fs)
    ∙ ap (accepts (operand_frames r ++ (more_links r n ++ fs))) (append_assoc xs ys v)
    ∙ operand_taken r e xs (taken (operand_of r e) xs d) (more_links r n ++ fs) (ys ++ v) (linked_head r ls ys v f after_)
    ∙ more_taken r ls ys may f (taken (Linked r ls) ys f) n fs v after_
taken p w listed_none = λ n fs v after_ comma. skip_on (Values n) fs v (comma n)
taken p w (listed x {xs = xs} {ys = ys} {e = e} {es = es} is d f) = λ n fs v after_ comma.
    takes_on (Values n) (expression ++ Values (n + 1) ∷ []) fs x ((xs ++ ys) ++ v) kind.Comma is refl
    ∙ ap (accepts (expression ++ Values (n + 1) ∷ fs)) (append_assoc xs ys v)
    ∙ taken (Chained Disjunction e) xs d (Values (n + 1) ∷ fs) (ys ++ v) (listed_head es ys v f after_)
    ∙ taken (Listed es) ys f (n + 1) fs v after_ comma
taken p w (assigns y z {ys = ys} {e = e} (plain x word) sign_ d close) = λ fs v otherwise.
    takes_on Sequence (Second ∷ Needs kind.Assign ∷ expression ++ Needs kind.Semicolon ∷ Sequence ∷ []) fs x (y ∷ ((ys ++ z ∷ []) ++ v)) kind.Word word refl
    ∙ skip_on Second (Needs kind.Assign ∷ expression ++ Needs kind.Semicolon ∷ Sequence ∷ fs) (y ∷ ((ys ++ z ∷ []) ++ v)) (ap (λ (k : TokenKind). skips Second (Some k)) sign_)
    ∙ needs_on kind.Assign (expression ++ Needs kind.Semicolon ∷ Sequence ∷ fs) y ((ys ++ z ∷ []) ++ v) sign_
    ∙ ap (accepts (expression ++ Needs kind.Semicolon ∷ Sequence ∷ fs)) (append_assoc ys (z ∷ []) v)
    ∙ closed_taken e ys z v kind.Semicolon (Sequence ∷ fs) (taken (Chained Disjunction e) ys d) close refl
taken p w (assigns y z {ys = ys} {e = e} (dotted x a b word dot other) sign_ d close) = λ fs v otherwise.
    takes_on Sequence (Second ∷ Needs kind.Assign ∷ expression ++ Needs kind.Semicolon ∷ Sequence ∷ []) fs x (a ∷ b ∷ y ∷ ((ys ++ z ∷ []) ++ v)) kind.Word word refl
    ∙ takes_on Second (Needs kind.Word ∷ []) (Needs kind.Assign ∷ expression ++ Needs kind.Semicolon ∷ Sequence ∷ fs) a (b ∷ y ∷ ((ys ++ z ∷ []) ++ v)) kind.Dot dot refl
    ∙ needs_on kind.Word (Needs kind.Assign ∷ expression ++ Needs kind.Semicolon ∷ Sequence ∷ fs) b (y ∷ ((ys ++ z ∷ []) ++ v)) other
    ∙ needs_on kind.Assign (expression ++ Needs kind.Semicolon ∷ Sequence ∷ fs) y ((ys ++ z ∷ []) ++ v) sign_
    ∙ ap (accepts (expression ++ Needs kind.Semicolon ∷ Sequence ∷ fs)) (append_assoc ys (z ∷ []) v)
    ∙ closed_taken e ys z v kind.Semicolon (Sequence ∷ fs) (taken (Chained Disjunction e) ys d) close refl
taken p w (triggers t x y z is word close) = λ fs v otherwise.
    takes_on Sequence (Needs kind.Word ∷ Needs kind.Semicolon ∷ Sequence ∷ []) fs x (y ∷ z ∷ v) (trigger_kind t) is (trigger_move t)
    ∙ needs_on kind.Word (Needs kind.Semicolon ∷ Sequence ∷ fs) y (z ∷ v) word ∙ needs_on kind.Semicolon (Sequence ∷ fs) z v close
taken p w (prints x z {xs = xs} {ys = ys} {e = e} {es = es} is d f close) = λ fs v otherwise.
    takes_on Sequence (expression ++ Values 1 ∷ Needs kind.Semicolon ∷ Sequence ∷ []) fs x (((xs ++ ys) ++ z ∷ []) ++ v) kind.Print is refl
    ∙ ap (accepts (expression ++ Values 1 ∷ Needs kind.Semicolon ∷ Sequence ∷ fs)) (append_assoc (xs ++ ys) (z ∷ []) v ∙ append_assoc xs ys (z ∷ v))
    ∙ taken (Chained Disjunction e) xs d (Values 1 ∷ Needs kind.Semicolon ∷ Sequence ∷ fs) (ys ++ z ∷ v) (listed_head es ys (z ∷ v) f (closing_head z v kind.Semicolon close refl))
    ∙ taken (Listed es) ys f 1 (Needs kind.Semicolon ∷ Sequence ∷ fs) (z ∷ v) (closing_head z v kind.Semicolon close refl) (λ m. ap (λ (k : TokenKind). skips (Values m) (Some k)) close)
    ∙ needs_on kind.Semicolon (Sequence ∷ fs) z v close
taken p w (chooses x o y {xs = xs} {ys = ys} {e = e} {ss = ss} is d open_ f close) = λ fs v otherwise.
    takes_on Sequence (expression ++ Block ∷ Otherwise ∷ Sequence ∷ []) fs x (((xs ++ o ∷ ys) ++ y ∷ []) ++ v) kind.If is refl
    ∙ ap (accepts (expression ++ Block ∷ Otherwise ∷ Sequence ∷ fs)) (append_assoc (xs ++ o ∷ ys) (y ∷ []) v ∙ append_assoc xs (o ∷ ys) (y ∷ v))
    ∙ block_taken e ss xs o ys y v fs (taken (Chained Disjunction e) xs d) (taken (All ss) ys f) open_ close
    ∙ skip_on Otherwise (Sequence ∷ fs) v otherwise
taken p w (chooses_else x o y i q z {xs = xs} {ys = ys} {zs = zs} {e = e} {ss = ss} {ts = ts} is d open_ f close else_ open2 g close2) = λ fs v otherwise.
    takes_on Sequence (expression ++ Block ∷ Otherwise ∷ Sequence ∷ []) fs x ((((xs ++ o ∷ ys) ++ y ∷ i ∷ q ∷ zs) ++ z ∷ []) ++ v) kind.If is refl
    ∙ ap (accepts (expression ++ Block ∷ Otherwise ∷ Sequence ∷ fs)) (append_assoc ((xs ++ o ∷ ys) ++ y ∷ i ∷ q ∷ zs) (z ∷ []) v ∙ append_assoc (xs ++ o ∷ ys) (y ∷ i ∷ q ∷ zs) (z ∷ v) ∙ append_assoc xs (o ∷ ys) (y ∷ i ∷ q ∷ zs ++ z ∷ v))
    ∙ block_taken e ss xs o ys y (i ∷ q ∷ zs ++ z ∷ v) fs (taken (Chained Disjunction e) xs d) (taken (All ss) ys f) open_ close
    ∙ takes_on Otherwise (Block ∷ []) (Sequence ∷ fs) i (q ∷ zs ++ z ∷ v) kind.Else else_ refl
    ∙ takes_on Block (Sequence ∷ Needs kind.CloseCurly ∷ []) (Sequence ∷ fs) q (zs ++ z ∷ v) kind.OpenCurly open2 refl
    ∙ taken (All ts) zs g (Needs kind.CloseCurly ∷ Sequence ∷ fs) (z ∷ v) (ap (λ (k : TokenKind). skips Otherwise (Some k)) close2) (ap (λ (k : TokenKind). skips Sequence (Some k)) close2)
    ∙ needs_on kind.CloseCurly (Sequence ∷ fs) z v close2
taken p w nothing = λ fs v otherwise none_. skip_on Sequence fs v none_
taken p w (then_more {xs = xs} {ys = ys} {s = s} {ss = ss} d f) = λ fs v otherwise none_.
    ap (accepts (Sequence ∷ fs)) (append_assoc xs ys v) ∙ taken (One s) xs d fs (ys ++ v) (all_head ss ys v f otherwise) ∙ taken (All ss) ys f fs v otherwise none_

-- Each body that is spelled is accepted.
pub body_accepted : (ss : Statements) (w : List Lexeme) → Spells (All ss) w → accepts (Sequence ∷ []) w ≡ true
body_accepted ss w d = ap (accepts (Sequence ∷ [])) (sym (append-nil w)) ∙ taken (All ss) w d [] [] refl refl
