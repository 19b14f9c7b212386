-- What tokens spell, they spell without offsets too.
use Rattle.std.proofs.Common.{◌≡◌, pos, List, [], ◌∷◌, ◌++◌, map, sym, ap, subst}
use Rattle.std.proofs.lemmas.List.{map-append}
use Rattle.pe_parse.specs.declared.rank.Rank.{Rank}
use Rattle.pe_parse.specs.declared.rank.Rank.TheVariants.{Disjunction, Conjunction, Comparison, Sum, Product}
use Rattle.pe_parse.specs.declared.tree.Sign.{Sign}
use Rattle.pe_parse.specs.declared.tree.Name.{Name}
use Rattle.pe_parse.specs.declared.tree.Expr.{Expr}
use Rattle.pe_parse.specs.declared.tree.Expr.TheVariants as expr
use Rattle.pe_parse.specs.Lexemes.{Lexeme, value_of}
use Rattle.pe_parse.specs.Grammar.{Phrase, Chained, Operand, Linked, Listed, One, All, Names, plain, dotted, Spells, number, name, prefixed, group, extreme, absolute, single, chain, linked_none, linked, listed_none, listed, assigns, triggers, prints, chooses, chooses_else, nothing, then_more, MayFollow, operand_of}
use Rattle.pe_parse.specs.Printed.{unplaced_step, unplaced_expr, unplaced_statement, unplaced}
use Rattle.pe_parse.proofs.Layers.{of_number, of_name, of_unary, of_chain, of_extreme, of_abs}

-- a token without its offset
abbrev pub bare : Lexeme → Lexeme
bare x = record x { at = 0 }

abbrev pub unplaced_links : List (Sign × Expr) → List (Sign × Expr)
unplaced_links links = map (λ (link : Sign × Expr). (link.0, unplaced_expr link.1)) links

abbrev pub unplaced_phrase : Phrase → Phrase
unplaced_phrase (Chained r e) = Chained r (unplaced_expr e)
unplaced_phrase (Operand e) = Operand (unplaced_expr e)
unplaced_phrase (Linked r links) = Linked r (unplaced_links links)
unplaced_phrase (Listed es) = Listed (map unplaced_expr es)
unplaced_phrase (One s) = One (unplaced_statement s)
unplaced_phrase (All ss) = All (unplaced ss)

pub may_follow : (r : Rank) (links : List (Sign × Expr)) → MayFollow r links → MayFollow r (unplaced_links links)
may_follow Comparison links may = ap unplaced_links may
may_follow Disjunction links may = tt
may_follow Conjunction links may = tt
may_follow Sum links may = tt
may_follow Product links may = tt

bare_names : (n : Name) (xs : List Lexeme) → Names xs n → Names (map bare xs) (record n { at = 0 })
bare_names n xs (plain x word) = plain (bare x) word
bare_names n xs (dotted x y z word dot other) = dotted (bare x) (bare y) (bare z) word dot other

-- an operand of a rank
operand_bare : (r : Rank) (e : Expr) (w : List Lexeme) → Spells (unplaced_phrase (operand_of r e)) w → Spells (operand_of r (unplaced_expr e)) w
operand_bare Product e w d = d
operand_bare Sum e w d = d
operand_bare Comparison e w d = d
operand_bare Conjunction e w d = d
operand_bare Disjunction e w d = d

-- an expression, where its tree is known
as_operand : (e t : Expr) (w : List Lexeme) → unplaced_expr e ≡ t → Spells (Operand t) w → Spells (Operand (unplaced_expr e)) w
as_operand e t w is d = subst (λ (t : Expr). Spells (Operand t) w) (sym is) d

joined : (p : Phrase) (xs ys : List Lexeme) → Spells p (map bare xs ++ map bare ys) → Spells p (map bare (xs ++ ys))
joined p xs ys d = subst (Spells p) (sym (map-append bare xs ys)) d

-- What is spelled is spelled without offsets.
pub bare_spelled : (p : Phrase) (w : List Lexeme) → Spells p w → Spells (unplaced_phrase p) (map bare w)
bare_spelled p w (number x is) = as_operand _ _ (bare x ∷ []) (of_number Expr unplaced_step (pos (value_of x.bytes))) (number (bare x) is)
bare_spelled p w (name {n = n} names) = as_operand _ _ (map bare w) (of_name Expr unplaced_step n) (name (bare_names n w names))
bare_spelled p w (prefixed q x {xs = xs} {e = e} is d) = as_operand _ _ (map bare w) (of_unary Expr unplaced_step q e) (prefixed q (bare x) is (bare_spelled (Operand e) xs d))
bare_spelled p w (group x y {xs = xs} {e = e} open_ d close) = joined _ (x ∷ xs) (y ∷ []) (group (bare x) (bare y) open_ (bare_spelled (Chained Disjunction e) xs d) close)
bare_spelled p w (extreme c x o y z {xs = xs} {ys = ys} {a = a} {b = b} is open_ d comma f close) =
    as_operand _ _ (map bare w) (of_extreme Expr unplaced_step c a b)
    (joined _ (x ∷ o ∷ xs ++ y ∷ ys) (z ∷ [])
    (subst (λ (w : List Lexeme). Spells (Operand (expr.Extreme c (unplaced_expr a) (unplaced_expr b))) (w ++ bare z ∷ [])) (sym (map-append bare (x ∷ o ∷ xs) (y ∷ ys)))
    (extreme c (bare x) (bare o) (bare y) (bare z) is open_ (bare_spelled (Chained Disjunction a) xs d) comma (bare_spelled (Chained Disjunction b) ys f) close)))
bare_spelled p w (absolute x o y {xs = xs} {e = e} is open_ d close) =
    as_operand _ _ (map bare w) (of_abs Expr unplaced_step e) (joined _ (x ∷ o ∷ xs) (y ∷ []) (absolute (bare x) (bare o) (bare y) is open_ (bare_spelled (Chained Disjunction e) xs d) close))
bare_spelled p w (single r {e = e} d) = single r (operand_bare r e (map bare w) (bare_spelled (operand_of r e) w d))
bare_spelled p w (chain r {xs = xs} {ys = ys} e {link = l} {links = ls} d f) =
    subst (λ (t : Expr). Spells (Chained r t) (map bare (xs ++ ys))) (sym (of_chain Expr unplaced_step e (l ∷ ls)))
    (joined _ xs ys (chain r (unplaced_expr e) (operand_bare r e (map bare xs) (bare_spelled (operand_of r e) xs d)) (bare_spelled (Linked r (l ∷ ls)) ys f)))
bare_spelled p w (linked_none r) = linked_none r
bare_spelled p w (linked r x s {xs = xs} {ys = ys} {e = e} {links = ls} is rank may d f) =
    joined _ (x ∷ xs) ys (linked r (bare x) s is rank (may_follow r ls may) (operand_bare r e (map bare xs) (bare_spelled (operand_of r e) xs d)) (bare_spelled (Linked r ls) ys f))
bare_spelled p w listed_none = listed_none
bare_spelled p w (listed x {xs = xs} {ys = ys} {e = e} {es = es} is d f) = joined _ (x ∷ xs) ys (listed (bare x) is (bare_spelled (Chained Disjunction e) xs d) (bare_spelled (Listed es) ys f))
bare_spelled p w (assigns y z {xs = xs} {ys = ys} {n = n} {e = e} names sign_ d close) =
    joined _ (xs ++ y ∷ ys) (z ∷ [])
    (subst (λ (w : List Lexeme). Spells (unplaced_phrase p) (w ++ bare z ∷ [])) (sym (map-append bare xs (y ∷ ys)))
    (assigns (bare y) (bare z) (bare_names n xs names) sign_ (bare_spelled (Chained Disjunction e) ys d) close))
bare_spelled p w (triggers t x y z is word close) = triggers t (bare x) (bare y) (bare z) is word close
bare_spelled p w (prints x z {xs = xs} {ys = ys} {e = e} {es = es} is d f close) =
    joined _ (x ∷ xs ++ ys) (z ∷ [])
    (subst (λ (w : List Lexeme). Spells (unplaced_phrase p) (w ++ bare z ∷ [])) (sym (map-append bare (x ∷ xs) ys))
    (prints (bare x) (bare z) is (bare_spelled (Chained Disjunction e) xs d) (bare_spelled (Listed es) ys f) close))
bare_spelled p w (chooses x o y {xs = xs} {ys = ys} {e = e} {ss = ss} is d open_ f close) =
    joined _ (x ∷ xs ++ o ∷ ys) (y ∷ [])
    (subst (λ (w : List Lexeme). Spells (unplaced_phrase p) (w ++ bare y ∷ [])) (sym (map-append bare (x ∷ xs) (o ∷ ys)))
    (chooses (bare x) (bare o) (bare y) is (bare_spelled (Chained Disjunction e) xs d) open_ (bare_spelled (All ss) ys f) close))
bare_spelled p w (chooses_else x o y i q z {xs = xs} {ys = ys} {zs = zs} {e = e} {ss = ss} {ts = ts} is d open_ f close else_ open2 g close2) =
    joined _ ((x ∷ xs ++ o ∷ ys) ++ y ∷ i ∷ q ∷ zs) (z ∷ [])
    (subst (λ (w : List Lexeme). Spells (unplaced_phrase p) (w ++ bare z ∷ [])) (sym (map-append bare (x ∷ xs ++ o ∷ ys) (y ∷ i ∷ q ∷ zs)))
    (subst (λ (w : List Lexeme). Spells (unplaced_phrase p) ((w ++ bare y ∷ bare i ∷ bare q ∷ map bare zs) ++ bare z ∷ [])) (sym (map-append bare (x ∷ xs) (o ∷ ys)))
    (chooses_else (bare x) (bare o) (bare y) (bare i) (bare q) (bare z) is (bare_spelled (Chained Disjunction e) xs d) open_ (bare_spelled (All ss) ys f) close else_ open2 (bare_spelled (All ts) zs g) close2)))
bare_spelled p w nothing = nothing
bare_spelled p w (then_more {xs = xs} {ys = ys} {s = s} {ss = ss} d f) = joined _ xs ys (then_more (bare_spelled (One s) xs d) (bare_spelled (All ss) ys f))
