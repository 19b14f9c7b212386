use Rattle.std.proofs.Common.{◌≡◌, ◌<◌, ◌++◌, ◌∷◌, [], ℕ, List, Ok, None, length, subst, sym, refl, ◌∙◌, rules, arith}
use Rattle.std.proofs.lemmas.Grind.{common_steps}
use Rattle.pe_parse.specs.declared.fault.ParseFault.TheVariants.{Syntax, TooDeep, TooMany}
use Rattle.pe_parse.specs.declared.rank.Rank.TheVariants.{Comparison}
use Rattle.pe_parse.specs.declared.tree.Sign.{Sign}
use Rattle.pe_parse.specs.declared.tree.Expr.{Expr}
use Rattle.pe_parse.specs.declared.tree.Expr.TheVariants as expr
use Rattle.pe_parse.specs.Grammar.{Chained, Operand}
use Rattle.pe_parse.specs.Frames.{Value, chain_frames}
use Rattle.pe_parse.specs.Reading.{seen, size_of, ReadsAs, Stopped, sign_at}
use Rattle.pe_parse.proofs.Operands.{closed_read, closed_stop, closed_missing, group_deep, prefixed_read, prefixed_stop, prefixed_deep, extreme_read, extreme_bare, extreme_deep, extreme_first, extreme_second, absolute_bare, absolute_deep, absolute_stop, absolute_read, operand_none, operand_end, group_answer}
use Rattle.pe_parse.proofs.Chains.{Linking, first_read, first_stop, link_read, link_stop, link_many, single_read, chain_read, comparison_bare, comparison_stop, comparison_read}
use Rattle.pe_parse.proofs.reader.Reader.+expr.Goals as goal

no_links : (ls : List (Sign × Expr)) → length ls ≡ 0 → ls ≡ []
no_links [] h = refl
no_links (l ∷ ls) h = absurd (omega arith)

pub absolute-returns-in-Err : goal.absolute-returns-in-Err
absolute-returns-in-Err t c =
    absolute_bare (size_of c.args.self.now) (seen c.args.self.now) c.args.at c.args.depth c.in-Err.fault c.requires.shallow c.requires.kind c.in-Err.ensures

pub absolute-returns-then-depth-ge-DEEPEST : goal.absolute-returns-then-depth-ge-DEEPEST
absolute-returns-then-depth-ge-DEEPEST t c =
    subst (λ (n : ℕ). Stopped (size_of c.args.self.now) (seen c.args.self.now) (Value ∷ []) c.args.depth c.args.at (TooDeep n)) (sym c.offset.ensures)
    (absolute_deep (size_of c.args.self.now) (seen c.args.self.now) c.args.at c.in-Ok.inside c.args.depth c.requires.shallow c.if-depth-ge-DEEPEST.true c.requires.kind c.in-Ok.ensures)

pub absolute-closed-requires : goal.absolute-closed-requires
absolute-closed-requires t c =
    (search rules, (c.requires.tokens, (omega arith, λ _. refl)))

pub absolute-returns-in-Err-closed : goal.absolute-returns-in-Err-closed
absolute-returns-in-Err-closed t c =
    absolute_stop (size_of c.args.self.now) (seen c.args.self.now) c.args.at c.in-Ok.inside c.args.depth c.in-Err-closed.fault c.if-depth-ge-DEEPEST.false c.requires.kind c.in-Ok.ensures c.in-Err-closed.ensures

pub absolute-returns-in-Ok-boxed : goal.absolute-returns-in-Ok-boxed
absolute-returns-in-Ok-boxed t c =
    subst (λ (e : Expr). ReadsAs Operand (size_of c.args.self.now) (seen c.args.self.now) (Value ∷ []) c.args.depth c.args.at (Ok (expr.Abs e, c.in-Ok-closed.found.1))) (sym c.in-Ok-boxed.ensures)
    (absolute_read (size_of c.args.self.now) (seen c.args.self.now) c.args.at c.in-Ok.inside c.in-Ok-closed.found.1 c.args.depth c.in-Ok-closed.found.0 c.if-depth-ge-DEEPEST.false c.requires.kind c.in-Ok.ensures c.in-Ok-closed.ensures)

pub chain-loop-sign-init : goal.chain-loop-sign-init
chain-loop-sign-init t c =
    subst (λ (ls : List (Sign × Expr)). Linking (size_of c.args.self.now) (seen c.args.self.now) c.args.rank c.args.depth c.args.at c.in-Ok.found.1 c.in-Ok.found.0 ls) (sym c.new-links.ensures.items)
    (first_read (size_of c.args.self.now) (seen c.args.self.now) c.args.rank c.args.depth c.args.at c.requires.shallow c.in-Ok.found.1 c.in-Ok.found.0 c.in-Ok.ensures)

pub chain-returns-in-Err : goal.chain-returns-in-Err
chain-returns-in-Err t c =
    first_stop (size_of c.args.self.now) (seen c.args.self.now) c.args.rank c.args.depth c.args.at c.requires.shallow c.in-Err.fault c.in-Err.ensures

pub chain-returns-then-len-ge-MOST_LINKS : goal.chain-returns-then-len-ge-MOST_LINKS
chain-returns-then-len-ge-MOST_LINKS t c =
    subst (λ (n : ℕ). Stopped (size_of c.args.self.now) (seen c.args.self.now) (chain_frames c.args.rank) c.args.depth c.args.at (TooMany n)) (sym c.offset.ensures)
    (link_many (size_of c.args.self.now) (seen c.args.self.now) c.args.rank c.args.depth c.args.at c.requires.shallow c.requires.many c.loop-sign.next c.loop-sign.first-1 c.loop-sign.links.items c.loop-sign.invariant c.in-Some.sign (omega (arith, c.len.ensures)) (sym c.sign.ensures ∙ c.in-Some.is))

pub chain-returns-in-Err-tighter : goal.chain-returns-in-Err-tighter
chain-returns-in-Err-tighter t c =
    link_stop (size_of c.args.self.now) (seen c.args.self.now) c.args.rank c.args.depth c.args.at c.requires.shallow c.requires.many c.loop-sign.next c.loop-sign.first-1 c.loop-sign.links.items c.loop-sign.invariant c.in-Some.sign c.in-Err-tighter.fault (omega (arith, c.len.ensures)) (sym c.sign.ensures ∙ c.in-Some.is) c.in-Err-tighter.ensures

pub chain-loop-sign-preserved : goal.chain-loop-sign-preserved
chain-loop-sign-preserved t c =
    let pushed : c.push.new.self.items ≡ c.loop-sign.links.items ++ (c.in-Some.sign, c.in-Ok-tighter.found.0) ∷ [] = grind (arith, common_steps) in
    subst (λ (ls : List (Sign × Expr)). Linking (size_of c.args.self.now) (seen c.args.self.now) c.args.rank c.args.depth c.args.at c.in-Ok-tighter.found.1 c.loop-sign.first-1 ls) (sym pushed)
    (link_read (size_of c.args.self.now) (seen c.args.self.now) c.args.rank c.args.depth c.args.at c.requires.shallow c.requires.many c.loop-sign.next c.loop-sign.first-1 c.loop-sign.links.items c.loop-sign.invariant c.in-Some.sign c.in-Ok-tighter.found.1 c.in-Ok-tighter.found.0 (omega (arith, c.len.ensures)) (sym c.sign.ensures ∙ c.in-Some.is) c.in-Ok-tighter.ensures)

pub chain-returns-then-is_empty : goal.chain-returns-then-is_empty
chain-returns-then-is_empty t c =
    let none_ : sign_at c.args.rank (seen c.args.self.now) c.loop-sign.next ≡ None = sym c.in_default.ensures in
    single_read (size_of c.args.self.now) (seen c.args.self.now) c.args.rank c.args.depth c.args.at c.requires.shallow c.requires.many c.loop-sign.next c.loop-sign.first-1 c.loop-sign.links.items c.loop-sign.invariant (no_links c.loop-sign.links.items (grind (arith, common_steps))) none_

pub chain-returns-in-Ok-boxed : goal.chain-returns-in-Ok-boxed
chain-returns-in-Ok-boxed t c =
    let none_ : sign_at c.args.rank (seen c.args.self.now) c.loop-sign.next ≡ None = sym c.in_default.ensures in
    let some : 0 < length c.loop-sign.links.items = grind (arith, common_steps) in
    let whole = chain_read (size_of c.args.self.now) (seen c.args.self.now) c.args.rank c.args.depth c.args.at c.requires.shallow c.requires.many c.loop-sign.next c.loop-sign.first-1 c.loop-sign.links.items c.loop-sign.invariant some none_ in
    subst (λ (e : Expr). ReadsAs (Chained c.args.rank) (size_of c.args.self.now) (seen c.args.self.now) (chain_frames c.args.rank) c.args.depth c.args.at (Ok (expr.Chain e c.new.result, c.loop-sign.next))) (sym c.in-Ok-boxed.ensures)
    (subst (λ (ls : List (Sign × Expr)). ReadsAs (Chained c.args.rank) (size_of c.args.self.now) (seen c.args.self.now) (chain_frames c.args.rank) c.args.depth c.args.at (Ok (expr.Chain c.loop-sign.first-1 ls, c.loop-sign.next))) (sym c.new.ensures) whole)

pub closed-returns-in-Ok-needs : goal.closed-returns-in-Ok-needs
closed-returns-in-Ok-needs t c =
    closed_read (size_of c.args.self.now) (seen c.args.self.now) c.args.closing c.args.at c.in-Ok.found.1 c.in-Ok-needs.next c.args.depth c.in-Ok.found.0 c.requires.shallow c.requires.closes c.in-Ok.ensures c.in-Ok-needs.ensures

pub closed-returns-in-Err : goal.closed-returns-in-Err
closed-returns-in-Err t c =
    closed_stop (size_of c.args.self.now) (seen c.args.self.now) c.args.closing c.args.at c.args.depth c.in-Err.fault c.requires.shallow c.in-Err.ensures

pub closed-returns-in-Err-needs : goal.closed-returns-in-Err-needs
closed-returns-in-Err-needs t c =
    closed_missing (size_of c.args.self.now) (seen c.args.self.now) c.args.closing c.args.at c.in-Ok.found.1 c.args.depth c.in-Ok.found.0 c.in-Err-needs.fault c.requires.shallow c.in-Ok.ensures c.in-Err-needs.ensures

pub comparison-returns-in_default : goal.comparison-returns-in_default
comparison-returns-in_default t c =
    let none_ : sign_at Comparison (seen c.args.self.now) c.in-Ok.found.1 ≡ None = sym c.in_default.ensures in
    comparison_bare (size_of c.args.self.now) (seen c.args.self.now) c.args.depth c.args.at c.in-Ok.found.1 c.in-Ok.found.0 c.requires.shallow c.in-Ok.ensures none_

pub comparison-returns-in-Err-chain : goal.comparison-returns-in-Err-chain
comparison-returns-in-Err-chain t c =
    comparison_stop (size_of c.args.self.now) (seen c.args.self.now) c.args.depth c.args.at c.in-Ok.found.1 c.in-Ok.found.0 c.requires.shallow c.in-Ok.ensures c.in-Some.sign (sym c.sign.ensures ∙ c.in-Some.is) c.in-Err-chain.fault c.in-Err-chain.ensures

pub comparison-returns-in-Ok-boxed : goal.comparison-returns-in-Ok-boxed
comparison-returns-in-Ok-boxed t c =
    let whole = comparison_read (size_of c.args.self.now) (seen c.args.self.now) c.args.depth c.args.at c.in-Ok.found.1 c.in-Ok.found.0 c.requires.shallow c.in-Ok.ensures c.in-Some.sign (sym c.sign.ensures ∙ c.in-Some.is) c.in-Ok-chain.found.1 c.in-Ok-chain.found.0 c.in-Ok-chain.ensures in
    let pushed : c.push.new.self.items ≡ (c.in-Some.sign, c.in-Ok-chain.found.0) ∷ [] = grind (arith, common_steps) in
    subst (λ (e : Expr). ReadsAs (Chained Comparison) (size_of c.args.self.now) (seen c.args.self.now) (chain_frames Comparison) c.args.depth c.args.at (Ok (expr.Chain e c.new.result, c.in-Ok-chain.found.1))) (sym c.in-Ok-boxed.ensures)
    (subst (λ (ls : List (Sign × Expr)). ReadsAs (Chained Comparison) (size_of c.args.self.now) (seen c.args.self.now) (chain_frames Comparison) c.args.depth c.args.at (Ok (expr.Chain c.in-Ok.found.0 ls, c.in-Ok-chain.found.1))) (sym (c.new.ensures ∙ pushed)) whole)

pub extreme-returns-in-Err : goal.extreme-returns-in-Err
extreme-returns-in-Err t c =
    extreme_bare (size_of c.args.self.now) (seen c.args.self.now) c.args.choice c.args.at c.args.depth c.in-Err.fault c.requires.shallow c.requires.kind c.in-Err.ensures

pub extreme-returns-then-depth-ge-DEEPEST : goal.extreme-returns-then-depth-ge-DEEPEST
extreme-returns-then-depth-ge-DEEPEST t c =
    subst (λ (n : ℕ). Stopped (size_of c.args.self.now) (seen c.args.self.now) (Value ∷ []) c.args.depth c.args.at (TooDeep n)) (sym c.offset.ensures)
    (extreme_deep (size_of c.args.self.now) (seen c.args.self.now) c.args.choice c.args.at c.in-Ok.inside c.args.depth c.requires.shallow c.if-depth-ge-DEEPEST.true c.requires.kind c.in-Ok.ensures)

pub extreme-closed-requires : goal.extreme-closed-requires
extreme-closed-requires t c =
    (search rules, (c.requires.tokens, (omega arith, λ _. refl)))

pub extreme-returns-in-Err-closed : goal.extreme-returns-in-Err-closed
extreme-returns-in-Err-closed t c =
    extreme_first (size_of c.args.self.now) (seen c.args.self.now) c.args.choice c.args.at c.in-Ok.inside c.args.depth c.in-Err-closed.fault c.if-depth-ge-DEEPEST.false c.requires.kind c.in-Ok.ensures c.in-Err-closed.ensures

pub extreme-closed-requires-2 : goal.extreme-closed-requires-2
extreme-closed-requires-2 t c =
    (search rules, (c.requires.tokens, (omega arith, λ _. refl)))

pub extreme-returns-in-Err-closed-2 : goal.extreme-returns-in-Err-closed-2
extreme-returns-in-Err-closed-2 t c =
    extreme_second (size_of c.args.self.now) (seen c.args.self.now) c.args.choice c.args.at c.in-Ok.inside c.in-Ok-closed.found.1 c.args.depth c.in-Ok-closed.found.0 c.in-Err-closed-2.fault c.if-depth-ge-DEEPEST.false c.requires.kind c.in-Ok.ensures c.in-Ok-closed.ensures c.in-Err-closed-2.ensures

pub extreme-returns-in-Ok-Ok : goal.extreme-returns-in-Ok-Ok
extreme-returns-in-Ok-Ok t c =
    subst (λ (a : Expr). ReadsAs Operand (size_of c.args.self.now) (seen c.args.self.now) (Value ∷ []) c.args.depth c.args.at (Ok (expr.Extreme c.args.choice a c.in-Ok-Ok.second, c.in-Ok-closed-2.found.1))) (sym c.in-Ok-Ok.ensures)
    (subst (λ (b : Expr). ReadsAs Operand (size_of c.args.self.now) (seen c.args.self.now) (Value ∷ []) c.args.depth c.args.at (Ok (expr.Extreme c.args.choice c.in-Ok-closed.found.0 b, c.in-Ok-closed-2.found.1))) (sym c.in-Ok-Ok.ensures')
    (extreme_read (size_of c.args.self.now) (seen c.args.self.now) c.args.choice c.args.at c.in-Ok.inside c.in-Ok-closed.found.1 c.in-Ok-closed-2.found.1 c.args.depth c.in-Ok-closed.found.0 c.in-Ok-closed-2.found.0 c.if-depth-ge-DEEPEST.false c.requires.kind c.in-Ok.ensures c.in-Ok-closed.ensures c.in-Ok-closed-2.ensures))

pub group-returns-then-depth-ge-DEEPEST : goal.group-returns-then-depth-ge-DEEPEST
group-returns-then-depth-ge-DEEPEST t c =
    subst (λ (n : ℕ). Stopped (size_of c.args.self.now) (seen c.args.self.now) (Value ∷ []) c.args.depth c.args.at (TooDeep n)) (sym c.offset.ensures)
    (group_deep (size_of c.args.self.now) (seen c.args.self.now) c.args.at c.args.depth c.if-depth-ge-DEEPEST.true c.requires.kind)

pub group-closed-requires : goal.group-closed-requires
group-closed-requires t c =
    (search rules, (c.requires.tokens, (omega arith, λ _. refl)))

pub group-returns : goal.group-returns
group-returns t c =
    group_answer (size_of c.args.self.now) (seen c.args.self.now) c.args.at c.args.depth c.closed.result c.if-depth-ge-DEEPEST.false c.requires.kind c.closed.ensures

pub operand-returns-in_default : goal.operand-returns-in_default
operand-returns-in_default t c =
    subst (λ (n : ℕ). Stopped (size_of c.args.self.now) (seen c.args.self.now) (Value ∷ []) c.args.depth c.args.at (Syntax n)) (sym c.offset.ensures)
    (operand_end (size_of c.args.self.now) (seen c.args.self.now) c.args.at c.args.depth (sym c.in_default.ensures))

pub operand-returns-in_default-kind : goal.operand-returns-in_default-kind
operand-returns-in_default-kind t c =
    let o = c.in_default-kind in
    subst (λ (n : ℕ). Stopped (size_of c.args.self.now) (seen c.args.self.now) (Value ∷ []) c.args.depth c.args.at (Syntax n)) (sym c.offset-in_default-kind.ensures)
    (operand_none (size_of c.args.self.now) (seen c.args.self.now) c.args.at c.args.depth c.in-Some.kind (sym c.in-Some.ensures) o.not-Number o.not-Word o.not-OpenRound o.not-Min o.not-Max o.not-Abs o.not-Minus o.not-Not)

pub prefixed-returns-then-depth-ge-DEEPEST : goal.prefixed-returns-then-depth-ge-DEEPEST
prefixed-returns-then-depth-ge-DEEPEST t c =
    subst (λ (n : ℕ). Stopped (size_of c.args.self.now) (seen c.args.self.now) (Value ∷ []) c.args.depth c.args.at (TooDeep n)) (sym c.offset.ensures)
    (prefixed_deep (size_of c.args.self.now) (seen c.args.self.now) c.args.prefix c.args.at c.args.depth c.if-depth-ge-DEEPEST.true c.requires.kind)

pub prefixed-returns-in-Err : goal.prefixed-returns-in-Err
prefixed-returns-in-Err t c =
    prefixed_stop (size_of c.args.self.now) (seen c.args.self.now) c.args.prefix c.args.at c.args.depth c.in-Err.fault c.if-depth-ge-DEEPEST.false c.requires.kind c.in-Err.ensures

pub prefixed-returns-in-Ok-boxed : goal.prefixed-returns-in-Ok-boxed
prefixed-returns-in-Ok-boxed t c =
    subst (λ (e : Expr). ReadsAs Operand (size_of c.args.self.now) (seen c.args.self.now) (Value ∷ []) c.args.depth c.args.at (Ok (expr.Unary c.args.prefix e, c.in-Ok.found.1))) (sym c.in-Ok-boxed.ensures)
    (prefixed_read (size_of c.args.self.now) (seen c.args.self.now) c.args.prefix c.args.at c.in-Ok.found.1 c.args.depth c.in-Ok.found.0 c.if-depth-ge-DEEPEST.false c.requires.kind c.in-Ok.ensures)
