use Rattle.std.proofs.Common.{◌≡◌, ◌++◌, ◌∷◌, [], ℕ, List, subst, sym, arith}
use Rattle.std.proofs.lemmas.Grind.{common_steps}
use Rattle.pe_parse.specs.declared.fault.ParseFault.TheVariants.{TooMany}
use Rattle.pe_parse.specs.declared.tree.Expr.{Expr}
use Rattle.pe_parse.specs.Frames as frame
use Rattle.pe_parse.specs.Frames.{expression}
use Rattle.pe_parse.specs.Reading.{seen, size_of, Stopped, ValuesAt}
use Rattle.pe_parse.proofs.Bodies.{Listing, value_first, value_read, value_stop_later, value_many, values_end}
use Rattle.pe_parse.proofs.reader.Reader.values.Goals as goal

pub loop-behind-init : goal.loop-behind-init
loop-behind-init c =
    let pushed : c.push.new.self.items ≡ c.in-Ok.found.0 ∷ [] = grind (arith, common_steps) in
    subst (λ (es : List Expr). Listing (size_of c.args.self.now) (seen c.args.self.now) c.args.depth c.args.at c.in-Ok.found.1 es) (sym pushed) (value_first (size_of c.args.self.now) (seen c.args.self.now) c.args.depth c.args.at c.requires.shallow c.in-Ok.found.1 c.in-Ok.found.0 c.in-Ok.ensures)

pub returns-then-len-ge-MOST_VALUES : goal.returns-then-len-ge-MOST_VALUES
returns-then-len-ge-MOST_VALUES c =
    subst (λ (n : ℕ). Stopped (size_of c.args.self.now) (seen c.args.self.now) (expression ++ frame.Values 1 ∷ []) c.args.depth c.args.at (TooMany n)) (sym c.offset.ensures)
    (value_many (size_of c.args.self.now) (seen c.args.self.now) c.args.depth c.args.at c.requires.shallow c.loop-behind.next c.loop-behind.items.items c.loop-behind.invariant c.in-Ok-needs.behind (omega (arith, c.len.ensures)) c.in-Ok-needs.ensures)

pub returns-in-Err-chain : goal.returns-in-Err-chain
returns-in-Err-chain c =
    value_stop_later (size_of c.args.self.now) (seen c.args.self.now) c.args.depth c.args.at c.requires.shallow c.loop-behind.next c.loop-behind.items.items c.loop-behind.invariant c.in-Ok-needs.behind c.in-Err-chain.fault (omega (arith, c.len.ensures)) c.in-Ok-needs.ensures c.in-Err-chain.ensures

pub loop-behind-preserved : goal.loop-behind-preserved
loop-behind-preserved c =
    let pushed : c.push-in-Ok-needs.new.self.items ≡ c.loop-behind.items.items ++ c.in-Ok-chain.found.0 ∷ [] = grind (arith, common_steps) in
    subst (λ (es : List Expr). Listing (size_of c.args.self.now) (seen c.args.self.now) c.args.depth c.args.at c.in-Ok-chain.found.1 es) (sym pushed)
    (value_read (size_of c.args.self.now) (seen c.args.self.now) c.args.depth c.args.at c.requires.shallow c.loop-behind.next c.loop-behind.items.items c.loop-behind.invariant c.in-Ok-needs.behind c.in-Ok-chain.found.1 c.in-Ok-chain.found.0 (omega (arith, c.len.ensures)) c.in-Ok-needs.ensures c.in-Ok-chain.ensures)

pub returns : goal.returns
returns c = (
  values_end (size_of c.args.self.now) (seen c.args.self.now) c.args.depth c.args.at c.requires.shallow c.loop-behind.next c.loop-behind.items.items c.loop-behind.invariant c.in_default.field-0 c.in_default.ensures,
  subst (λ (es : List Expr). ValuesAt (seen c.args.self.now) c.args.at c.loop-behind.next es) (sym c.new.ensures) c.loop-behind.invariant.values,
)
