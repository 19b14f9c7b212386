-- The values of chains, link by link.
use Rattle.std.proofs.Common.{◌≡◌, ◌∙◌, sym, subst, ℕ, zero, suc, ◌+◌, ◌<◌, ℤ, List, [], ◌∷◌, length, map, drop, refl, ap, Ok, Err, IsTrue, arith, add-one, drop-cons, slice_index_or, Bool, true, false, ◌&&◌, cond, not}
use Rattle.std.specs.List.{list_all}
use Rattle.pe_check.proofs.Trees.{expr_fits-Chain}
use Rattle.pe_parse.specs.declared.tree.Sign.{Sign}
use Rattle.pe_parse.specs.declared.tree.Choice.{Choice}
use Rattle.pe_check.specs.declared.checked.Expr.{Expr, Chain, Extreme}
use Rattle.pe_check.specs.declared.checked.Expr.TheOpen.{Expr-F}
use Rattle.pe_check.specs.declared.checked.Expr.TheVariants.{rolls-Chain, rolls-Extreme}
use Rattle.pe_check.specs.declared.checked.Expr.TheFolds.{fold-roll-Expr}
use Rattle.pe_check.specs.Fits.{Reach, expr_fits, expr_fits_step}
use Rattle.pe_eval.specs.declared.fault.Fault.{Fault}
use Rattle.pe_eval.specs.Arithmetic.{Value, ◌>>=◌, linked, combined, is_decided, truth, is_zero}
use Rattle.pe_eval.specs.Names.{Situation}
use Rattle.pe_eval.specs.Values.{value_of, expr_step, chain_value, value_behind}

-- a fault stays
pub chain_value-err : (situation : Situation) (fault : Fault) (links : List (Sign × (Situation → Value))) → chain_value situation (Err fault) links ≡ Err fault
chain_value-err situation fault [] = refl
chain_value-err situation fault (link ∷ links) = chain_value-err situation fault links

-- one more link
pub value_behind-next : (situation : Situation) (a : ℤ) (links : List (Sign × Expr)) (i : ℕ) (d : Sign × Expr) → i < length links
    → value_behind (Ok a) (drop i links) situation
    ≡ value_behind (linked (slice_index_or links i d).0 a (value_of (slice_index_or links i d).1 situation)) (drop (i + 1) links) situation
value_behind-next situation a links i d lt = rw (add-one, drop-cons links i d) refl

-- what holds of each item holds of one
pub list_all-at : {X : Type 0} (test : X → Bool) (xs : List X) (i : ℕ) (d : X) → IsTrue (list_all test xs) → i < length xs → IsTrue (test (slice_index_or xs i d))
list_all-at test [] i d all lt = absurd (omega arith)
list_all-at test (x ∷ xs) zero d all lt = first_of_both (test x) (list_all test xs) all
  where
    first_of_both : (a b : Bool) → IsTrue (a && b) → IsTrue a
    first_of_both true b h = refl
    first_of_both false b h = h
list_all-at test (x ∷ xs) (suc i) d all lt = list_all-at test xs i d (second_of_both (test x) (list_all test xs) all) (omega arith)
  where
    second_of_both : (a b : Bool) → IsTrue (a && b) → IsTrue b
    second_of_both true b h = h
    second_of_both false b h = absurd (cc h)

-- the value of a chain, by its parts
pub value_of-Chain : (first : Expr) (links : List (Sign × Expr)) (situation : Situation) → value_of (Chain first links) situation ≡ value_behind (value_of first situation) links situation
value_of-Chain first links situation = ap (λ expr. value_of expr situation) (sym (rolls-Chain first links)) ∙ ap (λ f. f situation) (fold-roll-Expr (Situation → Value) expr_step (Expr-F.Chain first links))

-- two values fit where both do
pub expr_fits-Extreme : (reach : Reach) (choice : Choice) (left right : Expr) → expr_fits reach (Extreme choice left right) ≡ (expr_fits reach left && expr_fits reach right)
expr_fits-Extreme reach choice left right = ap (expr_fits reach) (sym (rolls-Extreme choice left right)) ∙ fold-roll-Expr Bool (expr_fits_step reach) (Expr-F.Extreme choice left right)

pub first_of_both : (a b : Bool) → IsTrue (a && b) → IsTrue a
first_of_both true b h = refl
first_of_both false b h = h

pub second_of_both : (a b : Bool) → IsTrue (a && b) → IsTrue b
second_of_both true b h = h
second_of_both false b h = absurd (cc h)

-- a chain whose first operand has no value has none
pub value_of-first_err : (expr first : Expr) (links : List (Sign × Expr)) (situation : Situation) (fault : Fault) → expr ≡ Chain first links → Err fault ≡ value_of first situation → Err fault ≡ value_of expr situation
value_of-first_err expr first links situation fault is err =
    sym (ap (λ e. value_of e situation) is ∙ value_of-Chain first links situation ∙ ap (λ v. value_behind v links situation) (sym err) ∙ chain_value-err situation fault (map (λ link. (link.0, value_of link.1)) links))

module _ (situation : Situation) (links : List (Sign × Expr)) (i : ℕ) (item : Sign × Expr) (so_far : ℤ) (whole : Value) where
  one_link : value_behind (Ok so_far) (drop i links) situation ≡ whole → i < length links → item ≡ slice_index_or links i item
      → value_behind (linked item.0 so_far (value_of item.1 situation)) (drop (i + 1) links) situation ≡ whole
  one_link was lt is =
      ap (λ (link : Sign × Expr). value_behind (linked link.0 so_far (value_of link.1 situation)) (drop (i + 1) links) situation) is
      ∙ sym (value_behind-next situation so_far links i item lt) ∙ was

  of_linked : (value : Value) → value_behind (Ok so_far) (drop i links) situation ≡ whole → i < length links → item ≡ slice_index_or links i item
      → linked item.0 so_far (value_of item.1 situation) ≡ value → value_behind value (drop (i + 1) links) situation ≡ whole
  of_linked value was lt is here = ap (λ v. value_behind v (drop (i + 1) links) situation) (sym here) ∙ one_link was lt is

  linked-operand : (operand : Value) → is_decided item.0 so_far ≡ false → value_of item.1 situation ≡ operand → linked item.0 so_far (value_of item.1 situation) ≡ (operand >>= λ b. combined item.0 so_far b)
  linked-operand operand undecided is = ap (λ b. cond b (Ok (truth (not (is_zero so_far)))) (value_of item.1 situation >>= λ b. combined item.0 so_far b)) undecided ∙ ap (λ v. v >>= λ b. combined item.0 so_far b) is

  -- the operand is evaluated, and has a value
  pub link_value : (operand next : ℤ) → value_behind (Ok so_far) (drop i links) situation ≡ whole → i < length links → item ≡ slice_index_or links i item
      → is_decided item.0 so_far ≡ false → Ok operand ≡ value_of item.1 situation → Ok next ≡ combined item.0 so_far operand
      → value_behind (Ok next) (drop (i + 1) links) situation ≡ whole
  link_value operand next was lt is undecided value result =
      of_linked (Ok next) was lt is (linked-operand (Ok operand) undecided (sym value) ∙ sym result)

  -- the operand has no value
  pub link_operand_err : (fault : Fault) → value_behind (Ok so_far) (drop i links) situation ≡ whole → i < length links → item ≡ slice_index_or links i item
      → is_decided item.0 so_far ≡ false → Err fault ≡ value_of item.1 situation → Err fault ≡ whole
  link_operand_err fault was lt is undecided value =
      sym (chain_value-err situation fault (map (λ link. (link.0, value_of link.1)) (drop (i + 1) links)))
      ∙ of_linked (Err fault) was lt is (linked-operand (Err fault) undecided (sym value))

  -- the two have no value together
  pub link_result_err : (operand : ℤ) (fault : Fault) → value_behind (Ok so_far) (drop i links) situation ≡ whole → i < length links → item ≡ slice_index_or links i item
      → is_decided item.0 so_far ≡ false → Ok operand ≡ value_of item.1 situation → Err fault ≡ combined item.0 so_far operand → Err fault ≡ whole
  link_result_err operand fault was lt is undecided value result =
      sym (chain_value-err situation fault (map (λ link. (link.0, value_of link.1)) (drop (i + 1) links)))
      ∙ of_linked (Err fault) was lt is (linked-operand (Ok operand) undecided (sym value) ∙ sym result)

  -- the operand is not evaluated
  pub link_decided : value_behind (Ok so_far) (drop i links) situation ≡ whole → i < length links → item ≡ slice_index_or links i item
      → is_decided item.0 so_far ≡ true → value_behind (Ok (truth (not (is_zero so_far)))) (drop (i + 1) links) situation ≡ whole
  link_decided was lt is decided =
      of_linked (Ok (truth (not (is_zero so_far)))) was lt is (ap (λ b. cond b (Ok (truth (not (is_zero so_far)))) (value_of item.1 situation >>= λ b. combined item.0 so_far b)) decided)

-- the right one of two values fits where both do
pub fits_right : (reach : Reach) (expr : Expr) (choice : Choice) (left right : Expr) → expr ≡ Extreme choice left right → IsTrue (expr_fits reach expr) → IsTrue (expr_fits reach right)
fits_right reach expr choice left right is fits =
    let P : Bool → Type 0 = λ b. IsTrue b in
    second_of_both (expr_fits reach left) (expr_fits reach right) (subst P (ap (expr_fits reach) is ∙ expr_fits-Extreme reach choice left right) fits)

-- the operand of a link fits where the chain does
pub fits_link : (reach : Reach) (expr first : Expr) (links : List (Sign × Expr)) (i : ℕ) (item : Sign × Expr) → expr ≡ Chain first links → IsTrue (expr_fits reach expr) → i < length links
    → item ≡ slice_index_or links i item → IsTrue (expr_fits reach item.1)
fits_link reach expr first links i item is fits lt here =
    let P : Bool → Type 0 = λ b. IsTrue b in
    let Q : Sign × Expr → Type 0 = λ link. IsTrue (expr_fits reach link.1) in
    subst Q (sym here) (list_all-at (λ link. expr_fits reach link.1) links i item
    (second_of_both (expr_fits reach first) (list_all (λ link. expr_fits reach link.1) links) (subst P (ap (expr_fits reach) is ∙ expr_fits-Chain reach first links) fits)) lt)
