-- The lines of prints, value by value.
use Rattle.std.proofs.Common.{◌≡◌, ◌∙◌, sym, ℕ, suc, ◌+◌, ◌<◌, ℤ, List, ◌∷◌, ◌++◌, length, drop, refl, ap, Ok, Err, Result, append_assoc, add-one, drop-cons, slice_index_or}
use Rattle.std.specs.Fmt.{signed_decimal}
use Rattle.pe_check.specs.declared.checked.Expr.{Expr}
use Rattle.pe_eval.specs.declared.fault.Fault.{Fault}
use Rattle.pe_eval.specs.Names.{Situation}
use Rattle.pe_eval.specs.Values.{value_of, values_of, values_from, with_values}
use Rattle.pe_eval.specs.Meaning.{number_parts}

-- a line that goes on by the values of these expressions
abbrev pub line_with : List ℕ → List Expr → Situation → Result (List ℕ) Fault
line_with line exprs situation = with_values (λ ns. line ++ number_parts ns) (values_of exprs situation)

one_more : (line : List ℕ) (n : ℤ) (rest : Result (List ℤ) Fault) → with_values (λ ns. line ++ number_parts ns) (values_from (Ok n) rest) ≡ with_values (λ ns. (line ++ 32 ∷ signed_decimal n) ++ number_parts ns) rest
one_more line n (Err fault) = refl
one_more line n (Ok ns) = ap Ok (sym (append_assoc line (32 ∷ signed_decimal n) (number_parts ns)))

module _ (line : List ℕ) (exprs : List Expr) (situation : Situation) (i : ℕ) (item : Expr) where
  opened : i < length exprs → item ≡ slice_index_or exprs i item → line_with line (drop i exprs) situation ≡ with_values (λ ns. line ++ number_parts ns) (values_from (value_of item situation) (values_of (drop (i + 1) exprs) situation))
  opened lt is = ap (λ rest. line_with line rest situation) (drop-cons exprs i item lt) ∙ at_item
    where
      at_item : line_with line (slice_index_or exprs i item ∷ drop (suc i) exprs) situation ≡ with_values (λ ns. line ++ number_parts ns) (values_from (value_of item situation) (values_of (drop (i + 1) exprs) situation))
      at_item = ap (λ e. with_values (λ ns. line ++ number_parts ns) (values_from (value_of e situation) (values_of (drop (suc i) exprs) situation))) (sym is) ∙ rw add-one refl

  -- one value more
  pub line_with-value : (n : ℤ) (whole : Result (List ℕ) Fault) → line_with line (drop i exprs) situation ≡ whole → i < length exprs → item ≡ slice_index_or exprs i item → Ok n ≡ value_of item situation
      → line_with (line ++ 32 ∷ signed_decimal n) (drop (i + 1) exprs) situation ≡ whole
  line_with-value n whole was lt is value =
      sym (one_more line n (values_of (drop (i + 1) exprs) situation))
      ∙ ap (λ v. with_values (λ ns. line ++ number_parts ns) (values_from v (values_of (drop (i + 1) exprs) situation))) value
      ∙ sym (opened lt is) ∙ was

  -- no value
  pub line_with-err : (fault : Fault) (whole : Result (List ℕ) Fault) → line_with line (drop i exprs) situation ≡ whole → i < length exprs → item ≡ slice_index_or exprs i item → Err fault ≡ value_of item situation
      → Err fault ≡ whole
  line_with-err fault whole was lt is value =
      ap (λ v. with_values (λ ns. line ++ number_parts ns) (values_from v (values_of (drop (i + 1) exprs) situation))) value
      ∙ sym (opened lt is) ∙ was
