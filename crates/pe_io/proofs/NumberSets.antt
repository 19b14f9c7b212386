-- Sets of numbers, read by the list of their keys.
use Rattle.std.proofs.Common.{◌≡◌, ℕ, ◌+◌, ◌^◌, ◌<◌, ◌↔◌, Bool, false, List, Contains, IsTrue, sym, subst, arith}
use Rattle.std.proofs.lemmas.Bool.{false≢true}
use Rattle.std.specs.BTreeSet.{BTreeSet, contains, IsFromIterResult}
use Rattle.std.specs.Ordering.{nat_cmp}
use Rattle.pe_io.specs.Numbers.{IsNextListed}
use Rattle.std.proofs.lemmas.Cmp.{nat_cmp_total}
use Rattle.std.proofs.lemmas.Map.Lookups.{exact_unsigned}
use Rattle.std.proofs.lemmas.Map.Views.{btree_set_contains_iff, btree_set_contains_from_list}

-- a set that was made of a list has the list's numbers
pub Contains-from_list : (xs : List ℕ) (set : BTreeSet ℕ) → IsFromIterResult nat_cmp xs set → (n : ℕ) → Contains set.keys n ↔ Contains xs n
Contains-from_list xs set made n =
    let by_keys = btree_set_contains_iff nat_cmp_total exact_unsigned set n in
    let by_list = btree_set_contains_from_list nat_cmp_total exact_unsigned xs set made n in
    (λ h. by_list.0 (by_keys.1 h), λ h. by_keys.0 (by_list.1 h))

-- what the set's test answers
pub Contains-from_test : (set : BTreeSet ℕ) (n : ℕ) (found : Bool) → found ≡ contains nat_cmp set n → IsTrue found ↔ Contains set.keys n
Contains-from_test set n found e =
    subst (λ (b : Bool). IsTrue b ↔ Contains set.keys n) (sym e) (btree_set_contains_iff nat_cmp_total exact_unsigned set n)

-- the test of the next call's number, where there is one
pub IsNextListed-from_test : (set : BTreeSet ℕ) (count number : ℕ) (found : Bool) → count + 1 < 2 ^ 64 → number ≡ count + 1 → found ≡ contains nat_cmp set number → IsTrue found ↔ IsNextListed set.keys count
IsNextListed-from_test set count number found fits e test =
    let by_test = Contains-from_test set (count + 1) found (rw (← e) test) in
    (λ h. (omega arith, by_test.0 h), λ h. by_test.1 h.1)

-- there is no number behind the last of 64 bits
pub IsNextListed-past_last : (numbers : List ℕ) (count : ℕ) → (count + 1 < 2 ^ 64 → ⊥) → IsTrue false ↔ IsNextListed numbers count
IsNextListed-past_last numbers count past =
    (λ h. absurd (false≢true h), λ h. absurd (past (omega (arith, h.0))))
