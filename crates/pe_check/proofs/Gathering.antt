-- Parts of a tree that are checked one by one, from left to right.
use Rattle.std.proofs.Common.{◌≡◌, ◌∙◌, sym, ℕ, suc, ◌+◌, ◌<◌, ◌≤◌, List, [], ◌∷◌, ◌++◌, length, map, drop, refl, ap, Ok, Err, Result, arith, append_assoc, append-nil, drop-cons, slice_index_or}
use Rattle.std.proofs.lemmas.List.{drop_all}
use Rattle.pe_check.specs.declared.cause.CheckFault.{CheckFault}
use Rattle.pe_check.specs.declared.cause.CheckFault.TheVariants.{UnknownName, NotHere, Corner, ReadOnly, Memory}
use Rattle.pe_check.specs.Answers.{Refuses}
use Rattle.pe_check.specs.Checking.{◌>>=◌, all_of}

-- where a part is refused, what is made of it is
pub refuses-later : {X Y : Type 0} (fault : CheckFault) (part : Result X CheckFault) (whole : Result Y CheckFault) → ((f : CheckFault) → part ≡ Err f → whole ≡ Err f) → Refuses fault part → Refuses fault whole
refuses-later Memory part whole later is = tt
refuses-later (UnknownName at) part whole later is = later (UnknownName at) is
refuses-later (NotHere at) part whole later is = later (NotHere at) is
refuses-later (Corner at) part whole later is = later (Corner at) is
refuses-later (ReadOnly at) part whole later is = later (ReadOnly at) is

module _ {A B : Type 0} (check : A → Result B CheckFault) where
  -- parts that were checked, and then more
  abbrev pub gathered : List B → List A → Result (List B) CheckFault
  gathered front rest = all_of (map check rest) >>= λ ys. Ok (front ++ ys)

  pub gathering-begins : (xs : List A) → gathered [] xs ≡ all_of (map check xs)
  gathering-begins xs = of_any (all_of (map check xs))
    where
      of_any : (r : Result (List B) CheckFault) → (r >>= λ ys. Ok ([] ++ ys)) ≡ r
      of_any (Ok ys) = refl
      of_any (Err fault) = refl

  module _ (xs : List A) (i : ℕ) (item : A) (front : List B) where
    undone : i < length xs → item ≡ slice_index_or xs i item → gathered front (drop i xs) ≡ ((check item >>= λ y. all_of (map check (drop (i + 1) xs)) >>= λ ys. Ok (y ∷ ys)) >>= λ ys. Ok (front ++ ys))
    undone lt is =
        ap (gathered front) (drop-cons xs i item lt)
        ∙ ap (λ x. (check x >>= λ y. all_of (map check (drop (suc i) xs)) >>= λ ys. Ok (y ∷ ys)) >>= λ ys. Ok (front ++ ys)) (sym is)
        ∙ ap (λ n. (check item >>= λ y. all_of (map check (drop n xs)) >>= λ ys. Ok (y ∷ ys)) >>= λ ys. Ok (front ++ ys)) (next i)
      where
        next : (n : ℕ) → suc n ≡ n + 1
        next n = omega arith

    pub gathering-more : (y : B) → gathered front (drop i xs) ≡ all_of (map check xs) → i < length xs → item ≡ slice_index_or xs i item → check item ≡ Ok y → gathered (front ++ y ∷ []) (drop (i + 1) xs) ≡ all_of (map check xs)
    gathering-more y was lt is fine =
        sym (one_more_of y (all_of (map check (drop (i + 1) xs))))
        ∙ sym (ap (λ r. (r >>= λ y. all_of (map check (drop (i + 1) xs)) >>= λ ys. Ok (y ∷ ys)) >>= λ ys. Ok (front ++ ys)) fine)
        ∙ sym (undone lt is) ∙ was
      where
        one_more_of : (y : B) (rest : Result (List B) CheckFault) → ((rest >>= λ ys. Ok (y ∷ ys)) >>= λ zs. Ok (front ++ zs)) ≡ (rest >>= λ ys. Ok ((front ++ y ∷ []) ++ ys))
        one_more_of y (Ok ys) = ap Ok (sym (append_assoc front (y ∷ []) ys))
        one_more_of y (Err fault) = refl

    pub gathering-wrong : (fault : CheckFault) → gathered front (drop i xs) ≡ all_of (map check xs) → i < length xs → item ≡ slice_index_or xs i item → check item ≡ Err fault → all_of (map check xs) ≡ Err fault
    gathering-wrong fault was lt is wrong =
        sym was ∙ undone lt is ∙ ap (λ r. (r >>= λ y. all_of (map check (drop (i + 1) xs)) >>= λ ys. Ok (y ∷ ys)) >>= λ ys. Ok (front ++ ys)) wrong

  pub gathering-ends : (xs : List A) (i : ℕ) (front : List B) → gathered front (drop i xs) ≡ all_of (map check xs) → length xs ≤ i → all_of (map check xs) ≡ Ok front
  gathering-ends xs i front was all = sym was ∙ ap (gathered front) (drop_all i xs all) ∙ ap Ok (append-nil front)
