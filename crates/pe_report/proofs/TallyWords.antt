-- The words of a tally's line, one after another.
use Rattle.std.proofs.Common.{◌≡◌, ℕ, List, [], ◌∷◌, ◌++◌, ap, sym, refl, ◌∙◌, append_assoc}
use Rattle.std.specs.List.{flat_map}
use Rattle.std.proofs.lemmas.Grind.{flat_map-append}
use Rattle.std.proofs.lemmas.List.{append-nil}
use Rattle.pe_base.specs.Lines.{line}

abbrev spaced : List ℕ → List ℕ
spaced part = 32 ∷ part

abbrev words : List ℕ → List (List ℕ) → List ℕ
words w ps = w ++ flat_map spaced ps

-- one more part
one : (w : List ℕ) (ps : List (List ℕ)) (a l l' : List ℕ) → l ≡ words w ps → l' ≡ l ++ 32 ∷ a → l' ≡ words w (ps ++ a ∷ [])
one w ps a l l' before is =
    is ∙ ap (λ x. x ++ 32 ∷ a) before ∙ append_assoc w (flat_map spaced ps) (32 ∷ a)
    ∙ ap (λ x. w ++ x) (sym (flat_map-append spaced ps (a ∷ []) ∙ ap (λ x. flat_map spaced ps ++ x) (append-nil (32 ∷ a))))

-- two more parts
two : (w : List ℕ) (ps : List (List ℕ)) (a b l l' : List ℕ) → l ≡ words w ps → l' ≡ l ++ 32 ∷ a ++ 32 ∷ b → l' ≡ words w ((ps ++ a ∷ []) ++ b ∷ [])
two w ps a b l l' before is = one w (ps ++ a ∷ []) b (l ++ 32 ∷ a) l' (one w ps a l (l ++ 32 ∷ a) before refl) is

pub line_of_steps : (w a b c d e f g h i j k l m n l0 l1 l2 l3 l4 l5 l6 l7 l8 : List ℕ)
    → l0 ≡ w → l1 ≡ l0 ++ 32 ∷ a → l2 ≡ l1 ++ 32 ∷ b → l3 ≡ l2 ++ 32 ∷ c ++ 32 ∷ d → l4 ≡ l3 ++ 32 ∷ e ++ 32 ∷ f → l5 ≡ l4 ++ 32 ∷ g ++ 32 ∷ h
    → l6 ≡ l5 ++ 32 ∷ i ++ 32 ∷ j → l7 ≡ l6 ++ 32 ∷ k ++ 32 ∷ l → l8 ≡ l7 ++ 32 ∷ m ++ 32 ∷ n
    → l8 ++ 10 ∷ [] ≡ line w (a ∷ b ∷ c ∷ d ∷ e ∷ f ∷ g ∷ h ∷ i ∷ j ∷ k ∷ l ∷ m ∷ n ∷ [])
line_of_steps w a b c d e f g h i j k l m n l0 l1 l2 l3 l4 l5 l6 l7 l8 e0 e1 e2 e3 e4 e5 e6 e7 e8 =
    let s2 = one w (a ∷ []) b l1 l2 (one w [] a l0 l1 (e0 ∙ sym (append-nil w)) e1) e2 in
    let s4 = two w (a ∷ b ∷ c ∷ d ∷ []) e f l3 l4 (two w (a ∷ b ∷ []) c d l2 l3 s2 e3) e4 in
    let s6 = two w (a ∷ b ∷ c ∷ d ∷ e ∷ f ∷ g ∷ h ∷ []) i j l5 l6 (two w (a ∷ b ∷ c ∷ d ∷ e ∷ f ∷ []) g h l4 l5 s4 e5) e6 in
    let s8 = two w (a ∷ b ∷ c ∷ d ∷ e ∷ f ∷ g ∷ h ∷ i ∷ j ∷ k ∷ l ∷ []) m n l7 l8 (two w (a ∷ b ∷ c ∷ d ∷ e ∷ f ∷ g ∷ h ∷ i ∷ j ∷ []) k l l6 l7 s6 e7) e8 in
    ap (λ x. x ++ 10 ∷ []) s8
