-- What is stored was loaded.
use Rattle.std.proofs.Common.{◌≡◌, zero, suc, Bool, true, false, ◌||◌, List, [], ◌∷◌, reverse, refl, sym, ap, ap₂, ◌∙◌}
use Rattle.std.proofs.Math.Bool.{or_comm}
use Rattle.std.proofs.lemmas.List.Folds.{list_any-append}
use Rattle.std.specs.List.{flat_map, list_any}
use Rattle.pe_base.specs.declared.place.Place.{Place}
use Rattle.pe_base.specs.Tree.Curve.{children}
use Rattle.pe_base.specs.Steps.Faces.{Touch, corner_touches, loads, stores}
use Rattle.pe_base.specs.Tree.Places.{is_same}
use Rattle.pe_base.proofs.Lists.{reverse-cons}
use Rattle.pe_order.specs.Laws.{StoresAsLoads}

any_turned : (test : Touch → Bool) (ts : List Touch) → list_any test (reverse ts) ≡ list_any test ts
any_turned test [] = refl
any_turned test (t ∷ ts) = ap (list_any test) (reverse-cons t ts) ∙ list_any-append test (reverse ts) (t ∷ []) ∙ ap (λ b. b || list_any test (t ∷ [])) (any_turned test ts) ∙ turn (list_any test ts) (test t)
  where
    turn : (a b : Bool) → (a || (b || false)) ≡ (b || a)
    turn true true = refl
    turn true false = refl
    turn false true = refl
    turn false false = refl

any_parts : (test : Touch → Bool) (f g : Place → List Touch) (cells : List Place) → ((c : Place) → list_any test (f c) ≡ list_any test (g c)) → list_any test (flat_map f cells) ≡ list_any test (flat_map g cells)
any_parts test f g [] h = refl
any_parts test f g (c ∷ cells) h = list_any-append test (f c) (flat_map f cells) ∙ ap₂ (λ a b. a || b) (h c) (any_parts test f g cells h) ∙ sym (list_any-append test (g c) (flat_map g cells))

pub stores_as_loads : StoresAsLoads
stores_as_loads axes way zero cell vertex = sym (any_turned (λ t. is_same t.vertex vertex) (corner_touches axes cell))
stores_as_loads axes way (suc levels) cell vertex =
    let test = λ (t : Touch). is_same t.vertex vertex in
    list_any-append test (flat_map (stores axes way levels) (children axes way cell)) (corner_touches axes cell)
    ∙ ap₂ (λ a b. a || b) (any_parts test (stores axes way levels) (loads axes way levels) (children axes way cell) (λ c. stores_as_loads axes way levels c vertex)) (sym (any_turned test (corner_touches axes cell)))
    ∙ or_comm (list_any test (flat_map (loads axes way levels) (children axes way cell))) (list_any test (reverse (corner_touches axes cell)))
    ∙ sym (list_any-append test (reverse (corner_touches axes cell)) (flat_map (loads axes way levels) (children axes way cell)))
