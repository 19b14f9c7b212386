-- Each axis begins at its low end.
use Rattle.std.proofs.Common.{◌≡◌, ℕ, zero, suc, ◌+◌, ◌/◌, ◌%◌, ◌^◌, ◌<◌, ◌≤◌, List, [], ◌∷◌, ap, sym, ◌∙◌, arith, refl, Bool, true, false}
use Rattle.std.specs.Prelude.{◌==◌, if◌then◌else◌, slice_index, slice_index_or}
use Rattle.pe_base.specs.declared.way.Way.{Way}
use Rattle.pe_base.specs.Tree.Places.{bits}
use Rattle.pe_base.specs.Steps.Routes.{way_turns}
use Rattle.pe_base.proofs.Tree.PlaceLaws.{length-bits, get_or-bits}
use Rattle.pe_curve.specs.Steps.{IsStep}
use Rattle.pe_curve.proofs.StepLaws.{first_is}
use Rattle.pe_curve.proofs.step.Step.first.Goals as goal
use Rattle.pe_curve.proofs.step.Step.first.Goals.{in-Forward, in-Inverted}

-- the digit at which an axis begins
abbrev Begins : ℕ → ℕ → ℕ → Bool → Type 0
Begins axes axis k up = (axis < axes → k ≡ (if up then 0 else 2)) × (axes ≤ axis → k ≡ 0)

begins_below : (axes axis k : ℕ) (up : Bool) → Begins axes axis k up → axis < axes → k < 3
begins_below axes axis k true is within = omega (arith, is.0 within)
begins_below axes axis k false is within = omega (arith, is.0 within)

-- how the axes are walked at the first child
abbrev starts : ℕ → ℕ → List Bool
starts turns f = ((turns + f % 2) % 2 == 0) ∷ ((turns + f / 2 % 2) % 2 == 0) ∷ ((turns + f / 4 % 2) % 2 == 0) ∷ ((turns + f / 8 % 2) % 2 == 0) ∷ []

begins_first : (axes f turns k₀ k₁ k₂ k₃ : ℕ) (way : Way) → axes ≤ 4 → turns ≡ way_turns way
    → Begins axes 0 k₀ ((turns + f % 2) % 2 == 0) → Begins axes 1 k₁ ((turns + f / 2 % 2) % 2 == 0) → Begins axes 2 k₂ ((turns + f / 4 % 2) % 2 == 0) → Begins axes 3 k₃ ((turns + f / 8 % 2) % 2 == 0)
    → IsStep axes way (bits axes f) 0 (record { digits = record { k = k₀ ∷ k₁ ∷ k₂ ∷ k₃ ∷ [] }; ups = starts turns f })
begins_first axes f turns k₀ k₁ k₂ k₃ way few is b₀ b₁ b₂ b₃ =
    first_is axes way (bits axes f) _ few (length-bits axes f) (record { four = refl; inside = inside; rest = rest }) ups digits
  where
    inside : (i : ℕ) → i < axes → slice_index (k₀ ∷ k₁ ∷ k₂ ∷ k₃ ∷ []) i < 3
    inside zero within = begins_below axes 0 k₀ _ b₀ within
    inside (suc zero) within = begins_below axes 1 k₁ _ b₁ within
    inside (suc (suc zero)) within = begins_below axes 2 k₂ _ b₂ within
    inside (suc (suc (suc zero))) within = begins_below axes 3 k₃ _ b₃ within
    inside (suc (suc (suc (suc i)))) within = absurd (omega arith)

    rest : (i : ℕ) → axes ≤ i → slice_index (k₀ ∷ k₁ ∷ k₂ ∷ k₃ ∷ []) i ≡ 0
    rest zero past = b₀.1 past
    rest (suc zero) past = b₁.1 past
    rest (suc (suc zero)) past = b₂.1 past
    rest (suc (suc (suc zero))) past = b₃.1 past
    rest (suc (suc (suc (suc i)))) past = refl

    even : (a i : ℕ) → i < axes → a ≡ f / 2 ^ i % 2 → ((turns + a) % 2 == 0) ≡ ((way_turns way + slice_index (bits axes f) i) % 2 == 0)
    even a i within e = ap (λ (m : ℕ). m % 2 == 0) (let same : turns + a ≡ way_turns way + slice_index (bits axes f) i = omega (arith, is, e, get_or-bits axes f i 0 within) in same)

    ups : (i : ℕ) → i < axes → slice_index_or (starts turns f) i false ≡ ((way_turns way + slice_index (bits axes f) i) % 2 == 0)
    ups zero within = even (f % 2) 0 within (omega arith)
    ups (suc zero) within = even (f / 2 % 2) 1 within refl
    ups (suc (suc zero)) within = even (f / 4 % 2) 2 within refl
    ups (suc (suc (suc zero))) within = even (f / 8 % 2) 3 within refl
    ups (suc (suc (suc (suc i)))) within = absurd (omega arith)

    digits : (i : ℕ) → i < axes → slice_index (k₀ ∷ k₁ ∷ k₂ ∷ k₃ ∷ []) i ≡ (if slice_index_or (starts turns f) i false then 0 else 2)
    digits zero within = b₀.0 within
    digits (suc zero) within = b₁.0 within
    digits (suc (suc zero)) within = b₂.0 within
    digits (suc (suc (suc zero))) within = b₃.0 within
    digits (suc (suc (suc (suc i)))) within = absurd (omega arith)

turns_are : (c : goal.After-begin-4) → c.match-way.turns ≡ way_turns c.args.way
turns_are c = elim c.match-way.branch [
  | in-Forward w ↦ w.turns-is ∙ ap way_turns (sym w.in-Forward.is)
  | in-Inverted w ↦ w.turns-is ∙ ap way_turns (sym w.in-Inverted.is)
]

pub returns : goal.returns
returns c =
    let axes = c.args.dim in
    let same : c.axes-axes.result ≡ axes = c.axes-axes.ensures.value in
    begins_first axes c.args.flips c.match-way.turns c.begin.result c.begin-2.result c.begin-3.result c.begin-4.result c.args.way (omega (arith, c.axes-axes.ensures.range.1)) (turns_are c)
    (λ low. c.begin.ensures.within (omega arith), λ past. c.begin.ensures.past (omega arith))
    (λ low. c.begin-2.ensures.within (omega arith), λ past. c.begin-2.ensures.past (omega arith))
    (λ low. c.begin-3.ensures.within (omega arith), λ past. c.begin-3.ensures.past (omega arith))
    (λ low. c.begin-4.ensures.within (omega arith), λ past. c.begin-4.ensures.past (omega arith))
