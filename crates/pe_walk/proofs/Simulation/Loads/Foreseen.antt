-- What is loaded is as foreseen: fresh, by the state table at its first touch, or as it waited.
use Rattle.std.proofs.Common.{◌≡◌, ◌≢◌, ℕ, ◌^◌, ◌<◌, ◌≤◌, Bool, true, false, ◌&&◌, ◌==◌, List, [], ◌∷◌, Option, Some, None, refl, sym, ap, subst, ◌∙◌, inr, arith}
use Rattle.std.specs.Prelude.{if◌then◌else◌}
use Rattle.std.specs.Option.{unwrap_or}
use Rattle.std.proofs.lemmas.Bool.{le-ltb}
use Rattle.std.proofs.lemmas.List.Sums.{sum_by-cons}
use Rattle.pe_base.specs.declared.place.Place.{Place}
use Rattle.pe_base.specs.declared.way.Way.{Way}
use Rattle.pe_base.specs.declared.kind.Kind.{Kind}
use Rattle.pe_base.specs.declared.kind.Kind.TheVariants.{Kept, Born, Dying, Hanging}
use Rattle.pe_base.specs.declared.state.State.TheVariants.{Unrefined, Refining}
use Rattle.pe_base.specs.Tree.Dim.{IsDim}
use Rattle.pe_base.specs.Tree.Places.{corner, is_same}
use Rattle.pe_base.specs.Life.Kinds.{is_hanging}
use Rattle.pe_base.specs.Life.Table.{first_touch, start_state}
use Rattle.pe_base.specs.Steps.Routes.{stack_in}
use Rattle.pe_base.specs.Acts.Effects.{VertexRecord}
use Rattle.pe_base.specs.Walk.Core.{Setting, Family, fresh_vertex, read_vertex}
use Rattle.pe_base.specs.Walk.Working.{no_vertex}
use Rattle.pe_stacks.specs.Holdings.{Holdings, items_at, popped}
use Rattle.pe_stacks.specs.Grid.{output_stack}
use Rattle.pe_order.specs.Laws.{IsCell}
use Rattle.pe_order.specs.Tokens.{Outlook, Tokens, is_top, given, taken}
use Rattle.pe_walk.specs.CoreKeeps.{loaded}
use Rattle.pe_walk.specs.Standing.{Foresight, IsForeseen, StartsFinest, IsFair, IsIdle, IsLive, times}
use Rattle.pe_order.proofs.Derived.{corners_cross_once}
use Rattle.pe_walk.proofs.Simulation.Shared.{across_apart}
use Rattle.pe_order.proofs.Tokens.Keeping.{given_some}
use Rattle.pe_order.proofs.Tokens.Apart.{one_if}

-- a corner that hangs
pub loads_idle : {Plan : Type 0} (set : Setting Plan) (first : Bool) (found : VertexRecord) (place : Place) (family : Family) → IsIdle (loaded set Hanging first found place family)
loads_idle set first found place family = record { kind = refl; old = refl; new = refl }

starts_unrefined : (traversal level start greatest : ℕ) → start ≤ greatest → greatest ≤ level → start_state traversal level start ≡ Unrefined
starts_unrefined traversal level start greatest within past =
    ap (λ b. if traversal == 1 && b then Refining else Unrefined) (le-ltb level start (omega (arith, within, past))) ∙ go (traversal == 1)
  where
    go : (b : Bool) → (if b && false then Refining else Unrefined) ≡ Unrefined
    go true = refl
    go false = refl

-- one that counts, at its first touch
pub loads_first : {Plan : Type 0} (set : Setting Plan) (f : Foresight) (place : Place) (family : Family) (kind : Kind) (found : Option VertexRecord)
    → set.start_level ≤ set.rules.greatest set.plan → f.kind place ≡ kind → is_hanging kind ≡ false → IsForeseen set f place kind found → StartsFinest (set.rules.greatest set.plan) place found
    → IsFair f (set.rules.greatest set.plan) place (Some (loaded set kind true (unwrap_or found no_vertex) place family))
loads_first set f place family Kept None start same counts seen finest = absurd seen
loads_first set f place family Kept (Some it) start same counts seen finest =
    record { it = read_vertex set Kept it; there = refl; kind = sym same; old = seen.0; new = seen.1; finest = λ past. ap (λ state. first_touch state Kept) (finest past) }
loads_first set f place family Dying None start same counts seen finest = absurd seen
loads_first set f place family Dying (Some it) start same counts seen finest =
    record { it = read_vertex set Dying it; there = refl; kind = sym same; old = seen.0; new = seen.1; finest = λ past. ap (λ state. first_touch state Dying) (finest past) }
loads_first set f place family Born found start same counts seen finest =
    record { it = (fresh_vertex set Born place family).0; there = refl; kind = sym same; old = seen.1; new = seen.2; finest = λ past. starts_unrefined set.traversal place.level set.start_level (set.rules.greatest set.plan) start past }
loads_first set f place family Hanging found start same counts seen finest = absurd cc

-- and later
pub loads_later : {Plan : Type 0} (set : Setting Plan) (f : Foresight) (place : Place) (family : Family) (kind : Kind) (found : Option VertexRecord)
    → is_hanging kind ≡ false → IsFair f (set.rules.greatest set.plan) place found
    → IsFair f (set.rules.greatest set.plan) place (Some (loaded set kind false (unwrap_or found no_vertex) place family))
loads_later set f place family kind found counts it =
    subst (λ v. IsFair f (set.rules.greatest set.plan) place (Some v)) (ap (λ o. unwrap_or o no_vertex) (sym it.there) ∙ as_found kind counts)
    (record { it = it.it; there = refl; kind = it.kind; old = it.old; new = it.new; finest = it.finest })
  where
    as_found : (kind : Kind) → is_hanging kind ≡ false → unwrap_or found no_vertex ≡ loaded set kind false (unwrap_or found no_vertex) place family
    as_found Kept h = refl
    as_found Born h = refl
    as_found Dying h = refl
    as_found Hanging h = absurd cc

-- a vertex that comes from another cell lay on a stack that is not the output
pub waited : (o : Outlook) (t : Tokens) (after : Holdings Place) (axes : ℕ) (way : Way) (cell : Place) (k : ℕ) (s : ℕ) → IsDim axes → IsCell axes way cell → k < 2 ^ axes
    → stack_in axes way (corner axes cell k) cell ≡ Some s → taken (Some s) (corner axes cell k) t.vertices ≡ Some after → 1 ≤ t.met (corner axes cell k) → IsLive o t (corner axes cell k)
waited o t after axes way cell k s dim is_cell small from took met = inr (s, apart, lay (items_at t.vertices s) refl took, met)
  where
    vertex : Place
    vertex = corner axes cell k

    apart : s ≢ output_stack o.swapped
    apart = across_apart axes vertex cell (stack_in axes way vertex cell) _ o.swapped dim.1 (corners_cross_once axes way cell k dim is_cell small).comes s from

    lay : (xs : List Place) → items_at t.vertices s ≡ xs → given (is_top vertex xs) (Some (popped t.vertices s)) ≡ Some after → 1 ≤ times (items_at t.vertices s) vertex
    lay [] e run = absurd cc
    lay (x ∷ xs) e run =
        let top = (given_some (is_top vertex (x ∷ xs)) (Some (popped t.vertices s)) after run).0 in
        omega (arith, ap (λ ys. times ys vertex) e, sum_by-cons (λ other. one_if (is_same other vertex)) x xs, ap one_if top)
