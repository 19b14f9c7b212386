-- How the record of a corner comes to hand: lent where it hangs or is born, and else from the top of a stack. So a load by the
-- machine is one by the core, of the record that lies under the place.
use Rattle.std.proofs.Common.{◌≡◌, ℕ, ◌^◌, ◌<◌, Bool, true, false, List, [], ◌∷◌, Option, Some, None, refl, sym, ap, ap₂, ◌∙◌}
use Rattle.std.specs.Prelude.{is_none}
use Rattle.pe_base.specs.declared.place.Place.{Place}
use Rattle.pe_base.specs.declared.kind.Kind.{Kind}
use Rattle.pe_base.specs.declared.kind.Kind.TheVariants.{Kept, Born, Dying, Hanging}
use Rattle.pe_base.specs.declared.event.Event.TheVariants.{TouchVertexFirstTime}
use Rattle.pe_base.specs.Life.Kinds.{is_hanging}
use Rattle.pe_base.specs.Acts.Effects.{VertexRecord}
use Rattle.pe_base.specs.Walk.Course.{at_once, and_then, course_map}
use Rattle.pe_base.specs.Walk.Core.{Setting, Family, read_vertex, vertex_event, load_touch}
use Rattle.pe_base.specs.Walk.Working.{no_vertex}
use Rattle.pe_base.proofs.Tree.Ranks.{same_places}
use Rattle.pe_stacks.specs.Holdings.{Holdings, stack_at, items_at, lent, popped}
use Rattle.pe_hang.specs.InHand.{map_holdings}
use Rattle.pe_adapt.specs.Touches.{Desk, lent_vertex, popped_vertex, comes, load_as}
use Rattle.pe_order.specs.Outlooks.{was_stored}
use Rattle.pe_order.specs.Tokens.{is_top, given, first_of, taken}
use Rattle.pe_order.proofs.Tokens.Stacks.{is_stack_of}
use Rattle.pe_order.proofs.Tokens.Keeping.{given_some}
use Rattle.pe_walk.proofs.Simulation.Shared.{lend-image, pop-image}

-- the calls that a load may make have counts that may rise
pub record MayTake (held : Holdings Place) : Type 0 where
  pub fresh : held.fresh < 2 ^ 63
  pub pops : (s : ℕ) → (stack_at held s).pops < 2 ^ 63

module _ {Plan : Type 0} (set : Setting Plan) (f : Place → VertexRecord) (held after : Holdings Place) (vertex : Place) (found : VertexRecord) (family : Family) (may : MayTake held) where
  abbrev desk : Holdings Place → Desk
  desk held = record { vertices = map_holdings f held; family = family }

  -- what comes, and that the load of it is the load of what is found
  pub record Comes (input : ℕ) (kind : Kind) (from : Option ℕ) : Type 0 where
    pub it : VertexRecord
    pub comes : comes set input kind from (desk held) ≡ at_once (it, desk after)
    pub touch : load_touch set kind (is_none from) it vertex family ≡ load_touch set kind (is_none from) found vertex family

  lent-comes : after ≡ lent held → lent_vertex set (desk held) ≡ at_once (no_vertex, desk after)
  lent-comes e =
      ap (λ course. course_map (λ vertices. let it : VertexRecord × Desk = (no_vertex, record { vertices = vertices; family = family }) in it) course)
      (lend-image f held may.fresh ∙ ap (λ h. at_once (map_holdings f h)) (sym e))

  popped-comes : (s : ℕ) → taken (Some s) vertex held ≡ Some after → popped_vertex set s (desk held) ≡ at_once (f vertex, desk after)
  popped-comes s e = go (items_at held s) refl e
    where
      go : (xs : List Place) → items_at held s ≡ xs → given (is_top vertex xs) (Some (popped held s)) ≡ Some after → popped_vertex set s (desk held) ≡ at_once (f vertex, desk after)
      go [] k e = absurd cc
      go (x ∷ xs) k e =
          let g = given_some (is_top vertex (x ∷ xs)) (Some (popped held s)) after e in
          let same : popped held s ≡ after = cc (g.1) in
          ap (λ course. course_map (λ it. let come : VertexRecord × Desk = (it.0, record { vertices = it.1; family = family }) in come) course)
          (pop-image f held s x xs k (is_stack_of held s x xs k) (may.pops s) ∙ ap₂ (λ p h. at_once (f p, map_holdings f h)) (same_places x vertex g.0) same)

  -- a corner that hangs
  pub comes-hanging : (input : ℕ) (from : Option ℕ) → after ≡ lent held → Comes input Hanging from
  comes-hanging input from e = record { it = no_vertex; comes = lent-comes e; touch = refl }

  -- one that was stored, for the first time
  comes-stored : (input : ℕ) (kind : Kind) → was_stored kind ≡ true → taken (Some input) vertex held ≡ Some after → read_vertex set kind (f vertex) ≡ read_vertex set kind found → Comes input kind None
  comes-stored input Kept stored e same = record { it = f vertex; comes = popped-comes input e; touch = ap (λ v. vertex_event set TouchVertexFirstTime vertex (v, family)) same }
  comes-stored input Born stored e same = absurd cc
  comes-stored input Dying stored e same = record { it = f vertex; comes = popped-comes input e; touch = ap (λ v. vertex_event set TouchVertexFirstTime vertex (v, family)) same }
  comes-stored input Hanging stored e same = absurd cc

  -- one that is born
  comes-born : (input : ℕ) (kind : Kind) → is_hanging kind ≡ false → was_stored kind ≡ false → after ≡ lent held → Comes input kind None
  comes-born input Kept stays stored e = absurd cc
  comes-born input Born stays stored e = record { it = no_vertex; comes = lent-comes e; touch = refl }
  comes-born input Dying stays stored e = absurd cc
  comes-born input Hanging stays stored e = absurd cc

  -- one that waits on a stack
  comes-waiting : (input s : ℕ) (kind : Kind) → is_hanging kind ≡ false → taken (Some s) vertex held ≡ Some after → f vertex ≡ found → Comes input kind (Some s)
  comes-waiting input s Kept stays e same = record { it = f vertex; comes = popped-comes s e; touch = ap (λ v. at_once (v, family)) same }
  comes-waiting input s Born stays e same = record { it = f vertex; comes = popped-comes s e; touch = ap (λ v. at_once (v, family)) same }
  comes-waiting input s Dying stays e same = record { it = f vertex; comes = popped-comes s e; touch = ap (λ v. at_once (v, family)) same }
  comes-waiting input s Hanging stays e same = absurd cc

  -- a vertex that counts
  pub comes-counting : (input : ℕ) (kind : Kind) (from : Option ℕ) (reads : Bool) → is_hanging kind ≡ false → was_stored kind ≡ reads
      → taken (first_of from (given reads (Some input))) vertex held ≡ Some after
      → (is_none from ≡ true → read_vertex set kind (f vertex) ≡ read_vertex set kind found) → (is_none from ≡ false → f vertex ≡ found) → Comes input kind from
  comes-counting input kind None true stays stored e first later = comes-stored input kind stored e (first refl)
  comes-counting input kind None false stays stored e first later = comes-born input kind stays stored (let same : lent held ≡ after = cc in sym same)
  comes-counting input kind (Some s) reads stays stored e first later = comes-waiting input s kind stays e (later refl)

  -- what the machine does is what the core does of what is found
  pub load_as-is : (input : ℕ) (kind : Kind) (from : Option ℕ) → Comes input kind from
      → load_as set input kind from vertex (desk held)
      ≡ course_map (λ it. let come : VertexRecord × Desk = (it.0, record { vertices = map_holdings f after; family = it.1 }) in come) (load_touch set kind (is_none from) found vertex family)
  load_as-is input kind from come =
      ap (λ course. and_then course (λ it. course_map (λ r. let done : VertexRecord × Desk = (r.0, record it.1 { family = r.1 }) in done) (load_touch set kind (is_none from) it.0 vertex it.1.family))) come.comes
      ∙ ap (course_map (λ r. let done : VertexRecord × Desk = (r.0, record { vertices = map_holdings f after; family = r.1 }) in done)) come.touch
