-- The record that is left of a vertex goes where its place goes.
use Rattle.std.proofs.Common.{◌≡◌, ℕ, ◌+◌, ◌^◌, ◌<◌, false, List, [], ◌∷◌, Option, Some, None, refl, ap, ap₂, ◌∙◌}
use Rattle.pe_base.specs.declared.place.Place.{Place}
use Rattle.pe_base.specs.Acts.Effects.{VertexRecord}
use Rattle.pe_base.specs.Walk.Course.{Push, done, course_map}
use Rattle.pe_base.specs.Walk.Core.{Setting, Family}
use Rattle.pe_stacks.specs.Holdings.{Holdings, stack_count, stack_at, len_at}
use Rattle.pe_hang.specs.InHand.{map_holdings}
use Rattle.pe_hang.specs.Moves.{push}
use Rattle.pe_adapt.specs.Touches.{Desk, goes}
use Rattle.pe_order.specs.Tokens.{put}
use Rattle.pe_walk.specs.Standing.{Foresight}
use Rattle.pe_walk.proofs.Simulation.Shared.{give_up-image, push-image}
use Rattle.pe_walk.proofs.Simulation.Stores.Fates.{Fate}

-- the push is logged
abbrev pub log_of : Option ℕ → Holdings Place → List Push
log_of None held = []
log_of (Some s) held = record { of_cell = false; stack = s; length = len_at held s + 1 } ∷ []

-- what it asks for
abbrev pub MayGo : Option ℕ → Holdings Place → Type 0
MayGo goal held = (s : ℕ) → goal ≡ Some s → (s < stack_count held) × ((stack_at held s).pushes < 2 ^ 63)

pub goes-image : {Plan : Type 0} (set : Setting Plan) (f : Foresight) (output : ℕ) (place : Place) (to goal : Option ℕ) (left : Option VertexRecord) (seen : Place → VertexRecord) (held : Holdings Place) (family : Family)
    → Fate set f output place to goal left → MayGo goal held → 0 < held.out → ((s : ℕ) (it : VertexRecord) → goal ≡ Some s → left ≡ Some it → it ≡ seen place)
    → goes set output to left (record { vertices = map_holdings seen held; family = family })
    ≡ record { text = []; log = log_of goal held; ending = done (record { vertices = map_holdings seen (put goal place held); family = family }) }
goes-image set f output place to None None seen held family fate may some same =
    ap (course_map (λ vertices. let desk : Desk = record { vertices = vertices; family = family } in desk)) (give_up-image seen held some)
goes-image set f output place to None (Some it) seen held family fate may some same = absurd fate
goes-image set f output place to (Some s) None seen held family fate may some same = absurd fate
goes-image set f output place to (Some s) (Some it) seen held family fate may some same =
    ap₂ (λ n x. course_map (λ vertices. let desk : Desk = record { vertices = vertices; family = family } in desk) (push false n x (map_holdings seen held))) fate.stack (same s it refl refl)
    ∙ ap (course_map (λ vertices. let desk : Desk = record { vertices = vertices; family = family } in desk)) (push-image seen false held s place (may s refl).0 (may s refl).1 some)
