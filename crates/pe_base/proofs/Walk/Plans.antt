-- A traversal by rules of plans that are seen through others is that by the rules of what is seen.
use Rattle.std.proofs.Common.{◌≡◌, ℕ, refl}
use Rattle.pe_base.specs.Acts.Effects.{Rules, rules_through}
use Rattle.pe_base.specs.Walk.Grids.{Grid}
use Rattle.pe_base.specs.Walk.Walk.{traverse}

pub traverse-through : {Plan Plain : Type 0} (seen : Plan → Plain) (rules : Rules Plain) (plan : Plan) (axes start_level max_cells traversal : ℕ) (grid : Grid)
    → traverse (record { rules = rules_through seen rules; plan = plan; axes = axes; start_level = start_level; max_cells = max_cells; traversal = traversal }) grid
    ≡ traverse (record { rules = rules; plan = seen plan; axes = axes; start_level = start_level; max_cells = max_cells; traversal = traversal }) grid
traverse-through seen rules plan axes start_level max_cells traversal grid = refl
