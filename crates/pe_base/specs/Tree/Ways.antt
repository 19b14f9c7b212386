-- The two ways of a traversal.
use Rattle.std.specs.Prelude.{ℕ, ◌%◌, if◌then◌else◌, ◌==◌}
use Rattle.pe_base.specs.declared.way.Way.{Way}
use Rattle.pe_base.specs.declared.way.Way.TheVariants.{Forward, Inverted}

-- odd traversals walk forward, even ones inverted
abbrev pub way_of : ℕ → Way
way_of traversal = if traversal % 2 == 1 then Forward else Inverted

-- the other way
abbrev pub opposite : Way → Way
opposite Forward = Inverted
opposite Inverted = Forward
