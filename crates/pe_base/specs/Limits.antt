-- The limits that grids, scenarios and streams are held to.
use Rattle.std.specs.Prelude.{ℕ}

-- the greatest level that a cell may have
abbrev pub most_levels : ℕ
most_levels = 20

-- a limit of cells allows at least as many as a grid of four dimensions has on level 1
abbrev pub least_cells : ℕ
least_cells = 81

-- and at most these
abbrev pub most_cells : ℕ
most_cells = 4194304

-- the most traversals that a grid may take
abbrev pub most_traversals : ℕ
most_traversals = 1000000000

-- the most traversals that one scenario may ask for
abbrev pub scenario_traversals : ℕ
scenario_traversals = 1000

-- the greatest length of a scenario, in bytes
abbrev pub scenario_bytes : ℕ
scenario_bytes = 1048576

-- the most numbers that a vertex, a cell or the whole grid may have
abbrev pub most_fields : ℕ
most_fields = 8

-- the greatest length of a number's name, in bytes
abbrev pub name_bytes : ℕ
name_bytes = 16
