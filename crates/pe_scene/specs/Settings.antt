-- The settings of a scenario.
use Rattle.std.specs.Prelude.{ℕ, ℤ, List, Option, Some, None, Result, Ok, Err}
use Rattle.toml.specs.Data.{Data, Members, get_member, as_integer}
use Rattle.pe_base.specs.Limits.{most_levels}
use Rattle.pe_scene.specs.declared.fault.SceneFault.{SceneFault}
use Rattle.pe_scene.specs.declared.fault.SceneFault.TheVariants.{Missing, Shape, Range as OutOfRange}
use Rattle.pe_scene.specs.declared.number.Number.{Number}
use Rattle.pe_scene.specs.declared.number.Number.TheVariants.{Dim, Traversals, MaxLevel, StartLevel, MaxCells}
use Rattle.pe_scene.specs.declared.number.Range.{Range}
use Rattle.pe_scene.specs.Faults.{on_ok}
use Rattle.pe_scene.specs.Numbers.{key_of, range_of, within}

abbrev pub or_range : List ℕ → Option ℕ → Result ℕ SceneFault
or_range key None = Err (OutOfRange key)
or_range key (Some n) = Ok n

abbrev pub or_shape : List ℕ → Range → Option ℤ → Result ℕ SceneFault
or_shape key range None = Err (Shape key)
or_shape key range (Some z) = or_range key (within range z)

abbrev pub or_missing : List ℕ → Option ℕ → Result ℕ SceneFault
or_missing key None = Err (Missing key)
or_missing key (Some n) = Ok n

-- the number of a value at a key, if one stands there: an integer within the range, which may have a default
abbrev pub number_of : List ℕ → Range → Option Data → Result ℕ SceneFault
number_of key range None = or_missing key range.default
number_of key range (Some value) = or_shape key range (as_integer value)

-- a number, where the grid may have so many levels
abbrev pub number_in : ℕ → Number → Members → Result ℕ SceneFault
number_in levels number members = number_of (key_of number) (range_of levels number) (get_member (key_of number) members)

-- the settings of a scenario
pub record Settings : Type 0 where
  pub dim : ℕ
  pub traversals : ℕ
  pub max_level : ℕ
  pub start_level : ℕ
  pub max_cells : ℕ

-- a grid starts with no more levels than it may have
abbrev pub settings_in : Members → Result Settings SceneFault
settings_in members =
    on_ok (number_in most_levels Dim members) (λ dim.
    on_ok (number_in most_levels Traversals members) (λ traversals.
    on_ok (number_in most_levels MaxLevel members) (λ max_level.
    on_ok (number_in max_level StartLevel members) (λ start_level.
    on_ok (number_in max_level MaxCells members) (λ max_cells.
    Ok (record { dim = dim; traversals = traversals; max_level = max_level; start_level = start_level; max_cells = max_cells }))))))
