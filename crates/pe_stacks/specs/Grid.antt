-- Which stacks the streams of a grid are. The output of a traversal is the input of the next.
--
--              vertices    cells
--     input       8          0        at first, and then the other way round
--     output      9          1        with each traversal
use Rattle.std.specs.Prelude.{ℕ, Bool, not, if◌then◌else◌}

abbrev pub input_stack : Bool → ℕ
input_stack swapped = if swapped then 9 else 8

abbrev pub output_stack : Bool → ℕ
output_stack swapped = input_stack (not swapped)

abbrev pub cell_input_stack : Bool → ℕ
cell_input_stack swapped = if swapped then 1 else 0

abbrev pub cell_output_stack : Bool → ℕ
cell_output_stack swapped = cell_input_stack (not swapped)
