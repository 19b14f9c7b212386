-- The stacks by which records come and go.
use Rattle.std.proofs.Common.{◌≡◌, ℕ, ◌<◌, Bool, true, false, ◌&&◌, Option, None, refl, arith}
use Rattle.std.specs.Prelude.{if◌then◌else◌}
use Rattle.pe_base.specs.Steps.Stacks.{is_stack}
use Rattle.pe_stacks.specs.Grid.{input_stack, output_stack, cell_input_stack, cell_output_stack}

pub few_input_stacks : (swapped : Bool) → input_stack swapped < 10
few_input_stacks true = omega arith
few_input_stacks false = omega arith

pub few_stacks : (swapped : Bool) → output_stack swapped < 10
few_stacks true = omega arith
few_stacks false = omega arith

pub few_cell_input_stacks : (swapped : Bool) → cell_input_stack swapped < 2
few_cell_input_stacks true = omega arith
few_cell_input_stacks false = omega arith

pub few_cell_stacks : (swapped : Bool) → cell_output_stack swapped < 2
few_cell_stacks true = omega arith
few_cell_stacks false = omega arith

pub counted_stack : (b : Bool) (s : ℕ) (from : Option ℕ) → is_stack s (if b then from else None) ≡ (b && is_stack s from)
counted_stack true s from = refl
counted_stack false s from = refl
