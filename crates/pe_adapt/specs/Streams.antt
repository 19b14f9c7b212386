-- The stacks of a traversal's streams.
use Rattle.std.specs.Prelude.{◌≡◌, ℕ, ◌+◌, ◌≤◌}

-- of vertices and of cells, one of two stacks is the input, and the other the output
pub record AreStreams (input output cell_input cell_output : ℕ) : Type 0 where
  pub low : 8 ≤ input
  pub high : input ≤ 9
  pub others : input + output ≡ 17
  pub cell_high : cell_input ≤ 1
  pub cell_others : cell_input + cell_output ≡ 1
