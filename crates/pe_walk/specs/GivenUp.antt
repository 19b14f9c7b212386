-- Records that are given up, one after another.
use Rattle.std.specs.Prelude.{ℕ, zero, suc}
use Rattle.pe_stacks.specs.Holdings.{Holdings, given_up}

abbrev pub given_up_times : {X : Type 0} → ℕ → Holdings X → Holdings X
given_up_times zero held = held
given_up_times (suc n) held = given_up (given_up_times n held)
