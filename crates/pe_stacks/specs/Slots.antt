-- Sixteen slots, four by four, as a list.
use Rattle.std.specs.Prelude.{List, Option, [], ◌∷◌}
use Rattle.pe_stacks.specs.declared.slots.Slots.TheInside.{Inside}

abbrev pub listed : {X : Type 0} → Inside X → List (Option X)
listed it =
    it.q0.p0 ∷ it.q0.p1 ∷ it.q0.p2 ∷ it.q0.p3 ∷ it.q1.p0 ∷ it.q1.p1 ∷ it.q1.p2 ∷ it.q1.p3
    ∷ it.q2.p0 ∷ it.q2.p1 ∷ it.q2.p2 ∷ it.q2.p3 ∷ it.q3.p0 ∷ it.q3.p1 ∷ it.q3.p2 ∷ it.q3.p3 ∷ []
