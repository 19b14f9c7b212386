-- Records that are given up, one after another.
use Rattle.std.proofs.Common.{◌≡◌, ℕ, zero, suc, ◌+◌, List, [], ◌∷◌, length, Ok, refl, sym, ap, subst, ◌∙◌, add-one}
use Rattle.pe_base.specs.Acts.Effects.{VertexRecord}
use Rattle.pe_base.specs.Walk.Course.{Course, at_once, and_then}
use Rattle.pe_base.specs.Walk.Core.{Setting}
use Rattle.pe_stacks.specs.Holdings.{Holdings, given_up}
use Rattle.pe_base.specs.Calls.Told.{Adds}
use Rattle.pe_base.proofs.Calls.Texts.{adds-nothing}
use Rattle.pe_hang.specs.InHand.{map_holdings}
use Rattle.pe_hang.specs.Moves.{give_up}
use Rattle.pe_base.specs.Calls.Follows.{Follows, Fits, BeforeCall}
use Rattle.pe_base.proofs.Calls.Leading.{and_then-fits}
use Rattle.pe_hang.proofs.Moving.{give_up-is}
use Rattle.pe_walk.specs.GivenUp.{given_up_times}
use Rattle.pe_adapt.specs.CountedTouches.{Machine, StreamStacks}
use Rattle.pe_walk.specs.Machine.{give_up_all}

pub given_up-more : {X : Type 0} (n : ℕ) (held : Holdings X) → given_up (given_up_times n held) ≡ given_up_times (n + 1) held
given_up-more n held = ap (λ k. given_up_times k held) (sym (add-one n))

-- the first of some is given up before the others
given_up-first : {X : Type 0} (n : ℕ) (held : Holdings X) → given_up_times n (given_up held) ≡ given_up (given_up_times n held)
given_up-first zero held = refl
given_up-first (suc n) held = ap given_up (given_up-first n held)

module _ {Plan X : Type 0} (f : X → VertexRecord) (set : Setting Plan) (streams : StreamStacks) (m : Machine) where
  abbrev with_vertices : Holdings X → Machine
  with_vertices held = record m { vertices = map_holdings f held }

  -- as many records as there are corners
  pub gives-all : (its : List VertexRecord) (held : Holdings X) → Fits (give_up_all set streams its (with_vertices held))
      → give_up_all set streams its (with_vertices held) ≡ at_once (with_vertices (given_up_times (length its) held))
  gives-all [] held fits = refl
  gives-all (it ∷ its) held fits =
      let next = λ (vertices : Holdings VertexRecord). give_up_all set streams its (record m { vertices = vertices }) in
      let is = give_up-is f held (and_then-fits (give_up (map_holdings f held)) next fits) in
      let one = ap (λ course. and_then course next) is in
      one
      ∙ gives-all its (given_up held) (subst Fits one fits)
      ∙ ap (λ h. at_once (with_vertices h)) (given_up-first (length its) held)

  pub gives-follow : (its : List VertexRecord) (n : ℕ) (held held' : Holdings X) (found : BeforeCall) → Fits (give_up_all set streams its (with_vertices held)) → n ≡ length its → held' ≡ given_up_times n held
      → Follows (give_up_all set streams its (with_vertices held)) (λ (u : Unit {0}). with_vertices held') (Ok tt) found found.told
  gives-follow its n held held' found fits count after =
      let course = gives-all its held fits in
      let same : given_up_times (length its) held ≡ held' = ap (λ k. given_up_times k held) (sym count) ∙ sym after in
      record {
        ends = ap (λ (c : Course Machine). c.ending) course ∙ ap (λ h. (at_once (with_vertices h)).ending) same;
        told = subst (λ text. Adds found.told text found.told) (sym (ap (λ (c : Course Machine). c.text) course)) (adds-nothing found.told);
      }
