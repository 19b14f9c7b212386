-- Calls on a depot, as steps of the machine: what each asks for, and what it is.
use Rattle.std.proofs.Common.{◌≡◌, ℕ, ◌+◌, ◌^◌, ◌<◌, Bool, true, false, ◌&&◌, List, [], ◌∷◌, map, length, Some, refl, sym, ap, subst, ◌∙◌, arith}
use Rattle.std.specs.Prelude.{nat_lt, slice_get}
use Rattle.std.proofs.lemmas.Bool.{ltb-true, and_parts}
use Rattle.pe_base.specs.Walk.Course.{Course, done, at_once, allowed}
use Rattle.pe_stacks.specs.Holdings.{Holdings, stack_count, stack_at, items_at, len_at, lent, given_up, pushed, popped}
use Rattle.pe_hang.specs.InHand.{map_holdings}
use Rattle.pe_hang.specs.Moves.{may_rise, lend, give_up, top_of, pop, push, MayPop, MayPush}
use Rattle.pe_base.specs.Calls.Follows.{Fits}
use Rattle.pe_hang.proofs.OnStacks.{stack_count-map, stack_at-map, len_at-map, pushed-map, popped-map}

-- a step that may be made only where a test passes
pub allowed-fits : {X : Type 0} (test : Bool) (course : Course X) → Fits (allowed test course) → test ≡ true
allowed-fits true course fits = refl
allowed-fits false course fits = fits

pub allowed-is : {X : Type 0} (test : Bool) (course : Course X) → Fits (allowed test course) → allowed test course ≡ course
allowed-is test course fits = ap (λ t. allowed t course) (allowed-fits test course fits)

module _ {X Y : Type 0} (f : X → Y) where
  pub lend-may : (held : Holdings X) → Fits (lend (map_holdings f held)) → held.fresh < 2 ^ 63
  lend-may held fits = ltb-true held.fresh (2 ^ 63) (allowed-fits (may_rise held.fresh) (at_once (lent (map_holdings f held))) fits)

  pub lend-is : (held : Holdings X) → Fits (lend (map_holdings f held)) → lend (map_holdings f held) ≡ at_once (map_holdings f (lent held))
  lend-is held fits = allowed-is (may_rise held.fresh) (at_once (lent (map_holdings f held))) fits

  pub give_up-may : (held : Holdings X) → Fits (give_up (map_holdings f held)) → 0 < held.out
  give_up-may held fits = ltb-true 0 held.out (allowed-fits (nat_lt 0 held.out) (at_once (given_up (map_holdings f held))) fits)

  pub give_up-is : (held : Holdings X) → Fits (give_up (map_holdings f held)) → give_up (map_holdings f held) ≡ at_once (map_holdings f (given_up held))
  give_up-is held fits = allowed-is (nat_lt 0 held.out) (at_once (given_up (map_holdings f held))) fits

  top-full : (ys : List Y) (held : Holdings Y) → Fits (top_of ys held) → 0 < length ys
  top-full [] held fits = absurd (let no : false ≡ true = fits in cc)
  top-full (y ∷ ys) held fits = omega arith

  pub pop-may : (held : Holdings X) (s : ℕ) → Fits (pop s (map_holdings f held)) → MayPop held s
  pop-may held s fits =
      let tests = allowed-fits _ (top_of (items_at (map_holdings f held) s) (popped (map_holdings f held) s)) fits in
      let each = and_parts (nat_lt s (stack_count (map_holdings f held))) (may_rise (stack_at (map_holdings f held) s).pops) tests in
      let top : Fits (top_of (items_at (map_holdings f held) s) (popped (map_holdings f held) s)) =
      subst Fits (allowed-is _ (top_of (items_at (map_holdings f held) s) (popped (map_holdings f held) s)) fits) fits in
      record {
        stack = subst (λ n. s < n) (stack_count-map f held) (ltb-true _ _ each.0);
        count = subst (λ stack. stack.pops < 2 ^ 63) (stack_at-map f held s) (ltb-true _ _ each.1);
        full = subst (λ n. 0 < n) (len_at-map f held s) (top-full (items_at (map_holdings f held) s) (popped (map_holdings f held) s) top);
      }

  top-is : (xs : List X) (held : Holdings Y) (x : X) → slice_get xs 0 ≡ Some x → top_of (map f xs) held ≡ at_once (f x, held)
  top-is [] held x is = absurd cc
  top-is (y ∷ ys) held x is = let same : y ≡ x = cc in ap (λ z. at_once (f z, held)) same

  pub pop-is : (held : Holdings X) (s : ℕ) (x : X) → Fits (pop s (map_holdings f held)) → slice_get (items_at held s) 0 ≡ Some x
      → pop s (map_holdings f held) ≡ at_once (f x, map_holdings f (popped held s))
  pop-is held s x fits is =
      allowed-is _ (top_of (items_at (map_holdings f held) s) (popped (map_holdings f held) s)) fits
      ∙ ap (λ stack. top_of stack.items (popped (map_holdings f held) s)) (stack_at-map f held s)
      ∙ top-is (items_at held s) (popped (map_holdings f held) s) x is
      ∙ ap (λ after. at_once (f x, after)) (sym (popped-map f held s))

  abbrev pushing : Bool → ℕ → X → Holdings X → Course (Holdings Y)
  pushing of_cell s x held = record { text = []; log = record { of_cell = of_cell; stack = s; length = len_at (map_holdings f held) s + 1 } ∷ []; ending = done (pushed (map_holdings f held) s (f x)) }

  pub push-may : (of_cell : Bool) (s : ℕ) (x : X) (held : Holdings X) → Fits (push of_cell s (f x) (map_holdings f held)) → MayPush held s
  push-may of_cell s x held fits =
      let tests = allowed-fits _ (pushing of_cell s x held) fits in
      let all = and_parts (nat_lt s (stack_count (map_holdings f held)) && may_rise (stack_at (map_holdings f held) s).pushes) (nat_lt 0 held.out) tests in
      let each = and_parts (nat_lt s (stack_count (map_holdings f held))) (may_rise (stack_at (map_holdings f held) s).pushes) all.0 in
      record {
        stack = subst (λ n. s < n) (stack_count-map f held) (ltb-true _ _ each.0);
        count = subst (λ stack. stack.pushes < 2 ^ 63) (stack_at-map f held s) (ltb-true _ _ each.1);
        out = ltb-true _ _ all.1;
      }

  -- a push, as a course
  abbrev pub push_of : Bool → ℕ → X → Holdings X → Course (Holdings Y)
  push_of of_cell s x held = record { text = []; log = record { of_cell = of_cell; stack = s; length = len_at held s + 1 } ∷ []; ending = done (map_holdings f (pushed held s x)) }

  pub push-is : (of_cell : Bool) (s : ℕ) (x : X) (held : Holdings X) → Fits (push of_cell s (f x) (map_holdings f held))
      → push of_cell s (f x) (map_holdings f held) ≡ push_of of_cell s x held
  push-is of_cell s x held fits =
      allowed-is _ (pushing of_cell s x held) fits
      ∙ ap (λ n. record { text = []; log = record { of_cell = of_cell; stack = s; length = n + 1 } ∷ []; ending = done (pushed (map_holdings f held) s (f x)) }) (len_at-map f held s)
      ∙ ap (λ after. record { text = []; log = record { of_cell = of_cell; stack = s; length = len_at held s + 1 } ∷ []; ending = done after }) (sym (pushed-map f held s x))
