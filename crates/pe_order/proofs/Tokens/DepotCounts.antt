-- The counts of a depot after each step.
use Rattle.std.specs.List.{AllByRecursion as Each}
use Rattle.std.proofs.Common.{◌≡◌, inl, inr, ℕ, zero, suc, ◌+◌, ◌-◌, ◌<◌, ◌≤◌, Bool, true, false, cond, ◌==◌, List, [], ◌∷◌, length, Option, Some, None, refl, sym, ap, ◌∙◌, subst, arith}
use Rattle.std.specs.Prelude.{max, is_none, count_by}
use Rattle.std.proofs.lemmas.List.{get_or-set_same, get_or-set_other}
use Rattle.std.proofs.lemmas.List.Sums.{sum_by-cons}
use Rattle.std.proofs.lemmas.Bool.{ne_eqb, cases_eq}
use Rattle.pe_base.specs.declared.place.Place.{Place}
use Rattle.pe_base.specs.Steps.Stacks.{is_stack}
use Rattle.pe_base.proofs.Steps.VertexTouches.{same_itself}
use Rattle.pe_stacks.specs.Holdings.{Holdings, Stack, new_stack, stack_count, stack_at, items_at, lent, given_up, pushed, popped, pushed_on, popped_from}
use Rattle.pe_order.specs.Tokens.{is_top, given, taken, put, lent_for, given_up_for}
use Rattle.pe_order.proofs.Tokens.Stacks.{is_stack_of, popped_count, pushed_count}
use Rattle.pe_order.proofs.Tokens.Keeping.{given_some}
use Rattle.pe_order.proofs.Tokens.Apart.{one_if}

-- the counts of a depot after a place is taken, and after one is put
pub record Took (from : Option ℕ) (held after : Holdings Place) : Type 0 where
  pub stacks : stack_count after ≡ stack_count held
  pub pops : (s : ℕ) → (stack_at after s).pops ≡ (stack_at held s).pops + one_if (is_stack s from)
  pub pushes : (s : ℕ) → (stack_at after s).pushes ≡ (stack_at held s).pushes
  pub fresh : after.fresh ≡ held.fresh + one_if (is_none from)
  pub spent : after.spent ≡ held.spent
  pub out : after.out ≡ held.out + 1
  pub most : after.most ≡ max held.most (held.out + 1)

pub take_counts : (from : Option ℕ) (place : Place) (held after : Holdings Place) → taken from place held ≡ Some after → Took from held after
take_counts None place held after e =
    let same : lent held ≡ after = cc in
    subst (Took None held) same (record { stacks = refl; pops = λ s. omega arith; pushes = λ s. refl; fresh = refl; spent = refl; out = refl; most = refl })
take_counts (Some w) place held after e = go (items_at held w) refl e
  where
    counts : (x : Place) (xs : List Place) → items_at held w ≡ x ∷ xs → Took (Some w) held (popped held w)
    counts x xs k = record {
      stacks = popped_count held w;
      pops = λ s. elim (cases_eq s w) [
        | inl e ↦ ap (λ z. (stack_at (popped held w) z).pops) e ∙ ap (λ (stack : Stack Place). stack.pops) (get_or-set_same held.stacks w (popped_from (stack_at held w)) new_stack (is_stack_of held w x xs k))
            ∙ ap (λ z. (stack_at held z).pops + 1) (sym e) ∙ ap (λ b. (stack_at held s).pops + one_if b) (sym (ap (λ z. z == w) e ∙ same_itself w))
        | inr e ↦ ap (λ (stack : Stack Place). stack.pops) (get_or-set_other held.stacks w s (popped_from (stack_at held w)) new_stack e)
            ∙ (let z : (stack_at held s).pops ≡ (stack_at held s).pops + 0 = omega arith in z) ∙ ap (λ b. (stack_at held s).pops + one_if b) (sym (ne_eqb s w e))
      ];
      pushes = λ s. elim (cases_eq s w) [
        | inl e ↦ ap (λ z. (stack_at (popped held w) z).pushes) e ∙ ap (λ (stack : Stack Place). stack.pushes) (get_or-set_same held.stacks w (popped_from (stack_at held w)) new_stack (is_stack_of held w x xs k)) ∙ ap (λ z. (stack_at held z).pushes) (sym e)
        | inr e ↦ ap (λ (stack : Stack Place). stack.pushes) (get_or-set_other held.stacks w s (popped_from (stack_at held w)) new_stack e)
      ];
      fresh = omega arith;
      spent = refl;
      out = refl;
      most = refl;
    }

    go : (xs : List Place) → items_at held w ≡ xs → given (is_top place xs) (Some (popped held w)) ≡ Some after → Took (Some w) held after
    go [] k f = absurd cc
    go (x ∷ xs) k f =
        let g = given_some (is_top place (x ∷ xs)) (Some (popped held w)) after f in
        let same : popped held w ≡ after = cc (g.1) in
        subst (Took (Some w) held) same (counts x xs k)

pub record Gave (to : Option ℕ) (held after : Holdings Place) : Type 0 where
  pub stacks : stack_count after ≡ stack_count held
  pub pops : (s : ℕ) → (stack_at after s).pops ≡ (stack_at held s).pops
  pub pushes : (s : ℕ) → (stack_at after s).pushes ≡ (stack_at held s).pushes + one_if (is_stack s to)
  pub fresh : after.fresh ≡ held.fresh
  pub spent : after.spent ≡ held.spent + one_if (is_none to)
  pub out : after.out ≡ held.out - 1
  pub most : after.most ≡ held.most

pub put_counts : (to : Option ℕ) (place : Place) (held : Holdings Place) → ((s : ℕ) → to ≡ Some s → s < stack_count held) → Gave to held (put to place held)
put_counts None place held within = record { stacks = refl; pops = λ s. refl; pushes = λ s. omega arith; fresh = refl; spent = refl; out = refl; most = refl }
put_counts (Some w) place held within = record {
  stacks = pushed_count held w place;
  pops = λ s. elim (cases_eq s w) [
    | inl e ↦ ap (λ z. (stack_at (pushed held w place) z).pops) e ∙ ap (λ (stack : Stack Place). stack.pops) (get_or-set_same held.stacks w (pushed_on (stack_at held w) place) new_stack (within w refl)) ∙ ap (λ z. (stack_at held z).pops) (sym e)
    | inr e ↦ ap (λ (stack : Stack Place). stack.pops) (get_or-set_other held.stacks w s (pushed_on (stack_at held w) place) new_stack e)
  ];
  pushes = λ s. elim (cases_eq s w) [
    | inl e ↦ ap (λ z. (stack_at (pushed held w place) z).pushes) e ∙ ap (λ (stack : Stack Place). stack.pushes) (get_or-set_same held.stacks w (pushed_on (stack_at held w) place) new_stack (within w refl))
        ∙ ap (λ z. (stack_at held z).pushes + 1) (sym e) ∙ ap (λ b. (stack_at held s).pushes + one_if b) (sym (ap (λ z. z == w) e ∙ same_itself w))
    | inr e ↦ ap (λ (stack : Stack Place). stack.pushes) (get_or-set_other held.stacks w s (pushed_on (stack_at held w) place) new_stack e)
        ∙ (let z : (stack_at held s).pushes ≡ (stack_at held s).pushes + 0 = omega arith in z) ∙ ap (λ b. (stack_at held s).pushes + one_if b) (sym (ne_eqb s w e))
  ];
  fresh = refl;
  spent = omega arith;
  out = refl;
  most = refl;
}

-- places that are made one after another
pub record Lent (n : ℕ) (held after : Holdings Place) : Type 0 where
  pub stacks : stack_count after ≡ stack_count held
  pub same : after.stacks ≡ held.stacks
  pub fresh : after.fresh ≡ held.fresh + n
  pub spent : after.spent ≡ held.spent
  pub out : after.out ≡ held.out + n
  pub most : (m : ℕ) → held.out + n ≤ m → max after.most m ≡ max held.most m
  pub least : 1 ≤ n → after.out ≤ after.most
  pub idle : n ≡ 0 → after.most ≡ held.most

pub lent_counts : (ks : List ℕ) (held : Holdings Place) → Lent (length ks) held (lent_for ks held)
lent_counts [] held = record { stacks = refl; same = refl; fresh = omega arith; spent = refl; out = omega arith; most = λ m h. refl; least = λ h. absurd (omega arith); idle = λ h. refl }
lent_counts (k ∷ ks) held =
    let more = lent_counts ks (lent held) in record {
      stacks = more.stacks;
      same = more.same;
      fresh = omega (arith, more.fresh);
      spent = more.spent;
      out = omega (arith, more.out);
      most = λ m h. more.most m (omega arith) ∙ higher held.most (held.out + 1) m (omega arith);
      least = λ h. none_or_some (length ks) held.out held.most (lent_for ks (lent held)).out (lent_for ks (lent held)).most more.out more.idle more.least;
      idle = λ h. absurd (omega arith);
    }
  where
    higher : (a b m : ℕ) → b ≤ m → max (max a b) m ≡ max a m
    higher a b m h = omega arith

    none_or_some : (n ho hm ao am : ℕ) → ao ≡ (ho + 1) + n → (n ≡ 0 → am ≡ max hm (ho + 1)) → (1 ≤ n → ao ≤ am) → ao ≤ am
    none_or_some zero ho hm ao am e f g = let same : am ≡ max hm (ho + 1) = f refl in omega arith
    none_or_some (suc n) ho hm ao am e f g = g (omega arith)

pub record GivenUp (n : ℕ) (held after : Holdings Place) : Type 0 where
  pub same : after.stacks ≡ held.stacks
  pub fresh : after.fresh ≡ held.fresh
  pub spent : after.spent ≡ held.spent + n
  pub out : after.out ≡ held.out - n
  pub most : after.most ≡ held.most

pub given_up_counts : (ks : List ℕ) (held : Holdings Place) → GivenUp (length ks) held (given_up_for ks held)
given_up_counts [] held = record { same = refl; fresh = refl; spent = omega arith; out = omega arith; most = refl }
given_up_counts (k ∷ ks) held =
    let more = given_up_counts ks (given_up held) in
    record { same = more.same; fresh = more.fresh; spent = omega (arith, more.spent); out = omega (arith, more.out); most = more.most }

pub count_none : {X : Type 0} (p : X → Bool) (xs : List X) → Each (λ x. p x ≡ false) xs → count_by p xs ≡ 0
count_none p [] e = refl
count_none p (x ∷ xs) e = sum_by-cons (λ y. cond (p y) 1 0) x xs ∙ omega (arith, ap one_if e.0, count_none p xs e.1)

pub count_all : {X : Type 0} (p : X → Bool) (xs : List X) → Each (λ x. p x ≡ true) xs → count_by p xs ≡ length xs
count_all p [] e = refl
count_all p (x ∷ xs) e = sum_by-cons (λ y. cond (p y) 1 0) x xs ∙ omega (arith, ap one_if e.0, count_all p xs e.1)
