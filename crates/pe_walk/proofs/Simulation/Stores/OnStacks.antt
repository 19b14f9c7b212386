-- What the store of a corner does to the places: what counts goes from the hand to where it goes, and no other place moves.
use Rattle.std.proofs.Common.{◌≡◌, inl, inr, ℕ, ◌+◌, ◌-◌, ◌<◌, ◌≤◌, Bool, true, false, List, length, suc, Option, Some, None, refl, sym, ap, subst, ◌∙◌, arith}
use Rattle.std.specs.Prelude.{if◌then◌else◌}
use Rattle.std.proofs.lemmas.List.Sums.{sum_by-cons}
use Rattle.std.proofs.lemmas.List.{get_or-set_same, get_or-set_other}
use Rattle.std.proofs.lemmas.Bool.{cases_eq}
use Rattle.pe_base.specs.declared.place.Place.{Place}
use Rattle.pe_base.specs.Tree.Places.{is_same}
use Rattle.pe_base.proofs.Steps.VertexTouches.{is_same_itself}
use Rattle.pe_stacks.specs.Holdings.{Holdings, Stack, new_stack, stack_count, stack_at, items_at, len_at, pushed, pushed_on}
use Rattle.pe_order.specs.Tokens.{Tokens, one_less, put}
use Rattle.pe_order.specs.Apart.{lies}
use Rattle.pe_walk.specs.Standing.{times}
use Rattle.pe_order.proofs.Tokens.Apart.{one_if}
use Rattle.pe_order.proofs.Tokens.Stacks.{pushed_same, pushed_other, pushed_count}
use Rattle.pe_order.proofs.Tokens.MoveFrames.{pushed_once}

-- what is held after a place was stored that counts, or does not
abbrev pub held_after : Bool → Place → (Place → ℕ) → Place → ℕ
held_after true place held = one_less place held
held_after false place held = held

-- the places after one of them was stored
abbrev pub stored : Bool → Option ℕ → Place → Tokens → Tokens
stored counts goal place t = record t { vertices = put goal place t.vertices; held = held_after counts place t.held }

-- a place is another than the one that is stored, or that one is not held
abbrev pub IsOther : Bool → Place → Place → Type 0
IsOther counts place q = counts ≡ true → is_same place q ≡ false

-- where a place goes is a stack of the depot
abbrev pub Within : Option ℕ → Holdings Place → Type 0
Within goal held = (s : ℕ) → goal ≡ Some s → s < stack_count held

one_less-other : (place q : Place) (held : Place → ℕ) → is_same place q ≡ false → one_less place held q ≡ held q
one_less-other place q held e = ap (λ b. if b then held q - 1 else held q) e

-- what is held of other places stays
pub held-other : (counts : Bool) (place q : Place) (held : Place → ℕ) → IsOther counts place q → held_after counts place held q ≡ held q
held-other true place q held other = one_less-other place q held (other refl)
held-other false place q held other = refl

pub held-most : (counts : Bool) (place q : Place) (held : Place → ℕ) → held_after counts place held q ≤ held q
held-most true place q held = go (is_same place q) (held q)
  where
    go : (b : Bool) (n : ℕ) → (if b then n - 1 else n) ≤ n
    go true n = omega arith
    go false n = omega arith
held-most false place q held = omega arith

pub held-itself : (place : Place) (held : Place → ℕ) → one_less place held place ≡ held place - 1
held-itself place held = ap (λ b. if b then held place - 1 else held place) (is_same_itself place)

-- other places lie where they lay
pub times-other : (goal : Option ℕ) (place q : Place) (held : Holdings Place) (s : ℕ) → Within goal held → is_same place q ≡ false → times (items_at (put goal place held) s) q ≡ times (items_at held s) q
times-other None place q held s within e = refl
times-other (Some w) place q held s within e = elim (cases_eq s w) [
  | inl k ↦
      ap (λ n. times (items_at (pushed held w place) n) q) k ∙ ap (λ xs. times xs q) (pushed_same held w place (within w refl))
      ∙ sum_by-cons (λ other. one_if (is_same other q)) place (items_at held w) ∙ ap (λ b. one_if b + times (items_at held w) q) e
      ∙ (let none : 0 + times (items_at held w) q ≡ times (items_at held w) q = omega arith in none) ∙ ap (λ n. times (items_at held n) q) (sym k)
  | inr k ↦ ap (λ xs. times xs q) (pushed_other held w s place k)
]

pub lies-other : (goal : Option ℕ) (place q : Place) (held : Holdings Place) → Within goal held → is_same place q ≡ false → lies (put goal place held) q ≡ lies held q
lies-other None place q held within e = refl
lies-other (Some w) place q held within e = omega (arith, pushed_once w place q held (within w refl), ap one_if e)

-- what is stored, if it lay nowhere, lies where it went and nowhere else
pub went : (goal : Option ℕ) (place : Place) (held : Holdings Place) (s : ℕ) → Within goal held → times (items_at held s) place ≡ 0 → 1 ≤ times (items_at (put goal place held) s) place → goal ≡ Some s
went None place held s within none some = absurd (omega (arith, none, some))
went (Some w) place held s within none some = elim (cases_eq s w) [
  | inl k ↦ ap Some (sym k)
  | inr k ↦ absurd (omega (arith, none, some, ap (λ xs. times xs place) (pushed_other held w s place k)))
]

pub went_nowhere : (goal : Option ℕ) (place : Place) (held : Holdings Place) → Within goal held → lies (put goal place held) place ≡ 0 → goal ≡ None
went_nowhere None place held within none = refl
went_nowhere (Some w) place held within none = absurd (omega (arith, none, pushed_once w place place held (within w refl), ap one_if (is_same_itself place)))

-- # Counts
pub out-put : (goal : Option ℕ) (place : Place) (held : Holdings Place) → (put goal place held).out ≡ held.out - 1
out-put None place held = refl
out-put (Some w) place held = refl

pub fresh-put : (goal : Option ℕ) (place : Place) (held : Holdings Place) → (put goal place held).fresh ≡ held.fresh
fresh-put None place held = refl
fresh-put (Some w) place held = refl

pub count-put : (goal : Option ℕ) (place : Place) (held : Holdings Place) → stack_count (put goal place held) ≡ stack_count held
count-put None place held = refl
count-put (Some w) place held = pushed_count held w place

-- a stack after a place was stored
pub record Grows (before after : Stack Place) : Type 0 where
  pub pushes : after.pushes ≤ before.pushes + 1
  pub pops : after.pops ≡ before.pops

pub stack-put : (goal : Option ℕ) (place : Place) (held : Holdings Place) (s : ℕ) → Within goal held → Grows (stack_at held s) (stack_at (put goal place held) s)
stack-put None place held s within = record { pushes = omega arith; pops = refl }
stack-put (Some w) place held s within = elim (cases_eq s w) [
  | inl k ↦ subst (λ n. Grows (stack_at held n) (stack_at (pushed held w place) n)) (sym k)
      (subst (Grows (stack_at held w)) (sym (get_or-set_same held.stacks w (pushed_on (stack_at held w) place) new_stack (within w refl))) (record { pushes = omega arith; pops = refl }))
  | inr k ↦ subst (Grows (stack_at held s)) (sym (get_or-set_other held.stacks w s (pushed_on (stack_at held w) place) new_stack k)) (record { pushes = omega arith; pops = refl })
]

pub len-put : (goal : Option ℕ) (place : Place) (held : Holdings Place) (s : ℕ) → Within goal held → len_at (put goal place held) s ≤ len_at held s + 1
len-put None place held s within = omega arith
len-put (Some w) place held s within = elim (cases_eq s w) [
  | inl k ↦ omega (arith, ap (λ n. len_at (pushed held w place) n) k, ap (λ (xs : List Place). length xs) (pushed_same held w place (within w refl)), ap (len_at held) k)
  | inr k ↦ omega (arith, ap (λ (xs : List Place). length xs) (pushed_other held w s place k))
]

pub len-pushed : (s : ℕ) (place : Place) (held : Holdings Place) → s < stack_count held → len_at (pushed held s place) s ≡ len_at held s + 1
len-pushed s place held within = ap (λ (xs : List Place). length xs) (pushed_same held s place within) ∙ (let e : suc (len_at held s) ≡ len_at held s + 1 = omega arith in e)
