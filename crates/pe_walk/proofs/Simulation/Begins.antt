-- A grid's streams on the stacks of the machine are the image of the grid, and of its streams of places.
use Rattle.std.proofs.Common.{◌≡◌, ℕ, zero, suc, ◌<◌, ◌≤◌, Bool, true, false, List, [], ◌∷◌, map, length, get_or, refl, sym, ap, ap₂, ◌∙◌, arith, if◌then◌else◌}
use Rattle.pe_base.specs.declared.place.Place.{Place}
use Rattle.pe_base.specs.declared.kind.Kind.{Kind}
use Rattle.pe_base.specs.declared.kind.Kind.TheVariants.{Kept}
use Rattle.pe_base.specs.Tree.Places.{is_same}
use Rattle.pe_base.specs.Acts.Effects.{VertexRecord}
use Rattle.pe_base.specs.Walk.Grids.{StoredVertex}
use Rattle.pe_base.proofs.Steps.VertexTouches.{is_same_itself}
use Rattle.pe_base.proofs.Tree.Ranks.{same_places}
use Rattle.pe_stacks.specs.Holdings.{Stack, Holdings, new_stack, stack_at, stack_count, items_at}
use Rattle.pe_hang.specs.InHand.{map_stack, map_holdings}
use Rattle.pe_order.specs.CellsAhead.{times}
use Rattle.pe_stacks.specs.StreamsHeld.{stored_of}
use Rattle.pe_order.proofs.Tokens.Apart.{one_if}
use Rattle.pe_order.proofs.Tokens.CountLists.{count-cons}

-- # Stacks with other items
module _ {X : Type 0} where
  abbrev pub stacks_with : List (Stack X) → (ℕ → List Place) → List (Stack Place)
  stacks_with [] items = []
  stacks_with (stack ∷ stacks) items = record { items = items 0; pushes = stack.pushes; pops = stack.pops } ∷ stacks_with stacks (λ s. items (suc s))

  -- a depot with these places in place of its records
  abbrev pub places_with : Holdings X → (ℕ → List Place) → Holdings Place
  places_with held items = record { stacks = stacks_with held.stacks items; fresh = held.fresh; spent = held.spent; out = held.out; most = held.most }

  pub count-with : (stacks : List (Stack X)) (items : ℕ → List Place) → length (stacks_with stacks items) ≡ length stacks
  count-with [] items = refl
  count-with (stack ∷ stacks) items = ap suc (count-with stacks (λ s. items (suc s)))

  -- what a stack of it is
  pub record WithItems (held : Holdings X) (items : ℕ → List Place) (s : ℕ) : Type 0 where
    pub pushes : (stack_at (places_with held items) s).pushes ≡ (stack_at held s).pushes
    pub pops : (stack_at (places_with held items) s).pops ≡ (stack_at held s).pops
    pub within : s < stack_count held → items_at (places_with held items) s ≡ items s
    pub past : stack_count held ≤ s → items_at (places_with held items) s ≡ []

  pub with_items : (held : Holdings X) (items : ℕ → List Place) (s : ℕ) → WithItems held items s
  with_items held items s = record { pushes = pushes held.stacks items s; pops = pops held.stacks items s; within = within held.stacks items s; past = past held.stacks items s }
    where
      pushes : (stacks : List (Stack X)) (items : ℕ → List Place) (s : ℕ) → (get_or (stacks_with stacks items) s new_stack).pushes ≡ (get_or stacks s new_stack).pushes
      pushes [] items s = refl
      pushes (stack ∷ stacks) items zero = refl
      pushes (stack ∷ stacks) items (suc s) = pushes stacks (λ s. items (suc s)) s

      pops : (stacks : List (Stack X)) (items : ℕ → List Place) (s : ℕ) → (get_or (stacks_with stacks items) s new_stack).pops ≡ (get_or stacks s new_stack).pops
      pops [] items s = refl
      pops (stack ∷ stacks) items zero = refl
      pops (stack ∷ stacks) items (suc s) = pops stacks (λ s. items (suc s)) s

      within : (stacks : List (Stack X)) (items : ℕ → List Place) (s : ℕ) → s < length stacks → (get_or (stacks_with stacks items) s new_stack).items ≡ items s
      within [] items s low = absurd (omega arith)
      within (stack ∷ stacks) items zero low = refl
      within (stack ∷ stacks) items (suc s) low = within stacks (λ s. items (suc s)) s (omega arith)

      past : (stacks : List (Stack X)) (items : ℕ → List Place) (s : ℕ) → length stacks ≤ s → (get_or (stacks_with stacks items) s new_stack).items ≡ []
      past [] items s high = refl
      past (stack ∷ stacks) items zero high = absurd (omega arith)
      past (stack ∷ stacks) items (suc s) high = past stacks (λ s. items (suc s)) s (omega arith)

  -- where what is seen of the places is the records, the depot is its image
  pub image-with : (f : Place → X) (held : Holdings X) (items : ℕ → List Place) → ((s : ℕ) → s < stack_count held → map f (items s) ≡ items_at held s) → map_holdings f (places_with held items) ≡ held
  image-with f held items same = ap (λ stacks. record { stacks = stacks; fresh = held.fresh; spent = held.spent; out = held.out; most = held.most }) (go held.stacks items same)
    where
      go : (stacks : List (Stack X)) (items : ℕ → List Place) → ((s : ℕ) → s < length stacks → map f (items s) ≡ (get_or stacks s new_stack).items) → map (map_stack f) (stacks_with stacks items) ≡ stacks
      go [] items same = refl
      go (stack ∷ stacks) items same =
          ap₂ (λ front back. record { items = front; pushes = stack.pushes; pops = stack.pops } ∷ back) (same 0 (omega arith)) (go stacks (λ s. items (suc s)) (λ s low. same (suc s) (omega arith)))

-- # The kinds of records
-- the kind that the record of a place has, among some places and their records
abbrev pub kind_among : List Place → List VertexRecord → Place → Kind
kind_among [] its place = Kept
kind_among (q ∷ qs) [] place = Kept
kind_among (q ∷ qs) (it ∷ its) place = if is_same q place then it.kind else kind_among qs its place

-- the record of a place, by what is stored of it and its kind
abbrev pub with_kind : Kind → StoredVertex → VertexRecord
with_kind kind stored = record { state = stored.state; kind = kind; numbers = stored.numbers }

-- places that differ, with what is stored of them, give back their records
pub records_again : (stored : Place → StoredVertex) (qs : List Place) (its : List VertexRecord) → ((q : Place) → times qs q ≤ 1) → map stored_of its ≡ map stored qs
    → map (λ q. with_kind (kind_among qs its q) (stored q)) qs ≡ its
records_again stored [] [] once same = refl
records_again stored [] (it ∷ its) once same = absurd cc
records_again stored (q ∷ qs) [] once same = absurd cc
records_again stored (q ∷ qs) (it ∷ its) once same =
    let first : stored_of it ≡ stored q = cc in
    let rest : map stored_of its ≡ map stored qs = cc in
    let none : times qs q ≡ 0 = let one = once q in let sum = count-cons (λ other. is_same other q) q qs in omega (arith, one, sum, ap {B = ℕ} one_if (is_same_itself q)) in
    ap₂ (λ v vs. v ∷ vs)
    (ap₂ with_kind (ap (λ b. if b then it.kind else kind_among qs its q) (is_same_itself q)) (sym first))
    (others qs none ∙ records_again stored qs its (λ r. let sum = count-cons (λ other. is_same other r) q qs in omega (arith, once r, sum)) rest)
  where
    others : (rs : List Place) → times rs q ≡ 0
        → map (λ r. with_kind (if is_same q r then it.kind else kind_among qs its r) (stored r)) rs ≡ map (λ r. with_kind (kind_among qs its r) (stored r)) rs
    others [] none = refl
    others (r ∷ rs) none =
        let sum = count-cons (λ other. is_same other q) r rs in
        let apart : is_same q r ≡ false = other (is_same q r) refl in
        ap₂ (λ v vs. v ∷ vs) (ap (λ b. with_kind (if b then it.kind else kind_among qs its r) (stored r)) apart) (others rs (omega (arith, none, sum)))
      where
        other : (b : Bool) → is_same q r ≡ b → b ≡ false
        other false e = refl
        other true e =
            let sum = count-cons (λ other. is_same other q) r rs in
            absurd (omega (arith, none, sum, ap {B = ℕ} one_if (ap (λ z. is_same z q) (sym (same_places q r e)) ∙ is_same_itself q)))
