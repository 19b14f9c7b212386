-- What the load of a corner does to places, as the simulation wants it: a vertex that counts is taken from its stack, or
-- made, and is held from then on; one that hangs is made.
use Rattle.std.proofs.Common.{◌≡◌, ℕ, ◌+◌, ◌≤◌, Bool, true, false, not, ◌&&◌, List, ◌∷◌, length, Some, None, sym, ap, subst, ◌∙◌, arith}
use Rattle.std.specs.Prelude.{is_none, if◌then◌else◌}
use Rattle.std.proofs.Math.Bool.{and-false}
use Rattle.std.proofs.lemmas.List.Sums.{sum_by-cons}
use Rattle.pe_base.specs.declared.place.Place.{Place}
use Rattle.pe_base.specs.Tree.Places.{corner, is_same}
use Rattle.pe_base.specs.Steps.Faces.{Touch}
use Rattle.pe_base.specs.Steps.Stacks.{is_stack}
use Rattle.pe_stacks.specs.Holdings.{Holdings, stack_count, stack_at, items_at, len_at, lent}
use Rattle.pe_order.specs.Tokens.{Outlook, Tokens, cells_before, taken, source, touch_of, load}
use Rattle.pe_order.specs.Apart.{lies}
use Rattle.pe_order.specs.Traffic.{takes_from, makes}
use Rattle.pe_order.specs.Frames.{loaded_from, AfterLoad}
use Rattle.pe_walk.specs.Standing.{times}
use Rattle.pe_order.proofs.Tokens.Apart.{one_if, at_most_one}
use Rattle.pe_order.proofs.Tokens.DepotCounts.{Took, take_counts}
use Rattle.pe_order.proofs.Tokens.MoveFrames.{after_load}

-- a place was taken from a stack, or made
pub record HasTaken (v : Place) (held after : Holdings Place) : Type 0 where
  pub items : (s : ℕ) (q : Place) → times (items_at after s) q ≤ times (items_at held s) q
  pub beside : (q : Place) → is_same v q ≡ false → lies after q ≡ lies held q
  pub lens : (s : ℕ) → len_at after s ≤ len_at held s
  pub stacks : stack_count after ≡ stack_count held
  pub pops : (s : ℕ) → (stack_at after s).pops ≤ (stack_at held s).pops + 1
  pub pushes : (s : ℕ) → (stack_at after s).pushes ≡ (stack_at held s).pushes
  pub fresh : after.fresh ≤ held.fresh + 1
  pub out : after.out ≡ held.out + 1

times-more : (b : Bool) (v q : Place) (xs ys : List Place) → xs ≡ (if b then v ∷ ys else ys) → times ys q ≤ times xs q
times-more true v q xs ys e = omega (arith, ap (λ zs. times zs q) e, sum_by-cons (λ other. one_if (is_same other q)) v ys)
times-more false v q xs ys e = omega (arith, ap (λ zs. times zs q) e)

length-more : (b : Bool) (v : Place) (xs ys : List Place) → xs ≡ (if b then v ∷ ys else ys) → length ys ≤ length xs
length-more true v xs ys e = omega (arith, ap length e)
length-more false v xs ys e = omega (arith, ap length e)

has_taken : (o : Outlook) (touch : Touch) (t t' : Tokens) → AfterLoad o touch t t' → HasTaken touch.vertex t.vertices t'.vertices
has_taken o touch t t' after =
    let counts : Took (loaded_from o touch) t.vertices t'.vertices = take_counts (loaded_from o touch) touch.vertex t.vertices t'.vertices after.vertices in
    record {
      items = λ s q. times-more (takes_from o s touch) touch.vertex q (items_at t.vertices s) (items_at t'.vertices s) (after.items s);
      beside = λ q other. omega (arith, after.its_lies q, ap one_if (ap (λ c. b_of && c) other ∙ and-false b_of));
      lens = λ s. length-more (takes_from o s touch) touch.vertex (items_at t.vertices s) (items_at t'.vertices s) (after.items s);
      stacks = counts.stacks;
      pops = λ s. omega (arith, counts.pops s, at_most_one (is_stack s (loaded_from o touch)));
      pushes = counts.pushes;
      fresh = omega (arith, counts.fresh, at_most_one (is_none (loaded_from o touch)));
      out = counts.out;
    }
  where
    b_of : Bool
    b_of = not (makes o touch)

-- the load of a corner
pub record LoadsPlace (o : Outlook) (cell v : Place) (t t' : Tokens) : Type 0 where
  pub moved : HasTaken v t.vertices t'.vertices
  pub cells : t'.cells ≡ t.cells
  pub held : (q : Place) → t'.held q ≡ t.held q + one_if (o.counts v && is_same v q)
  pub met : (q : Place) → t'.met q ≡ t.met q + one_if (o.counts v && is_same v q)
  pub took : o.counts v ≡ true → taken (source o (record { vertex = v; cell = cell })) v t.vertices ≡ Some t'.vertices
  pub due : o.counts v ≡ true → t.met v ≡ cells_before o.axes o.way (record { vertex = v; cell = cell })
  pub made : o.counts v ≡ false → t'.vertices ≡ lent t.vertices

loads_here : (o : Outlook) (touch : Touch) (t t' : Tokens) → AfterLoad o touch t t' → LoadsPlace o touch.cell touch.vertex t t'
loads_here o touch t t' after = record {
  moved = has_taken o touch t t' after;
  cells = after.cells;
  held = after.held;
  met = after.met;
  took = λ on. ap (λ b. taken (if b then source o touch else None) touch.vertex t.vertices) (sym on) ∙ after.vertices;
  due = after.due;
  made = λ off. let same : Some (lent t.vertices) ≡ Some t'.vertices = ap (λ b. taken (if b then source o touch else None) touch.vertex t.vertices) (sym off) ∙ after.vertices in cc;
}

pub loads_place : (o : Outlook) (axes : ℕ) (cell : Place) (k : ℕ) (t t' : Tokens) → o.axes ≡ axes → load o cell k t ≡ Some t' → LoadsPlace o cell (corner axes cell k) t t'
loads_place o axes cell k t t' same e = subst (λ n. LoadsPlace o cell (corner n cell k) t t') same (loads_here o (touch_of o cell k) t t' (after_load o cell k t t' e))
