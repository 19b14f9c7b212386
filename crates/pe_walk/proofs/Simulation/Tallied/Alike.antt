-- The counts of a depot do not depend on what it holds.
use Rattle.std.proofs.Common.{◌≡◌, ℕ, ◌+◌, ◌-◌, ◌*◌, ◌^◌, max, refl, sym, ap, ap₂, ◌∙◌, arith}
use Rattle.pe_base.specs.declared.place.Place.{Place}
use Rattle.pe_base.specs.declared.tally.Tally.{Tally}
use Rattle.pe_stacks.specs.Holdings.{Holdings, stack_at, CountsWithin, RaisesCounts}
use Rattle.pe_stacks.specs.Grid.{input_stack, output_stack, cell_input_stack, cell_output_stack}
use Rattle.pe_hang.specs.InHand.{map_holdings}
use Rattle.pe_hang.proofs.OnStacks.{stack_at-map}
use Rattle.pe_order.specs.Tokens.{Outlook}
use Rattle.pe_order.specs.Traffic.{height}
use Rattle.pe_order.specs.Tallies.{ExactTraffic}
use Rattle.pe_order.specs.CellTraffic.{CellTraffic}

-- two depots have counted alike
pub record CountAlike {X Y : Type 0} (a : Holdings X) (b : Holdings Y) : Type 0 where
  pub fresh : b.fresh ≡ a.fresh
  pub spent : b.spent ≡ a.spent
  pub out : b.out ≡ a.out
  pub most : b.most ≡ a.most
  pub pops : (s : ℕ) → (stack_at b s).pops ≡ (stack_at a s).pops
  pub pushes : (s : ℕ) → (stack_at b s).pushes ≡ (stack_at a s).pushes

pub is_seen : {X Y : Type 0} (f : X → Y) (held : Holdings X) → CountAlike held (map_holdings f held)
is_seen f held = record {
  fresh = refl;
  spent = refl;
  out = refl;
  most = refl;
  pops = λ s. ap (λ stack. stack.pops) (stack_at-map f held s);
  pushes = λ s. ap (λ stack. stack.pushes) (stack_at-map f held s);
}

pub alike-sym : {X Y : Type 0} {a : Holdings X} {b : Holdings Y} → CountAlike a b → CountAlike b a
alike-sym same = record {
  fresh = sym same.fresh;
  spent = sym same.spent;
  out = sym same.out;
  most = sym same.most;
  pops = λ s. sym (same.pops s);
  pushes = λ s. sym (same.pushes s);
}

-- so the counts of one are bounded where those of the other are, and rise as they do
pub within-alike : {X Y : Type 0} (a : Holdings X) (b : Holdings Y) (n : ℕ) → CountAlike a b → CountsWithin a n → CountsWithin b n
within-alike a b n same counts = record {
  fresh = omega (arith, same.fresh, counts.fresh);
  spent = omega (arith, same.spent, counts.spent);
  out = omega (arith, same.out, counts.out);
  most = omega (arith, same.most, counts.most);
  pushes = λ s. omega (arith, same.pushes s, counts.pushes s);
  pops = λ s. omega (arith, same.pops s, counts.pops s);
}

pub raises-alike : {X Y : Type 0} (a a' : Holdings X) (b b' : Holdings Y) (k : ℕ) → CountAlike a b → CountAlike a' b' → RaisesCounts a a' k → RaisesCounts b b' k
raises-alike a a' b b' k same same' rises = record {
  fresh = omega (arith, same.fresh, same'.fresh, rises.fresh);
  spent = omega (arith, same.spent, same'.spent, rises.spent);
  out = omega (arith, same.out, same'.out, rises.out);
  most = omega (arith, same.most, same.out, same'.most, rises.most);
  pushes = λ s. omega (arith, same.pushes s, same'.pushes s, rises.pushes s);
  pops = λ s. omega (arith, same.pops s, same'.pops s, rises.pops s);
}

pub exact-alike : {X Y V W : Type 0} (o : Outlook) (greatest : ℕ) (vertices vertices' : Holdings X) (cells cells' : Holdings Y) (seen seen' : Holdings V) (seen_cells seen_cells' : Holdings W) (tally : Tally)
    → CountAlike vertices seen → CountAlike vertices' seen' → CountAlike cells seen_cells → CountAlike cells' seen_cells'
    → ExactTraffic o greatest vertices vertices' cells cells' tally → ExactTraffic o greatest seen seen' seen_cells seen_cells' tally
exact-alike o greatest vertices vertices' cells cells' seen seen' seen_cells seen_cells' tally v v' c c' exact = record {
  read = added _ (v'.pops _) exact.read (v.pops (input_stack o.swapped));
  written = added _ (v'.pushes _) exact.written (v.pushes (output_stack o.swapped));
  input_kept = v'.pushes _ ∙ exact.input_kept ∙ sym (v.pushes (input_stack o.swapped));
  output_kept = v'.pops _ ∙ exact.output_kept ∙ sym (v.pops (output_stack o.swapped));
  fresh = added _ v'.fresh exact.fresh v.fresh;
  spent = added _ v'.spent exact.spent v.spent;
  popped = λ axis parity a b. added _ (v'.pops _) (exact.popped axis parity a b) (v.pops (2 * axis + parity));
  pushed = λ axis parity a b. added _ (v'.pushes _) (exact.pushed axis parity a b) (v.pushes (2 * axis + parity));
  idle = λ s beyond below. let still = exact.idle s beyond below in (v'.pops s ∙ still.0 ∙ sym (v.pops s), v'.pushes s ∙ still.1 ∙ sym (v.pushes s));
  out = v'.out ∙ exact.out ∙ sym v.out;
  most = v'.most ∙ exact.most ∙ ap₂ (λ most out. max most (out + 2 ^ o.axes * (tally.deepest + 1))) (sym v.most) (sym v.out);
  counting = exact.counting;
  counting_after = exact.counting_after;
  hanging = exact.hanging;
  cell_count = exact.cell_count;
  cells_read = added _ (c'.pops _) exact.cells_read (c.pops (cell_input_stack o.swapped));
  cell_input_kept = c'.pushes _ ∙ exact.cell_input_kept ∙ sym (c.pushes (cell_input_stack o.swapped));
  cell_output_kept = c'.pops _ ∙ exact.cell_output_kept ∙ sym (c.pops (cell_output_stack o.swapped));
  cells_made = let made = exact.cells_made in omega (arith, made, c'.fresh, c.fresh);
  cells_written = added _ (c'.pushes _) exact.cells_written (c.pushes (cell_output_stack o.swapped));
  cells_gone = let gone = exact.cells_gone in omega (arith, gone, c'.spent, c.spent);
  cells_out = λ few. c'.out ∙ exact.cells_out (omega (arith, few, c.out, c.most)) ∙ sym c.out;
  cells_most = λ few. c'.most ∙ exact.cells_most (omega (arith, few, c.out, c.most)) ∙ ap₂ (λ most out. max most (out + tally.deepest)) (sym c.most) (sym c.out);
}
  where
    added : {a b c d : ℕ} (n : ℕ) → a ≡ b → b ≡ c + n → d ≡ c → a ≡ d + n
    added n e f g = omega (arith, e, f, g)

-- so does the walk of a cell move
pub cell-alike : {X Y V W : Type 0} (o : Outlook) (levels : ℕ) (cell : Place) (vertices vertices' : Holdings X) (cells cells' : Holdings Y) (seen seen' : Holdings V) (seen_cells seen_cells' : Holdings W) (tally tally' : Tally)
    → CountAlike vertices seen → CountAlike vertices' seen' → CountAlike cells seen_cells → CountAlike cells' seen_cells'
    → CellTraffic o levels cell vertices vertices' cells cells' tally tally' → CellTraffic o levels cell seen seen' seen_cells seen_cells' tally tally'
cell-alike o levels cell vertices vertices' cells cells' seen seen' seen_cells seen_cells' tally tally' v v' c c' traffic = record {
  counted = traffic.counted;
  popped = λ s. added _ (v'.pops s) (traffic.popped s) (v.pops s);
  pushed = λ s. added _ (v'.pushes s) (traffic.pushed s) (v.pushes s);
  read = moved _ _ (v'.pops _) traffic.read (v.pops (input_stack o.swapped));
  written = moved _ _ (v'.pushes _) traffic.written (v.pushes (output_stack o.swapped));
  input_kept = v'.pushes _ ∙ traffic.input_kept ∙ sym (v.pushes (input_stack o.swapped));
  output_kept = v'.pops _ ∙ traffic.output_kept ∙ sym (v.pops (output_stack o.swapped));
  fresh = moved _ _ v'.fresh traffic.fresh v.fresh;
  spent = moved _ _ v'.spent traffic.spent v.spent;
  idle = λ s beyond below. let still = traffic.idle s beyond below in (v'.pops s ∙ still.0 ∙ sym (v.pops s), v'.pushes s ∙ still.1 ∙ sym (v.pushes s));
  out = v'.out ∙ traffic.out ∙ sym v.out;
  most = v'.most ∙ traffic.most ∙ ap₂ (λ most out. max most (out + 2 ^ o.axes * height o levels cell)) (sym v.most) (sym v.out);
  cells_read = added _ (c'.pops _) traffic.cells_read (c.pops (cell_input_stack o.swapped));
  cells_written = added _ (c'.pushes _) traffic.cells_written (c.pushes (cell_output_stack o.swapped));
  cell_input_kept = c'.pushes _ ∙ traffic.cell_input_kept ∙ sym (c.pushes (cell_input_stack o.swapped));
  cell_output_kept = c'.pops _ ∙ traffic.cell_output_kept ∙ sym (c.pops (cell_output_stack o.swapped));
  cells_made = let made = traffic.cells_made in omega (arith, made, c'.fresh, c.fresh);
  cells_gone = let gone = traffic.cells_gone in omega (arith, gone, c'.spent, c.spent);
  cells_out = c'.out ∙ traffic.cells_out ∙ sym c.out;
  cells_most = c'.most ∙ traffic.cells_most ∙ ap₂ (λ most out. max most (out + height o levels cell)) (sym c.most) (sym c.out);
  rises = raises-alike vertices vertices' seen seen' (64 * (tally'.cells - tally.cells)) v v' traffic.rises;
  cells_rise = raises-alike cells cells' seen_cells seen_cells' (64 * (tally'.cells - tally.cells)) c c' traffic.cells_rise;
}
  where
    added : {a b c d : ℕ} (n : ℕ) → a ≡ b → b ≡ c + n → d ≡ c → a ≡ d + n
    added n e f g = omega (arith, e, f, g)

    moved : {a b c d : ℕ} (m n : ℕ) → a ≡ b → b + m ≡ c + n → d ≡ c → a + m ≡ d + n
    moved m n e f g = omega (arith, e, f, g)
