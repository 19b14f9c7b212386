-- What the walk of a cell moves, in what it counts.
use Rattle.std.proofs.Common.{◌≡◌, ℕ, zero, suc, ◌+◌, ◌-◌, ◌*◌, ◌^◌, ◌≤◌, not, length, Some, sym, ap, ◌∙◌, subst, arith}
use Rattle.std.specs.Prelude.{max, is_none, count_by}
use Rattle.std.proofs.lemmas.List.Sums.{count_by-le-length}
use Rattle.pe_base.specs.declared.place.Place.{Place}
use Rattle.pe_base.specs.declared.kind.Kind.{Kind}
use Rattle.pe_base.specs.declared.tally.Tally.{Tally}
use Rattle.pe_base.specs.Tree.Dim.{IsDim}
use Rattle.pe_base.specs.Steps.Stacks.{is_stack}
use Rattle.pe_base.specs.Walk.Streams.{walked_cells}
use Rattle.pe_base.proofs.Lists.{Each-all}
use Rattle.pe_stacks.specs.Holdings.{Holdings, stack_at, CountsWithin}
use Rattle.pe_stacks.specs.Grid.{input_stack, output_stack, cell_input_stack, cell_output_stack}
use Rattle.pe_stacks.proofs.Raising.{raises_within}
use Rattle.pe_order.specs.Laws.{IsCell}
use Rattle.pe_order.specs.Tokens.{Outlook, Tokens, cell_source, cell_target, walk}
use Rattle.pe_order.specs.Takings.{loads_of, stores_of, left_cells, is_read, is_written}
use Rattle.pe_order.specs.Traffic.{takes_from, makes, gives_to, ends, height}
use Rattle.pe_order.specs.Frames.{HasStacks}
use Rattle.pe_order.specs.Tallies.{IsOfKinds, counted_walk, is_created, is_destroyed, is_hung}
use Rattle.pe_order.specs.CellTraffic.{CellTraffic, CountsAreFew}
use Rattle.pe_order.proofs.Tokens.CountLists.{count-same, count-not}
use Rattle.pe_order.proofs.Tokens.DepotCounts.{count_none}
use Rattle.pe_order.proofs.Tokens.ExactTraffic.{by_given, by_other, by_none, two_cell_streams}
use Rattle.pe_order.proofs.Tokens.Rises.{height_few}
use Rattle.pe_order.proofs.Tokens.TallyLaws.{walk_rises}
use Rattle.pe_order.proofs.Tokens.TouchCounts.{input_reads, output_unread, output_writes, input_unwritten, idle_loads, idle_stores, made_counts, ended_counts, stores-loads, left-walked}
use Rattle.pe_order.proofs.Tokens.Traffic.{traffic_of_a_cell, loads_per_cell}

-- in two to four axes there are at most sixteen corners
pub sixteen : (axes n : ℕ) → axes ≤ 4 → 2 ^ axes * n ≤ 16 * n
sixteen zero n few = omega arith
sixteen (suc zero) n few = omega arith
sixteen (suc (suc zero)) n few = omega arith
sixteen (suc (suc (suc zero))) n few = omega arith
sixteen (suc (suc (suc (suc zero)))) n few = omega arith
sixteen (suc (suc (suc (suc (suc axes))))) n few = absurd (omega (arith, few))

pub cell_traffic : (o : Outlook) (kind : Place → Kind) (levels : ℕ) (cell : Place) (t after : Tokens) (tally : Tally) → IsDim o.axes → IsCell o.axes o.way cell → IsOfKinds o kind → HasStacks t → walk o levels cell t ≡ Some after
    → CellTraffic o levels cell t.vertices after.vertices t.cells after.cells tally (counted_walk o kind levels cell tally)
cell_traffic o kind levels cell t after tally dim is_cell is has e =
    let traffic = traffic_of_a_cell o levels cell t after dim is_cell has.vertices has.cells e in
    let m = traffic.moved in
    let tally' = counted_walk o kind levels cell tally in
    let rises = walk_rises o kind is levels cell tally in
    let ls = loads_of o levels cell in
    let ss = stores_of o levels cell in
    let es = walked_cells o.axes o.way o.walks levels cell in
    let ds = left_cells o levels cell in
    let per = loads_per_cell o levels cell in
    let loads : length ls ≤ 16 * length es = omega (arith, per.loads, sixteen o.axes (length es) dim.1) in
    let stores : length ss ≤ 16 * length es = omega (arith, per.stores, sixteen o.axes (length es) dim.1) in
    let tall : height o levels cell ≤ length es = height_few o levels cell in
    let high : 2 ^ o.axes * height o levels cell ≤ 16 * length es = omega (arith, sixteen o.axes (height o levels cell) dim.1, tall) in
    let cells : tally'.cells - tally.cells ≡ length es = omega (arith, rises.cells) in
    let hung : count_by (is_hung o) ss ≡ count_by (is_hung o) ls = stores-loads o (λ v. not (o.counts v)) levels cell in
    record {
      counted = rises;
      popped = m.pops;
      pushed = m.pushes;
      read = omega (arith, m.pops (input_stack o.swapped), input_reads o dim levels cell is_cell, rises.read);
      written = omega (arith, m.pushes (output_stack o.swapped), output_writes o dim levels cell is_cell, rises.written);
      input_kept = omega (arith, m.pushes (input_stack o.swapped), input_unwritten o dim levels cell is_cell);
      output_kept = omega (arith, m.pops (output_stack o.swapped), output_unread o dim levels cell is_cell);
      fresh = omega (arith, m.fresh, made_counts o ls, rises.created, rises.hanging);
      spent = omega (arith, m.spent, ended_counts o ss, rises.destroyed, rises.hanging, hung);
      idle = λ s beyond below. (
        m.pops s ∙ omega (arith, idle_loads o dim levels cell is_cell s beyond below),
        m.pushes s ∙ omega (arith, idle_stores o dim levels cell is_cell s beyond below),
      );
      out = traffic.vertices.out;
      most = traffic.vertices.most;
      cells_read = m.cell_pops (cell_input_stack o.swapped)
          ∙ ap (λ n. (stack_at t.cells (cell_input_stack o.swapped)).pops + n) (count-same (λ c. is_stack (cell_input_stack o.swapped) (cell_source o c)) o.reads_cell es (Each-all _ (λ c. by_given (o.reads_cell c) (cell_input_stack o.swapped)) es));
      cells_written = m.cell_pushes (cell_output_stack o.swapped)
          ∙ ap (λ n. (stack_at t.cells (cell_output_stack o.swapped)).pushes + n) (left-walked o (λ c. is_stack (cell_output_stack o.swapped) (cell_target o c)) levels cell
          ∙ count-same (λ c. is_stack (cell_output_stack o.swapped) (cell_target o c)) o.writes_cell es (Each-all _ (λ c. by_given (o.writes_cell c) (cell_output_stack o.swapped)) es));
      cell_input_kept = m.cell_pushes (cell_input_stack o.swapped)
          ∙ omega (arith, count_none (λ c. is_stack (cell_input_stack o.swapped) (cell_target o c)) ds (Each-all _ (λ c. by_other (o.writes_cell c) (cell_input_stack o.swapped) (cell_output_stack o.swapped) (two_cell_streams o.swapped)) ds));
      cell_output_kept = m.cell_pops (cell_output_stack o.swapped)
          ∙ omega (arith, count_none (λ c. is_stack (cell_output_stack o.swapped) (cell_source o c)) es (Each-all _ (λ c. by_other (o.reads_cell c) (cell_output_stack o.swapped) (cell_input_stack o.swapped) (λ e. two_cell_streams o.swapped (sym e))) es));
      cells_made = omega (
        arith,
        m.cell_fresh,
        count-same (λ c. is_none (cell_source o c)) (λ c. not (o.reads_cell c)) es (Each-all _ (λ c. by_none (o.reads_cell c) (cell_input_stack o.swapped)) es),
        count-not o.reads_cell es,
        rises.cells,
      );
      cells_gone = omega (
        arith,
        m.cell_spent,
        left-walked o (λ c. is_none (cell_target o c)) levels cell,
        count-same (λ c. is_none (cell_target o c)) (λ c. not (o.writes_cell c)) es (Each-all _ (λ c. by_none (o.writes_cell c) (cell_output_stack o.swapped)) es),
        count-not o.writes_cell es,
        rises.cells,
      );
      cells_out = traffic.cells.out;
      cells_most = traffic.cells.most ∙ ap (λ n. max t.cells.most (t.cells.out + n)) (let z : 1 * height o levels cell ≡ height o levels cell = omega arith in z);
      rises = record {
        fresh = omega (arith, m.fresh, count_by-le-length (makes o) ls, loads, cells);
        spent = omega (arith, m.spent, count_by-le-length (ends o) ss, stores, cells);
        out = omega (arith, traffic.vertices.out);
        most = omega (arith, traffic.vertices.most, high, cells);
        pushes = λ s. omega (arith, m.pushes s, count_by-le-length (gives_to o s) ss, stores, cells);
        pops = λ s. omega (arith, m.pops s, count_by-le-length (takes_from o s) ls, loads, cells);
      };
      cells_rise = record {
        fresh = omega (arith, m.cell_fresh, count_by-le-length (λ c. is_none (cell_source o c)) es, cells);
        spent = omega (arith, m.cell_spent, left-walked o (λ c. is_none (cell_target o c)) levels cell, count_by-le-length (λ c. is_none (cell_target o c)) es, cells);
        out = omega (arith, traffic.cells.out);
        most = omega (arith, traffic.cells.most, tall, cells);
        pushes = λ s. omega (arith, m.cell_pushes s, left-walked o (λ c. is_stack s (cell_target o c)) levels cell, count_by-le-length (λ c. is_stack s (cell_target o c)) es, cells);
        pops = λ s. omega (arith, m.cell_pops s, count_by-le-length (λ c. is_stack s (cell_source o c)) es, cells);
      };
    }

-- so few numbers stay few
pub still_few : {X Y : Type 0} (o : Outlook) (levels max_cells : ℕ) (cell : Place) (vertices vertices' : Holdings X) (cells cells' : Holdings Y) (tally tally' : Tally) → IsDim o.axes → tally'.cells ≤ max_cells
    → CellTraffic o levels cell vertices vertices' cells cells' tally tally' → CountsAreFew max_cells tally vertices cells → CountsAreFew max_cells tally' vertices' cells'
still_few o levels max_cells cell vertices vertices' cells cells' tally tally' dim within traffic few =
    let rises = traffic.counted in
    let ls = loads_of o levels cell in
    let ss = stores_of o levels cell in
    let es = walked_cells o.axes o.way o.walks levels cell in
    let per = loads_per_cell o levels cell in
    let loads : length ls ≤ 16 * length es = omega (arith, per.loads, sixteen o.axes (length es) dim.1) in
    let stores : length ss ≤ 16 * length es = omega (arith, per.stores, sixteen o.axes (length es) dim.1) in
    let bound : (2 ^ 61 + 64 * tally.cells) + 64 * (tally'.cells - tally.cells) ≡ 2 ^ 61 + 64 * tally'.cells = omega (arith, rises.cells) in
    record {
      few = within;
      read = omega (arith, few.read, rises.read, rises.cells, count_by-le-length (is_read o) ls, loads);
      written = omega (arith, few.written, rises.written, rises.cells, count_by-le-length (is_written o) ss, stores);
      created = omega (arith, few.created, rises.created, rises.cells, count_by-le-length (is_created o) ls, loads);
      destroyed = omega (arith, few.destroyed, rises.destroyed, rises.cells, count_by-le-length (is_destroyed o) ss, stores);
      hanging = omega (arith, few.hanging, rises.hanging, rises.cells, count_by-le-length (is_hung o) ls, loads);
      vertices = subst (CountsWithin vertices') bound (raises_within vertices vertices' (2 ^ 61 + 64 * tally.cells) (64 * (tally'.cells - tally.cells)) traffic.rises few.vertices);
      cells = subst (CountsWithin cells') bound (raises_within cells cells' (2 ^ 61 + 64 * tally.cells) (64 * (tally'.cells - tally.cells)) traffic.cells_rise few.cells);
    }
