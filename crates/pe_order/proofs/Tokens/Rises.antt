-- How much the counts of a traversal rise at most.
use Rattle.std.proofs.Common.{◌≡◌, ℕ, zero, suc, ◌+◌, ◌*◌, ◌^◌, ◌≤◌, List, [], ◌∷◌, length, length-append, ap, ◌∙◌, arith}
use Rattle.std.specs.Prelude.{is_none}
use Rattle.std.specs.List.{flat_map}
use Rattle.std.proofs.lemmas.List.Sums.{count_by-le-length}
use Rattle.std.proofs.Math.Nat.{mul-le-mul_left}
use Rattle.pe_base.specs.declared.place.Place.{Place}
use Rattle.pe_base.specs.Tree.Places.{root}
use Rattle.pe_base.specs.Steps.Stacks.{is_stack}
use Rattle.pe_base.specs.Walk.Streams.{walked_children, walked_cells}
use Rattle.pe_order.specs.Tokens.{Outlook, cell_source, cell_target}
use Rattle.pe_order.specs.Takings.{loads_of, stores_of}
use Rattle.pe_order.specs.Traffic.{takes_from, makes, gives_to, ends, tallest, height, entered_cells, CountsOfATraversal}
use Rattle.pe_order.proofs.Tokens.Traffic.{loads_per_cell}
use Rattle.pe_order.proofs.Tokens.TraversalTraffic.{traffic_of_a_traversal}
use Rattle.pe_order.proofs.Tokens.ExactTraffic.{all_cells, deep_left}

module _ (o : Outlook) where
  tallest_few : (levels : ℕ) → ((cell : Place) → height o levels cell ≤ length (walked_cells o.axes o.way o.walks levels cell))
      → (cells : List Place) → tallest (height o levels) cells ≤ length (flat_map (walked_cells o.axes o.way o.walks levels) cells)
  tallest_few levels law [] = omega arith
  tallest_few levels law (c ∷ cells) =
      omega (arith, law c, tallest_few levels law cells, length-append (walked_cells o.axes o.way o.walks levels c) (flat_map (walked_cells o.axes o.way o.walks levels) cells))

  -- no more levels are walked than cells
  pub height_few : (levels : ℕ) (cell : Place) → height o levels cell ≤ length (walked_cells o.axes o.way o.walks levels cell)
  height_few zero cell = omega arith
  height_few (suc levels) cell = omega (arith, tallest_few levels (height_few levels) (walked_children o.axes o.way o.walks cell))

pub counts_of_a_traversal : CountsOfATraversal
counts_of_a_traversal o walked greatest t after dim grown stacks cell_stacks e =
    let traffic = traffic_of_a_traversal o walked greatest t after dim grown stacks cell_stacks e in
    let m = traffic.moved in
    let ls = loads_of o greatest root in
    let ss = stores_of o greatest root in
    let es = entered_cells o greatest in
    let many : length (walked_cells o.axes o.way o.walks greatest root) ≡ length es + 1 = omega (arith, ap length (all_cells o walked greatest dim grown)) in
    let per = loads_per_cell o greatest root in
    let loads : length ls ≡ 2 ^ o.axes * (length es + 1) = per.loads ∙ ap (λ n. 2 ^ o.axes * n) many in
    let stores : length ss ≡ 2 ^ o.axes * (length es + 1) = per.stores ∙ ap (λ n. 2 ^ o.axes * n) many in
    let tall : height o greatest root ≤ length es + 1 = omega (arith, height_few o greatest root, many) in
    let high : 2 ^ o.axes * height o greatest root ≤ 2 ^ o.axes * (length es + 1) = mul-le-mul_left (2 ^ o.axes) tall in
    record {
      vertices = record {
        fresh = omega (arith, m.fresh, count_by-le-length (makes o) ls, loads);
        spent = omega (arith, m.spent, count_by-le-length (ends o) ss, stores);
        out = omega (arith, traffic.vertices.out);
        most = omega (arith, traffic.vertices.most, high);
        pushes = λ s. omega (arith, m.pushes s, count_by-le-length (gives_to o s) ss, stores);
        pops = λ s. omega (arith, m.pops s, count_by-le-length (takes_from o s) ls, loads);
      };
      cells = λ below.
          let returns = traffic.cells below in record {
            fresh = omega (arith, m.cell_fresh, count_by-le-length (λ c. is_none (cell_source o c)) es);
            spent = omega (arith, m.cell_spent, deep_left o walked greatest dim grown (λ c. is_none (cell_target o c)), count_by-le-length (λ c. is_none (cell_target o c)) es);
            out = omega (arith, returns.out);
            most = omega (arith, returns.most, tall);
            pushes = λ s. omega (arith, m.cell_pushes s, deep_left o walked greatest dim grown (λ c. is_stack s (cell_target o c)), count_by-le-length (λ c. is_stack s (cell_target o c)) es);
            pops = λ s. omega (arith, m.cell_pops s, count_by-le-length (λ c. is_stack s (cell_source o c)) es);
          };
    }
