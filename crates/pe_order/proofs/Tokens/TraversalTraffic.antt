-- What a traversal over places moves, makes and gives up.
use Rattle.std.proofs.Common.{◌≡◌, ℕ, suc, ◌+◌, ◌-◌, ◌*◌, ◌^◌, ◌≤◌, Bool, true, false, not, cond, ◌&&◌, List, ◌++◌, reverse, length, get_or, Some, sym, ap, ap₂, ◌∙◌, subst, arith}
use Rattle.std.specs.Prelude.{max, is_none, count_by}
use Rattle.std.specs.List.{flat_map, AllByRecursion as Each}
use Rattle.std.proofs.lemmas.List.{length-reverse, reverse-reverse}
use Rattle.pe_base.specs.Tree.Places.{root}
use Rattle.std.proofs.lemmas.List.Sums.{sum_by-append}
use Rattle.std.proofs.lemmas.List.FromFn.{length-range_with_len}
use Rattle.std.proofs.Math.Nat.{mul-suc}
use Rattle.pe_base.specs.declared.place.Place.{Place}
use Rattle.pe_base.specs.Tree.Dim.{IsDim}
use Rattle.pe_base.specs.Tree.Curve.{children}
use Rattle.pe_base.specs.Steps.Faces.{Touch, corner_touches}
use Rattle.pe_base.specs.Steps.Stacks.{is_stack}
use Rattle.pe_base.specs.Walk.Streams.{if_walks, walked_children}
use Rattle.pe_base.proofs.Lists.{Each-weaker, Each-reverse}
use Rattle.pe_stacks.specs.Holdings.{new_stack, stack_count}
use Rattle.pe_order.specs.Tokens.{Outlook, Tokens, each_some, source, target, numbers, begun, ended, walk, traverse}
use Rattle.pe_order.specs.Takings.{loads_of, stores_of, Grown}
use Rattle.pe_order.proofs.Trees.{root_is_cell}
use Rattle.pe_order.proofs.Tokens.LoadOrder.{root_walks}
use Rattle.pe_order.proofs.Tokens.Traversals.{root_corners}
use Rattle.pe_order.specs.Traffic.{takes_from, makes, gives_to, ends, tallest, height, HasMovedAll, TrafficOfATraversal}
use Rattle.pe_order.proofs.Tokens.Keeping.{kids_in_tree}
use Rattle.pe_order.proofs.Tokens.Apart.{map_some}
use Rattle.pe_order.proofs.Tests.{some_power}
use Rattle.pe_order.proofs.Tokens.DepotCounts.{lent_counts, given_up_counts, count_none, count_all}
use Rattle.pe_order.proofs.Tokens.Traffic.{each_moved, walk_moved, corners_of}

module _ (o : Outlook) (walked : Place → Bool) (greatest : ℕ) (dim : IsDim o.axes) (grown : Grown o walked greatest) where
  abbrev own : List Touch
  own = corner_touches o.axes root

  uncounted : Each (λ t. o.counts t.vertex ≡ false) own
  uncounted = subst (Each (λ t. o.counts t.vertex ≡ false)) (reverse-reverse own) (Each-reverse (λ t. o.counts t.vertex ≡ false) (reverse own) (root_corners o walked greatest dim grown))

  behind_none : (p : Touch → Bool) (xs ys : List Touch) → Each (λ t. p t ≡ false) xs → count_by p (xs ++ ys) ≡ count_by p ys
  behind_none p xs ys e = sum_by-append (λ x. cond (p x) 1 0) xs ys ∙ omega (arith, count_none p xs e)

  behind_all : (p : Touch → Bool) (xs ys : List Touch) → Each (λ t. p t ≡ true) xs → count_by p (xs ++ ys) ≡ length xs + count_by p ys
  behind_all p xs ys e = sum_by-append (λ x. cond (p x) 1 0) xs ys ∙ omega (arith, count_all p xs e)

  pub traversal_moved : (t after : Tokens) → stack_count t.vertices ≡ 10 → stack_count t.cells ≡ 2 → traverse o greatest t ≡ Some after → HasMovedAll o greatest t after
  traversal_moved t after stacks cell_stacks e =
      let l = greatest - 1 in
      let g : greatest ≡ suc l = omega (arith, grown.walks_within root (root_walks o walked greatest dim grown)) in
      let kids = children o.axes o.way root in
      let all : walked_children o.axes o.way o.walks root ≡ kids = ap (λ b. if_walks o.axes o.way o.walks b kids) (root_walks o walked greatest dim grown) in
      let loads : loads_of o greatest root ≡ reverse own ++ flat_map (loads_of o l) kids = ap (λ n. loads_of o n root) g ∙ ap (λ cs. reverse own ++ flat_map (loads_of o l) cs) all in
      let stores : stores_of o greatest root ≡ flat_map (stores_of o l) kids ++ own = ap (λ n. stores_of o n root) g ∙ ap (λ cs. flat_map (stores_of o l) cs ++ own) all in
      let high : height o greatest root ≡ suc (tallest (height o l) kids) = ap (λ n. height o n root) g ∙ ap (λ cs. suc (tallest (height o l) cs)) all in
      let made = lent_counts (numbers o) t.vertices in
      let m = map_some (ended o) (each_some (walk o l) kids (begun o t)) after e in
      let u = m.0 in
      let run = each_moved o l (walk_moved o dim l) kids (kids_in_tree o dim.1 root (root_is_cell o.axes o.way)) (begun o t) u (made.stacks ∙ stacks) cell_stacks m.1 in
      let gone = given_up_counts (numbers o) u.vertices in
      let many : length (numbers o) ≡ 2 ^ o.axes = length-range_with_len 0 (2 ^ o.axes) in
      let owns : length own ≡ 2 ^ o.axes = corners_of o.axes root in
      let back : length (reverse own) ≡ 2 ^ o.axes = length-reverse own ∙ owns in
      let some : 1 ≤ 2 ^ o.axes = some_power o.axes in
      let unread : (p : Touch → Bool) → Each (λ t. (o.counts t.vertex && p t) ≡ false) (reverse own) = λ p. Each-weaker _ _ (λ t c. ap (λ b. b && p t) c) (reverse own) (root_corners o walked greatest dim grown) in
      let unwritten : (p : Touch → Bool) → Each (λ t. (o.counts t.vertex && p t) ≡ false) own = λ p. Each-weaker _ _ (λ t c. ap (λ b. b && p t) c) own uncounted in
      subst (HasMovedAll o greatest t) m.2 (record {
        moved = record {
          stacks = ap length gone.same ∙ run.moved.stacks ∙ made.stacks;
          pops = λ s. ap (λ xs. (get_or xs s new_stack).pops) gone.same ∙ run.moved.pops s
              ∙ ap₂ (λ a b. a + b) (ap (λ xs. (get_or xs s new_stack).pops) made.same) (sym (ap (count_by (takes_from o s)) loads ∙ behind_none (takes_from o s) (reverse own) (flat_map (loads_of o l) kids) (unread (λ t. is_stack s (source o t)))));
          pushes = λ s. ap (λ xs. (get_or xs s new_stack).pushes) gone.same ∙ run.moved.pushes s
              ∙ ap₂ (λ a b. a + b) (ap (λ xs. (get_or xs s new_stack).pushes) made.same) (sym (ap (count_by (gives_to o s)) stores ∙ sum_by-append (λ x. cond (gives_to o s x) 1 0) (flat_map (stores_of o l) kids) own
              ∙ omega (arith, count_none (gives_to o s) own (unwritten (λ t. is_stack s (target o t))))));
          fresh = omega (
            arith,
            gone.fresh,
            run.moved.fresh,
            made.fresh,
            many,
            back,
            ap (count_by (makes o)) loads,
            behind_all (makes o) (reverse own) (flat_map (loads_of o l) kids) (Each-weaker _ _ (λ t c. ap (λ b. not (b && not (is_none (source o t)))) c) (reverse own) (root_corners o walked greatest dim grown)),
          );
          spent = omega (
            arith,
            gone.spent,
            run.moved.spent,
            made.spent,
            many,
            owns,
            ap (count_by (ends o)) stores,
            sum_by-append (λ x. cond (ends o x) 1 0) (flat_map (stores_of o l) kids) own,
            count_all (ends o) own (Each-weaker _ _ (λ t c. ap (λ b. not (b && not (is_none (target o t)))) c) own uncounted),
          );
          cell_stacks = run.moved.cell_stacks;
          cell_pops = run.moved.cell_pops;
          cell_pushes = run.moved.cell_pushes;
          cell_fresh = run.moved.cell_fresh;
          cell_spent = run.moved.cell_spent;
        };
        vertices = record {
          out = omega (arith, gone.out, run.out, made.out);
          most = gone.most ∙ run.most (made.least (omega (arith, many, some)))
              ∙ grows (2 ^ o.axes) (2 ^ o.axes * tallest (height o l) kids) (2 ^ o.axes * suc (tallest (height o l) kids)) t.vertices.out t.vertices.most (begun o t).vertices.out (begun o t).vertices.most (mul-suc (2 ^ o.axes) (tallest (height o l) kids))
              (omega (arith, made.out, many)) (λ k h. made.most k (omega (arith, many)))
              ∙ ap (λ n. max t.vertices.most (t.vertices.out + 2 ^ o.axes * n)) (sym high);
        };
        cells = λ below. record {
          out = run.cell_out;
          most = run.cell_most below ∙ ap (λ n. max t.cells.most (t.cells.out + n)) (omega (arith, high));
        };
      })
    where
      grows : (unit u v to tm so sm : ℕ) → v ≡ u + unit → so ≡ to + unit → ((k : ℕ) → so ≤ k → max sm k ≡ max tm k) → max sm (so + u) ≡ max tm (to + v)
      grows unit u v to tm so sm e f h = h (so + u) (omega arith) ∙ ap (max tm) (omega arith)

pub traffic_of_a_traversal : TrafficOfATraversal
traffic_of_a_traversal o walked greatest t after dim grown stacks cell_stacks e = traversal_moved o walked greatest dim grown t after stacks cell_stacks e
