-- A body that fits an event fits where there is more.
use Rattle.std.proofs.Common.{◌∙◌, sym, subst, ℕ, ◌≤◌, ◌^◌, List, [], ◌∷◌, map, refl, arith, Bool, true, false, ◌&&◌, nat_lt, IsTrue}
use Rattle.std.specs.List.{list_all}
use Rattle.std.proofs.lemmas.Bool.Decides.{nat_tests}
use Rattle.pe_base.specs.declared.event.Sort.{Sort}
use Rattle.pe_base.specs.declared.event.Sort.TheVariants as sort
use Rattle.pe_parse.specs.declared.tree.Sign.{Sign}
use Rattle.pe_check.specs.declared.checked.VertexName.{VertexName}
use Rattle.pe_check.specs.declared.checked.VertexName.TheVariants.{Own, Corner, ParentCorner}
use Rattle.pe_check.specs.declared.checked.Slot.{Slot}
use Rattle.pe_check.specs.declared.checked.Slot.TheVariants as slot
use Rattle.pe_check.specs.declared.checked.Name.{Name}
use Rattle.pe_check.specs.declared.checked.Name.TheVariants as name
use Rattle.pe_check.specs.declared.checked.Expr.{Expr}
use Rattle.pe_check.specs.declared.checked.Expr.TheOpen.{Expr-F}
use Rattle.pe_check.specs.declared.checked.Expr.TheFolds.{fold-roll-Expr, ind-Expr, map-Expr}
use Rattle.pe_check.specs.declared.checked.Stmt.{Stmt}
use Rattle.pe_check.specs.declared.checked.Stmt.TheOpen.{Stmt-F}
use Rattle.pe_check.specs.declared.checked.Stmt.TheFolds.{fold-roll-Stmt, ind-Stmt, map-Stmt}
use Rattle.pe_check.specs.Fits.{Reach, is_vertex, is_cell, has_place, vertex_fits, slot_fits, name_fits, expr_fits, expr_fits_step, stmt_fits, stmt_fits_step, fits}
use Rattle.pe_check.specs.Wider.{IsWider}

first_of : (a b : Bool) → IsTrue (a && b) → IsTrue a
first_of true b h = refl
first_of false b h = h

second_of : (a b : Bool) → IsTrue (a && b) → IsTrue b
second_of true b h = h
second_of false b h = absurd (cc h)

both : (a b : Bool) → IsTrue a → IsTrue b → IsTrue (a && b)
both true b h k = k
both false b h k = absurd (cc h)

cell_has_place : (it : Sort) → IsTrue (is_cell it) → IsTrue (has_place it)
cell_has_place sort.Plain h = h
cell_has_place sort.Vertex h = refl
cell_has_place sort.Cell h = refl

below_more : (k m n : ℕ) → m ≤ n → IsTrue (nat_lt k m) → IsTrue (nat_lt k n)
below_more k m n le lt = grind (arith, nat_tests)

module _ (narrow wide : Reach) (wider : IsWider narrow wide) where
  sorted : (test : Sort → Bool) → IsTrue (test narrow.sort) → IsTrue (test wide.sort)
  sorted test h = let P : Sort → Type 0 = λ s. IsTrue (test s) in subst P (sym wider.sort) h

  corner_below : (k : ℕ) → IsTrue (has_place narrow.sort) → IsTrue (nat_lt k (2 ^ narrow.dim)) → IsTrue (nat_lt k (2 ^ wide.dim))
  corner_below k place lt = let P : ℕ → Type 0 = λ d. IsTrue (nat_lt k (2 ^ d)) in subst P (sym (wider.dim place)) lt

  vertex_wider : (vertex : VertexName) → IsTrue (vertex_fits narrow vertex) → IsTrue (vertex_fits wide vertex)
  vertex_wider Own h = sorted is_vertex h
  vertex_wider (Corner k) h = both _ _ (sorted is_cell (first_of _ _ h)) (corner_below k (cell_has_place narrow.sort (first_of _ _ h)) (second_of _ _ h))
  vertex_wider (ParentCorner k) h = both _ _ (sorted has_place (first_of _ _ h)) (corner_below k (first_of _ _ h) (second_of _ _ h))

  slot_wider : (it : Slot) → IsTrue (slot_fits narrow it) → IsTrue (slot_fits wide it)
  slot_wider (slot.Global field) h = below_more field narrow.global_fields wide.global_fields wider.global h
  slot_wider (slot.Vertex vertex field) h = both _ _ (vertex_wider vertex (first_of _ _ h)) (below_more field narrow.vertex_fields wide.vertex_fields wider.vertex (second_of (vertex_fits narrow vertex) _ h))
  slot_wider (slot.Cell field) h = both _ _ (sorted is_cell (first_of _ _ h)) (below_more field narrow.cell_fields wide.cell_fields wider.cell (second_of (is_cell narrow.sort) _ h))
  slot_wider (slot.Parent field) h = both _ _ (sorted has_place (first_of _ _ h)) (below_more field narrow.cell_fields wide.cell_fields wider.cell (second_of (has_place narrow.sort) _ h))

  name_wider : (it : Name) → IsTrue (name_fits narrow it) → IsTrue (name_fits wide it)
  name_wider name.Traversal h = refl
  name_wider name.Level h = sorted has_place h
  name_wider (name.Axis axis) h =
      let P : ℕ → Type 0 = λ d. IsTrue (nat_lt axis d) in
      both _ _ (sorted has_place (first_of _ _ h)) (subst P (sym (wider.dim (first_of _ _ h))) (second_of (has_place narrow.sort) _ h))
  name_wider (name.State vertex) h = vertex_wider vertex h
  name_wider (name.Kind vertex) h = vertex_wider vertex h
  name_wider (name.Slot it) h = slot_wider it h

  abbrev ExprWidens : Expr → Type 0
  ExprWidens expr = IsTrue (expr_fits narrow expr) → IsTrue (expr_fits wide expr)

  links_wider : (links : List (Sign × ((expr : Expr) × ExprWidens expr))) → IsTrue (list_all (λ (link : Sign × Bool). link.1) (map (λ (link : Sign × Expr). (link.0, expr_fits narrow link.1)) (map (λ (link : Sign × ((expr : Expr) × ExprWidens expr)). (link.0, link.1.0)) links)))
      → IsTrue (list_all (λ (link : Sign × Bool). link.1) (map (λ (link : Sign × Expr). (link.0, expr_fits wide link.1)) (map (λ (link : Sign × ((expr : Expr) × ExprWidens expr)). (link.0, link.1.0)) links)))
  links_wider [] h = refl
  links_wider (link ∷ links) h = both _ _ (link.1.1 (first_of _ _ h)) (links_wider links (second_of (expr_fits narrow link.1.0) _ h))

  expr_step_wider : (y : Expr-F ((expr : Expr) × ExprWidens expr)) → IsTrue (expr_fits_step narrow (map-Expr Expr Bool (expr_fits narrow) (map-Expr ((expr : Expr) × ExprWidens expr) Expr (λ e. e.0) y)))
      → IsTrue (expr_fits_step wide (map-Expr Expr Bool (expr_fits wide) (map-Expr ((expr : Expr) × ExprWidens expr) Expr (λ e. e.0) y)))
  expr_step_wider (Expr-F.Number n) h = refl
  expr_step_wider (Expr-F.Name it) h = name_wider it h
  expr_step_wider (Expr-F.Unary prefix operand) h = operand.1 h
  expr_step_wider (Expr-F.Chain first links) h = both _ _ (first.1 (first_of _ _ h)) (links_wider links (second_of (expr_fits narrow first.0) _ h))
  expr_step_wider (Expr-F.Extreme choice left right) h = both _ _ (left.1 (first_of _ _ h)) (right.1 (second_of (expr_fits narrow left.0) _ h))
  expr_step_wider (Expr-F.Abs operand) h = operand.1 h

  expr_wider : (expr : Expr) → ExprWidens expr
  expr_wider = ind-Expr ExprWidens (λ x y is.
      let Q : Expr-F Expr → Type 0 = λ z. IsTrue (expr_fits_step narrow (map-Expr Expr Bool (expr_fits narrow) z)) → IsTrue (expr_fits_step wide (map-Expr Expr Bool (expr_fits wide) z)) in
      let here : Q x = subst Q is (expr_step_wider y) in
      λ h. fold-roll-Expr Bool (expr_fits_step wide) x ∙ here (sym (fold-roll-Expr Bool (expr_fits_step narrow) x) ∙ h))

  exprs_wider : (exprs : List Expr) → IsTrue (list_all (expr_fits narrow) exprs) → IsTrue (list_all (expr_fits wide) exprs)
  exprs_wider [] h = refl
  exprs_wider (expr ∷ exprs) h = both _ _ (expr_wider expr (first_of _ _ h)) (exprs_wider exprs (second_of (expr_fits narrow expr) _ h))

  abbrev StmtWidens : Stmt → Type 0
  StmtWidens stmt = IsTrue (stmt_fits narrow stmt) → IsTrue (stmt_fits wide stmt)

  body_wider : (body : List ((stmt : Stmt) × StmtWidens stmt)) → IsTrue (list_all (λ b. b) (map (stmt_fits narrow) (map (λ (e : (stmt : Stmt) × StmtWidens stmt). e.0) body)))
      → IsTrue (list_all (λ b. b) (map (stmt_fits wide) (map (λ (e : (stmt : Stmt) × StmtWidens stmt). e.0) body)))
  body_wider [] h = refl
  body_wider (stmt ∷ stmts) h = both _ _ (stmt.1 (first_of _ _ h)) (body_wider stmts (second_of (stmt_fits narrow stmt.0) _ h))

  stmt_step_wider : (y : Stmt-F ((stmt : Stmt) × StmtWidens stmt)) → IsTrue (stmt_fits_step narrow (map-Stmt Stmt Bool (stmt_fits narrow) (map-Stmt ((stmt : Stmt) × StmtWidens stmt) Stmt (λ e. e.0) y)))
      → IsTrue (stmt_fits_step wide (map-Stmt Stmt Bool (stmt_fits wide) (map-Stmt ((stmt : Stmt) × StmtWidens stmt) Stmt (λ e. e.0) y)))
  stmt_step_wider (Stmt-F.Assign it expr) h = both _ _ (slot_wider it (first_of _ _ h)) (expr_wider expr (second_of (slot_fits narrow it) _ h))
  stmt_step_wider (Stmt-F.Trigger trigger vertex) h = vertex_wider vertex h
  stmt_step_wider (Stmt-F.Print values) h = exprs_wider values h
  stmt_step_wider (Stmt-F.If test body) h = both _ _ (expr_wider test (first_of _ _ h)) (body_wider body (second_of (expr_fits narrow test) _ h))
  stmt_step_wider (Stmt-F.IfElse test body other) h =
      both _ _ (both _ _ (expr_wider test (first_of _ _ (first_of _ _ h))) (body_wider body (second_of (expr_fits narrow test) _ (first_of _ _ h)))) (body_wider other (second_of (expr_fits narrow test && _) _ h))

  stmt_wider : (stmt : Stmt) → StmtWidens stmt
  stmt_wider = ind-Stmt StmtWidens (λ x y is.
      let Q : Stmt-F Stmt → Type 0 = λ z. IsTrue (stmt_fits_step narrow (map-Stmt Stmt Bool (stmt_fits narrow) z)) → IsTrue (stmt_fits_step wide (map-Stmt Stmt Bool (stmt_fits wide) z)) in
      let here : Q x = subst Q is (stmt_step_wider y) in
      λ h. fold-roll-Stmt Bool (stmt_fits_step wide) x ∙ here (sym (fold-roll-Stmt Bool (stmt_fits_step narrow) x) ∙ h))

pub fits_wider : (narrow wide : Reach) (body : List Stmt) → IsWider narrow wide → IsTrue (fits narrow body) → IsTrue (fits wide body)
fits_wider narrow wide [] wider h = refl
fits_wider narrow wide (stmt ∷ stmts) wider h = both _ _ (stmt_wider narrow wide wider stmt (first_of _ _ h)) (fits_wider narrow wide stmts wider (second_of (stmt_fits narrow stmt) _ h))
