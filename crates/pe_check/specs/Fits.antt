-- When a body whose names are resolved fits an event.
use Rattle.std.specs.Prelude.{ℕ, Bool, true, false, ◌&&◌, ◌^◌, nat_lt, List}
use Rattle.std.specs.List.{list_all}
use Rattle.pe_base.specs.declared.event.Sort.{Sort}
use Rattle.pe_base.specs.declared.event.Sort.TheVariants as sort
use Rattle.pe_check.specs.declared.checked.VertexName.{VertexName}
use Rattle.pe_check.specs.declared.checked.VertexName.TheVariants.{Own, Corner, ParentCorner}
use Rattle.pe_check.specs.declared.checked.Slot.{Slot}
use Rattle.pe_check.specs.declared.checked.Slot.TheVariants as slot
use Rattle.pe_check.specs.declared.checked.Name.{Name}
use Rattle.pe_check.specs.declared.checked.Name.TheVariants as name
use Rattle.pe_check.specs.declared.checked.Expr.{Expr}
use Rattle.pe_check.specs.declared.checked.Expr.TheOpen.{Expr-F}
use Rattle.pe_check.specs.declared.checked.Expr.TheFolds.{fold-Expr}
use Rattle.pe_check.specs.declared.checked.Stmt.{Stmt}
use Rattle.pe_check.specs.declared.checked.Stmt.TheOpen.{Stmt-F}
use Rattle.pe_check.specs.declared.checked.Stmt.TheFolds.{fold-Stmt}

-- what a body may speak of: the sort of its event, the dimension, and how many numbers a vertex, a cell and the grid have
pub record Reach : Type 0 where
  pub sort : Sort
  pub dim : ℕ
  pub vertex_fields : ℕ
  pub cell_fields : ℕ
  pub global_fields : ℕ

abbrev pub is_vertex : Sort → Bool
is_vertex sort.Plain = false
is_vertex sort.Vertex = true
is_vertex sort.Cell = false

abbrev pub is_cell : Sort → Bool
is_cell sort.Plain = false
is_cell sort.Vertex = false
is_cell sort.Cell = true

-- an event of a vertex or of a cell has a place and a parent cell
abbrev pub has_place : Sort → Bool
has_place sort.Plain = false
has_place sort.Vertex = true
has_place sort.Cell = true

abbrev pub vertex_fits : Reach → VertexName → Bool
vertex_fits reach Own = is_vertex reach.sort
vertex_fits reach (Corner k) = is_cell reach.sort && nat_lt k (2 ^ reach.dim)
vertex_fits reach (ParentCorner k) = has_place reach.sort && nat_lt k (2 ^ reach.dim)

abbrev pub slot_fits : Reach → Slot → Bool
slot_fits reach (slot.Global field) = nat_lt field reach.global_fields
slot_fits reach (slot.Vertex vertex field) = vertex_fits reach vertex && nat_lt field reach.vertex_fields
slot_fits reach (slot.Cell field) = is_cell reach.sort && nat_lt field reach.cell_fields
slot_fits reach (slot.Parent field) = has_place reach.sort && nat_lt field reach.cell_fields

abbrev pub name_fits : Reach → Name → Bool
name_fits reach name.Traversal = true
name_fits reach name.Level = has_place reach.sort
name_fits reach (name.Axis axis) = has_place reach.sort && nat_lt axis reach.dim
name_fits reach (name.State vertex) = vertex_fits reach vertex
name_fits reach (name.Kind vertex) = vertex_fits reach vertex
name_fits reach (name.Slot slot) = slot_fits reach slot

-- an expression whose parts fit or do not
abbrev pub expr_fits_step : Reach → Expr-F Bool → Bool
expr_fits_step reach (Expr-F.Number n) = true
expr_fits_step reach (Expr-F.Name name) = name_fits reach name
expr_fits_step reach (Expr-F.Unary prefix operand) = operand
expr_fits_step reach (Expr-F.Chain first links) = first && list_all (λ link. link.1) links
expr_fits_step reach (Expr-F.Extreme choice left right) = left && right
expr_fits_step reach (Expr-F.Abs operand) = operand

abbrev pub expr_fits : Reach → Expr → Bool
expr_fits reach = fold-Expr Bool (expr_fits_step reach)

-- a statement whose bodies fit or do not
abbrev pub stmt_fits_step : Reach → Stmt-F Bool → Bool
stmt_fits_step reach (Stmt-F.Assign slot expr) = slot_fits reach slot && expr_fits reach expr
stmt_fits_step reach (Stmt-F.Trigger trigger vertex) = vertex_fits reach vertex
stmt_fits_step reach (Stmt-F.Print values) = list_all (expr_fits reach) values
stmt_fits_step reach (Stmt-F.If test body) = expr_fits reach test && list_all (λ fits. fits) body
stmt_fits_step reach (Stmt-F.IfElse test body other) = expr_fits reach test && list_all (λ fits. fits) body && list_all (λ fits. fits) other

abbrev pub stmt_fits : Reach → Stmt → Bool
stmt_fits reach = fold-Stmt Bool (stmt_fits_step reach)

-- each name of the body is one that its event has, each number in range, and nothing is assigned that may not be
abbrev pub fits : Reach → List Stmt → Bool
fits reach body = list_all (stmt_fits reach) body
