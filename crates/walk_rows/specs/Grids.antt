-- Grids for the worked rows, by their vertices that are not hanging.
use Rattle.std.specs.Prelude.{ℕ, ℤ, ◌+◌, ◌/◌, ◌%◌, Bool, false, ◌&&◌, ◌==◌, nat_le, if◌then◌else◌, List, [], ◌∷◌, ◌++◌, map, take, replicate, fold, slice_index, slice_set, Option, Some}
use Rattle.std.specs.Option.{option_map}
use Rattle.std.specs.List.{flat_map, range_with_len}
use Rattle.pe_base.specs.declared.place.Place.{Place}
use Rattle.pe_base.specs.declared.way.Way.{Way}
use Rattle.pe_base.specs.declared.state.State.{State}
use Rattle.pe_base.specs.declared.state.State.TheVariants.{Unrefined, RefinementTriggered, Refined, EraseTriggered}
use Rattle.pe_base.specs.Tree.Places.{at}
use Rattle.pe_base.specs.Tree.Curve.{order}
use Rattle.pe_base.specs.Steps.Faces.{Face, face_on}
use Rattle.pe_base.specs.Walk.Maps.{Map, nothing, put}
use Rattle.pe_base.specs.Walk.Grids.{Grid, StoredVertex}
use Rattle.pe_stacks.specs.Holdings.{Holdings, new_stack, new_holdings}
use Rattle.pe_order.specs.Tokens.{Tokens, traverse}
use Rattle.pe_order.specs.Outlooks.{outlook}
use Rattle.pe_order.specs.Tallies.{foreseen_tally}

abbrev pub is_between : ℕ → ℕ → ℕ → Bool
is_between low high x = nat_le low x && nat_le x high

abbrev pub in_square : ℕ → ℕ → Place → Bool
in_square low high vertex = is_between low high (slice_index vertex.pos 0) && is_between low high (slice_index vertex.pos 1)

-- the regular grid of two levels: all inside vertices
abbrev pub regular : Place → Bool
regular vertex = if vertex.level == 1 then in_square 1 2 vertex else in_square 1 8 vertex

-- The grid that is refined at the vertex (1, 1) of level 1: the four cells around it have children.
abbrev pub refined_once : Place → Bool
refined_once vertex = if vertex.level == 1 then in_square 1 2 vertex else in_square 1 5 vertex

-- all inside vertices of the regular grid of space of two levels
abbrev pub everywhere : Place → Bool
everywhere vertex =
    let high = if vertex.level == 1 then 2 else 8 in
    is_between 1 high (slice_index vertex.pos 0) && is_between 1 high (slice_index vertex.pos 1) && is_between 1 high (slice_index vertex.pos 2)

abbrev pub point : ℕ → ℕ → ℕ → Place
point level x y = at level (x ∷ y ∷ [])

-- the lists of the nine cells of level 1 on one stack, in the order of the walk: those that arrive, or those that are left
abbrev pub on_stack : (ℕ → Way → (Place → Bool) → ℕ → Face → Place → List Place) → Way → (Place → Bool) → ℕ → ℕ → List (List Place)
on_stack lists way counts axis parity = map (λ cell. lists 2 way counts 1 (face_on axis parity cell) cell) (order 2 way 1)

-- places by numbers of three digits: the level, and the position
abbrev pub place_of : ℕ → Place
place_of n = point (n / 100) (n / 10 % 10) (n % 10)

abbrev pub places : List ℕ → List Place
places ns = map place_of ns

-- the vertices and the cells of the square of level 2 from one position to another
abbrev pub square : ℕ → ℕ → ℕ → ℕ → List Place
square x y width height = flat_map (λ i. map (λ j. point 2 (x + i) (y + j)) (range_with_len 0 height)) (range_with_len 0 width)

abbrev pub put_vertices : State → List Place → Map StoredVertex → Map StoredVertex
put_vertices state [] m = m
put_vertices state (v ∷ vs) m = put_vertices state vs (put m v (record { state = state; numbers = [] }))

abbrev pub put_cells : List Place → Map (List ℤ) → Map (List ℤ)
put_cells [] m = m
put_cells (c ∷ cs) m = put_cells cs (put m c [])

abbrev pub level_one_cells : List Place
level_one_cells = places (100 ∷ 101 ∷ 102 ∷ 110 ∷ 111 ∷ 112 ∷ 120 ∷ 121 ∷ 122 ∷ [])

-- a grid of two levels in the plane, by its vertices of level 1 and what it has of level 2
abbrev pub plane_grid : ℕ → List (State × List Place) → List Place → List Place → Grid
plane_grid finished level_one vertices cells = record {
  axes = 2;
  greatest = 2;
  finished = finished;
  vertices = fold (λ m part. put_vertices part.0 part.1 m) (put_vertices Unrefined vertices nothing) level_one;
  cells = put_cells (level_one_cells ++ cells) nothing;
  root = [];
  list = [];
}

-- One vertex is refined and to be erased, and the one across the middle cell is to be refined: what is below the one dies,
-- what is below the other is born, and what is below both is kept.
abbrev pub half_erased : Grid
half_erased = plane_grid 1 ((EraseTriggered, places (111 ∷ [])) ∷ (Unrefined, places (112 ∷ 121 ∷ [])) ∷ (RefinementTriggered, places (122 ∷ [])) ∷ []) (square 1 1 5 5) (square 0 0 6 6)

-- below the vertices (1, 2) and (2, 1) of level 1
abbrev pub crossed_vertices : List Place
crossed_vertices = square 1 4 5 5 ++ square 4 1 5 5

abbrev pub crossed_cells : List Place
crossed_cells = square 0 3 6 6 ++ square 3 0 6 6

-- Two vertices across the middle cell are refined, of which one is to be erased, and a third is to be refined.
abbrev pub half_kept : Grid
half_kept = plane_grid 2 ((Unrefined, places (111 ∷ [])) ∷ (Refined, places (112 ∷ [])) ∷ (EraseTriggered, places (121 ∷ [])) ∷ (RefinementTriggered, places (122 ∷ [])) ∷ []) crossed_vertices crossed_cells

-- What the next traversal of each reads and writes, top first, vertices and cells: by the lists of a plain program.
pub record Streams : Type 0 where
  pub read : List Place
  pub written : List Place
  pub cells_read : List Place
  pub cells_written : List Place

abbrev pub half_erased_streams : Streams
half_erased_streams = record {
  read = places (122 ∷ 121 ∷ 111 ∷ 251 ∷ 252 ∷ 253 ∷ 243 ∷ 242 ∷ 241 ∷ 231 ∷ 232 ∷ 233 ∷ 112 ∷ 244 ∷ 234 ∷ 245 ∷ 235 ∷ 255 ∷ 254 ∷ 215 ∷ 214 ∷ 213 ∷ 224 ∷ 223 ∷ 225 ∷ 222 ∷ 221 ∷ 211 ∷ 212 ∷ []);
  written = places (111 ∷ 112 ∷ 122 ∷ 248 ∷ 247 ∷ 246 ∷ 257 ∷ 256 ∷ 258 ∷ 268 ∷ 267 ∷ 266 ∷ 121 ∷ 265 ∷ 255 ∷ 264 ∷ 254 ∷ 244 ∷ 245 ∷ 284 ∷ 285 ∷ 286 ∷ 276 ∷ 275 ∷ 274 ∷ 277 ∷ 278 ∷ 288 ∷ 287 ∷ []);
  cells_read = places (122 ∷ 121 ∷ 120 ∷ 110 ∷ 250 ∷ 251 ∷ 252 ∷ 242 ∷ 241 ∷ 240 ∷ 230 ∷ 231 ∷ 232 ∷ 111 ∷ 233 ∷ 234 ∷ 235 ∷ 245 ∷ 244 ∷ 243 ∷ 253 ∷ 254 ∷ 255 ∷ 112 ∷ 102 ∷ 101 ∷ 205 ∷ 204 ∷ 203 ∷ 213 ∷ 214 ∷ 215 ∷ 225 ∷ 224 ∷ 223 ∷ 100 ∷ 222 ∷ 221 ∷ 220 ∷ 210 ∷ 211 ∷ 212 ∷ 202 ∷ 201 ∷ 200 ∷ []);
  cells_written = places (100 ∷ 101 ∷ 102 ∷ 112 ∷ 238 ∷ 237 ∷ 236 ∷ 246 ∷ 247 ∷ 248 ∷ 258 ∷ 257 ∷ 256 ∷ 111 ∷ 255 ∷ 254 ∷ 253 ∷ 243 ∷ 244 ∷ 245 ∷ 235 ∷ 234 ∷ 233 ∷ 110 ∷ 120 ∷ 121 ∷ 283 ∷ 284 ∷ 285 ∷ 275 ∷ 274 ∷ 273 ∷ 263 ∷ 264 ∷ 265 ∷ 122 ∷ 266 ∷ 267 ∷ 268 ∷ 278 ∷ 277 ∷ 276 ∷ 286 ∷ 287 ∷ 288 ∷ []);
}

abbrev pub half_kept_streams : Streams
half_kept_streams = record {
  read = places (111 ∷ 112 ∷ 234 ∷ 224 ∷ 235 ∷ 225 ∷ 236 ∷ 226 ∷ 216 ∷ 215 ∷ 214 ∷ 217 ∷ 218 ∷ 228 ∷ 227 ∷ 237 ∷ 238 ∷ 122 ∷ 248 ∷ 247 ∷ 246 ∷ 257 ∷ 256 ∷ 258 ∷ 121 ∷ 265 ∷ 255 ∷ 264 ∷ 254 ∷ 263 ∷ 253 ∷ 244 ∷ 243 ∷ 245 ∷ 242 ∷ 241 ∷ 251 ∷ 252 ∷ 262 ∷ 261 ∷ 271 ∷ 272 ∷ 273 ∷ 283 ∷ 282 ∷ 281 ∷ 284 ∷ 285 ∷ 275 ∷ 274 ∷ []);
  written = places (122 ∷ 288 ∷ 287 ∷ 286 ∷ 277 ∷ 276 ∷ 278 ∷ 268 ∷ 267 ∷ 266 ∷ 121 ∷ 275 ∷ 265 ∷ 274 ∷ 264 ∷ 284 ∷ 285 ∷ 111 ∷ 112 ∷ 244 ∷ 234 ∷ 245 ∷ 235 ∷ 246 ∷ 236 ∷ 256 ∷ 255 ∷ 254 ∷ 257 ∷ 258 ∷ 248 ∷ 247 ∷ 237 ∷ 238 ∷ 228 ∷ 227 ∷ 226 ∷ 217 ∷ 216 ∷ 218 ∷ 215 ∷ 214 ∷ 224 ∷ 225 ∷ []);
  cells_read = places (100 ∷ 101 ∷ 223 ∷ 224 ∷ 225 ∷ 215 ∷ 214 ∷ 213 ∷ 203 ∷ 204 ∷ 205 ∷ 102 ∷ 206 ∷ 207 ∷ 208 ∷ 218 ∷ 217 ∷ 216 ∷ 226 ∷ 227 ∷ 228 ∷ 112 ∷ 238 ∷ 237 ∷ 236 ∷ 246 ∷ 247 ∷ 248 ∷ 258 ∷ 257 ∷ 256 ∷ 111 ∷ 255 ∷ 254 ∷ 253 ∷ 243 ∷ 244 ∷ 245 ∷ 235 ∷ 234 ∷ 233 ∷ 110 ∷ 232 ∷ 231 ∷ 230 ∷ 240 ∷ 241 ∷ 242 ∷ 252 ∷ 251 ∷ 250 ∷ 120 ∷ 260 ∷ 261 ∷ 262 ∷ 272 ∷ 271 ∷ 270 ∷ 280 ∷ 281 ∷ 282 ∷ 121 ∷ 283 ∷ 284 ∷ 285 ∷ 275 ∷ 274 ∷ 273 ∷ 263 ∷ 264 ∷ 265 ∷ 122 ∷ []);
  cells_written = places (122 ∷ 288 ∷ 287 ∷ 286 ∷ 276 ∷ 277 ∷ 278 ∷ 268 ∷ 267 ∷ 266 ∷ 121 ∷ 265 ∷ 264 ∷ 263 ∷ 273 ∷ 274 ∷ 275 ∷ 285 ∷ 284 ∷ 283 ∷ 120 ∷ 110 ∷ 111 ∷ 233 ∷ 234 ∷ 235 ∷ 245 ∷ 244 ∷ 243 ∷ 253 ∷ 254 ∷ 255 ∷ 112 ∷ 256 ∷ 257 ∷ 258 ∷ 248 ∷ 247 ∷ 246 ∷ 236 ∷ 237 ∷ 238 ∷ 102 ∷ 228 ∷ 227 ∷ 226 ∷ 216 ∷ 217 ∷ 218 ∷ 208 ∷ 207 ∷ 206 ∷ 101 ∷ 205 ∷ 204 ∷ 203 ∷ 213 ∷ 214 ∷ 215 ∷ 225 ∷ 224 ∷ 223 ∷ 100 ∷ []);
}

-- places on the input stacks, as a traversal begins
abbrev pub with_streams : List Place → List Place → Tokens
with_streams vertices cells = record {
  vertices = record (new_holdings 10) { stacks = slice_set (replicate 10 new_stack) 8 (record { items = vertices; pushes = 0; pops = 0 }) };
  cells = record (new_holdings 2) { stacks = slice_set (replicate 2 new_stack) 0 (record { items = cells; pushes = 0; pops = 0 }) };
  held = λ place. 0;
  met = λ place. 0;
}

-- what lies on each stack of vertices and of cells
abbrev pub all_items : Holdings Place → List (List Place)
all_items held = map (λ stack. stack.items) held.stacks

-- how often each of the stacks of the axes was pushed and popped; what was made, given up, is out, and was out at most
abbrev pub all_counts : Holdings Place → List ℕ
all_counts held = map (λ stack. stack.pushes) (take 4 held.stacks) ++ (map (λ stack. stack.pops) (take 4 held.stacks) ++ (held.fresh ∷ held.spent ∷ held.out ∷ held.most ∷ []))

-- what the places of a traversal come to: what lies on the stacks of vertices and of cells, and the counts of vertices
abbrev pub after_traversal : Grid → Streams → Option (List (List Place) × List (List Place) × List ℕ)
after_traversal grid streams =
    option_map (λ t. (all_items t.vertices, all_items t.cells, all_counts t.vertices))
    (traverse (outlook 1 grid false) 2 (with_streams streams.read streams.cells_read))

-- all stacks empty but the outputs
abbrev pub on_outputs : Streams → List ℕ → Option (List (List Place) × List (List Place) × List ℕ)
on_outputs streams counts = Some (slice_set (replicate 10 []) 9 streams.written, slice_set (replicate 2 []) 1 streams.cells_written, counts)

-- what is counted of the next traversal: cells; vertices read, written, created, destroyed and hanging; and how deep it goes
abbrev pub counted_of : Grid → List ℕ
counted_of grid =
    let tally = foreseen_tally 1 grid false in
    tally.cells ∷ tally.read ∷ tally.written ∷ tally.created ∷ tally.destroyed ∷ tally.hanging ∷ tally.deepest ∷ []
