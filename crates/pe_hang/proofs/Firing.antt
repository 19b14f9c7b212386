-- An event that is fired follows the event of the machine.
use Rattle.std.proofs.Common.{◌≡◌, ℕ, ℤ, List, [], ◌∷◌, map, ◌++◌, Option, Some, None, Result, Ok, Err, refl, sym, ap, subst, ◌∙◌}
use Rattle.std.proofs.lemmas.List.{append-nil}
use Rattle.pe_base.specs.declared.place.Place.{Place}
use Rattle.pe_base.specs.declared.event.Event.{Event}
use Rattle.pe_base.specs.declared.stop.Stop.{Stop}
use Rattle.pe_base.specs.declared.stop.Stop.TheVariants.{Overflow, Division, Sink, Memory}
use Rattle.pe_base.specs.Acts.Effects.{SeenVertex, VertexRecord, seen_of, all_seen, as_seen, as_left, as_all_left, Seen, Outcome, Fault, Overflow as overflows, Division as divides, plain_sight}
use Rattle.pe_base.specs.Walk.Course.{done, Course, from, at_once, course_map}
use Rattle.pe_base.specs.declared.kind.Kind.{Kind}
use Rattle.pe_base.specs.Walk.Core.{Setting, Family, fire, ended_by, vertex_event, cell_event, plain_event, family_after, fresh_vertex}
use Rattle.pe_mapping.specs.Held.{Held, outcome_of, found_of}
use Rattle.pe_base.specs.Calls.Told.{Adds, AddsPart}
use Rattle.pe_mapping.specs.Answers.{Answers}
use Rattle.pe_base.specs.Tree.Places.{root}
use Rattle.std.specs.Option.{option_map_or, unwrap_or}
use Rattle.std.proofs.lemmas.Simd.{map-map}
use Rattle.pe_stacks.specs.declared.record.Vertex.{Vertex}
use Rattle.pe_stacks.specs.declared.record.CellRec.{CellRec}
use Rattle.pe_stacks.specs.Corners.{CornerList, vertices_of}
use Rattle.pe_stacks.specs.Sights.{Numbers, record_of, corner_records, seen_vertex, seen_corners, seen_cell, vertex_sight, cell_sight}
use Rattle.pe_hang.specs.InHand.{family_in_hand, own_in_hand}
use Rattle.pe_base.specs.Calls.Follows.{Follows, failure_at, read_by}

-- what fires adds its text and nothing more, whatever it is turned into
module _ {Plan Y : Type 0} (set : Setting Plan) (event : Event) (list : List ℤ) (seen : Seen) (turn : Outcome → Y) where
  abbrev outcome : Outcome
  outcome = set.rules.effect set.plan event set.traversal list seen

  abbrev turned : Course Y
  turned = course_map turn (fire set event list seen)

  silent : (fault : Option Fault) → (from (ended_by set event seen.place fault outcome) (λ x. at_once (turn x))).text ≡ []
  silent None = refl
  silent (Some fault) = refl

  told-turned : turned.text ≡ outcome.text
  told-turned = ap (λ text. outcome.text ++ text) (silent outcome.fault) ∙ append-nil outcome.text

  ended : (fault : Option Fault) → outcome.fault ≡ fault → turned.ending ≡ (from (ended_by set event seen.place fault outcome) (λ x. at_once (turn x))).ending
  ended fault is = ap (λ f. (from (ended_by set event seen.place f outcome) (λ x. at_once (turn x))).ending) is

  -- the answer of an event, by what it leaves
  pub fire-follows : (old new : Held Plan) (vertices cells : ℕ → ℕ) (after : Seen) (answer : Result (Unit {0}) Stop) (y : Y)
      → Answers outcome old new after answer → ((outcome.seen ≡ after) → (outcome.list ≡ new.list) → turn outcome ≡ y)
      → Follows turned (λ (u : Unit {0}). y) (read_by (failure_at event seen.place) answer) (found_of old vertices cells) new.told
  fire-follows old new vertices cells after (Ok u) y is turns = record {
    ends = ended None is.fault ∙ ap done (turns is.seen is.list);
    told = subst (λ text. Adds old.told text new.told) (sym told-turned) is.told;
  }
  fire-follows old new vertices cells after (Err Overflow) y is turns = record {
    ends = ended (Some overflows) is.fault;
    told = subst (λ text. Adds old.told text new.told) (sym told-turned) is.told;
  }
  fire-follows old new vertices cells after (Err Division) y is turns = record {
    ends = ended (Some divides) is.fault;
    told = subst (λ text. Adds old.told text new.told) (sym told-turned) is.told;
  }
  fire-follows old new vertices cells after (Err Sink) y is turns = record {
    failed = is.failed;
    told = subst (λ text. AddsPart old.told text new.told) (sym told-turned) is.told;
  }
  fire-follows old new vertices cells after (Err Memory) y is turns = record {
    told = subst (λ text. AddsPart old.told text new.told) (sym told-turned) is.told;
    room = λ sure. absurd (let both = sym sure ∙ is.unsure in cc);
  }

-- what events see of records in hand is what they see of the vertices
module _ {V : Type 0} (numbers : V → List ℤ) where
  pub seen-records : (corners : CornerList (Vertex V)) → all_seen (corner_records numbers corners) ≡ seen_corners numbers corners
  seen-records corners = map-map seen_of (record_of numbers) (vertices_of corners)

  -- and what they leave is put back
  left-all : (its : List VertexRecord) (seens : List SeenVertex) → as_all_left its seens ≡ map as_seen seens
  left-all its [] = refl
  left-all [] (seen ∷ seens) = ap (λ rest. as_seen seen ∷ rest) (left-all [] seens)
  left-all (it ∷ its) (seen ∷ seens) = ap (λ rest. as_seen seen ∷ rest) (left-all its seens)

  pub left-records : (its : List VertexRecord) (corners : CornerList (Vertex V)) → as_all_left its (seen_corners numbers corners) ≡ corner_records numbers corners
  left-records its corners = left-all its (seen_corners numbers corners) ∙ map-map as_seen (seen_vertex numbers) (vertices_of corners)

module _ {Plan V C : Type 0} (numbers : Numbers V C) (set : Setting Plan) (event : Event) (place : Place) (old new : Held Plan) (vertices cells : ℕ → ℕ) where
  -- the effect of an event, by what it sees
  abbrev answers : Seen → Seen → Result (Unit {0}) Stop → Type 0
  answers before after answer = Answers (set.rules.effect set.plan event set.traversal old.list before) old new after answer

  -- an event of a vertex
  pub vertex_event-follows : (vertex vertex' : Vertex V) (parents parents' : CornerList (Vertex V)) (parent parent' : CellRec C) (answer : Result (Unit {0}) Stop)
      → old.plan ≡ set.plan
      → Answers (outcome_of set.rules old event set.traversal (vertex_sight numbers place vertex parents parent)) old new (vertex_sight numbers place vertex' parents' parent') answer
      → Follows (vertex_event set event place (record_of numbers.vertex vertex, family_in_hand numbers parents parent old.list))
      (λ (u : Unit {0}). (record_of numbers.vertex vertex', family_in_hand numbers parents' parent' new.list))
      (read_by (failure_at event place) answer) (found_of old vertices cells) new.told
  vertex_event-follows vertex vertex' parents parents' parent parent' answer same is =
      let after = vertex_sight numbers place vertex' parents' parent' in
      let own = record_of numbers.vertex vertex in
      let family = family_in_hand numbers parents parent old.list in
      let sight : List SeenVertex → Seen = λ its. record (vertex_sight numbers place vertex parents parent) { parents = its } in
      let here = subst (λ plan. Answers (set.rules.effect plan event set.traversal old.list (vertex_sight numbers place vertex parents parent)) old new after answer) same is in
      fire-follows set event old.list (sight (all_seen family.parents)) (λ outcome. (option_map_or (as_left own) outcome.seen.vertex own, family_after set family outcome)) old new vertices cells after answer _
      (subst (λ its. answers (sight its) after answer) (sym (seen-records numbers.vertex parents)) here)
      (λ seen list.
      ap (λ (s : Seen). (option_map_or (as_left own) s.vertex own, record { parents = as_all_left family.parents s.parents; parent = s.parent; list = (outcome set event old.list (sight (all_seen family.parents)) (λ o. o)).list })) seen
      ∙ ap (λ (l : List ℤ). (record_of numbers.vertex vertex', record { parents = as_all_left family.parents after.parents; parent = after.parent; list = l })) list
      ∙ ap (λ its. (record_of numbers.vertex vertex', record { parents = its; parent = after.parent; list = new.list })) (left-records numbers.vertex family.parents parents'))

  -- an event of a cell
  pub cell_event-follows : (cell cell' : CellRec C) (corners corners' parents parents' : CornerList (Vertex V)) (parent parent' : CellRec C) (answer : Result (Unit {0}) Stop)
      → old.plan ≡ set.plan
      → Answers (outcome_of set.rules old event set.traversal (cell_sight numbers place cell corners parents parent)) old new (cell_sight numbers place cell' corners' parents' parent') answer
      → Follows (cell_event set event place (own_in_hand numbers cell corners, family_in_hand numbers parents parent old.list))
      (λ (u : Unit {0}). (own_in_hand numbers cell' corners', family_in_hand numbers parents' parent' new.list))
      (read_by (failure_at event place) answer) (found_of old vertices cells) new.told
  cell_event-follows cell cell' corners corners' parents parents' parent parent' answer same is =
      let after = cell_sight numbers place cell' corners' parents' parent' in
      let own = own_in_hand numbers cell corners in
      let family = family_in_hand numbers parents parent old.list in
      let sight : List SeenVertex → List SeenVertex → Seen = λ own its. record (cell_sight numbers place cell corners parents parent) { corners = own; parents = its } in
      let here = subst (λ plan. Answers (set.rules.effect plan event set.traversal old.list (cell_sight numbers place cell corners parents parent)) old new after answer) same is in
      let half = subst (λ its. answers (sight (seen_corners numbers.vertex corners) its) after answer) (sym (seen-records numbers.vertex parents)) here in
      let before = sight (all_seen own.corners) (all_seen family.parents) in
      fire-follows set event old.list before
      (λ outcome. (record { cell = unwrap_or outcome.seen.cell own.cell; corners = as_all_left own.corners outcome.seen.corners }, family_after set family outcome)) old new vertices cells after answer _
      (subst (λ cs. answers (sight cs (all_seen family.parents)) after answer) (sym (seen-records numbers.vertex corners)) half)
      (λ seen list.
      ap (λ (s : Seen). (record { cell = unwrap_or s.cell own.cell; corners = as_all_left own.corners s.corners }, record { parents = as_all_left family.parents s.parents; parent = s.parent; list = (outcome set event old.list before (λ o. o)).list })) seen
      ∙ ap (λ (l : List ℤ). (record { cell = seen_cell numbers.cell cell'; corners = as_all_left own.corners after.corners }, record { parents = as_all_left family.parents after.parents; parent = after.parent; list = l })) list
      ∙ ap (λ cs. (record { cell = seen_cell numbers.cell cell'; corners = cs }, record { parents = as_all_left family.parents after.parents; parent = after.parent; list = new.list })) (left-records numbers.vertex own.corners corners')
      ∙ ap (λ its. (own_in_hand numbers cell' corners', record { parents = its; parent = after.parent; list = new.list })) (left-records numbers.vertex family.parents parents'))

  -- an event of no vertex and no cell
  pub plain_event-follows : (answer : Result (Unit {0}) Stop)
      → old.plan ≡ set.plan
      → Answers (outcome_of set.rules old event set.traversal plain_sight) old new plain_sight answer
      → Follows (plain_event set event old.list) (λ (u : Unit {0}). new.list) (read_by (failure_at event root) answer) (found_of old vertices cells) new.told
  plain_event-follows answer same is =
      fire-follows set event old.list plain_sight (λ outcome. outcome.list) old new vertices cells plain_sight answer _
      (subst (λ plan. Answers (set.rules.effect plan event set.traversal old.list plain_sight) old new plain_sight answer) same is)
      (λ seen list. list)

-- an event of a vertex that was made fresh
module _ {Plan V C : Type 0} (numbers : Numbers V C) (set : Setting Plan) (event : Event) (place : Place) (old made new : Held Plan) (vertices cells : ℕ → ℕ) where
  pub fresh_event-follows : (kind : Kind) (vertex vertex' : Vertex V) (parents parents' : CornerList (Vertex V)) (parent parent' : CellRec C) (answer : Result (Unit {0}) Stop)
      → made.plan ≡ set.plan → made.told ≡ old.told → made.sure ≡ old.sure
      → record_of numbers.vertex vertex ≡ (fresh_vertex set kind place (family_in_hand numbers parents parent old.list)).0
      → made.list ≡ (set.rules.fresh_vertex set.plan old.list).list
      → Answers (outcome_of set.rules made event set.traversal (vertex_sight numbers place vertex parents parent)) made new (vertex_sight numbers place vertex' parents' parent') answer
      → Follows (vertex_event set event place (fresh_vertex set kind place (family_in_hand numbers parents parent old.list)))
      (λ (u : Unit {0}). (record_of numbers.vertex vertex', family_in_hand numbers parents' parent' new.list))
      (read_by (failure_at event place) answer) (found_of old vertices cells) new.told
  fresh_event-follows kind vertex vertex' parents parents' parent parent' answer plan told sure is list answered =
      let first = vertex_event-follows numbers set event place made new vertices cells vertex vertex' parents parents' parent parent' answer plan answered in
      let after : Unit {0} → VertexRecord × Family = λ u. (record_of numbers.vertex vertex', family_in_hand numbers parents' parent' new.list) in
      let result = read_by (failure_at event place) answer in
      let with_list = subst (λ l. Follows (vertex_event set event place (record_of numbers.vertex vertex, family_in_hand numbers parents parent l)) after result (found_of made vertices cells) new.told) list first in
      let with_vertex =
      subst (λ v. Follows (vertex_event set event place (v, family_in_hand numbers parents parent (set.rules.fresh_vertex set.plan old.list).list)) after result (found_of made vertices cells) new.told) is with_list in
      let with_told =
      subst (λ t. Follows (vertex_event set event place (fresh_vertex set kind place (family_in_hand numbers parents parent old.list))) after result (record { told = t; sure = made.sure; vertices = vertices; cells = cells }) new.told) told with_vertex in
      subst (λ s. Follows (vertex_event set event place (fresh_vertex set kind place (family_in_hand numbers parents parent old.list))) after result (record { told = old.told; sure = s; vertices = vertices; cells = cells }) new.told) sure with_told
