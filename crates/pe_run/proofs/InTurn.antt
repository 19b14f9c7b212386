-- Traversals in turn: some of them are made, and the rest is left.
use Rattle.std.proofs.Common.{◌≡◌, ◌∙◌, ℕ, suc, ◌+◌, ◌-◌, ◌<◌, ◌≤◌, List, [], ◌∷◌, ◌++◌, length, refl, sym, ap, ap₂, subst, append_assoc, length-append, arith}
use Rattle.std.specs.Prelude.{Ok, Err}
use Rattle.std.proofs.lemmas.List.{append-nil}
use Rattle.pe_base.specs.declared.fields.Fields.{Fields}
use Rattle.pe_base.specs.declared.tally.Tally.{Tally}
use Rattle.pe_base.specs.Lines.{tally_line}
use Rattle.pe_base.specs.Walk.Course.{Cause, Ending, done, halts, stuck}
use Rattle.pe_base.specs.Walk.Grids.{Grid}
use Rattle.pe_base.specs.Walk.Traversals.{Traversal, Traversals, traversals, traversals_from}
use Rattle.pe_base.specs.Walk.Walk.{traverse}
use Rattle.pe_stacks.specs.declared.record.Vertex.{Vertex}
use Rattle.pe_stacks.specs.declared.record.CellRec.{CellRec}
use Rattle.pe_stacks.specs.Holdings.{Holdings}
use Rattle.pe_base.specs.Calls.Told.{Told, Adds, AddsPart, FailsToTell}
use Rattle.pe_base.proofs.Calls.Texts.{adds-nothing, adds-then, part-first, part-then, fails-then}
use Rattle.pe_base.specs.Calls.Follows.{Failure, halted, unwritten, wanting, unheard_of}
use Rattle.pe_adapt.specs.Stops.{failure_of}
use Rattle.pe_scene.specs.Said.{Said}
use Rattle.pe_run.specs.declared.traversals.Between.{Between}
use Rattle.pe_run.specs.declared.traversals.Halt.{Halt}
use Rattle.pe_run.specs.declared.traversals.Halt.TheVariants.{Walk, Line}
use Rattle.pe_run.specs.Tasks.{said_setting, first_grid, said_traversals}
use Rattle.pe_run.specs.Traffic.{HasTraffic}
use Rattle.pe_run.specs.Between.{Stands, IsTraversed, Halts, FailsAtLine, StopsFor, TraversalAnswer}
use Rattle.pe_run.specs.Stages.{behind_traversals, Reaches, AllDone, OneHalts, OneStops, TraversalsAnswer}

-- before the first nothing is made
reaches-none : (whole : Traversals) (told : Told) → Reaches whole [] whole told told
reaches-none whole told = record { text = []; splits = refl; told = adds-nothing told }

-- the traversals that are left, as the next one ends
left_by : (said : Said) (k : ℕ) (grid : Grid) (ending : Ending (Grid × Tally)) → (traverse (said_setting said) grid).ending ≡ ending
    → traversals (said_setting said) (suc k) grid ≡ traversals_from (traversals (said_setting said) k) grid (traverse (said_setting said) grid).text ending
left_by said k grid ending is = ap (traversals_from (traversals (said_setting said) k) grid (traverse (said_setting said) grid).text) is

module _ (said : Said) (made : List Traversal) (grid : Grid) (k : ℕ) (old mid new : Told) (reaches : Reaches (said_traversals said) made (traversals (said_setting said) (suc k) grid) old mid) where
  abbrev whole : Traversals
  whole = said_traversals said

  abbrev text : List ℕ
  text = (traverse (said_setting said) grid).text

  -- the whole, as the next traversal ends
  whole_by : (ending : Ending (Grid × Tally)) → (traverse (said_setting said) grid).ending ≡ ending → whole ≡ behind_traversals reaches.text made (traversals_from (traversals (said_setting said) k) grid text ending)
  whole_by ending is = reaches.splits ∙ ap (behind_traversals reaches.text made) (left_by said k grid ending is)

  -- one more is made
  pub reaches-more : (vertices : Holdings (Vertex Fields)) (cells : Holdings (CellRec Fields)) (between : Between) (tally : Tally) → (it : IsTraversed said grid made tally_line mid new vertices cells between tally)
      → Reaches whole (made ++ record { grid = grid; tally = tally } ∷ []) (traversals (said_setting said) k it.next) old new
  reaches-more vertices cells between tally it =
      let rest = traversals (said_setting said) k it.next in
      let turn : Traversal = record { grid = grid; tally = tally } in
      record {
        text = reaches.text ++ (text ++ tally_line tally);
        splits = whole_by (done (it.next, tally)) it.ends
            ∙ ap₂ (λ (t : List ℕ) (m : List Traversal). record { text = t; made = m; ending = rest.ending }) (sym (append_assoc reaches.text (text ++ tally_line tally) rest.text)) (sym (append_assoc made (turn ∷ []) rest.made));
        told = adds-then old mid new reaches.text (text ++ tally_line tally) reaches.told it.told;
      }

  -- it halts
  one_halts : (cause : Cause) (traversal : ℕ) → traversal ≡ length made + 1 → Halts said grid cause mid new → OneHalts said cause traversal old new
  one_halts cause traversal number it =
      let is = whole_by (halts cause) it.ends in
      record {
        ends = ap (λ (all : Traversals). all.ending) is;
        number = number ∙ ap (λ m. length m + 1) (sym (append-nil made) ∙ sym (ap (λ (all : Traversals). all.made) is));
        told = subst (λ t. Adds old t new) (sym (ap (λ (all : Traversals). all.text) is)) (adds-then old mid new reaches.text text reaches.told it.told);
      }

  -- what is left begins with the text of the next traversal
  begins : (ending : Ending (Grid × Tally)) → (rest : List ℕ) × ((traversals_from (traversals (said_setting said) k) grid text ending).text ≡ text ++ rest)
  begins (done after) = (tally_line after.1 ++ (traversals (said_setting said) k after.0).text, append_assoc text (tally_line after.1) (traversals (said_setting said) k after.0).text)
  begins (halts cause) = ([], sym (append-nil text))
  begins stuck = ([], sym (append-nil text))

  -- a part of what is left was written
  part_of_whole : (begun rest : List ℕ) → (traversals (said_setting said) (suc k) grid).text ≡ begun ++ rest → AddsPart mid begun new → AddsPart old whole.text new
  part_of_whole begun rest is part =
      subst (λ t. AddsPart old t new) (sym (ap (λ (all : Traversals). all.text) reaches.splits ∙ ap (λ t. reaches.text ++ t) is))
      (part-then old mid new reaches.text (begun ++ rest) reaches.told (part-first mid new begun rest part))

  part_of_text : AddsPart mid text new → AddsPart old whole.text new
  part_of_text part =
      let rest = begins (traverse (said_setting said) grid).ending in
      part_of_whole text rest.0 rest.1 part

  fails : FailsToTell text mid new → FailsToTell whole.text old new
  fails it = record { failed = fails-then old mid new reaches.text reaches.told it.failed; told = part_of_text it.told }

  -- it stops
  pub one_stops : (traversal : ℕ) (failure : Failure) → traversal ≡ length made + 1 → StopsFor said grid mid new failure → OneStops said traversal old new failure
  one_stops traversal (halted cause) number it = one_halts cause traversal number it
  one_stops traversal unwritten number it = fails it
  one_stops traversal wanting number it = part_of_text it
  one_stops traversal unheard_of number it = it

  -- the sink fails at its line
  pub fails_at_its_line : FailsAtLine said grid mid new → FailsToTell whole.text old new
  fails_at_its_line it = record {
    failed = fails-then old mid new reaches.text reaches.told it.fails.failed;
    told = part_of_whole (text ++ tally_line it.tally) (traversals (said_setting said) k it.next).text (ap (λ (all : Traversals). all.text) (left_by said k grid (done (it.next, it.tally)) it.ends)) it.fails.told;
  }

  pub answers-err : (halt : Halt) (vertices : Holdings (Vertex Fields)) (cells : Holdings (CellRec Fields)) → TraversalAnswer said grid made mid new vertices cells (Err halt) → TraversalsAnswer said old new vertices cells (Err halt)
  answers-err (Walk traversal stop) vertices cells it = one_stops traversal (failure_of stop) it.0 it.1
  answers-err Line vertices cells it = fails_at_its_line it

-- all are made
pub all_done : (said : Said) (made : List Traversal) (grid : Grid) (old now : Told) (vertices : Holdings (Vertex Fields)) (cells : Holdings (CellRec Fields)) (between : Between)
    → Reaches (said_traversals said) made (traversals (said_setting said) 0 grid) old now → Stands said between vertices cells made grid → AllDone said old now vertices cells
all_done said made grid old now vertices cells between reaches stands =
    let is = reaches.splits in
    record {
      left = grid;
      ends = ap (λ (all : Traversals). all.ending) is;
      told = subst (λ t. Adds old t now) (sym (append-nil reaches.text) ∙ sym (ap (λ (all : Traversals). all.text) is)) reaches.told;
      traffic = subst (λ m. HasTraffic said.settings.dim said.settings.start_level m vertices cells) (sym (append-nil made) ∙ sym (ap (λ (all : Traversals). all.made) is)) stands.traffic;
    }

-- So many traversals are made, and those that are left are the rest of the whole.
pub record IsInTurn (said : Said) (count : ℕ) (between : Between) (old now : Told) (vertices : Holdings (Vertex Fields)) (cells : Holdings (CellRec Fields)) : Type 0 where
  pub made : List Traversal
  pub grid : Grid
  pub few : count ≤ said.settings.traversals
  pub so_many : length made ≡ count
  pub stands : Stands said between vertices cells made grid
  pub reaches : Reaches (said_traversals said) made (traversals (said_setting said) (said.settings.traversals - count) grid) old now

-- none is made yet
pub starts : (said : Said) (between : Between) (told : Told) (vertices : Holdings (Vertex Fields)) (cells : Holdings (CellRec Fields)) → Stands said between vertices cells [] (first_grid said) → IsInTurn said 0 between told told vertices cells
starts said between told vertices cells stands =
    let all : said.settings.traversals ≡ said.settings.traversals - 0 = omega arith in
    record {
      made = [];
      grid = first_grid said;
      few = omega arith;
      so_many = refl;
      stands = stands;
      reaches = subst (λ n. Reaches (said_traversals said) [] (traversals (said_setting said) n (first_grid said)) told told) all (reaches-none (said_traversals said) told);
    }

-- one more is to be made
pub is_next : (said : Said) (count : ℕ) (grid : Grid) (whole : Traversals) (made : List Traversal) (old now : Told) → count < said.settings.traversals
    → Reaches whole made (traversals (said_setting said) (said.settings.traversals - count) grid) old now → Reaches whole made (traversals (said_setting said) (suc (said.settings.traversals - (count + 1))) grid) old now
is_next said count grid whole made old now less reaches =
    let one : said.settings.traversals - count ≡ suc (said.settings.traversals - (count + 1)) = omega arith in
    subst (λ n. Reaches whole made (traversals (said_setting said) n grid) old now) one reaches

pub goes_on : (said : Said) (count : ℕ) (between between' : Between) (old mid new : Told) (vertices vertices' : Holdings (Vertex Fields)) (cells cells' : Holdings (CellRec Fields)) → count < said.settings.traversals
    → (it : IsInTurn said count between old mid vertices cells) → TraversalAnswer said it.grid it.made mid new vertices' cells' (Ok between') → IsInTurn said (count + 1) between' old new vertices' cells'
goes_on said count between between' old mid new vertices vertices' cells cells' less it answer =
    let turn : Traversal = record { grid = it.grid; tally = answer.0 } in
    record {
      made = it.made ++ turn ∷ [];
      grid = answer.1.next;
      few = omega (arith, less);
      so_many = length-append it.made (turn ∷ []) ∙ ap (λ n. n + 1) it.so_many;
      stands = answer.1.stands;
      reaches = reaches-more said it.made it.grid (said.settings.traversals - (count + 1)) old mid new (is_next said count it.grid (said_traversals said) it.made old mid less it.reaches) vertices' cells' between' answer.0 answer.1;
    }

pub stops_at : (said : Said) (count : ℕ) (between : Between) (old mid new : Told) (vertices vertices' : Holdings (Vertex Fields)) (cells cells' : Holdings (CellRec Fields)) (halt : Halt) → count < said.settings.traversals
    → (it : IsInTurn said count between old mid vertices cells) → TraversalAnswer said it.grid it.made mid new vertices' cells' (Err halt) → TraversalsAnswer said old new vertices' cells' (Err halt)
stops_at said count between old mid new vertices vertices' cells cells' halt less it answer =
    answers-err said it.made it.grid (said.settings.traversals - (count + 1)) old mid new (is_next said count it.grid (said_traversals said) it.made old mid less it.reaches) halt vertices' cells' answer

pub ends_with : (said : Said) (count : ℕ) (between : Between) (old now : Told) (vertices : Holdings (Vertex Fields)) (cells : Holdings (CellRec Fields)) → said.settings.traversals ≤ count
    → IsInTurn said count between old now vertices cells → AllDone said old now vertices cells
ends_with said count between old now vertices cells all it =
    let none : said.settings.traversals - count ≡ 0 = omega (arith, all) in
    all_done said it.made it.grid old now vertices cells between (subst (λ n. Reaches (said_traversals said) it.made (traversals (said_setting said) n it.grid) old now) none it.reaches) it.stands
