-- What holds of every body, since it holds of what statements do: a body is a lawful effect, and its text is the lines of prints.
use Rattle.std.proofs.Common.{◌≡◌, ◌∙◌, sym, subst, ℕ, ℤ, List, [], ◌∷◌, ◌++◌, map, refl, ap, Option, Some, None, Ok, Err, Result, Bool, true, false, cond}
use Rattle.std.proofs.lemmas.Grind.{flat_map-append}
use Rattle.pe_base.specs.Acts.Effects.{Seen, Outcome, MayLeave}
use Rattle.pe_base.specs.Acts.Effects as effects
use Rattle.pe_base.specs.Acts.Outcomes.{fine, faulty, after_text, unless_stopped}
use Rattle.pe_base.proofs.Lawful.{leaves_same}
use Rattle.pe_parse.specs.declared.tree.Trigger.{Trigger}
use Rattle.pe_check.specs.declared.checked.VertexName.{VertexName}
use Rattle.pe_check.specs.declared.checked.Slot.{Slot}
use Rattle.pe_check.specs.declared.checked.Stmt.{Stmt}
use Rattle.pe_check.specs.declared.checked.Stmt.TheOpen.{Stmt-F}
use Rattle.pe_check.specs.declared.checked.Stmt.TheFolds.{fold-roll-Stmt, ind-Stmt, map-Stmt}
use Rattle.pe_eval.specs.declared.fault.Fault.{Fault}
use Rattle.pe_eval.specs.Arithmetic.{is_zero}
use Rattle.pe_eval.specs.Values.{value_of, values_of}
use Rattle.pe_eval.specs.Stops.{fault_of}
use Rattle.pe_eval.specs.Meaning.{Act, Setting, with_value, in_turn, scene_of, stmt_step, act_of, meaning, with_number, with_global, triggered, print_line, print_lines}
use Rattle.pe_eval.specs.Law.{IsLawfulAct, IsPrints}
use Rattle.pe_eval.proofs.Lawful.{lawful-then, lawful-number, lawful-trigger}

module _
    (P : Setting → Seen → List ℤ → Outcome → Type 0)
    (fine_so : (setting : Setting) (seen : Seen) (list : List ℤ) → P setting seen list (fine seen list))
    (faulty_so : (setting : Setting) (seen : Seen) (list : List ℤ) (fault : effects.Fault) → P setting seen list (faulty seen list fault))
    (number_so : (setting : Setting) (seen : Seen) (list : List ℤ) (slot : Slot) (n : ℤ) → P setting seen list (fine (with_number slot n seen) (with_global slot n list)))
    (trigger_so : (setting : Setting) (seen : Seen) (list : List ℤ) (trigger : Trigger) (vertex : VertexName) → P setting seen list (fine (triggered trigger setting.max_level vertex seen) list))
    (print_so : (setting : Setting) (seen : Seen) (list : List ℤ) (numbers : List ℤ) → P setting seen list (after_text (print_line numbers) (fine seen list)))
    (then_so : (setting : Setting) (seen : Seen) (list : List ℤ) (first second : Outcome) → P setting seen list first → P setting first.seen first.list second → P setting seen list (after_text first.text second))
  where
    abbrev Holds : Act → Type 0
    Holds act = (setting : Setting) (seen : Seen) (list : List ℤ) → P setting seen list (act setting seen list)

    -- with a value or without one
    value_so : {X : Type 0} (setting : Setting) (seen : Seen) (list : List ℤ) (value : Result X Fault) (next : X → Outcome)
        → ((x : X) → P setting seen list (next x)) → P setting seen list (with_value seen list value next)
    value_so setting seen list (Ok x) next each = each x
    value_so setting seen list (Err fault) next each = faulty_so setting seen list (fault_of fault)

    -- statements in turn
    turn_so : (acts : List ((act : Act) × Holds act)) → Holds (in_turn (map (λ e. e.0) acts))
    turn_so [] setting seen list = fine_so setting seen list
    turn_so (act ∷ acts) setting seen list =
        by_fault (act.0 setting seen list).fault (act.1 setting seen list) (turn_so acts setting (act.0 setting seen list).seen (act.0 setting seen list).list)
      where
        by_fault : (fault : Option effects.Fault) → P setting seen list (act.0 setting seen list)
            → P setting (act.0 setting seen list).seen (act.0 setting seen list).list (in_turn (map (λ e. e.0) acts) setting (act.0 setting seen list).seen (act.0 setting seen list).list)
            → P setting seen list (unless_stopped fault (act.0 setting seen list) (in_turn (map (λ e. e.0) acts) setting))
        by_fault (Some fault) here rest = here
        by_fault None here rest = then_so setting seen list (act.0 setting seen list) _ here rest

    -- a choice between two
    chosen_so : (setting : Setting) (seen : Seen) (list : List ℤ) (b : Bool) (x y : Outcome) → P setting seen list x → P setting seen list y → P setting seen list (cond b x y)
    chosen_so setting seen list true x y first second = first
    chosen_so setting seen list false x y first second = second

    -- a body of statements of which it holds
    body_so : (body : List ((stmt : Stmt) × Holds (act_of stmt))) → Holds (in_turn (map act_of (map (λ e. e.0) body)))
    body_so body = let Q : List Act → Type 0 = λ acts. Holds (in_turn acts) in subst Q (again body) (turn_so (map (λ (e : (stmt : Stmt) × Holds (act_of stmt)). (act_of e.0, e.1)) body))
      where
        again : (them : List ((stmt : Stmt) × Holds (act_of stmt))) → map (λ (e : (act : Act) × Holds act). e.0) (map (λ (e : (stmt : Stmt) × Holds (act_of stmt)). (act_of e.0, e.1)) them) ≡ map act_of (map (λ e. e.0) them)
        again [] = refl
        again (e ∷ es) = ap (λ rest. act_of e.0 ∷ rest) (again es)

    step_so : (y : Stmt-F ((stmt : Stmt) × Holds (act_of stmt))) → Holds (stmt_step (map-Stmt Stmt Act act_of (map-Stmt ((stmt : Stmt) × Holds (act_of stmt)) Stmt (λ e. e.0) y)))
    step_so (Stmt-F.Assign slot expr) setting seen list = value_so setting seen list (value_of expr (scene_of setting seen list)) (λ n. fine (with_number slot n seen) (with_global slot n list)) (λ n. number_so setting seen list slot n)
    step_so (Stmt-F.Trigger trigger vertex) setting seen list = trigger_so setting seen list trigger vertex
    step_so (Stmt-F.Print values) setting seen list = value_so setting seen list (values_of values (scene_of setting seen list)) (λ numbers. after_text (print_line numbers) (fine seen list)) (λ numbers. print_so setting seen list numbers)
    step_so (Stmt-F.If test body) setting seen list = value_so setting seen list (value_of test (scene_of setting seen list)) _
        (λ n. chosen_so setting seen list (is_zero n) (fine seen list) _ (fine_so setting seen list) (body_so body setting seen list))
    step_so (Stmt-F.IfElse test body other) setting seen list = value_so setting seen list (value_of test (scene_of setting seen list)) _
        (λ n. chosen_so setting seen list (is_zero n) _ _ (body_so other setting seen list) (body_so body setting seen list))

    -- it holds of each statement, and of each body
    act_so : (stmt : Stmt) → Holds (act_of stmt)
    act_so = ind-Stmt (λ stmt. Holds (act_of stmt)) (λ x y is.
        let Q : Act → Type 0 = λ act. Holds act in
        let R : Stmt-F Stmt → Type 0 = λ z. Holds (stmt_step (map-Stmt Stmt Act act_of z)) in
        subst Q (sym (fold-roll-Stmt Act stmt_step x)) (subst R is (step_so y)))

    meaning_so : (body : List Stmt) → Holds (meaning body)
    meaning_so body = let Q : List Act → Type 0 = λ acts. Holds (in_turn acts) in subst Q (each body) (turn_so (map (λ (stmt : Stmt). (act_of stmt, act_so stmt)) body))
      where
        each : (them : List Stmt) → map (λ (e : (act : Act) × Holds act). e.0) (map (λ (stmt : Stmt). (act_of stmt, act_so stmt)) them) ≡ map act_of them
        each [] = refl
        each (stmt ∷ stmts) = ap (λ rest. act_of stmt ∷ rest) (each stmts)

-- a body is a lawful effect
pub meaning_lawful : (body : List Stmt) → IsLawfulAct (meaning body)
meaning_lawful = meaning_so (λ setting seen list outcome. MayLeave setting.max_level seen outcome.seen)
    (λ setting seen list. leaves_same setting.max_level seen)
    (λ setting seen list fault. leaves_same setting.max_level seen)
    (λ setting seen list slot n. lawful-number setting.max_level slot n seen)
    (λ setting seen list trigger vertex. lawful-trigger setting.max_level trigger vertex seen)
    (λ setting seen list numbers. leaves_same setting.max_level seen)
    (λ setting seen list first second here rest. lawful-then setting.max_level seen first.seen second.seen here rest)

pub lines_of_both : (xs ys : List (List ℤ)) → print_lines (xs ++ ys) ≡ print_lines xs ++ print_lines ys
lines_of_both xs ys = flat_map-append print_line xs ys

prints_nothing : IsPrints []
prints_nothing = ([], refl)

prints_both : (x y : List ℕ) → IsPrints x → IsPrints y → IsPrints (x ++ y)
prints_both x y first second =
    (first.0 ++ second.0, ap (λ t. t ++ y) first.1 ∙ ap (λ t. print_lines first.0 ++ t) second.1 ∙ sym (lines_of_both first.0 second.0))

-- the text of a statement, and of a body, is the lines of prints
pub act_prints : (stmt : Stmt) (setting : Setting) (seen : Seen) (list : List ℤ) → IsPrints (act_of stmt setting seen list).text
act_prints = act_so (λ setting seen list outcome. IsPrints outcome.text)
    (λ setting seen list. prints_nothing)
    (λ setting seen list fault. prints_nothing)
    (λ setting seen list slot n. prints_nothing)
    (λ setting seen list trigger vertex. prints_nothing)
    (λ setting seen list numbers. (numbers ∷ [], refl))
    (λ setting seen list first second here rest. prints_both first.text second.text here rest)

pub meaning_prints : (body : List Stmt) (setting : Setting) (seen : Seen) (list : List ℤ) → IsPrints (meaning body setting seen list).text
meaning_prints = meaning_so (λ setting seen list outcome. IsPrints outcome.text)
    (λ setting seen list. prints_nothing)
    (λ setting seen list fault. prints_nothing)
    (λ setting seen list slot n. prints_nothing)
    (λ setting seen list trigger vertex. prints_nothing)
    (λ setting seen list numbers. (numbers ∷ [], refl))
    (λ setting seen list first second here rest. prints_both first.text second.text here rest)
