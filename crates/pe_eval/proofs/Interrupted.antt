-- Where a body is when the sink fails: how a statement, and statements in turn, come to the print.
use Rattle.std.proofs.Common.{◌≡◌, ◌∙◌, sym, subst, ℤ, ℕ, suc, ◌+◌, ◌<◌, List, [], ◌∷◌, ◌++◌, length, drop, take, refl, ap, None, arith, append_assoc, drop-cons, slice_index_or, true, false, Result, Ok, Err}
use Rattle.std.specs.Prelude.{codes}
use Rattle.std.specs.Fmt.{signed_decimal}
use Rattle.std.proofs.Math.Seq.{take-append_seam}
use Rattle.std.proofs.lemmas.List.{length-append}
use Rattle.std.proofs.lemmas.List.Sums.{sum_by-append}
use Rattle.pe_base.specs.declared.stop.Stop.{Stop}
use Rattle.pe_base.specs.declared.stop.Stop.TheVariants.{Overflow, Division, Sink, Memory}
use Rattle.pe_base.specs.Acts.Effects.{Seen}
use Rattle.pe_base.specs.Calls.Counters.{CountsOne}
use Rattle.pe_base.specs.Calls.Told.{Told, Appends, Adds, FailsToTell, counted, feeds_of, line_feeds}
use Rattle.pe_base.specs.Calls.Outcomes.{IsOutcome}
use Rattle.pe_base.proofs.Calls.Texts.{appends-then, counted-then, adds-nothing, adds-then}
use Rattle.pe_base.proofs.LineFeeds.{feeds_signed, feeds_line}
use Rattle.pe_check.specs.declared.checked.Expr.{Expr}
use Rattle.pe_check.specs.declared.checked.Stmt.{Stmt, Print, If, IfElse}
use Rattle.pe_eval.specs.declared.view.View.{View}
use Rattle.pe_eval.specs.declared.fault.Fault.{Fault}
use Rattle.pe_eval.specs.Arithmetic.{is_zero}
use Rattle.pe_eval.specs.Names.{Situation}
use Rattle.pe_eval.specs.Values.{value_of, values_of, with_values}
use Rattle.pe_eval.specs.Meaning.{Setting, scene_of, print_start, print_line, print_lines, act_of}
use Rattle.pe_eval.specs.Sights.{Frame, sight, globals_of, frame}
use Rattle.pe_eval.specs.Law.{IsPrints}
use Rattle.pe_eval.specs.Interrupted.{ComesTo, here, later, in_if, in_first, in_second, StoodAt, PrintFails, IfSinkFails}
use Rattle.pe_eval.proofs.Meanings.{act_prints, lines_of_both}

-- each print ends one line
feeds_prints : (prints : List (List ℤ)) → line_feeds (print_lines prints) ≡ length prints
feeds_prints [] = refl
feeds_prints (numbers ∷ prints) =
    omega (arith, sum_by-append feeds_of (print_line numbers) (print_lines prints), feeds_line signed_decimal feeds_signed (codes "print") numbers refl, feeds_prints prints)

-- the sink fails at the line of a print
pub print-fails : (situation : Situation) (values : List Expr) (line : List ℕ) (old new : Told) → Ok line ≡ with_values print_start (values_of values situation)
    → FailsToTell (line ++ 10 ∷ []) old new → CountsOne old.writes new.writes → PrintFails values situation old new
print-fails situation values line old new is fails count = by (values_of values situation) refl is
  where
    by : (found : Result (List ℤ) Fault) → values_of values situation ≡ found → Ok line ≡ with_values print_start found → PrintFails values situation old new
    by (Err fault) are ok = absurd (cc ok)
    by (Ok numbers) are ok =
        let same : line ≡ print_start numbers = cc ok in
        let P : List ℕ → Type 0 = λ text. Appends old.text text new.text in
        let whole : print_line numbers ≡ fails.told.part ++ fails.told.rest = ap (λ start. start ++ 10 ∷ []) (sym same) ∙ fails.told.whole in
        record {
          numbers = numbers;
          are = are;
          part = length fails.told.part;
          taken = subst P (sym (ap (take (length fails.told.part)) whole ∙ take-append_seam fails.told.part fails.told.rest)) fails.told.text;
          count = count;
        }

-- what is said where the sink failed, by what else is said there
pub sink_fails-then : {T X Y : Type 0} (result : Result T Stop) → (X → Y) → IfSinkFails result X → IfSinkFails result Y
sink_fails-then (Ok _) next said = said
sink_fails-then (Err Overflow) next said = said
sink_fails-then (Err Division) next said = said
sink_fails-then (Err Sink) next said = next said
sink_fails-then (Err Memory) next said = said

-- a statement first, in which the sink fails
module _ (setting : Setting) (stmt : Stmt) (rest : List Stmt) (seen : Seen) (list : List ℤ) (old new : Told) (T : Type 0) (result : Result T Stop) where
  pub stood-print : (values : List Expr) → stmt ≡ Print values → IfSinkFails result (PrintFails values (scene_of setting seen list) old new) → IfSinkFails result (StoodAt setting (stmt ∷ rest) seen list old new seen list)
  stood-print values is said = sink_fails-then result at_print said
    where
      at_print : PrintFails values (scene_of setting seen list) old new → StoodAt setting (stmt ∷ rest) seen list old new seen list
      at_print fails =
          let P : Stmt → Type 0 = λ s. ComesTo setting fails.numbers seen list (s ∷ rest) seen list [] in
          record { before = []; numbers = fails.numbers; comes = subst P (sym is) (here fails.are); part = fails.part; taken = fails.taken; count = fails.count }

  module _ (there : Seen) (held : List ℤ) (test : Expr) (inner other : List Stmt) (n : ℤ) where
    pub stood-if : stmt ≡ If test inner → value_of test (scene_of setting seen list) ≡ Ok n → is_zero n ≡ false
        → IfSinkFails result (StoodAt setting inner seen list old new there held) → IfSinkFails result (StoodAt setting (stmt ∷ rest) seen list old new there held)
    stood-if is value some said = sink_fails-then result within said
      where
        within : StoodAt setting inner seen list old new there held → StoodAt setting (stmt ∷ rest) seen list old new there held
        within stood =
            let P : Stmt → Type 0 = λ s. ComesTo setting stood.numbers there held (s ∷ rest) seen list stood.before in
            record { before = stood.before; numbers = stood.numbers; comes = subst P (sym is) (in_if test inner n value some stood.comes); part = stood.part; taken = stood.taken; count = stood.count }

    pub stood-first : stmt ≡ IfElse test inner other → value_of test (scene_of setting seen list) ≡ Ok n → is_zero n ≡ false
        → IfSinkFails result (StoodAt setting inner seen list old new there held) → IfSinkFails result (StoodAt setting (stmt ∷ rest) seen list old new there held)
    stood-first is value some said = sink_fails-then result within said
      where
        within : StoodAt setting inner seen list old new there held → StoodAt setting (stmt ∷ rest) seen list old new there held
        within stood =
            let P : Stmt → Type 0 = λ s. ComesTo setting stood.numbers there held (s ∷ rest) seen list stood.before in
            record { before = stood.before; numbers = stood.numbers; comes = subst P (sym is) (in_first test inner other n value some stood.comes); part = stood.part; taken = stood.taken; count = stood.count }

    pub stood-second : stmt ≡ IfElse test inner other → value_of test (scene_of setting seen list) ≡ Ok n → is_zero n ≡ true
        → IfSinkFails result (StoodAt setting other seen list old new there held) → IfSinkFails result (StoodAt setting (stmt ∷ rest) seen list old new there held)
    stood-second is value none said = sink_fails-then result within said
      where
        within : StoodAt setting other seen list old new there held → StoodAt setting (stmt ∷ rest) seen list old new there held
        within stood =
            let P : Stmt → Type 0 = λ s. ComesTo setting stood.numbers there held (s ∷ rest) seen list stood.before in
            record { before = stood.before; numbers = stood.numbers; comes = subst P (sym is) (in_second test inner other n value none stood.comes); part = stood.part; taken = stood.taken; count = stood.count }

-- what comes behind the statements before the one of this number comes behind these prints too
pub record Came (body : List Stmt) (begun : View) (old : Told) (i : ℕ) (view : View) (now : Told) : Type 0 where
  pub prints : List (List ℤ)
  pub comes : (numbers : List ℤ) (there : Seen) (held : List ℤ) (more : List (List ℤ)) → ComesTo (frame begun).setting numbers there held (drop i body) (sight view) (globals_of view) more
      → ComesTo (frame begun).setting numbers there held body (sight begun) (globals_of begun) (prints ++ more)
  pub told : Adds old (print_lines prints) now

pub came-begins : (body : List Stmt) (begun : View) (old : Told) → Came body begun old 0 begun old
came-begins body begun old = record { prints = []; comes = λ numbers there held more comes. comes; told = adds-nothing old }

-- the statement of this number, and then those behind it
unfolded : (body : List Stmt) (i : ℕ) (stmt : Stmt) → i < length body → stmt ≡ slice_index_or body i stmt → drop i body ≡ stmt ∷ drop (i + 1) body
unfolded body i stmt lt is = drop-cons body i stmt lt ∙ ap (λ s. s ∷ drop (suc i) body) (sym is) ∙ ap (λ n. stmt ∷ drop n body) (next i)
  where
    next : (n : ℕ) → suc n ≡ n + 1
    next n = omega arith

module _ (body : List Stmt) (begun : View) (old : Told) (i : ℕ) (view : View) (now : Told) (stmt : Stmt) where
  -- one statement more
  pub came-on : (after : View) (next : Told) → Came body begun old i view now → frame view ≡ frame begun → i < length body → stmt ≡ slice_index_or body i stmt
      → IsOutcome (act_of stmt (frame view).setting (sight view) (globals_of view)) None now next (globals_of after) (sight after)
      → Came body begun old (i + 1) after next
  came-on after next came same lt is did = record {
    prints = came.prints ++ pieces.0;
    comes = λ numbers there held more comes.
        let P : List (List ℤ) → Type 0 = λ prints. ComesTo (frame begun).setting numbers there held body (sight begun) (globals_of begun) prints in
        let Q : List Stmt → Type 0 = λ stmts. ComesTo (frame begun).setting numbers there held stmts (sight view) (globals_of view) (pieces.0 ++ more) in
        let R : Seen → Type 0 = λ seen. ComesTo (frame begun).setting numbers there held (drop (i + 1) body) seen (globals_of after) more in
        let S : List ℤ → Type 0 = λ list. ComesTo (frame begun).setting numbers there held (drop (i + 1) body) (act_of stmt (frame begun).setting (sight view) (globals_of view)).seen list more in
        let turned : (act_of stmt (frame begun).setting (sight view) (globals_of view)) ≡ (act_of stmt (frame view).setting (sight view) (globals_of view)) = ap (λ f. act_of stmt f.setting (sight view) (globals_of view)) (sym same) in
        subst P (sym (append_assoc came.prints pieces.0 more)) (came.comes numbers there held (pieces.0 ++ more)
        (subst Q (sym (unfolded body i stmt lt is)) (later pieces.0 (ap (λ outcome. outcome.fault) turned ∙ did.fault) (ap (λ outcome. outcome.text) turned ∙ pieces.1)
        (subst S (sym (ap (λ outcome. outcome.list) turned ∙ did.list)) (subst R (sym (ap (λ outcome. outcome.seen) turned ∙ did.seen)) comes)))));
    told =
        let P : List ℕ → Type 0 = λ text. Adds old text next in
        subst P (ap (λ t. print_lines came.prints ++ t) pieces.1 ∙ sym (lines_of_both came.prints pieces.0))
        (adds-then old now next (print_lines came.prints) (act_of stmt (frame view).setting (sight view) (globals_of view)).text came.told did.told);
  }
    where
      pieces : IsPrints (act_of stmt (frame view).setting (sight view) (globals_of view)).text
      pieces = act_prints stmt (frame view).setting (sight view) (globals_of view)

  -- a statement in which the sink fails
  pub came-stood : (T : Type 0) (result : Result T Stop) (next : Told) (there : Seen) (held : List ℤ) → Came body begun old i view now → frame view ≡ frame begun → i < length body → stmt ≡ slice_index_or body i stmt
      → ((rest : List Stmt) → IfSinkFails result (StoodAt (frame view).setting (stmt ∷ rest) (sight view) (globals_of view) now next there held))
      → IfSinkFails result (StoodAt (frame begun).setting body (sight begun) (globals_of begun) old next there held)
  came-stood T result next there held came same lt is said = sink_fails-then result behind (said (drop (i + 1) body))
    where
      behind : StoodAt (frame view).setting (stmt ∷ drop (i + 1) body) (sight view) (globals_of view) now next there held → StoodAt (frame begun).setting body (sight begun) (globals_of begun) old next there held
      behind stood =
          let P : Frame → Type 0 = λ f. ComesTo f.setting stood.numbers there held (stmt ∷ drop (i + 1) body) (sight view) (globals_of view) stood.before in
          let Q : List Stmt → Type 0 = λ stmts. ComesTo (frame begun).setting stood.numbers there held stmts (sight view) (globals_of view) stood.before in
          let part : List ℕ = take stood.part (print_line stood.numbers) in
          let R : List ℕ → Type 0 = λ t. Appends old.text t next.text in
          record {
            before = came.prints ++ stood.before;
            numbers = stood.numbers;
            comes = came.comes stood.numbers there held stood.before (subst Q (sym (unfolded body i stmt lt is)) (subst P same stood.comes));
            part = stood.part;
            taken = subst R (sym (append_assoc (print_lines came.prints) (print_lines stood.before) part) ∙ ap (λ t. t ++ part) (sym (lines_of_both came.prints stood.before)))
                (appends-then old.text now.text next.text (print_lines came.prints) (print_lines stood.before ++ part) came.told.text stood.taken);
            count =
                let both : line_feeds (print_lines came.prints) + suc (length stood.before) ≡ suc (length (came.prints ++ stood.before)) =
                omega (arith, feeds_prints came.prints, length-append came.prints stood.before) in
                stood.count ∙ ap (counted (suc (length stood.before))) came.told.writes
                ∙ counted-then (line_feeds (print_lines came.prints)) (suc (length stood.before)) old.writes ∙ ap (λ n. counted n old.writes) both;
          }
