-- Statements in turn: what has been done so far, and what each further statement adds.
use Rattle.std.proofs.Common.{◌≡◌, ◌∙◌, sym, subst, ℤ, ℕ, suc, ◌+◌, ◌<◌, ◌≤◌, List, [], ◌∷◌, ◌++◌, length, drop, refl, ap, Option, Some, None, arith, append_assoc, append-nil, drop-cons, slice_index_or, true, false, Bool, ◌&&◌, IsTrue, Result, Ok, Err}
use Rattle.std.proofs.lemmas.List.{drop_all}
use Rattle.pe_base.specs.declared.stop.Stop.{Stop}
use Rattle.pe_base.specs.declared.stop.Stop.TheVariants.{Overflow, Division, Sink, Memory}
use Rattle.pe_base.specs.Acts.Effects.{Seen, Outcome, MayLeave}
use Rattle.pe_base.specs.Acts.Effects as effects
use Rattle.pe_base.specs.Acts.Outcomes.{fine, after_text, unless_stopped}
use Rattle.pe_base.specs.Calls.Told.{Told, Adds, FailsToTell}
use Rattle.pe_base.specs.Calls.Outcomes.{IsOutcome, AnswersBy}
use Rattle.pe_base.proofs.Calls.Texts.{adds-nothing, adds-then}
use Rattle.pe_base.proofs.Calls.Outcomes.{fails-first, answers-after}
use Rattle.pe_check.specs.declared.checked.Stmt.{Stmt, If, IfElse}
use Rattle.pe_check.specs.declared.checked.Expr.{Expr}
use Rattle.pe_check.specs.Fits.{Reach, fits, stmt_fits, expr_fits}
use Rattle.pe_check.proofs.Trees.{stmt_fits-If, stmt_fits-IfElse}
use Rattle.pe_eval.specs.declared.view.View.{View}
use Rattle.pe_eval.specs.declared.fault.Fault.{Fault}
use Rattle.pe_eval.specs.Names.{Situation}
use Rattle.pe_eval.specs.Values.{values_of, with_values}
use Rattle.pe_eval.specs.Meaning.{with_value, printed, print_start, print_line, act_of, meaning, and_then}
use Rattle.pe_eval.specs.Sights.{Frame, sight, globals_of, frame, reach_of}
use Rattle.pe_eval.proofs.Chains.{list_all-at, first_of_both, second_of_both}
use Rattle.pe_eval.proofs.Lawful.{lawful-then}

-- what the statements before the one of this number have done, beside what all of them do
pub record Went (body : List Stmt) (begun : View) (old : Told) (i : ℕ) (view : View) (now : Told) : Type 0 where
  pub text : List ℕ
  pub whole : meaning body (frame begun).setting (sight begun) (globals_of begun) ≡ after_text text (meaning (drop i body) (frame begun).setting (sight view) (globals_of view))
  pub told : Adds old text now

pub went-begins : (body : List Stmt) (begun : View) (old : Told) → Went body begun old 0 begun old
went-begins body begun old = record { text = []; whole = refl; told = adds-nothing old }

-- the next statement, and then those behind it
opened : (body : List Stmt) (begun : View) (i : ℕ) (view : View) (stmt : Stmt) → frame view ≡ frame begun → i < length body → stmt ≡ slice_index_or body i stmt
    → meaning (drop i body) (frame begun).setting (sight view) (globals_of view)
    ≡ and_then (act_of stmt (frame view).setting (sight view) (globals_of view)) (meaning (drop (i + 1) body) (frame begun).setting)
opened body begun i view stmt same lt is =
    ap (λ rest. meaning rest (frame begun).setting (sight view) (globals_of view)) (drop-cons body i stmt lt)
    ∙ ap (λ s. and_then (act_of s (frame begun).setting (sight view) (globals_of view)) (meaning (drop (suc i) body) (frame begun).setting)) (sym is)
    ∙ ap (λ f. and_then (act_of stmt f.setting (sight view) (globals_of view)) (meaning (drop (suc i) body) (frame begun).setting)) (sym same)
    ∙ ap (λ n. and_then (act_of stmt (frame view).setting (sight view) (globals_of view)) (meaning (drop n body) (frame begun).setting)) (omega_next i)
  where
    omega_next : (n : ℕ) → suc n ≡ n + 1
    omega_next n = omega arith

module _ (body : List Stmt) (begun : View) (old : Told) (i : ℕ) (view : View) (now : Told) (stmt : Stmt) where
  abbrev here : Outcome
  here = act_of stmt (frame view).setting (sight view) (globals_of view)

  abbrev rest : Seen → List ℤ → Outcome
  rest = meaning (drop (i + 1) body) (frame begun).setting

  -- one statement more
  pub went-on : (after : View) (next : Told) → Went body begun old i view now → frame view ≡ frame begun → i < length body → stmt ≡ slice_index_or body i stmt → IsOutcome here None now next (globals_of after) (sight after)
      → Went body begun old (i + 1) after next
  went-on after next went same lt is did = record {
    text = went.text ++ here.text;
    whole = went.whole ∙ ap (after_text went.text) (opened body begun i view stmt same lt is ∙ ap (λ fault. unless_stopped fault here rest) did.fault
        ∙ ap (λ seen. after_text here.text (rest seen here.list)) did.seen
        ∙ ap (λ list. after_text here.text (rest (sight after) list)) did.list)
        ∙ twice_after went.text here.text (rest (sight after) (globals_of after));
    told = adds-then old now next went.text here.text went.told did.told;
  }
    where
      twice_after : (x y : List ℕ) (outcome : Outcome) → after_text x (after_text y outcome) ≡ after_text (x ++ y) outcome
      twice_after x y outcome = ap (λ text. record outcome { text = text }) (sym (append_assoc x y outcome.text))

  -- a statement that answers an error
  pub went-err : (T : Type 0) (left : List ℤ) (after : Seen) (next : Told) (stop : Stop) → Went body begun old i view now → frame view ≡ frame begun → i < length body → stmt ≡ slice_index_or body i stmt
      → AnswersBy {T = T} here true now next left after (Err stop)
      → AnswersBy {T = T} (meaning body (frame begun).setting (sight begun) (globals_of begun)) true old next left after (Err stop)
  went-err T left after next stop went same lt is did =
      let P : Outcome → Type 0 = λ outcome. AnswersBy {T = T} outcome true old next left after (Err stop) in
      subst P (sym (went.whole ∙ ap (after_text went.text) (opened body begun i view stmt same lt is)))
      (answers-after went.text (and_then here rest) old now next went.told {T = T} true left after (Err stop) (stops stop did))
    where
      ends : (fault : effects.Fault) → IsOutcome here (Some fault) now next left after → IsOutcome (and_then here rest) (Some fault) now next left after
      ends fault wrong =
          let P : Outcome → Type 0 = λ outcome. IsOutcome outcome (Some fault) now next left after in
          subst P (sym (ap (λ f. unless_stopped f here rest) wrong.fault)) wrong

      longer : (fault : Option effects.Fault) → FailsToTell here.text now next → FailsToTell (unless_stopped fault here rest).text now next
      longer None cut = fails-first here.text (rest here.seen here.list).text now next cut
      longer (Some fault) cut = cut

      stops : (s : Stop) → AnswersBy {T = T} here true now next left after (Err s) → AnswersBy {T = T} (and_then here rest) true now next left after (Err s)
      stops Overflow wrong = ends effects.Fault.Overflow wrong
      stops Division wrong = ends effects.Fault.Division wrong
      stops Sink cut = longer here.fault cut
      stops Memory want = absurd (let never : true ≡ false = want.unsure in cc)

-- lawful so far, and by one statement more
pub lawful-on : (begun view after : View) → frame view ≡ frame begun → MayLeave (frame begun).setting.max_level (sight begun) (sight view) → MayLeave (frame view).setting.max_level (sight view) (sight after)
    → MayLeave (frame begun).setting.max_level (sight begun) (sight after)
lawful-on begun view after same before here =
    let P : Frame → Type 0 = λ f. MayLeave f.setting.max_level (sight view) (sight after) in
    lawful-then (frame begun).setting.max_level (sight begun) (sight view) (sight after) before (subst P same here)

-- all statements were run
pub went-through : (body : List Stmt) (begun : View) (old : Told) (view : View) (now : Told) (i : ℕ) → Went body begun old i view now → length body ≤ i
    → IsOutcome (meaning body (frame begun).setting (sight begun) (globals_of begun)) None old now (globals_of view) (sight view)
went-through body begun old view now i went all =
    let P : Outcome → Type 0 = λ outcome. IsOutcome outcome None old now (globals_of view) (sight view) in
    let Q : List ℕ → Type 0 = λ text. Adds old text now in
    subst P (sym (went.whole ∙ ap (λ rest. after_text went.text (meaning rest (frame begun).setting (sight view) (globals_of view))) (drop_all i body all)))
    (record { fault = refl; seen = refl; list = refl; told = subst Q (sym (append-nil went.text)) went.told })

-- a print of which all values are known does nothing but its line
printed-line : (situation : Situation) (values : Result (List ℤ) Fault) (line : List ℕ) → Ok line ≡ with_values print_start values
    → with_value situation.seen situation.list values (λ numbers. after_text (print_line numbers) (fine situation.seen situation.list)) ≡ after_text (line ++ 10 ∷ []) (fine situation.seen situation.list)
printed-line situation (Err fault) line is = absurd (cc is)
printed-line situation (Ok numbers) line is =
    let same : print_start numbers ≡ line = cc is in
    ap (λ start. after_text (start ++ 10 ∷ []) (fine situation.seen situation.list)) same

module _ (situation : Situation) (values : List Expr) (line : List ℕ) (old new : Told) (is : Ok line ≡ with_values print_start (values_of values situation)) where
  pub printed-all : Adds old (line ++ 10 ∷ []) new → IsOutcome (printed values situation) None old new situation.list situation.seen
  printed-all added =
      let P : Outcome → Type 0 = λ outcome. IsOutcome outcome None old new situation.list situation.seen in
      let Q : List ℕ → Type 0 = λ text. Adds old text new in
      subst P (sym (printed-line situation (values_of values situation) line is))
      (record { fault = refl; seen = refl; list = refl; told = subst Q (sym (append-nil (line ++ 10 ∷ []))) added })

  pub printed-cut : FailsToTell (line ++ 10 ∷ []) old new → FailsToTell (printed values situation).text old new
  printed-cut cut =
      let P : Outcome → Type 0 = λ outcome. FailsToTell outcome.text old new in
      let Q : List ℕ → Type 0 = λ text. FailsToTell text old new in
      subst P (sym (printed-line situation (values_of values situation) line is)) (subst Q (sym (append-nil (line ++ 10 ∷ []))) cut)

-- a statement of a body fits where the body does
pub stmt_fits-at : (begun view : View) (body : List Stmt) (i : ℕ) (stmt : Stmt) → IsTrue (fits (reach_of begun) body) → frame view ≡ frame begun → i < length body → stmt ≡ slice_index_or body i stmt
    → IsTrue (stmt_fits (reach_of view) stmt)
stmt_fits-at begun view body i stmt all same lt is =
    let P : Stmt → Type 0 = λ s. IsTrue (stmt_fits (reach_of begun) s) in
    let Q : Reach → Type 0 = λ reach. IsTrue (stmt_fits reach stmt) in
    let reach : reach_of begun ≡ reach_of view = ap (λ f. record { sort = f.sort; dim = f.dim; vertex_fields = 8; cell_fields = 8; global_fields = 8 }) (sym same) in
    subst Q reach (subst P (sym is) (list_all-at (stmt_fits (reach_of begun)) body i stmt all lt))

-- the bodies of a statement fit where it does
module _ (reach : Reach) (stmt : Stmt) (test : Expr) (body other : List Stmt) where
  pub fits-if : stmt ≡ If test body → IsTrue (stmt_fits reach stmt) → IsTrue (fits reach body)
  fits-if is all = let P : Bool → Type 0 = λ b. IsTrue b in second_of_both (expr_fits reach test) (fits reach body) (subst P (ap (stmt_fits reach) is ∙ stmt_fits-If reach test body) all)

  pub fits-then : stmt ≡ IfElse test body other → IsTrue (stmt_fits reach stmt) → IsTrue (fits reach body)
  fits-then is all = let P : Bool → Type 0 = λ b. IsTrue b in second_of_both (expr_fits reach test) (fits reach body) (first_of_both (expr_fits reach test && fits reach body) (fits reach other) (subst P (ap (stmt_fits reach) is ∙ stmt_fits-IfElse reach test body other) all))

  pub fits-else : stmt ≡ IfElse test body other → IsTrue (stmt_fits reach stmt) → IsTrue (fits reach other)
  fits-else is all = let P : Bool → Type 0 = λ b. IsTrue b in second_of_both (expr_fits reach test && fits reach body) (fits reach other) (subst P (ap (stmt_fits reach) is ∙ stmt_fits-IfElse reach test body other) all)
