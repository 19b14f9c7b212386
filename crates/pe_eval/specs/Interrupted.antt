-- Where a body is when the sink fails: at a print, with all before it done.
use Rattle.std.specs.Prelude.{◌≡◌, ℕ, suc, ℤ, true, false, List, [], ◌∷◌, ◌++◌, take, length, None, Result, Ok, Err}
use Rattle.pe_base.specs.declared.stop.Stop.{Stop}
use Rattle.pe_base.specs.declared.stop.Stop.TheVariants.{Overflow, Division, Sink, Memory}
use Rattle.pe_base.specs.Acts.Effects.{Seen}
use Rattle.pe_base.specs.Calls.Told.{Told, Appends, counted}
use Rattle.pe_check.specs.declared.checked.Expr.{Expr}
use Rattle.pe_check.specs.declared.checked.Stmt.{Stmt, Print, If, IfElse}
use Rattle.pe_eval.specs.Arithmetic.{is_zero}
use Rattle.pe_eval.specs.Names.{Situation}
use Rattle.pe_eval.specs.Values.{value_of, values_of}
use Rattle.pe_eval.specs.Meaning.{Setting, scene_of, act_of, print_line, print_lines}

-- A body comes to a print of these numbers, behind prints of others: all statements before it were run without a fault, and then
-- this is what the event sees, and these are the numbers of the whole grid.
pub data ComesTo (setting : Setting) (numbers : List ℤ) (there : Seen) (held : List ℤ) : List Stmt → Seen → List ℤ → List (List ℤ) → Type 0 where
  -- the print is the first statement
  here : {values : List Expr} {body : List Stmt} → values_of values (scene_of setting there held) ≡ Ok numbers → ComesTo setting numbers there held (Print values ∷ body) there held []
  -- it comes behind the first statement
  later : {stmt : Stmt} {body : List Stmt} {seen : Seen} {list : List ℤ} (prints : List (List ℤ)) {more : List (List ℤ)}
      → (act_of stmt setting seen list).fault ≡ None → (act_of stmt setting seen list).text ≡ print_lines prints
      → ComesTo setting numbers there held body (act_of stmt setting seen list).seen (act_of stmt setting seen list).list more
      → ComesTo setting numbers there held (stmt ∷ body) seen list (prints ++ more)
  -- it stands within the first statement
  in_if : (test : Expr) (inner : List Stmt) {body : List Stmt} {seen : Seen} {list : List ℤ} {before : List (List ℤ)} (n : ℤ)
      → value_of test (scene_of setting seen list) ≡ Ok n → is_zero n ≡ false
      → ComesTo setting numbers there held inner seen list before → ComesTo setting numbers there held (If test inner ∷ body) seen list before
  in_first : (test : Expr) (inner other : List Stmt) {body : List Stmt} {seen : Seen} {list : List ℤ} {before : List (List ℤ)} (n : ℤ)
      → value_of test (scene_of setting seen list) ≡ Ok n → is_zero n ≡ false
      → ComesTo setting numbers there held inner seen list before → ComesTo setting numbers there held (IfElse test inner other ∷ body) seen list before
  in_second : (test : Expr) (inner other : List Stmt) {body : List Stmt} {seen : Seen} {list : List ℤ} {before : List (List ℤ)} (n : ℤ)
      → value_of test (scene_of setting seen list) ≡ Ok n → is_zero n ≡ true
      → ComesTo setting numbers there held other seen list before → ComesTo setting numbers there held (IfElse test inner other ∷ body) seen list before

-- the sink failed at a print to which the body came: it was given each line before, and then the line of this print, of which it has a part
pub record StoodAt (setting : Setting) (body : List Stmt) (seen : Seen) (list : List ℤ) (old new : Told) (there : Seen) (held : List ℤ) : Type 0 where
  pub before : List (List ℤ)
  pub numbers : List ℤ
  pub comes : ComesTo setting numbers there held body seen list before
  pub part : ℕ
  pub taken : Appends old.text (print_lines before ++ take part (print_line numbers)) new.text
  pub count : new.writes ≡ counted (suc (length before)) old.writes

-- the sink failed at the line of a print of these values
pub record PrintFails (values : List Expr) (situation : Situation) (old new : Told) : Type 0 where
  pub numbers : List ℤ
  pub are : values_of values situation ≡ Ok numbers
  pub part : ℕ
  pub taken : Appends old.text (take part (print_line numbers)) new.text
  pub count : new.writes ≡ counted 1 old.writes

-- what is said of an answer where the sink failed
abbrev pub IfSinkFails : {T : Type 0} → Result T Stop → Type 0 → Type 0
IfSinkFails (Ok _) X = Unit {0}
IfSinkFails (Err Overflow) X = Unit {0}
IfSinkFails (Err Division) X = Unit {0}
IfSinkFails (Err Sink) X = X
IfSinkFails (Err Memory) X = Unit {0}
