-- What a body may do to what its event sees, and what it may write.
use Rattle.std.specs.Prelude.{◌≡◌, ℕ, ℤ, List}
use Rattle.pe_base.specs.Acts.Effects.{Seen, MayLeave}
use Rattle.pe_check.specs.declared.checked.Stmt.{Stmt}
use Rattle.pe_eval.specs.Meaning.{Act, Setting, print_lines, meaning}

-- numbers change, and states as the two triggers change them; all else stays
abbrev pub IsLawfulAct : Act → Type 0
IsLawfulAct act = (setting : Setting) (seen : Seen) (list : List ℤ) → MayLeave setting.max_level seen (act setting seen list).seen

-- so does each body, whether it fits its event or not
abbrev pub AreBodiesLawful : Type 0
AreBodiesLawful = (body : List Stmt) → IsLawfulAct (meaning body)

-- a text is the lines of some prints, one after another
abbrev pub IsPrints : List ℕ → Type 0
IsPrints text = (prints : List (List ℤ)) × (text ≡ print_lines prints)

-- so is the text of each body
abbrev pub DoBodiesPrint : Type 0
DoBodiesPrint = (body : List Stmt) (setting : Setting) (seen : Seen) (list : List ℤ) → IsPrints (meaning body setting seen list).text
