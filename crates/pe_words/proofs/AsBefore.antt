-- Words without an option: `run`, and a name. The command takes the name as its one positional, since it is no flag.
use Rattle.std.proofs.Common.{◌≡◌, ◌==◌, [], ◌∷◌, Some, None, true, false, codes, refl, ap, ap₂, ◌∙◌, sym, true≢false}
use Rattle.std.proofs.lemmas.Bool.{not-true}
use Rattle.std.specs.Prelude.{◌&&◌, if◌then◌else◌, is_some, option_map, option_and_then}
use Rattle.std.specs.Str.{bytes_eq}
use Rattle.clap.proofs.WalkLemmas.{both}
use Rattle.clap.proofs.OnLiterals.{clap_on_literals}
use Rattle.clap.specs.Words.{Kinds, Shape, Text, built, fault_of, matches_of}
use Rattle.clap.specs.Lexer.{long_of, long_of_rest, short_of, short_of_rest, strip_byte}
use Rattle.clap.specs.Walk.{Held, Step, Walk, after_step, finished, idle, long_or_other, nothing_held, settled, short_or_plain, trailing, value, walk_from, walked, word_met}
use Rattle.clap.specs.Simple.{entered}
use Rattle.clap.specs.Kinds.{or_else}
use Rattle.clap.specs.Faults.{check_fault, defaults_fault, entered_fault, flag_word_fault, settle_fault, turn_fault, step_fault, word_fault, bundle_fault, walk_fault}
use Rattle.std.specs.Option.{option_map_or}
use Rattle.pe_words.specs.declared.job.Job.TheVariants.{Run}
use Rattle.pe_words.specs.Words.{is_name, job_of, name_in, name_of, run_app, run_in, run_of, where_none}

abbrev top : Shape
top = (built run_app).top

abbrev begun : Walk
begun = walk_from nothing_held

-- the kinds of the steps behind the walk over one word
abbrev behind : Walk → Kinds
behind w = or_else (entered_fault (built run_app) w.stopped) (or_else (settle_fault top.rules top.args_override_self w.held)
    (or_else (defaults_fault (settled top.rules w.held).rows top.rules)
    (check_fault top (finished top.rules w.held) (is_some (entered (built run_app) w.stopped)))))

module _ (word : Text) (two : bytes_eq word (45 ∷ 45 ∷ []) ≡ false) (long : long_of word ≡ None) (short : short_of word ≡ None) where
  met : word_met top.rules [] false idle 1 word nothing_held ≡ (nothing_held, value)
  met =
      ap (λ b. if b then (nothing_held, trailing 1) else long_or_other top.rules idle word (long_of word) nothing_held) two
      ∙ ap (λ l. long_or_other top.rules idle word l nothing_held) long ∙ ap (λ s. short_or_plain top.rules idle word s nothing_held) short

  abbrev after : Walk
  after = after_step top.rules word begun nothing_held value

  stepped : walked top.rules [] begun word ≡ after
  unfolding walked
  stepped = ap (λ (m : Held × Step). after_step top.rules word begun m.0 m.1) met

  no_flag : word_fault top [] false idle word nothing_held ≡ []
  no_flag =
      ap (λ b. if b then [] else flag_word_fault top.rules top.args_override_self (long_of word) word nothing_held) two
      ∙ ap (λ l. flag_word_fault top.rules top.args_override_self l word nothing_held) long
      ∙ ap (λ s. option_map_or (λ flags. bundle_fault top.rules top.args_override_self flags nothing_held) s []) short

  no_turn : turn_fault top [] begun word ≡ []
  no_turn = ap₂ (λ (ks : Kinds) (m : Held × Step). or_else ks (step_fault top 1 m.0 m.1)) no_flag met

  nothing_behind : behind after ≡ []
  unfolding clap_on_literals
  nothing_behind = refl

  no_fault : fault_of run_app (word ∷ []) ≡ []
  unfolding walk_fault
  no_fault = ap₂ (λ ks (w : Walk). or_else (or_else ks []) (behind w)) no_turn stepped ∙ nothing_behind

  is_found : name_in (codes "scenario") (finished top.rules after.held) ≡ name_of word
  unfolding clap_on_literals
  is_found = refl

  named : is_name word ≡ true → run_of (word ∷ []) ≡ Some (Run word)
  named is =
      ap (λ ks. option_and_then run_in (where_none ks (matches_of run_app (word ∷ [])))) no_fault
      ∙ ap (λ (w : Walk). run_in (finished top.rules w.held)) stepped ∙ ap (option_map Run) is_found
      ∙ ap (λ b. option_map Run (if b then Some word else None)) is

-- a name is no flag
pub run_of_name : (name : Text) → is_name name ≡ true → run_of (name ∷ []) ≡ Some (Run name)
run_of_name [] is = absurd (true≢false (sym is))
run_of_name (c ∷ cs) is =
    let plain : (c == 45) ≡ false = not-true (c == 45) is in
    named (c ∷ cs) (ap (λ b. b && bytes_eq cs (45 ∷ [])) plain)
    (ap (λ b. option_and_then long_of_rest (option_and_then (strip_byte 45) (if b then Some cs else None))) plain)
    (ap (λ b. option_and_then short_of_rest (if b then Some cs else None)) plain) is

-- the words that named a job before there were options
pub as_before : (job name : Text) → (bytes_eq job (codes "run") && is_name name) ≡ true → job_of (job ∷ name ∷ []) ≡ Some (Run name)
unfolding job_of
as_before job name is =
    let parts = both (bytes_eq job (codes "run")) (is_name name) is in
    ap (λ b. if b then run_of (name ∷ []) else None) parts.0 ∙ run_of_name name parts.1
