-- Words that are written out, and the job that they name.
use Rattle.std.specs.Prelude.{◌≡◌, [], ◌∷◌, Some, None, codes}
use Rattle.pe_words.specs.declared.job.Job.TheVariants.{Run}
use Rattle.pe_words.specs.Words.{job_of}

pub record Examples : Type 0 where
  -- the job and its scenario
  pub scenario : job_of (codes "run" ∷ codes "S" ∷ []) ≡ Some (Run (codes "S"))
  -- two hyphens end the options, and there is none
  pub dashes_first : job_of (codes "run" ∷ codes "--" ∷ codes "S" ∷ []) ≡ Some (Run (codes "S"))
  pub dashes_last : job_of (codes "run" ∷ codes "S" ∷ codes "--" ∷ []) ≡ Some (Run (codes "S"))
  -- the first two hyphens alone end the options; behind them they are one more word
  pub dashes_twice : job_of (codes "run" ∷ codes "--" ∷ codes "S" ∷ codes "--" ∷ []) ≡ None
  -- no job, or another one
  pub nothing : job_of [] ≡ None
  pub other_job : job_of (codes "walk" ∷ codes "S" ∷ []) ≡ None
  pub dashes_before_job : job_of (codes "--" ∷ codes "run" ∷ codes "S" ∷ []) ≡ None
  -- no scenario, an empty name, or two scenarios
  pub alone : job_of (codes "run" ∷ []) ≡ None
  pub dashes_alone : job_of (codes "run" ∷ codes "--" ∷ []) ≡ None
  pub empty_name : job_of (codes "run" ∷ [] ∷ []) ≡ None
  pub two_scenarios : job_of (codes "run" ∷ codes "S" ∷ codes "T" ∷ []) ≡ None
  -- options that the command has not
  pub long_option : job_of (codes "run" ∷ codes "S" ∷ codes "--wat" ∷ []) ≡ None
  pub option_first : job_of (codes "run" ∷ codes "--grid" ∷ codes "S" ∷ []) ≡ None
  pub option_with_value : job_of (codes "run" ∷ codes "S" ∷ codes "--save=T" ∷ []) ≡ None
  pub short_option : job_of (codes "run" ∷ codes "-S" ∷ []) ≡ None
  pub help : job_of (codes "run" ∷ codes "--help" ∷ []) ≡ None
  -- names that begin with a hyphen, which are no options
  pub hyphen : job_of (codes "run" ∷ codes "-" ∷ []) ≡ None
  pub hyphen_behind_dashes : job_of (codes "run" ∷ codes "--" ∷ codes "-S" ∷ []) ≡ None
