-- What words that are written out name, by computing.
use Rattle.std.proofs.Common.{refl}
use Rattle.clap.proofs.OnLiterals.{clap_on_literals}
use Rattle.pe_words.specs.Words.{job_of}
use Rattle.pe_words.specs.Examples.{Examples}

pub examples : Examples
unfolding clap_on_literals job_of
examples = record {
  scenario = refl;
  dashes_first = refl;
  dashes_last = refl;
  dashes_twice = refl;
  nothing = refl;
  other_job = refl;
  dashes_before_job = refl;
  alone = refl;
  dashes_alone = refl;
  empty_name = refl;
  two_scenarios = refl;
  long_option = refl;
  option_first = refl;
  option_with_value = refl;
  short_option = refl;
  help = refl;
  hyphen = refl;
  hyphen_behind_dashes = refl;
}
