-- The tour that counts, as its calls see it: its states are what is in hand, and it owes nothing.
use Rattle.std.specs.Prelude.{ℕ, ◌+◌, ◌-◌, ◌*◌, ◌%◌, ◌^◌, min, nat_lt, Some, slice_index, refl}
use Rattle.pe_base.specs.declared.place.Place.{Place}
use Rattle.pe_base.specs.Walk.Steps.{Steps}
use Rattle.pe_tour.specs.declared.settings.TourSettings.{TourSettings}
use Rattle.pe_tour.specs.Sights.{Between, Amid, Open, amid_of, open_of, around_amid, below_open, above_again}
use Rattle.pe_tour.specs.Walker.{Walker, IsLawful}
use Rattle.tour_rows.specs.declared.counting.Counting.{Counting}
use Rattle.tour_rows.specs.declared.counting.Never.{Never}
use Rattle.tour_rows.specs.Giving.{giving}

-- one more, up to the greatest number
abbrev pub one_more : ℕ → ℕ
one_more n = min (n + 1) (2 ^ 64 - 1)

-- a trail that a number is added to, and one that a place is added to
abbrev pub noted : ℕ → ℕ → ℕ
noted trail n = (trail * 31 % 2 ^ 64 + n) % 2 ^ 64

abbrev pub passed : ℕ → Place → ℕ
passed trail place = noted (noted (noted (noted trail (slice_index place.pos 0)) (slice_index place.pos 1)) (slice_index place.pos 2)) (slice_index place.pos 3)

abbrev pub counted : Place → Counting → Counting
counted place tour = record tour { cells = one_more tour.cells; trail = passed tour.trail place }

abbrev pub loaded : Counting → Counting
loaded tour = record tour { loads = one_more tour.loads }

abbrev pub stored : Counting → Counting
stored tour = record tour { stores = one_more tour.stores }

-- the record of a cell: how many levels below it are walked
abbrev pub levels_below : ℕ → ℕ
levels_below parent = parent - 1

abbrev pub counting_steps : TourSettings → Steps (giving Never) (Between Counting (Unit {0}) ℕ) (Amid Counting (Unit {0}) ℕ) (Open Counting (Unit {0}) ℕ)
counting_steps settings = record {
  axes = settings.dim;
  way = settings.way;
  count = λ cell at. Some (amid_of (counted cell at.tour) tt at.above at.parent);
  load = λ cell k amid. Some (record amid { tour = loaded amid.tour });
  comes = λ cell amid. Some (open_of amid.tour amid.own (levels_below amid.parent) amid.above amid.parent);
  enter = λ cell inside. Some inside;
  goes_on = λ inside. nat_lt 0 inside.its;
  down = below_open;
  up = above_again;
  leave = λ cell inside. Some inside;
  goes = λ cell inside. Some (amid_of inside.tour inside.own inside.above inside.parent);
  held = λ amid. 2 ^ settings.dim;
  store = λ cell k amid. Some (record amid { tour = stored amid.tour });
  close = around_amid;
}

abbrev pub counting : Walker Counting (Unit {0}) ℕ Never
counting = record {
  Plan = TourSettings;
  Found = Unit {0};
  Failure = Never;
  courses = giving Never;
  settings = λ settings. settings;
  Rested = Between Counting (Unit {0}) ℕ;
  Inner = Amid Counting (Unit {0}) ℕ;
  Opened = Open Counting (Unit {0}) ℕ;
  steps = counting_steps;
  here = λ tour. record { plan = tour.settings; found = tt };
  rested = λ at. at;
  inner = λ amid. amid;
  opened = λ inside. inside;
  failure = λ tour stop. stop;
  AreAges = λ at ages. Unit {0};
  IsEmpty = λ settings hand. Unit {0};
  Ready = λ failed from at. Unit {0};
  Within = λ stage from amid. Unit {0};
  Entered = λ failed from inside. Unit {0};
}

pub counting_lawful : IsLawful counting
counting_lawful = record {
  axes = λ settings. refl;
  ways = λ settings. refl;
  starts = λ from at ready. tt;
  joins = λ from mid at failed first second. tt;
  holds = λ from amid within. refl;
  ends = λ from amid within. (tt, tt);
  lowers = λ from inside entered. tt;
  raises = λ from after inside failed entered ready. tt;
  ages_stay = λ from at ages ready are. tt;
  ages_within = λ stage from amid ages within are. tt;
  ages_entered = λ from inside ages entered are. tt;
  downs = λ settings inside. refl;
  ups = λ settings inside after. refl;
  closes = λ settings amid. refl;
}
