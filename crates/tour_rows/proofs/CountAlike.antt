-- What a tour counts does not depend on its trail: an instance of two walks whose steps match.
use Rattle.std.proofs.Common.{◌≡◌, ℕ, Option, Some, None, refl, ap}
use Rattle.std.specs.Prelude.{nat_lt}
use Rattle.pe_base.specs.Tree.Curve.{children}
use Rattle.pe_tour.specs.declared.settings.TourSettings.{TourSettings}
use Rattle.pe_tour.specs.Sights.{Amid, Open}
use Rattle.pe_tour.specs.Beside.{Together, Stages, StepsMatch}
use Rattle.pe_tour.proofs.Beside.{children_match}
use Rattle.tour_rows.specs.declared.counting.Counting.{Counting}
use Rattle.tour_rows.specs.declared.counting.Never.{Never}
use Rattle.tour_rows.specs.Giving.{and_then, giving}
use Rattle.tour_rows.specs.Counting.{one_more, levels_below, counting_steps}
use Rattle.tour_rows.specs.CountAlike.{CountAlike, Rest, RestAlike, GiveAlike, TrailsAreNotRead}

abbrev Within : Type 0
Within = Amid Counting (Unit {0}) ℕ

abbrev Opened : Type 0
Opened = Open Counting (Unit {0}) ℕ

record AmidAlike (v w : Within) : Type 0 where
  counts : CountAlike v.tour w.tour
  parent : w.parent ≡ v.parent

record OpenAlike (v w : Opened) : Type 0 where
  counts : CountAlike v.tour w.tour
  its : w.its ≡ v.its
  parent : w.parent ≡ v.parent

give-then : {X Y V W : Type 0} (R : X → Y → Type 0) (S : V → W → Type 0) (course : Option X) (course' : Option Y) (next : X → Option V) (next' : Y → Option W)
    → GiveAlike R course course' → ((x : X) (y : Y) → R x y → GiveAlike S (next x) (next' y)) → GiveAlike S (and_then course next) (and_then course' next')
give-then R S (Some x) (Some y) next next' is then_is = then_is x y is
give-then R S (Some x) None next next' is then_is = absurd is
give-then R S None (Some y) next next' is then_is = absurd is
give-then R S None None next next' is then_is = tt

abbrev together : Together (giving Never) (giving Never)
together = record {
  Go = GiveAlike;
  once = λ R x y is. is;
  nowhere = λ R. tt;
  in_turn = give-then;
}

-- nothing is known of a cell
abbrev stages : Stages Rest Within Opened Rest Within Opened
stages = record {
  Known = λ levels cell. Unit {0};
  Below = λ levels cell. Unit {0};
  Before = λ levels cell known. RestAlike;
  Loading = λ levels cell known k. AmidAlike;
  Come = λ levels cell known. OpenAlike;
  Entered = λ levels cell known. OpenAlike;
  Walked = λ levels cell known. OpenAlike;
  Left = λ levels cell known. OpenAlike;
  Storing = λ levels cell known k. AmidAlike;
  After = λ levels cell known. RestAlike;
  Among = λ levels cell below cells. RestAlike;
}

steps-match : (settings : TourSettings) → StepsMatch together (counting_steps settings) (counting_steps settings) stages
steps-match settings = record {
  axes = refl;
  way = refl;
  counts = λ levels cell known a b is. record { counts = record { cells = ap one_more is.counts.cells; loads = is.counts.loads; stores = is.counts.stores }; parent = is.parent };
  loads = λ levels cell known k v w below is. record { counts = record { cells = is.counts.cells; loads = ap one_more is.counts.loads; stores = is.counts.stores }; parent = is.parent };
  comes = λ levels cell known v w is. record { counts = is.counts; its = ap levels_below is.parent; parent = is.parent };
  enters = λ levels cell known v w is. is;
  goes_on = λ levels cell known v w is. ap (nat_lt 0) is.its;
  idles = λ levels cell known v w is off. is;
  opens = λ levels cell known v w is on. (tt, record { counts = is.counts; parent = is.its }, λ a b after. record { counts = after.counts; its = after.parent; parent = is.parent });
  begins = λ levels cell below child rest a b is. (tt, is, λ a b after. after);
  leaves = λ levels cell known v w is. is;
  goes = λ levels cell known v w is. record { counts = is.counts; parent = is.parent };
  holds = λ levels cell known v w is. (refl, refl);
  stores = λ levels cell known k v w below is. record { counts = record { cells = is.counts.cells; loads = is.counts.loads; stores = ap one_more is.counts.stores }; parent = is.parent };
  closes = λ levels cell known v w is. record { counts = is.counts; parent = is.parent };
}

pub trails_are_not_read : TrailsAreNotRead
trails_are_not_read settings levels cell a b is =
    children_match together (counting_steps settings) (counting_steps settings) stages (steps-match settings) levels cell tt (children settings.dim settings.way cell) a b is
