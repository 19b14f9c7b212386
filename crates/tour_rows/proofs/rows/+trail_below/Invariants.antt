-- One level less each time.
use Rattle.tour_rows.proofs.rows.+trail_below.Given as goal

abbrev pub decreases-trail_below : goal.decreases-trail_below
decreases-trail_below l = l.levels
