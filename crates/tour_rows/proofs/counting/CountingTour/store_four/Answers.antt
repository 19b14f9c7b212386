-- Four corners, stored one after another.
use Rattle.std.proofs.Common.{ℕ, suc, ◌^◌, ◌<◌, Ok, refl, arith}
use Rattle.pe_tour.specs.declared.cell.CellAt.{CellAt}
use Rattle.pe_tour.specs.Sights.{Amid, storing, amid_of}
use Rattle.pe_tour.specs.Moves.{TouchesOn, stores_from}
use Rattle.pe_tour.proofs.Moving.{store-on, touches-then}
use Rattle.tour_rows.specs.declared.counting.Counting.{Counting}
use Rattle.tour_rows.specs.Counting.{stored, counting, counting_lawful}
use Rattle.tour_rows.proofs.counting.CountingTour.store_four.Goals as goal

after_store : Amid Counting (Unit {0}) ℕ → Amid Counting (Unit {0}) ℕ
after_store amid = record amid { tour = stored amid.tour }

-- one of them
stores : (cell : CellAt) (k : ℕ) (amid : Amid Counting (Unit {0}) ℕ) → k < 2 ^ amid.tour.settings.dim
    → TouchesOn counting (stores_from counting cell.place k amid.tour) (stores_from counting cell.place (suc k) (after_store amid).tour) (storing k) (storing (suc k)) (Ok tt) amid (after_store amid)
unfolding after_store
stores cell k amid below =
    store-on counting counting_lawful cell k (Ok tt) amid (after_store amid) below
    (record { goes = record { plan = refl; does = refl }; within = λ from holds. tt })

pub returns : goal.returns
unfolding after_store
returns c =
    let cell = c.args._at.now in
    let k = c.args._k in
    let first = amid_of c.args.self.now tt tt c.args._parent.now in
    let corners = c.requires.corners in
    rw c.four_more-self.ensures
    (touches-then (stores cell k first (omega (arith, corners)))
    (touches-then (stores cell (suc k) (after_store first) (omega (arith, corners)))
    (touches-then (stores cell (suc (suc k)) (after_store (after_store first)) (omega (arith, corners)))
    (stores cell (suc (suc (suc k))) (after_store (after_store (after_store first))) (omega (arith, corners))))))
