-- The ages of one corner among those of all.
use Rattle.std.proofs.Common.{◌≡◌, ◌^◌, ◌<◌, Bool, ap₂, ◌∙◌, arith}
use Rattle.pe_states.specs.Carriers.{carrier_numbers}
use Rattle.pe_states.specs.Ages.{has_bit, is_old_at, is_new_at, some_carrier}
use Rattle.pe_base.proofs.Lists.{Each-weaker, list_any_same}
use Rattle.pe_states.proofs.BoundaryLaws.{small_corner}
use Rattle.pe_states.proofs.CarrierLaws.{carrier_numbers-below}
use Rattle.pe_states.proofs.carriers.carrier.Goals as goal

pub at-requires : goal.at-requires
at-requires c = small_corner c.args.dim c.args.corner (omega arith) c.requires.corner

pub returns : goal.returns
returns c =
    let dim = c.args.dim in
    let digits = c.args.digits in
    let k = c.args.corner in
    let numbers = carrier_numbers dim digits k in
    let below = carrier_numbers-below dim digits k (omega arith) c.requires.digits in
    let pair : (b d : Bool) → Bool × Bool = λ b d. (b, d) in
    let old : is_old_at c.carried.result k ≡ some_carrier dim digits k (has_bit c.args.olds) =
    c.carried.ensures.old k c.requires.corner
    ∙ list_any_same (is_old_at c.new.result) (has_bit c.args.olds) numbers (Each-weaker (λ n. n < 2 ^ dim) _ (λ n h. c.new.ensures.old n (small_corner dim n (omega arith) h)) numbers below) in
    let new : is_new_at c.carried.result k ≡ some_carrier dim digits k (has_bit c.args.news) =
    c.carried.ensures.new k c.requires.corner
    ∙ list_any_same (is_new_at c.new.result) (has_bit c.args.news) numbers (Each-weaker (λ n. n < 2 ^ dim) _ (λ n h. c.new.ensures.new n (small_corner dim n (omega arith) h)) numbers below) in
    c.at.ensures ∙ ap₂ pair old new
