use Rattle.std.proofs.Common.{◌<◌, ℕ, ◌-◌, ◌/◌, ◌∙◌, subst}
use Rattle.pe_parse.specs.Lexemes.{value_of}
use Rattle.pe_parse.proofs.Spelled.{past_limit}
use Rattle.pe_parse.proofs.words.number.Goals as goal

pub returns-then-value-next : goal.returns-then-value-next
returns-then-value-next c =
    let next = c.from-next.ensures ∙ c.saturating_sub.ensures in
    let over = subst (λ (d : ℕ). (9223372036854775807 - d) / 10 < c.loop-digit.value) next c.if-value-next.true in
    past_limit c.loop-digit.value (value_of c.args.digits.now) c.args.digits.now c.loop-digit.digit-index c.loop-digit-test.true c.loop-digit.invariant.so_far over
