use Rattle.std.proofs.Common.{sym, subst, ◌∙◌, ap, ℕ, IsTrue}
use Rattle.std.specs.Option.{option_copied}
use Rattle.pe_check.specs.Table.{has_corner, is_within}
use Rattle.pe_check.specs.Scopes.{context_of}
use Rattle.pe_check.proofs.Resolved.{behind_fits}
use Rattle.pe_check.proofs.resolve.Scope.name.Goals as goal

pub returns-in-Some-behind-clause-fits : goal.returns-in-Some-behind-clause-fits
returns-in-Some-behind-clause-fits c =
    let P : ℕ → Type 0 = λ axes. IsTrue (is_within axes c.in-Some.head) in
    behind_fits (context_of c.args.self.now) c.in-Some.head (option_copied c.args.second) c.in-Some-behind.name
    (sym c.is_here.ensures ∙ c.if-not-is_here.false)
    (ap (λ n. has_corner n c.in-Some.head) (sym c.corners.ensures.value) ∙ sym c.has_corner.ensures ∙ c.if-not-has_corner.false)
    (subst P c.axes.ensures.value c.in-Some.ensures.axis)
    (sym c.behind.ensures.answer ∙ c.in-Some-behind.is)
