use Rattle.std.proofs.Common.{◌≡◌, ap, ◌∙◌}
use Rattle.weight_tables.proofs.FitLemmas.{some_of, returned_ok}
use Rattle.weight_tables.proofs.plain.PlainWeigherWeigher.returned.Goals as goal

pub returns-in-Some-clause-known : goal.returns-in-Some-clause-known
returns-in-Some-clause-known g c =
    let is : c.semiring.result.now ≡ c.args.self.now.semiring = c.semiring.ensures.value ∙ ap (λ p. p.semiring) c.self.view_is in
    returned_ok g.S.Semiring.operations g.S.Semiring.laws _ _ is _ _ _ (rw (← c.self.view_is) (some_of _ _ _ c.in-Some.is c.rule.ensures.valid.fits.map)) c.requires.weight c.after.ensures
