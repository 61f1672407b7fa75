use Rattle.std.proofs.Common.{◌≡◌, ap, ◌∙◌}
use Rattle.weight_tables.proofs.FitLemmas.{extended_ok}
use Rattle.weight_tables.proofs.plain.PlainWeigherWeigher.rule_then.Goals as goal

pub returns-clause-known : goal.returns-clause-known
returns-clause-known g c =
    let is : c.semiring.result.now ≡ c.args.self.now.semiring = c.semiring.ensures.value ∙ ap (λ p. p.semiring) c.self.view_is in
    extended_ok g.S.Semiring.operations g.S.Semiring.laws _ _ is _ _ _ (rw (← c.self.view_is) c.rule.ensures.valid.fits.weight) c.requires.weight c.extend.ensures
