use Rattle.std.proofs.Common.{◌∙◌}
use Rattle.std.proofs.lemmas.Result.{IfOk-weaker}
use Rattle.weight_tables.proofs.RenewalLemmas.{fits_there, grows_itself}
use Rattle.weight_tables.proofs.renewal.moved.Goals as goal

pub known-requires : goal.known-requires
known-requires g c = fits_there g.S.Semiring.operations _ _ c.requires.system _ _ c.in_ok-value.ensures (g.met.M.Weigher.fits c.args.from.now c.args.weight.now c.requires.weight)

pub returns-in_err-value-clause-grows : goal.returns-in_err-value-clause-grows
returns-in_err-value-clause-grows g c = grows_itself c.args.into.now

pub returns-clause-worth : goal.returns-clause-worth
returns-clause-worth g c = IfOk-weaker c.known.result _ _ (λ k e. e ∙ c.in_ok-value.ensures) c.known.ensures.worth
