use Rattle.std.proofs.Common.{sym, subst}
use Rattle.std.specs.Prelude.{IsTrue}
use Rattle.genkill_weights.specs.Masks.{is_mask}
use Rattle.genkill_weights.specs.Making.{is_listed, HasFacts}
use Rattle.genkill_weights.proofs.MakingLemmas.{facts_where, mask_where_fits}
use Rattle.genkill_weights.proofs.genkill.GenKill.restore.Goals as goal

pub returns-clause-facts : goal.returns-clause-facts
returns-clause-facts g c =
    let listed = is_listed c.args.facts.now in
    subst (λ m. HasFacts g.row.N m listed) (sym c.mask_of.ensures) (facts_where g.row.N listed)

pub returns-clause-fits : goal.returns-clause-fits
returns-clause-fits g c = subst (λ m. IsTrue (is_mask g.row.N m)) (sym c.mask_of.ensures) (mask_where_fits g.row.N (is_listed c.args.facts.now))
