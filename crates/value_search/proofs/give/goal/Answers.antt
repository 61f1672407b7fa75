use Rattle.std.proofs.Common.{◌≡◌, refl}
use Rattle.value_search.specs.Views.{place_at}
use Rattle.value_search.proofs.HandLemmas.{at_rule}
use Rattle.value_search.proofs.give.goal.Goals as goal

pub returns : goal.returns
returns g c =
    let r = c.rule-rule.result.now in
    at_rule c.args.system.now.rules c.args.k r c.rule-rule.ensures.rule (λ x. place_at r.control r.symbol c.args.to ≡ place_at x.control x.symbol c.args.to) refl
