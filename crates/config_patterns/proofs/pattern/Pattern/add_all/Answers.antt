use Rattle.std.proofs.Common.{sym, subst}
use Rattle.std.specs.List.{range_with_len}
use Rattle.config_patterns.specs.Membership.{PatternValue}
use Rattle.config_patterns.specs.Fault.{IsAccepted}
use Rattle.config_patterns.specs.private.Counted.{IsCounted}
use Rattle.config_patterns.proofs.RangeLemmas.{all_counted}
use Rattle.config_patterns.proofs.pattern.Pattern.add_all.Goals as goal

pub push-requires-clause-accepted : goal.push-requires-clause-accepted
push-requires-clause-accepted c =
    let n = c.self.inside.symbols in
    let of = subst (λ (v : PatternValue). IsCounted n v.symbols (range_with_len 0 n)) c.self.view_is (all_counted n) in
    subst (λ set. IsAccepted c.args.self.now set c.args.star) (sym c.all-set.ensures) (c.in_ok-edges.ensures.accepted (range_with_len 0 n) of)
