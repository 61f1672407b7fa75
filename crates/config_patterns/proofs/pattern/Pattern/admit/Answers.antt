use Rattle.std.proofs.Common.{◌∙◌, arith}
use Rattle.config_patterns.proofs.ItemLemmas.{few_finals, counted, is_accepted, not_refused, too_many, too_many_items}
use Rattle.config_patterns.proofs.pattern.Pattern.admit.Goals as goal

pub returns-then-len-ge-MOST_ITEMS-clause-refusal : goal.returns-then-len-ge-MOST_ITEMS-clause-refusal
returns-then-len-ge-MOST_ITEMS-clause-refusal c = λ set of. too_many_items _ _ c.self.view_is set c.args.star of.low (omega arith)

pub edges_with-requires : goal.edges_with-requires
edges_with-requires c = few_finals _ _ _ c.self.invariant.0 c.self.invariant.1

pub returns-in-Some-clause-count : goal.returns-in-Some-clause-count
returns-in-Some-clause-count c = λ set of.
    c.in-Some.ensures.0 ∙ counted _ _ c.self.view_is _ _ c.self.invariant.1 c.args.count set c.args.star of.size

pub returns-in-Some-clause-accepted : goal.returns-in-Some-clause-accepted
returns-in-Some-clause-accepted c = λ set of.
    is_accepted _ _ c.self.view_is _ _ c.self.invariant.1 c.args.count set c.args.star of (omega arith) (omega (arith, c.in-Some.ensures.0, c.in-Some.ensures.1))

pub returns-in-Some-clause-refusal : goal.returns-in-Some-clause-refusal
returns-in-Some-clause-refusal c = λ set of. not_refused _ set c.args.star (returns-in-Some-clause-accepted c set of)

pub returns-in-None-clause-refusal : goal.returns-in-None-clause-refusal
returns-in-None-clause-refusal c = λ set of.
    too_many _ _ c.self.view_is _ _ c.self.invariant.1 c.args.count set c.args.star of (omega arith) c.in-None.ensures
