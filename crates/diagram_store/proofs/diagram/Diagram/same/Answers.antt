use Rattle.std.proofs.Common.{sym, ◌∙◌}
use Rattle.std.proofs.lemmas.Bool.{eqb-true}
use Rattle.diagram_store.proofs.SmallLemmas.{values_by_parts}
use Rattle.diagram_store.proofs.WalkLemmas.{canonical_is_one}
use Rattle.diagram_store.proofs.diagram.Diagram.same.Goals as goal

pub returns-then-self-other-clause-values : goal.returns-then-self-other-clause-values
returns-then-self-other-clause-values c =
    values_by_parts c.args.self.now.nodes c.args.other.now.nodes c.args.self.now.root c.args.other.now.root c.are_same.result c.args.self.now.is_canonical c.args.other.now.is_canonical (
      λ yes. (c.if-self-other.true, sym c.as_slice.ensures ∙ c.are_same.ensures.0 yes ∙ c.as_slice-then-self-other.ensures),
      λ parts. c.are_same.ensures.1 (c.as_slice.ensures ∙ parts.1 ∙ sym c.as_slice-then-self-other.ensures),
    )

pub returns-else-self-other-clause-values : goal.returns-else-self-other-clause-values
returns-else-self-other-clause-values c = (
  λ yes. absurd (c.if-self-other.false (eqb-true c.args.self.now.root c.args.other.now.root yes)),
  λ same. absurd (c.if-self-other.false (canonical_is_one c.args.self.now.nodes c.args.other.now.nodes c.args.self.now.root c.args.other.now.root c.args.self.now.is_canonical c.args.other.now.is_canonical same).0),
)
