use Rattle.std.proofs.Common.{◌≡◌, ◌∙◌, sym, ap, Some}
use Rattle.semiring_laws.specs.LoweringLaws.{lowered-none, lowered-some}
use Rattle.relation_weights.specs.Relations.{relation_operations}
use Rattle.relation_weights.specs.RelationLaws.{fits_in, relation_laws}
use Rattle.relation_weights.proofs.OperationLemmas.{combine-empty_left, combine-empty_right, combine-equal}
use Rattle.relation_weights.proofs.relations.RelationsSemiring.lowered.Goals.{then-is_empty-via-then-is_empty, then-is_empty-via-else-is_empty+then-is_same}
use Rattle.relation_weights.proofs.relations.RelationsSemiring.lowered.Goals as goal

pub returns-then-is_empty : goal.returns-then-is_empty
returns-then-is_empty c =
    let n = c.args.self.now in
    let old = c.args.old.now in
    let weight = c.args.weight.now in
    let fo = fits_in n old c.requires.old in
    let fw = fits_in n weight c.requires.weight in
    let is : old ≡ (relation_operations n).combine old weight = elim c.then-is_empty.branch [
      | then-is_empty-via-then-is_empty w ↦ combine-empty_right n old weight fo fw ((c.is_empty.ensures n).0 w.if-is_empty.true)
      | then-is_empty-via-else-is_empty+then-is_same w ↦ combine-equal n old weight fo fw (sym (w.is_same.ensures.0 w.if-is_same.true))
    ] in
    sym (lowered-none (relation_operations n) (relation_laws n) old weight c.requires.old c.requires.weight (sym is))

pub returns-then-is_empty-2 : goal.returns-then-is_empty-2
returns-then-is_empty-2 c =
    let n = c.args.self.now in
    let old = c.args.old.now in
    let weight = c.args.weight.now in
    let is : weight ≡ (relation_operations n).combine old weight =
    combine-empty_left n old weight (fits_in n old c.requires.old) (fits_in n weight c.requires.weight) ((c.is_empty-2.ensures n).0 c.if-is_empty-2.true) in
    ap Some (c.in_ok-weight.ensures ∙ is)
    ∙ sym (lowered-some (relation_operations n) (relation_laws n) old weight c.requires.old c.requires.weight (λ e.
    let same = c.is_same.ensures.1 (is ∙ e) in
    let other = c.if-is_same.false in
    cc))

pub returns-then-is_same-2 : goal.returns-then-is_same-2
returns-then-is_same-2 c =
    let n = c.args.self.now in
    let old = c.args.old.now in
    let weight = c.args.weight.now in
    let is : c.in_ok-sum.sum ≡ (relation_operations n).combine old weight = c.in_ok-sum.ensures in
    sym (lowered-none (relation_operations n) (relation_laws n) old weight c.requires.old c.requires.weight (sym is ∙ c.is_same-2.ensures.0 c.if-is_same-2.true))

pub returns : goal.returns
returns c =
    let n = c.args.self.now in
    let old = c.args.old.now in
    let weight = c.args.weight.now in
    let is : c.in_ok-sum.sum ≡ (relation_operations n).combine old weight = c.in_ok-sum.ensures in
    ap Some is
    ∙ sym (lowered-some (relation_operations n) (relation_laws n) old weight c.requires.old c.requires.weight (λ e.
    let same = c.is_same-2.ensures.1 (is ∙ e) in
    let other = c.if-is_same-2.false in
    cc))
