use Rattle.std.proofs.Common.{◌∙◌}
use Rattle.std.proofs.lemmas.Result.{IfOk-weaker}
use Rattle.relation_weights.specs.RelationLaws.{fits_in}
use Rattle.relation_weights.proofs.OperationLemmas.{combine-empty_left, combine-empty_right, combine-equal}
use Rattle.relation_weights.proofs.relations.RelationsSemiring.combine.Goals as goal

pub returns-then-is_empty : goal.returns-then-is_empty
returns-then-is_empty c =
    IfOk-weaker c.share.result _ _ (λ w h. h ∙ combine-empty_left c.args.self.now c.args.a.now c.args.b.now (fits_in c.args.self.now c.args.a.now c.requires.left) (fits_in c.args.self.now c.args.b.now c.requires.right) ((c.is_empty.ensures c.args.self.now).0 c.if-is_empty.true)) c.share.ensures

pub returns-then-is_empty-2 : goal.returns-then-is_empty-2
returns-then-is_empty-2 c =
    IfOk-weaker c.share-then-is_empty-2.result _ _ (λ w h. h ∙ combine-empty_right c.args.self.now c.args.a.now c.args.b.now (fits_in c.args.self.now c.args.a.now c.requires.left) (fits_in c.args.self.now c.args.b.now c.requires.right) ((c.is_empty-2.ensures c.args.self.now).0 c.if-is_empty-2.true)) c.share-then-is_empty-2.ensures

pub returns-then-is_same : goal.returns-then-is_same
returns-then-is_same c =
    IfOk-weaker c.share-then-is_same.result _ _ (λ w h. h ∙ combine-equal c.args.self.now c.args.a.now c.args.b.now (fits_in c.args.self.now c.args.a.now c.requires.left) (fits_in c.args.self.now c.args.b.now c.requires.right) (c.is_same.ensures.0 c.if-is_same.true)) c.share-then-is_same.ensures
