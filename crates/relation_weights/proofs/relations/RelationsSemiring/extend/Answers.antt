use Rattle.std.proofs.Common.{◌≡◌, ℕ, ◌∙◌, subst}
use Rattle.std.proofs.lemmas.Result.{IfOk-weaker}
use Rattle.relation_laws.proofs.CallerLemmas.{stay}
use Rattle.relation_weights.specs.RelationLaws.{fits_in}
use Rattle.relation_weights.proofs.OperationLemmas.{extend-empty_left, extend-empty_right, extend-identity_left, extend-identity_right}
use Rattle.relation_weights.proofs.relations.RelationsSemiring.extend.Goals as goal

pub returns-then-is_empty : goal.returns-then-is_empty
returns-then-is_empty c =
    IfOk-weaker c.share.result _ _ (λ w h. h ∙ extend-empty_left c.args.self.now c.args.a.now c.args.b.now (fits_in c.args.self.now c.args.a.now c.requires.left) (fits_in c.args.self.now c.args.b.now c.requires.right) ((c.is_empty.ensures c.args.self.now).0 c.if-is_empty.true)) c.share.ensures

pub returns-then-is_empty-2 : goal.returns-then-is_empty-2
returns-then-is_empty-2 c =
    IfOk-weaker c.share-then-is_empty-2.result _ _ (λ w h. h ∙ extend-empty_right c.args.self.now c.args.a.now c.args.b.now (fits_in c.args.self.now c.args.a.now c.requires.left) (fits_in c.args.self.now c.args.b.now c.requires.right) ((c.is_empty-2.ensures c.args.self.now).0 c.if-is_empty-2.true)) c.share-then-is_empty-2.ensures

pub returns-then-branch : goal.returns-then-branch
returns-then-branch c =
    let P : ℕ → Type 0 = λ n. c.args.a.now ≡ stay n in
    let is : c.args.a.now ≡ stay c.args.self.now = subst P c.self.view_is (c.in_ok-is_identity.ensures c.if-branch.true) in
    IfOk-weaker c.share-then-branch.result _ _ (λ w h. h ∙ extend-identity_left c.args.self.now c.args.a.now c.args.b.now (fits_in c.args.self.now c.args.a.now c.requires.left) (fits_in c.args.self.now c.args.b.now c.requires.right) is) c.share-then-branch.ensures

pub returns-then-branch-2 : goal.returns-then-branch-2
returns-then-branch-2 c =
    let P : ℕ → Type 0 = λ n. c.args.b.now ≡ stay n in
    let is : c.args.b.now ≡ stay c.args.self.now = subst P c.self.view_is (c.in_ok-is_identity-2.ensures c.if-branch-2.true) in
    IfOk-weaker c.share-then-branch-2.result _ _ (λ w h. h ∙ extend-identity_right c.args.self.now c.args.a.now c.args.b.now (fits_in c.args.self.now c.args.a.now c.requires.left) (fits_in c.args.self.now c.args.b.now c.requires.right) is) c.share-then-branch-2.ensures
