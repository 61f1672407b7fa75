use Rattle.std.proofs.Common.{◌&&◌, [], ◌∷◌, ◌++◌, take, take_all, length, refl, sym, ap, ◌∙◌}
use Rattle.std.proofs.lemmas.List.{take_more}
use Rattle.std.proofs.lemmas.Option.{slice_get_read}
use Rattle.std.proofs.lemmas.Result.{IfOk-weaker}
use Rattle.relation_weights.specs.Actions.{frame_pairs}
use Rattle.relation_weights.specs.Actions.{allows, assigned, numbers}
use Rattle.relation_weights.proofs.ActionLemmas.{all_become, become_next, target_at, assigned_is}
use Rattle.relation_weights.proofs.actions.assigned.Goals as goal

pub with_target-requires-clause-target : goal.with_target-requires-clause-target
with_target-requires-clause-target c =
    (target_at c.args.n c.args.targets.now c.requires.targets c.loop-k.k c.index-targets-k.result (slice_get_read c.args.targets.now (length c.args.targets.now) c.loop-k.k c.index-targets-k.result refl c.loop-k-test.true c.index-targets-k.is)).0

pub with_target-requires-clause-over : goal.with_target-requires-clause-over
with_target-requires-clause-over c =
    (target_at c.args.n c.args.targets.now c.requires.targets c.loop-k.k c.index-targets-k.result (slice_get_read c.args.targets.now (length c.args.targets.now) c.loop-k.k c.index-targets-k.result refl c.loop-k-test.true c.index-targets-k.is)).1

pub loop-k-preserved : goal.loop-k-preserved
loop-k-preserved c =
    let ts = c.args.targets.now in
    let t = c.index-targets-k.result in
    let more = take_more ts c.loop-k.k t c.loop-k-test.true ∙ ap (λ u. take c.loop-k.k ts ++ u ∷ []) (sym c.index-targets-k.is) in
    record {
      pairs = λ x y.
          c.in_ok-made-2.ensures.pairs x y
          ∙ ap (λ b. b && allows t.1 x (y t.0)) (c.loop-k.invariant.pairs x y)
          ∙ become_next (frame_pairs c.args.n (numbers ts) x y) (take c.loop-k.k ts) t x y
          ∙ ap (λ us. frame_pairs c.args.n (numbers ts) x y && all_become us x y) (sym more);
      variables = c.in_ok-made-2.ensures.variables;
    }

pub returns : goal.returns
returns c =
    let ts = c.args.targets.now in
    IfOk-weaker c.new.result _ _ (λ w h. h c.args.n (assigned c.args.n ts) c.loop-k.invariant.variables (λ x y.
    c.loop-k.invariant.pairs x y
    ∙ ap (λ us. frame_pairs c.args.n (numbers ts) x y && all_become us x y) (take_all c.loop-k.k ts c.loop-k-test.false)
    ∙ assigned_is c.args.n ts c.requires.targets x y)) c.new.ensures
