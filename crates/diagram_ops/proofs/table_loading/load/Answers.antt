use Rattle.std.proofs.Common.{◌≡◌, ℕ, List, ◌+◌, ◌≤◌, length, refl, sym, ap, subst, ◌∙◌, arith}
use Rattle.std.proofs.lemmas.List.{length_push}
use Rattle.diagram_store.proofs.CallerLemmas.{value_at_end}
use Rattle.diagram_store.specs.declared.branch.Branch.{Branch}
use Rattle.diagram_store.specs.Nodes.{HasVariablesBelow}
use Rattle.diagram_ops.specs.private.Images.{IsImage, IsValue}
use Rattle.diagram_ops.proofs.KeepingLemmas.{keeps_same, keeps_both}
use Rattle.diagram_ops.proofs.ImageLemmas.{image_first, image_kept, image_push, root_within, root_stands}
use Rattle.diagram_ops.proofs.table_loading.load.Goals as goal

pub loop-k-init : goal.loop-k-init
loop-k-init c = record {
  count = ap length c.in_ok-places.ensures;
  image = image_first c.nodes-nodes.result.now (IsValue c.nodes-nodes.result.now) c.args.table.now c.in_ok-places.places.items c.requires c.in_ok-places.ensures
      (λ bits. sym (value_at_end c.nodes-nodes.result.now 0 bits refl)) (λ bits. sym (value_at_end c.nodes-nodes.result.now 1 bits refl));
  keeps = keeps_same c.args.table.now;
  limits = λ limit there of_nodes. there;
}

pub loop-k-preserved : goal.loop-k-preserved
loop-k-preserved c = record {
  count = ap length c.in_ok-push.ensures.items ∙ length_push c.loop-k.places.items c.in_ok-place.place ∙ (let n : length c.loop-k.places.items ≡ c.loop-k.k + 2 = c.loop-k.invariant.count in omega arith);
  image =
      let P : List ℕ → Type 0 = λ l. IsImage c.nodes-nodes.result.now (IsValue c.nodes-nodes.result.now) c.load_node.new.table l in
      subst P (sym c.in_ok-push.ensures.items)
      (image_push c.nodes-nodes.result.now (IsValue c.nodes-nodes.result.now) c.load_node.new.table c.loop-k.places.items c.in_ok-place.place (c.loop-k.k + 2) (sym c.loop-k.invariant.count)
      (image_kept c.nodes-nodes.result.now (IsValue c.nodes-nodes.result.now) c.loop-k.table c.load_node.new.table c.loop-k.places.items c.in_ok-place.ensures.reduced c.in_ok-place.ensures.keeps c.loop-k.invariant.image)
      c.in_ok-place.ensures.stands);
  keeps = keeps_both c.args.table.now c.loop-k.table c.load_node.new.table c.loop-k.invariant.keeps c.in_ok-place.ensures.keeps;
  limits = λ limit there of_nodes. c.in_ok-place.ensures.limits limit (c.loop-k.invariant.limits limit there of_nodes) of_nodes;
}

pub place_at-requires : goal.place_at-requires
place_at-requires c =
    let w = root_within c.args.diagram.now.nodes c.args.diagram.now.root c.args.diagram.now.is_canonical in
    let n : length c.nodes-nodes.result.now ≡ length c.args.diagram.now.nodes = ap length c.nodes-nodes.ensures in
    let m : length c.deref-2.result.now ≡ length c.loop-k.places.items = ap length c.deref-2.ensures.value in
    let k : length c.loop-k.places.items ≡ c.loop-k.k + 2 = c.loop-k.invariant.count in
    let t : length c.nodes-nodes.result.now ≤ c.loop-k.k = c.loop-k-test.false in
    omega (arith, w, n, m, k, t)

pub returns-clause-stands : goal.returns-clause-stands
returns-clause-stands c =
    root_stands IsValue c.nodes-nodes.result.now c.args.diagram.now.nodes c.loop-k.table c.loop-k.places.items c.deref-2.result.now c.args.diagram.now.root c.place_at.result c.loop-k.k
    c.nodes-nodes.ensures c.args.diagram.now.is_canonical c.loop-k.invariant.image c.loop-k.invariant.count c.loop-k-test.false c.deref-2.ensures.value c.place_at.ensures

-- the limit of the diagram as that of its nodes
of_nodes : (nodes view : List Branch) → view ≡ nodes → (limit : ℕ) → HasVariablesBelow limit nodes → HasVariablesBelow limit view
of_nodes nodes view e limit all = let P : List Branch → Type 0 = λ l. HasVariablesBelow limit l in subst P (sym e) all

pub returns-in_err-place-clause-limits : goal.returns-in_err-place-clause-limits
returns-in_err-place-clause-limits c = λ limit there all.
    let below = of_nodes c.args.diagram.now.nodes c.nodes-nodes.result.now c.nodes-nodes.ensures limit all in
    c.in_err-place.ensures.limits limit (c.loop-k.invariant.limits limit there below) below

pub returns-in_err-push-clause-limits : goal.returns-in_err-push-clause-limits
returns-in_err-push-clause-limits c = λ limit there all.
    let below = of_nodes c.args.diagram.now.nodes c.nodes-nodes.result.now c.nodes-nodes.ensures limit all in
    c.in_ok-place.ensures.limits limit (c.loop-k.invariant.limits limit there below) below

pub returns-clause-limits : goal.returns-clause-limits
returns-clause-limits c = λ limit there all.
    c.loop-k.invariant.limits limit there (of_nodes c.args.diagram.now.nodes c.nodes-nodes.result.now c.nodes-nodes.ensures limit all)
