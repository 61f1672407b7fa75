use Rattle.std.proofs.Common.{◌≡◌, ℕ, ◌<◌, true, false, length, refl, sym, ap, ◌∙◌, arith}
use Rattle.std.specs.Prelude.{Some, None, nat_eq}
use Rattle.std.proofs.lemmas.List.{length-set}
use Rattle.std.proofs.lemmas.Bool.{cond-true, cond-false, eqb-true, eq-eqb, false_from_ne_true}
use Rattle.diagram_store.specs.Nodes.{node_at}
use Rattle.diagram_store.specs.Meaning.{value_at, bits_of}
use Rattle.diagram_store.proofs.CallerLemmas.{constant_below, node_within}
use Rattle.diagram_ops.proofs.ImageLemmas.{root_within}
use Rattle.diagram_ops.proofs.PickingLemmas.{comes_on}
use Rattle.diagram_ops.proofs.picking.pick.Goals as goal

pub returns-then-a-eq0 : goal.returns-then-a-eq0
returns-then-a-eq0 c = λ bits. ap (λ r. value_at c.args.a.now.nodes r bits) c.if-a-eq0.true ∙ c.value_by_branch.ensures.constant c.args.a.now.nodes 0 bits (omega arith)

pub loop-found-init : goal.loop-found-init
loop-found-init c = record {
  count = let a = c.in_ok-bits.ensures.len in omega arith;
  within = root_within c.args.a.now.nodes c.args.a.now.root c.args.a.now.is_canonical;
  some = let f = c.if-a-eq0.false in omega arith;
  comes = λ f same. refl;
}

pub loop-found-preserved-then-high : goal.loop-found-preserved-then-high
loop-found-preserved-then-high c =
    let there : node_at c.args.a.now.nodes c.loop-found.at ≡ Some c.in-Some.found = ap (λ l. node_at l c.loop-found.at) (sym c.nodes.ensures) ∙ sym c.node.ensures ∙ c.in-Some.is in
    let goes = c.value_by_branch.ensures.node c.args.a.now.nodes c.args.a.now.is_canonical.reduced in
    let w = node_within c.args.a.now.nodes c.loop-found.at c.in-Some.found there in
    let before = c.args.a.now.is_canonical.reduced.earlier c.loop-found.at c.in-Some.found there in
    let all = c.args.a.now.is_canonical.reduced in
    let low : c.in-Some.found.low ≡ 0 = c.if-high.true in
    let differs = all.differs c.loop-found.at c.in-Some.found there in
    let below : c.in-Some.found.var < c.args.count = c.requires c.loop-found.at c.in-Some.found there in
    let n : length c.loop-found.bits.items ≡ c.args.count = c.loop-found.invariant.count in
    record {
      count = length-set c.loop-found.bits.items c.in-Some.found.var (nat_eq c.in-Some.found.low 0) ∙ c.loop-found.invariant.count;
      within = omega (arith, w.1, before.1);
      some = let g : c.in-Some.found.low ≡ c.in-Some.found.high → ⊥ = differs in omega arith;
      comes = comes_on c.args.a.now.nodes goes c.args.a.now.root c.loop-found.at c.in-Some.found there c.loop-found.bits.items (omega arith) c.loop-found.invariant.comes
          (nat_eq c.in-Some.found.low 0) c.in-Some.found.high (sym (cond-true (nat_eq c.in-Some.found.low 0) c.in-Some.found.high c.in-Some.found.low (eq-eqb c.in-Some.found.low 0 c.if-high.true)))
          (all.rises c.loop-found.at c.in-Some.found there).1;
    }

pub loop-found-preserved : goal.loop-found-preserved
loop-found-preserved c =
    let there : node_at c.args.a.now.nodes c.loop-found.at ≡ Some c.in-Some.found = ap (λ l. node_at l c.loop-found.at) (sym c.nodes.ensures) ∙ sym c.node.ensures ∙ c.in-Some.is in
    let goes = c.value_by_branch.ensures.node c.args.a.now.nodes c.args.a.now.is_canonical.reduced in
    let w = node_within c.args.a.now.nodes c.loop-found.at c.in-Some.found there in
    let before = c.args.a.now.is_canonical.reduced.earlier c.loop-found.at c.in-Some.found there in
    let all = c.args.a.now.is_canonical.reduced in
    let apart : c.in-Some.found.low ≡ 0 → ⊥ = c.if-high.false in
    let test : nat_eq c.in-Some.found.low 0 ≡ false = false_from_ne_true (nat_eq c.in-Some.found.low 0) (λ e. apart (eqb-true c.in-Some.found.low 0 e)) in
    let below : c.in-Some.found.var < c.args.count = c.requires c.loop-found.at c.in-Some.found there in
    let n : length c.loop-found.bits.items ≡ c.args.count = c.loop-found.invariant.count in
    record {
      count = length-set c.loop-found.bits.items c.in-Some.found.var (nat_eq c.in-Some.found.low 0) ∙ c.loop-found.invariant.count;
      within = omega (arith, w.1, before.0);
      some = omega arith;
      comes = comes_on c.args.a.now.nodes goes c.args.a.now.root c.loop-found.at c.in-Some.found there c.loop-found.bits.items (omega arith) c.loop-found.invariant.comes
          (nat_eq c.in-Some.found.low 0) c.in-Some.found.low (sym (cond-false (nat_eq c.in-Some.found.low 0) c.in-Some.found.high c.in-Some.found.low test))
          (all.rises c.loop-found.at c.in-Some.found there).0;
    }

-- the reference that the walk ends at is true
ends : (r : ℕ) → r < 2 → 0 < r → nat_eq r 1 ≡ true
ends r below some = eq-eqb r 1 (omega arith)

pub returns : goal.returns
returns c =
    let none : node_at c.args.a.now.nodes c.loop-found.at ≡ None = ap (λ l. node_at l c.loop-found.at) (sym c.nodes.ensures) ∙ sym c.node.ensures ∙ c.in_default.is in
    let small = constant_below c.args.a.now.nodes c.loop-found.at c.loop-found.invariant.within none in (
      ap length c.from_vec.ensures ∙ c.loop-found.invariant.count,
      ap (λ l. value_at c.args.a.now.nodes c.args.a.now.root (bits_of l)) c.from_vec.ensures
          ∙ c.loop-found.invariant.comes (bits_of c.loop-found.bits.items) (λ k above. refl)
          ∙ c.value_by_branch.ensures.constant c.args.a.now.nodes c.loop-found.at (bits_of c.loop-found.bits.items) small
          ∙ ends c.loop-found.at small c.loop-found.invariant.some,
    )
