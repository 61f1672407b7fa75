use Rattle.std.proofs.Common.{List, sym, ap, subst, ◌∙◌}
use Rattle.diagram_store.specs.declared.branch.Branch.{Branch}
use Rattle.diagram_store.specs.Nodes.{IsAbove, IsReduced}
use Rattle.diagram_store.specs.Meaning.{value_at}
use Rattle.diagram_ops.specs.private.Images.{IsValue}
use Rattle.diagram_ops.proofs.KeepingLemmas.{keeps_within, keeps_both, stands_kept}
use Rattle.diagram_ops.proofs.ApplyingLemmas.{value3_same}
use Rattle.diagram_ops.proofs.ScratchLemmas.{root_of_nodes}
use Rattle.diagram_ops.proofs.VariableLemmas.{applied_below}
use Rattle.diagram_ops.proofs.applied.apply_in_arena.Goals as goal

pub apply-requires-clause-x : goal.apply-requires-clause-x
apply-requires-clause-x c =
    keeps_within c.in_ok-scratch.scratch c.load-2.new.scratch (keeps_both c.in_ok-scratch.scratch c.load.new.scratch c.load-2.new.scratch c.in_ok-y.ensures.keeps c.in_ok-z.ensures.keeps) c.args.a.now.root
    (root_of_nodes c.in_ok-scratch.scratch c.args.a.now.nodes c.args.a.now.root (c.in_ok-scratch.ensures ∙ c.nodes-4.ensures) c.args.a.now.is_canonical).within

pub apply-requires-clause-y : goal.apply-requires-clause-y
apply-requires-clause-y c = keeps_within c.load.new.scratch c.load-2.new.scratch c.in_ok-z.ensures.keeps c.in_ok-y.y c.in_ok-y.ensures.stands.within

-- the first operand, where it is the result
pub returns-then-root-a-clause-value : goal.returns-then-root-a-clause-value
returns-then-root-a-clause-value c = λ bits.
    let first : List Branch = c.in_ok-scratch.scratch in
    let end : List Branch = c.apply.new.scratch in
    let done = c.in_ok-root.ensures in
    let whole : IsReduced first = subst IsReduced (sym (c.in_ok-scratch.ensures ∙ c.nodes-4.ensures)) c.args.a.now.is_canonical.reduced in
    let k3 = done.keeps in
    let k2 = keeps_both c.load.new.scratch c.load-2.new.scratch end c.in_ok-z.ensures.keeps k3 in
    let k1 = keeps_both first c.load.new.scratch end c.in_ok-y.ensures.keeps k2 in
    let x = stands_kept first whole end done.reduced k1 c.args.a.now.root (IsValue c.args.a.now.nodes c.args.a.now.root) (λ v. IsAbove c.args.a.now.nodes v c.args.a.now.root)
    (root_of_nodes first c.args.a.now.nodes c.args.a.now.root (c.in_ok-scratch.ensures ∙ c.nodes-4.ensures) c.args.a.now.is_canonical) in
    let y = stands_kept c.load.new.scratch c.in_ok-y.ensures.reduced end done.reduced k2 c.in_ok-y.y (IsValue c.args.b.now.nodes c.args.b.now.root) (λ v. IsAbove c.args.b.now.nodes v c.args.b.now.root) c.in_ok-y.ensures.stands in
    let z = stands_kept c.load-2.new.scratch c.in_ok-z.ensures.reduced end done.reduced k3 c.in_ok-z.z (IsValue c.args.c.now.nodes c.args.c.now.root) (λ v. IsAbove c.args.c.now.nodes v c.args.c.now.root) c.in_ok-z.ensures.stands in
    ap (λ r. value_at c.in_ok-same.same.nodes r bits) c.in_ok-same.ensures.root
    ∙ ap (λ l. value_at l c.args.a.now.root bits) c.in_ok-same.ensures.nodes
    ∙ sym (x.means bits)
    ∙ ap (λ r. value_at end r bits) (sym c.if-root-a.true)
    ∙ done.applied.stands.means bits
    ∙ value3_same c.args.table (value_at end c.args.a.now.root bits) (value_at end c.in_ok-y.y bits) (value_at end c.in_ok-z.z bits)
    (value_at c.args.a.now.nodes c.args.a.now.root bits) (value_at c.args.b.now.nodes c.args.b.now.root bits) (value_at c.args.c.now.nodes c.args.c.now.root bits)
    (x.means bits) (y.means bits) (z.means bits)

pub returns-then-root-a-clause-variables : goal.returns-then-root-a-clause-variables
returns-then-root-a-clause-variables c = λ limit.
    applied_below c.independent_variables.ensures limit c.in_ok-same.same c.args.table c.args.a.now c.args.b.now c.args.c.now (returns-then-root-a-clause-value c)

pub returns-clause-value : goal.returns-clause-value
returns-clause-value c = λ bits.
    let first : List Branch = c.in_ok-scratch.scratch in
    let end : List Branch = c.apply.new.scratch in
    let done = c.in_ok-root.ensures in
    let whole : IsReduced first = subst IsReduced (sym (c.in_ok-scratch.ensures ∙ c.nodes-4.ensures)) c.args.a.now.is_canonical.reduced in
    let k3 = done.keeps in
    let k2 = keeps_both c.load.new.scratch c.load-2.new.scratch end c.in_ok-z.ensures.keeps k3 in
    let k1 = keeps_both first c.load.new.scratch end c.in_ok-y.ensures.keeps k2 in
    let x = stands_kept first whole end done.reduced k1 c.args.a.now.root (IsValue c.args.a.now.nodes c.args.a.now.root) (λ v. IsAbove c.args.a.now.nodes v c.args.a.now.root)
    (root_of_nodes first c.args.a.now.nodes c.args.a.now.root (c.in_ok-scratch.ensures ∙ c.nodes-4.ensures) c.args.a.now.is_canonical) in
    let y = stands_kept c.load.new.scratch c.in_ok-y.ensures.reduced end done.reduced k2 c.in_ok-y.y (IsValue c.args.b.now.nodes c.args.b.now.root) (λ v. IsAbove c.args.b.now.nodes v c.args.b.now.root) c.in_ok-y.ensures.stands in
    let z = stands_kept c.load-2.new.scratch c.in_ok-z.ensures.reduced end done.reduced k3 c.in_ok-z.z (IsValue c.args.c.now.nodes c.args.c.now.root) (λ v. IsAbove c.args.c.now.nodes v c.args.c.now.root) c.in_ok-z.ensures.stands in
    c.in_ok-made.ensures bits ∙ done.applied.stands.means bits
    ∙ value3_same c.args.table (value_at end c.args.a.now.root bits) (value_at end c.in_ok-y.y bits) (value_at end c.in_ok-z.z bits)
    (value_at c.args.a.now.nodes c.args.a.now.root bits) (value_at c.args.b.now.nodes c.args.b.now.root bits) (value_at c.args.c.now.nodes c.args.c.now.root bits)
    (x.means bits) (y.means bits) (z.means bits)

pub returns-clause-variables : goal.returns-clause-variables
returns-clause-variables c = λ limit.
    applied_below c.independent_variables.ensures limit c.in_ok-made.made c.args.table c.args.a.now c.args.b.now c.args.c.now (returns-clause-value c)
