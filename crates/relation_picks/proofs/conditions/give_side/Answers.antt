use Rattle.std.proofs.Common.{ℕ, ◌+◌, ◌*◌, List, ap, ap₂, sym, subst, ◌∙◌, arith}
use Rattle.diagram_store.specs.declared.branch.Branch.{Branch}
use Rattle.diagram_store.specs.Nodes.{HasVariablesBelow}
use Rattle.diagram_store.specs.Diagrams.{meaning}
use Rattle.diagram_store.specs.Meaning.{bits_of, set_bit, value_at}
use Rattle.relation_picks.specs.private.Sides.{with_side}
use Rattle.relation_picks.proofs.SideLemmas.{side_none, side_next}
use Rattle.relation_picks.proofs.conditions.give_side.Goals as goal

pub loop-i-init : goal.loop-i-init
loop-i-init c =
    let copied = c.in_ok-made.ensures in record {
      value = λ bits.
          ap₂ (λ (r : ℕ) (ns : List Branch). value_at ns r bits) copied.root copied.nodes
          ∙ ap (λ f. meaning c.args.d.now f) (sym (side_none c.args.side (bits_of c.args.values.now) bits));
      variables = λ limit over. subst (HasVariablesBelow limit) (sym copied.nodes) over;
    }

pub loop-i-preserved : goal.loop-i-preserved
loop-i-preserved c =
    let i = c.loop-i.i in
    let x = bits_of c.args.values.now in record {
      value = λ bits.
          c.in_ok-made-2.ensures.value bits
          ∙ c.loop-i.invariant.value (set_bit bits (2 * i + c.args.side) (x i))
          ∙ ap (λ f. meaning c.args.d.now f) (side_next c.args.side i x bits c.requires.side);
      variables = λ limit over. c.in_ok-made-2.ensures.variables limit (c.loop-i.invariant.variables limit over);
    }

pub returns-clause-value : goal.returns-clause-value
returns-clause-value c = λ bits.
    c.loop-i.invariant.value bits
    ∙ ap (λ k. meaning c.args.d.now (with_side c.args.side k (bits_of c.args.values.now) bits)) (omega arith)
