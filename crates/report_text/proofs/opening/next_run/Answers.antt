use Rattle.std.proofs.Common.{◌*◌, ◌++◌, ◌∷◌, [], length, refl, ap, ◌∙◌, arith}
use Rattle.witness_graph.specs.Runs.{runs_of}
use Rattle.report_text.specs.declared.beginning.Part.{Part}
use Rattle.report_text.specs.declared.beginning.Part.TheVariants.{Node}
use Rattle.report_text.specs.declared.beginning.Beginning.{Beginning}
use Rattle.report_text.specs.private.Opening.{node_steps, steps}
use Rattle.report_text.proofs.WalkLemmas.{next_within, after_within, rule_runs, rule_fewer, rule_within, node_runs, rest_within}
use Rattle.report_text.proofs.opening.next_run.Goals as goal

pub walk-smaller-in-Continue-branch-2 : goal.walk-smaller-in-Continue-branch-2
walk-smaller-in-Continue-branch-2 c =
    let n = length c.args.totals.now in
    let known = runs_of c.args.listing.now.side c.args.listing.now.nodes in
    let parts = c.pop-in-Some.new.self.items in
    let next = c.in-Some-Rule.ensures.items ∙ ap (λ (p : Part). parts ++ p ∷ []) c.in-Some-Rule.field-0-is in
    let longer : Beginning = record { rules = c.push.new.self; parts = c.pop-in-Some.new.self } in
    rule_fewer n known c.walk.stack.items c.pop.new.self.items c.in-Some.begun c.in-Some.ensures.items parts c.in-Some-Rule.rule next
    c.push-in-Some-Rule.new.self.items longer c.in_ok-push-in-Some-Rule.ensures.items refl c.in_ok-push-in-Some-Rule-2.ensures.items

pub walk-preserved-in-Continue-branch-2 : goal.walk-preserved-in-Continue-branch-2
walk-preserved-in-Continue-branch-2 c =
    let n = length c.args.totals.now in
    let known = runs_of c.args.listing.now.side c.args.listing.now.nodes in
    let stack = c.walk.stack.items in
    let rest = c.pop.new.self.items in
    let begun = c.in-Some.begun in
    let parts = c.pop-in-Some.new.self.items in
    let rule = c.in-Some-Rule.rule in
    let next = c.in-Some-Rule.ensures.items ∙ ap (λ (p : Part). parts ++ p ∷ []) c.in-Some-Rule.field-0-is in
    let longer : Beginning = record { rules = c.push.new.self; parts = c.pop-in-Some.new.self } in
    let now = c.push-in-Some-Rule.new.self.items in
    let added = c.in_ok-push-in-Some-Rule.ensures.items in
    let pushed = c.in_ok-push-in-Some-Rule-2.ensures.items in
    record {
      runs = rule_runs n known stack rest begun c.in-Some.ensures.items parts rule next now longer added refl pushed ∙ c.walk.invariant.runs;
      within = rule_within n known stack rest begun c.in-Some.ensures.items parts rule next now longer added refl pushed c.walk.invariant.within;
    }

pub open_node-requires-clause-number : goal.open_node-requires-clause-number
open_node-requires-clause-number c =
    let n = length c.args.totals.now in
    let known = runs_of c.args.listing.now.side c.args.listing.now.nodes in
    let parts = c.pop-in-Some.new.self.items in
    let next = c.in-Some-Node.ensures.items ∙ ap (λ (p : Part). parts ++ p ∷ []) c.in-Some-Node.field-0-is in
    omega (
      arith,
      c.requires.len,
      next_within n known c.walk.stack.items c.pop.new.self.items c.in-Some.begun c.in-Some.ensures.items parts (Node c.in-Some-Node.number) next c.walk.invariant.within,
    )

pub open_node-requires-clause-within : goal.open_node-requires-clause-within
open_node-requires-clause-within c =
    let n = length c.args.totals.now in
    let known = runs_of c.args.listing.now.side c.args.listing.now.nodes in
    let parts = c.pop-in-Some.new.self.items in
    let next = c.in-Some-Node.ensures.items ∙ ap (λ (p : Part). parts ++ p ∷ []) c.in-Some-Node.field-0-is in
    after_within n known c.walk.stack.items c.pop.new.self.items c.in-Some.begun c.in-Some.ensures.items parts (Node c.in-Some-Node.number) next c.walk.invariant.within

pub walk-preserved : goal.walk-preserved
walk-preserved c =
    let n = length c.args.totals.now in
    let known = runs_of c.args.listing.now.side c.args.listing.now.nodes in
    let begun = c.in-Some.begun in
    let parts = c.pop-in-Some.new.self.items in
    let k = c.in-Some-Node.number in
    let opened = c.in_ok-open_node-in-Some-Node.ensures in
    let next = c.in-Some-Node.ensures.items ∙ ap (λ (p : Part). parts ++ p ∷ []) c.in-Some-Node.field-0-is in
    record {
      runs = node_runs n known c.walk.stack.items c.pop.new.self.items begun c.in-Some.ensures.items parts k next c.open_node.new.stack.items (node_steps k * steps parts) opened
          ∙ c.walk.invariant.runs;
      within = opened.within (rest_within n known c.walk.stack.items c.pop.new.self.items begun c.in-Some.ensures.items c.walk.invariant.within);
    }
