use Rattle.std.proofs.Common.{◌*◌, length, sym, subst, ◌∙◌}
use Rattle.std.proofs.Math.Nat.{mul_assoc, mul_comm}
use Rattle.witness_graph.specs.declared.node.Side.{Side}
use Rattle.witness_graph.specs.Runs.{concatenations, part_runs, rule_runs, parts_runs}
use Rattle.report_text.specs.private.Opening.{part_steps, parts_steps, IsPut}
use Rattle.report_text.proofs.OpeningLemmas.{put_both, put_times}
use Rattle.report_text.proofs.beginning.Beginning.put_parts.Goals as goal

pub returns-in_ok-put_rule-in-Pre-clause-parts : goal.returns-in_ok-put_rule-in-Pre-clause-parts
returns-in_ok-put_rule-in-Pre-clause-parts c = λ known counted.
    let n = length c.args.totals.now in
    let rule = rule_runs c.args.rule in
    let first = part_runs known c.args.first in
    let second = part_runs known c.args.second in
    let p = part_steps c.args.first in
    let q = part_steps c.args.second in
    let old = c.args.self.now.parts.items in
    let a = c.put_node.new.self.parts.items in
    let b = c.put_node-in-Pre.new.self.parts.items in
    let new = c.put_rule.new.self.parts.items in
    let both = put_both n known first second p q old a b (c.in_ok-put_node-in-Pre.ensures.parts known counted) (c.in_ok-put_node-in-Pre-2.ensures.parts known counted) in
    let all = put_both n known rule (concatenations first second) 2 (p * q) old b new both (c.in_ok-put_rule-in-Pre.ensures.parts known n) in
    subst (λ (side : Side). IsPut n known (parts_runs side rule first second) (parts_steps c.args.first c.args.second) old new) (sym c.in-Pre.is)
    (put_times n known (concatenations rule (concatenations first second)) (2 * (p * q)) (p * (q * 2)) old new (mul_comm 2 (p * q) ∙ mul_assoc p q 2) all)

pub returns-in_ok-put_node-in-Post-2-clause-parts : goal.returns-in_ok-put_node-in-Post-2-clause-parts
returns-in_ok-put_node-in-Post-2-clause-parts c = λ known counted.
    let n = length c.args.totals.now in
    let rule = rule_runs c.args.rule in
    let first = part_runs known c.args.first in
    let second = part_runs known c.args.second in
    let p = part_steps c.args.first in
    let q = part_steps c.args.second in
    let old = c.args.self.now.parts.items in
    let a = c.put_rule-in-Post.new.self.parts.items in
    let b = c.put_node-in-Post.new.self.parts.items in
    let new = c.put_node-in-Post-2.new.self.parts.items in
    let both = put_both n known second rule q 2 old a b (c.in_ok-put_rule-in-Post.ensures.parts known n) (c.in_ok-put_node-in-Post.ensures.parts known counted) in
    subst (λ (side : Side). IsPut n known (parts_runs side rule first second) (parts_steps c.args.first c.args.second) old new) (sym c.in-Post.is)
    (put_both n known first (concatenations second rule) p (q * 2) old b new both (c.in_ok-put_node-in-Post-2.ensures.parts known counted))
