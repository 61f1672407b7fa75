use Rattle.std.proofs.Common.{◌-◌, ◌++◌, ◌∷◌, [], List, length, ap, ◌∙◌}
use Rattle.witness_graph.specs.Runs.{runs_of}
use Rattle.report_text.specs.declared.beginning.Beginning.{Beginning}
use Rattle.report_text.specs.private.Opening.{node_part}
use Rattle.report_text.proofs.WalkLemmas.{first_runs}
use Rattle.report_text.proofs.walking.RunWalk.new.Goals as goal

pub returns : goal.returns
returns c =
    let l = c.args.listing.now in
    let known = runs_of l.side l.nodes in
    let b = c.in_ok-of_node.field-0 in
    let stack = c.push.new.self.items in
    let pushed = c.in_ok-push.ensures.items ∙ ap (λ (s : List Beginning). s ++ b ∷ []) c.new-stack.ensures.items in
    let parts = c.in_ok-of_node.ensures.parts ∙ ap (λ k. node_part (k - 1) ∷ []) c.len-root.ensures in
    first_runs (length l.nodes) known (length l.nodes - 1) stack b c.in_ok-of_node.ensures.rules parts pushed
