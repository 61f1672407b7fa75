use Rattle.std.proofs.Common.{◌++◌, ◌∷◌, [], ℕ, List, length, ap, ◌∙◌, arith}
use Rattle.witness_graph.specs.Runs.{runs_of}
use Rattle.report_text.specs.declared.beginning.Beginning.{Beginning}
use Rattle.report_text.specs.private.Opening.{stack_runs}
use Rattle.report_text.proofs.WalkLemmas.{first_runs, first_within}
use Rattle.report_text.proofs.opening.runs_of_node.Goals as goal

pub runs-init : goal.runs-init
runs-init c =
    let n = length c.args.totals.now in
    let known = runs_of c.args.listing.now.side c.args.listing.now.nodes in
    let b = c.in_ok-of_node.field-0 in
    let stack = c.push.new.self.items in
    let pushed = c.in_ok-push.ensures.items ∙ ap (λ (s : List Beginning). s ++ b ∷ []) c.new-stack.ensures.items in
    record {
      runs = ap (λ (l : List (List ℕ)). l ++ stack_runs known stack) c.new-runs.ensures.items
          ∙ first_runs n known c.args.root stack b c.in_ok-of_node.ensures.rules c.in_ok-of_node.ensures.parts pushed;
      within = first_within n known c.args.root stack b (omega (arith, c.requires.root, c.requires.len)) c.in_ok-of_node.ensures.parts pushed;
    }
