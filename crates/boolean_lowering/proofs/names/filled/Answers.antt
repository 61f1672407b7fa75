use Rattle.std.proofs.Common.{ℕ, ◌+◌, List, ◌++◌, length, ap, ◌∙◌}
use Rattle.std.specs.Prelude.{Option}
use Rattle.std.specs.List.{range_with_len}
use Rattle.truth_tables.specs.Formulas.{Formula}
use Rattle.lowering_laws.specs.Weights.{targets_of}
use Rattle.boolean_lowering.proofs.NameLemmas.{range_joined}
use Rattle.boolean_lowering.proofs.names.filled.Goals as goal

pub returns-clause-targets : goal.returns-clause-targets
returns-clause-targets c =
    let first = c.args.first in
    let many = length c.args.values.now in
    let begun = c.in_ok-push_values.ensures.targets ∙ ap (λ (ps : List (ℕ × Option (Formula ℕ))). targets_of ps ++ range_with_len first many) c.new-pairs.ensures.items in
    c.in_ok-push_free.ensures.targets ∙ ap (λ ts. ts ++ range_with_len (first + many) c.args.free) begun ∙ range_joined first many c.args.free
