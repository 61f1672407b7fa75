use Rattle.std.proofs.Common.{◌≡◌, drop}
use Rattle.truth_tables.specs.Postfix.{built_onto, built}
use Rattle.truth_tables.specs.private.Trees.{formulas_of}
use Rattle.truth_tables.proofs.postfix.trees_of.Given as goal

-- what the trees so far and the parts that are left build together
abbrev pub invariant-loop-part : goal.invariant-loop-part
invariant-loop-part l =
    built_onto (formulas_of l.trees.items) (drop l.part-index l.parts) ≡ built l.parts
