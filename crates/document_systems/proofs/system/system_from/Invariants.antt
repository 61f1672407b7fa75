use Rattle.std.proofs.Common.{◌≡◌, take, map}
use Rattle.document_systems.specs.Systems.{rule_of, system_of}
use Rattle.document_systems.proofs.system.system_from.Given as goal

abbrev pub invariant-loop-line : goal.invariant-loop-line
invariant-loop-line g l =
    let kind = g.S.DocumentWeights.kind in
    l.system ≡ record (system_of kind l.fn.semiring l.document) { rules = map (rule_of kind l.fn.semiring) (take l.line-index l.document.rules) }
