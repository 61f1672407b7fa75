use Rattle.std.proofs.Common.{◌≡◌, Some, refl, subst}
use Rattle.rule_reader.specs.TreeReads.{HasValue}
use Rattle.program_statements.proofs.reading.read_while.Goals as goal

pub returns-in_ok-while_-in-Some : goal.returns-in_ok-while_-in-Some
returns-in_ok-while_-in-Some c = λ w begun returns v said.
    let names = c.args.names.now in
    let read = rw c.in-Some.is at c.in_ok-condition.ensures in
    let same : read.0 ≡ v = cc (read.1, said) in
    (c.in_ok-while_-in-Some.field-0, refl, c.in_ok-while_-in-Some.ensures w names begun returns v (subst (λ u. HasValue names u c.in-Some.condition) same read.2))
