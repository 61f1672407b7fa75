use Rattle.std.proofs.Common.{◌≡◌, Some, sym, ◌∙◌, subst}
use Rattle.rule_reader.specs.TreeReads.{HasValue}
use Rattle.program_statements.proofs.choices.ChoicesRead.take.Goals as goal

pub returns-in-Some : goal.returns-in-Some
returns-in-Some c = λ done v h e.
    let read = rw c.in-Some.is at c.in_ok-value.ensures in
    let same : read.0 ≡ v = cc (read.1, e) in
    c.add.ensures c.args.names.now done v h (subst (λ u. HasValue c.args.names.now u c.in-Some.value) same read.2)

pub returns-in-None : goal.returns-in-None
returns-in-None c = λ done v h e.
    let none = rw c.in-None.is at c.in_ok-value.ensures in
    cc (none, e)
