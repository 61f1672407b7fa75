use Rattle.std.proofs.Common.{◌≡◌, Some, refl, subst}
use Rattle.rule_reader.specs.TreeReads.{HasTree}
use Rattle.program_statements.proofs.reading.read_assume.Goals as goal

pub returns-in_ok-assume-in-Some : goal.returns-in_ok-assume-in-Some
returns-in_ok-assume-in-Some c = λ w begun returns e said.
    let names = c.args.names.now in
    let read = rw c.in-Some.is at c.in_ok-tree.ensures in
    let same : read.0 ≡ e = cc (read.1, said) in
    (c.in_ok-assume-in-Some.field-0, refl, c.in_ok-assume-in-Some.ensures w names begun returns e (subst (λ t. HasTree names t c.in-Some.tree) same read.2))
