use Rattle.std.proofs.Common.{map, arith}
use Rattle.std.proofs.lemmas.Grind.{common_steps}
use Rattle.document_forms.specs.Names.{name}
use Rattle.document_writer.proofs.RowLemmas.{spaced_first}
use Rattle.document_writer.proofs.rules.push_step.Goals as goal

pub returns : goal.returns
returns c =
    let d = c.args.document.now in
    let r = c.args.rule.now in
    grind (arith, common_steps, spaced_first (name d.controls r.to) (map (name d.symbols) r.right))
