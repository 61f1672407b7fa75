use Rattle.std.proofs.Common.{◌≡◌, ◌==◌, false, length, arith}
use Rattle.std.proofs.lemmas.Grind.{common_steps}
use Rattle.document_writer.proofs.DocumentLemmas.{class_written}
use Rattle.document_writer.proofs.document.push_class.Goals as goal

pub returns : goal.returns
returns c =
    let some : (length c.args.names.now == 0) ≡ false = cc (c.is_empty.ensures, c.as_slice-names.ensures, c.if-is_empty.false) in
    grind (arith, common_steps, class_written c.args.word.now c.args.names.now some)
