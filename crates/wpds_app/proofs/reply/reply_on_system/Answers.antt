use Rattle.wpds_app.specs.declared.input.Input.TheVariants.{System}
use Rattle.wpds_app.proofs.reply.reply_on_system.Goals as goal

pub report-requires-clause-document : goal.report-requires-clause-document
report-requires-clause-document g c κs within = c.documents_are_lawful.ensures c.args.input.now c.args.document.now c.requires.document

pub returns : goal.returns
returns g c = (System c.args.document.now, c.requires.document, c.in_ok-text.ensures)
