use Rattle.std.proofs.Common.{sym}
use Rattle.wpds_port.proofs.TextLemmas.{number_start}
use Rattle.wpds_port.proofs.words.lawful_number_len.Goals as goal

pub returns-else-leads_with_zero : goal.returns-else-leads_with_zero
returns-else-leads_with_zero c =
    number_start c.args.text.now c.digits_len-n.result c.requires c.digits_len-n.ensures.within
    c.digits_len-n.ensures.bytes (sym c.if-leads_with_zero.ensures)
