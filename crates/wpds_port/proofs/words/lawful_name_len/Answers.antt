use Rattle.wpds_port.proofs.TextLemmas.{name_start}
use Rattle.wpds_port.proofs.words.lawful_name_len.Goals as goal

pub returns-then-n-le64 : goal.returns-then-n-le64
returns-then-n-le64 c =
    name_start c.args.text.now c.name_len-n.result c.requires c.name_len-n.ensures.within c.name_len-n.ensures.bytes
    c.if-n-le64.true
