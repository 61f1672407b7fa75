use Rattle.std.proofs.Common.{sym, ap, length}
use Rattle.wpds_port.proofs.TextLemmas.{blank_start, mark_start}
use Rattle.wpds_port.proofs.words.lawful_len.Goals as goal

pub returns-then-blank : goal.returns-then-blank
returns-then-blank c = blank_start c.args.text.now c.requires (sym c.if-blank.ensures)

pub returns-in-Some : goal.returns-in-Some
returns-in-Some c =
    mark_start c.args.text.now c.in-Some.mark c.requires (sym c.if-name_begins.ensures) (sym c.if-digit.ensures)
    (sym c.in-Some.ensures) (length c.text.result.now) (ap length c.text.ensures)
