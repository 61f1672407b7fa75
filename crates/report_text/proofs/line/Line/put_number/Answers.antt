use Rattle.std.proofs.Common.{arith, rules, ap}
use Rattle.std.proofs.lemmas.Fmt.{length-decimal-le}
use Rattle.report_text.proofs.line.Line.put_number.Goals as goal

pub write_digits-self-inside-requires : goal.write_digits-self-inside-requires
write_digits-self-inside-requires c =
    let start = ap (λ l. l.room) c.self.view_is in
    let size = length-decimal-le 20 c.args.number (omega arith) (omega arith) c.ranges.number.fits in
    (omega (arith, size, start, c.requires), search rules)

pub returns-clause-room : goal.returns-clause-room
returns-clause-room c =
    let start = ap (λ l. l.room) c.self.view_is in
    let size = length-decimal-le 20 c.args.number (omega arith) (omega arith) c.ranges.number.fits in
    omega (arith, size, start, c.write_digits-self-inside.ensures.start)
