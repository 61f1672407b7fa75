use Rattle.std.proofs.Common.{sym, ap, ◌∙◌}
use Rattle.wpds_port.proofs.TokenLemmas.{more_found, rest_of_line}
use Rattle.wpds_port.specs.Tokens.{word_at}
use Rattle.wpds_port.proofs.cutting.cut.Goals as goal

pub loop-place-preserved : goal.loop-place-preserved
loop-place-preserved c =
    let i = c.in-Some.is in
    let e = c.in_ok-word_in.ensures in
    let m = more_found c.args.line.now c.loop-place.found.items c.push.new.self.items c.loop-place.place c.word_len.result c.in-Some.word c.loop-place-test.true (ap word_at (sym (rest_of_line c.loop-place.place c.args.line.now)) ∙ sym e ∙ i) c.word_len.ensures c.in_ok-push-in-Some.ensures.items c.loop-place.invariant.same in
    record { within = m.within; same = m.same }
