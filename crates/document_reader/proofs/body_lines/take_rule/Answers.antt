use Rattle.std.proofs.Common.{◌≡◌, Some}
use Rattle.document_forms.specs.Forms.{RuleForm, rule_of}
use Rattle.document_reader.specs.private.Readings.{above_now}
use Rattle.rule_reader.specs.RuleReads.{IsReadRule}
use Rattle.document_reader.proofs.BodyLineLemmas.{rule_taken}
use Rattle.document_reader.proofs.body_lines.take_rule.Goals as goal

pub returns : goal.returns
returns c = λ all.
    let read = c.in-Some.read in
    let m : (f : RuleForm) × (rule_of c.args.words.now ≡ Some f) × IsReadRule (above_now c.args.reading.now) f read = rw c.in-Some.is at c.in_ok-read.ensures in
    rule_taken all c.args.reading.now c.push.new.self c.args.words.now m.0 read c.requires.few m.1 m.2 c.in_default-kind.is c.in_ok-push.ensures.items
