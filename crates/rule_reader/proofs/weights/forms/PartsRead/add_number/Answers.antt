use Rattle.std.proofs.Common.{◌≡◌, sym, ap, ◌∙◌, w64, SFits, to_z, of_z, arith, rules}
use Rattle.std.proofs.lemmas.Int.{ints}
use Rattle.document_forms.specs.Weights.{OfNumber}
use Rattle.document_forms.specs.Documents.{meet_of}
use Rattle.rule_reader.specs.private.FormReads.{constant_more}
use Rattle.rule_reader.proofs.FormLemmas.{constants, bits, constant_value, no_name, narrow_push}
use Rattle.rule_reader.proofs.weights.forms.PartsRead.add_number.Goals as goal

pub returns-in-Some : goal.returns-in-Some
returns-in-Some c = λ items done h.
    let p = OfNumber c.args.negative c.args.digits.now in
    let n = c.in-Some.constant in
    let fits : SFits w64 n = search rules in
    let same : to_z w64 (of_z w64 n) ≡ n = omega (arith, ints) in
    record {
      unknown = h.unknown ∙ sym (no_name items done c.args.negative c.args.digits.now);
      wide = h.wide ∙ sym (narrow_push done p (sym c.in-Some.ensures.wide));
      value = λ few some narrow.
          c.with_constant-self.ensures (constants done) (bits items done) (h.value few some narrow)
          ∙ ap (λ z. meet_of (constant_more (constants done) z) (bits items done)) same
          ∙ sym (constant_value items done c.args.negative c.args.digits.now n c.in-Some.ensures.value);
    }
