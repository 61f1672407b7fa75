use Rattle.std.proofs.Common.{◌<◌, sym, refl, ◌∙◌, arith}
use Rattle.document_forms.specs.Names.{is_among, number_in}
use Rattle.document_forms.specs.Weights.{OfVariable}
use Rattle.std.proofs.lemmas.Option.{cond_some}
use Rattle.rule_reader.proofs.FormLemmas.{number_below, constants, bits, variable_value, known_variable, narrow_push}
use Rattle.rule_reader.proofs.weights.forms.PartsRead.add_variable.Goals as goal

pub returns-in-Some : goal.returns-in-Some
returns-in-Some c = λ done h.
    let items = c.args.items.now in
    let x = c.args.name.now in
    let known = cond_some (is_among items x) (number_in items x) c.in-Some.variable (sym c.in-Some.ensures) in
    let below = number_below items x known.0 in
    record {
      unknown = h.unknown ∙ sym (known_variable items done x known.0);
      wide = h.wide ∙ sym (narrow_push done (OfVariable x) refl);
      value = λ few some narrow.
          let small : c.in-Some.variable < 64 = omega (arith, known.1) in
          c.with_variable-self.ensures (constants done) (bits items done) (h.value few some narrow) small
          ∙ rw (← known.1) (sym (variable_value items done x));
    }
