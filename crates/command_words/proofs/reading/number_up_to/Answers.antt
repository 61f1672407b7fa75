use Rattle.std.proofs.Common.{◌≡◌, sym, ap, ◌∙◌, arith}
use Rattle.std.specs.Prelude.{Ok, decimal}
use Rattle.command_words.specs.Commands.{number_up_to}
use Rattle.command_words.proofs.NumberLemmas.{unnamed, is_number, are_same, are_other}
use Rattle.command_words.proofs.reading.number_up_to.Goals.{then-number-eq0-via-then-number-eq0, then-number-eq0-via-else-number-eq0+then-number-most}
use Rattle.command_words.proofs.reading.number_up_to.Goals as goal

pub returns-in_default : goal.returns-in_default
returns-in_default c = record {
  within = tt;
  value = unnamed c.args.most c.args.text.now c.parse.result c.requires c.parse.ensures.value.0 (λ n is positive within same. c.in_default.not-Ok n is);
}

pub returns-then-number-eq0 : goal.returns-then-number-eq0
returns-then-number-eq0 c = record {
  within = tt;
  value = unnamed c.args.most c.args.text.now c.parse.result c.requires c.parse.ensures.value.0
      (λ n is positive within same.
      let this : n ≡ c.in-Ok.number = (let e : Ok n ≡ Ok c.in-Ok.number = sym is ∙ c.in-Ok.is in cc) in
      elim c.then-number-eq0.branch [
        | then-number-eq0-via-then-number-eq0 w ↦ omega (arith, this, positive, w.if-number-eq0)
        | then-number-eq0-via-else-number-eq0+then-number-most w ↦ omega (arith, this, within, w.if-number-most)
      ]);
}

pub returns-then-ne : goal.returns-then-ne
returns-then-ne c = record {
  within = tt;
  value = unnamed c.args.most c.args.text.now c.parse.result c.requires c.parse.ensures.value.0
      (λ n is positive within same.
      let this : n ≡ c.in-Ok.number = (let e : Ok n ≡ Ok c.in-Ok.number = sym is ∙ c.in-Ok.is in cc) in
      are_other c.format.result.now c.args.text.now c.if-ne.ensures (c.format.ensures.text ∙ ap decimal (sym this) ∙ sym same));
}

pub returns : goal.returns
returns c =
    let word = sym (are_same c.format.result.now c.args.text.now c.if-ne.ensures) ∙ c.format.ensures.text in
    record {
      value =
          sym (ap (number_up_to c.args.most) word
          ∙ is_number c.args.most c.in-Ok.number c.requires (omega (arith, c.if-number-eq0.false)) (omega (arith, c.if-number-most.false)));
      within = (omega (arith, c.if-number-eq0.false), omega (arith, c.if-number-most.false));
    }
