use Rattle.std.proofs.Common.{◌≡◌, sym, ◌∙◌, arith, refl}
use Rattle.program_forms.specs.Places.{Stated}
use Rattle.boolean_syntax.proofs.WayLemmas.{refused_below}
use Rattle.boolean_syntax.proofs.program.read_line.Goals as goal

pub returns-in-Some : goal.returns-in-Some
returns-in-Some c =
    let number : c.in_ok-number.number ≡ c.args.line.now.number = grind arith in λ w above l t h s.
    let said = s.judged in
    let m : Stated = record { number = l.number; form = said.0; place = c.args.place.now } in
    let answered = c.in_ok-kind.ensures w above m t h said.1 refl (sym (number ∙ s.number)) in
    refused_below w above c.args.place.now l m c.in-Some.kind said.2 (sym answered.kind ∙ c.in-Some.is) refl

pub returns : goal.returns
returns c =
    let number : c.in_ok-number.number ≡ c.args.line.now.number = grind arith in λ w above l t h s.
    let said = s.judged in
    let m : Stated = record { number = l.number; form = said.0; place = c.args.place.now } in
    let answered = c.in_ok-kind.ensures w above m t h said.1 refl (sym (number ∙ s.number)) in
    record {
      line = m;
      judged = said.2;
      kind = sym answered.kind ∙ c.in_default.is;
      place = c.in_ok-advance.ensures said.0 said.1;
      read = rw c.in_default.is at answered.taken;
    }
