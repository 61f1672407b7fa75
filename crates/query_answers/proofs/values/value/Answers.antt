use Rattle.std.proofs.Common.{refl, ap, subst}
use Rattle.std.specs.Prelude.{slice_get}
use Rattle.query_answers.specs.Answering.{AreValues}
use Rattle.query_answers.specs.Values.{ValuesOf}
use Rattle.query_answers.proofs.ValueLemmas.{only_one}
use Rattle.query_answers.proofs.values.value.Goals as goal

pub returns : goal.returns
returns g c =
    let operations = g.S.Semiring.operations in
    let from = c.args.from.now in
    let to = c.args.to.now in
    let found = c.in_ok-found.found.items in
    let here = subst (λ (v : ValuesOf _ _ _). AreValues operations v.system v.side v.workers from c.from_ref.result.now found) c.new-values.ensures c.in_ok-found.ensures.values in
    let asked = subst (λ tos. AreValues operations c.args.system.now c.args.side c.args.workers from tos found) c.from_ref.ensures.value here in
    let only = only_one found c.pop.new.self.items c.in-Some.value c.in-Some.ensures.items asked.count in
    asked.each 0 to c.in-Some.value refl (ap (λ xs. slice_get xs 0) only)
