use Rattle.std.proofs.Common.{◌∙◌, sym, arith}
use Rattle.poststar.proofs.RowLemmas.{middle_is, few_before, has_number}
use Rattle.poststar.proofs.middles.middle_of.Goals as goal

pub returns-in_default : goal.returns-in_default
returns-in_default g c = λ r there push. has_number c.args.system.now.rules c.args.k r there push (sym c.push_number.ensures ∙ c.in_default.is)

pub overflow_add-result : goal.overflow_add-result
overflow_add-result g c =
    let few = few_before c.args.system.now.rules c.args.k c.in-Some.number (sym c.push_number.ensures ∙ c.in-Some.is) in
    omega (arith, few, c.requires, c.rules-count.ensures.value, c.rules-count.ensures.limit)

pub returns : goal.returns
returns g c = λ r there push. middle_is c.args.base c.args.system.now.rules c.args.k c.in-Some.number (sym c.push_number.ensures ∙ c.in-Some.is)
