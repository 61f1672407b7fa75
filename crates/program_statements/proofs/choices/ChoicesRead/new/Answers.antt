use Rattle.std.proofs.Common.{false, length, sym, ap, subst, refl}
use Rattle.rule_reader.specs.TreeReads.{HasFaults}
use Rattle.program_statements.proofs.choices.ChoicesRead.new.Goals as goal

pub returns : goal.returns
returns c = λ names. record {
  faults = subst (HasFaults false false false) (sym c.none.ensures) (record { unknown = refl; unlawful = refl; deep = λ _. refl });
  count = ap length c.new.ensures.items;
  values = λ _. c.new.ensures.items;
}
