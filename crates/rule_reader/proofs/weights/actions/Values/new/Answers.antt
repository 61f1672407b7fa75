use Rattle.std.proofs.Common.{false, length, sym, ap, ◌∙◌, subst, refl, arith}
use Rattle.std.proofs.lemmas.Bool.{le-ltb}
use Rattle.rule_reader.specs.TreeReads.{HasFaults}
use Rattle.rule_reader.proofs.ActionLemmas.{no_zip}
use Rattle.rule_reader.proofs.weights.actions.Values.new.Goals as goal

pub returns : goal.returns
returns c = λ items targets.
    record {
      faults = subst (HasFaults false false false) (sym c.none.ensures) (record { unknown = refl; unlawful = refl; deep = λ _. refl });
      more = sym (le-ltb (length targets) 0 (omega arith));
      count = omega (arith, ap length c.new.ensures.items);
      values = λ _. c.new.ensures.items ∙ sym (no_zip items targets);
    }
