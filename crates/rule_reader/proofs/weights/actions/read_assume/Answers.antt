use Rattle.std.proofs.Common.{ap, subst}
use Rattle.std.specs.Prelude.{option_map}
use Rattle.document_forms.specs.declared.weight.Action.TheVariants.{Assume}
use Rattle.document_forms.specs.Weights.{AssumeForm}
use Rattle.rule_reader.specs.TreeReads.{IsTreeRead}
use Rattle.rule_reader.proofs.TreeLemmas.{one_tree_faults}
use Rattle.rule_reader.proofs.weights.actions.read_assume.Goals as goal

pub returns-in-Some : goal.returns-in-Some
returns-in-Some c =
    let items = c.args.items.now in
    let read = subst (IsTreeRead items c.args.words.now) c.in-Some.is c.in_ok-tree.ensures in (
      AssumeForm read.0,
      ap (option_map AssumeForm) read.1,
      record {
        faults = one_tree_faults items read.0 c.in-Some.tree.faults read.2.faults;
        value = λ sound. ap Assume (read.2.value sound);
      },
    )
