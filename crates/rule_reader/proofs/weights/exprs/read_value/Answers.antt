use Rattle.std.proofs.Common.{sym, ap, ◌∙◌, subst}
use Rattle.std.specs.Prelude.{option_map}
use Rattle.document_forms.specs.declared.weight.ValueText.TheVariants.{Is}
use Rattle.document_forms.specs.Weights.{TreeValue}
use Rattle.rule_reader.specs.TreeReads.{IsTreeRead}
use Rattle.rule_reader.proofs.TreeLemmas.{no_star, one_tree_faults}
use Rattle.rule_reader.proofs.weights.exprs.read_value.Goals as goal

pub returns-in-Some : goal.returns-in-Some
returns-in-Some c =
    let items = c.args.items.now in
    let ws = c.args.words.now in
    let read = subst (IsTreeRead items ws) c.in-Some.is c.in_ok-tree.ensures in (
      TreeValue read.0,
      no_star ws (sym c.if-only_star.ensures) ∙ ap (option_map TreeValue) read.1,
      record {
        faults = one_tree_faults items read.0 c.in-Some.tree.faults read.2.faults;
        value = λ sound. ap Is (read.2.value sound);
      },
    )
