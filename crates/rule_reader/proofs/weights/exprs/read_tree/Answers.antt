use Rattle.std.proofs.Common.{◌≡◌, true, false, sym, ap, ◌∙◌, subst}
use Rattle.std.proofs.lemmas.Bool.{not-true}
use Rattle.std.specs.List.{list_all}
use Rattle.wpds_port.specs.Tokens.{is_lawful_word}
use Rattle.truth_tables.specs.Grammar.{has_large_table}
use Rattle.truth_tables.specs.Stacks.{tree_of}
use Rattle.truth_tables.specs.Texts.{IsAnswer}
use Rattle.document_forms.specs.Names.{has_unknown}
use Rattle.rule_reader.specs.TreeReads.{variables_among}
use Rattle.rule_reader.proofs.TreeLemmas.{numbers_in_place, no_tree, sound_parts, shallow}
use Rattle.rule_reader.proofs.weights.exprs.read_tree.Goals as goal

pub returns-in_ok-numbered-in-Read : goal.returns-in_ok-numbered-in-Read
returns-in_ok-numbered-in-Read c =
    let items = c.args.items.now in
    let same = c.reborrow-text.ensures.same in
    let read = subst (λ r. IsAnswer c.reborrow-text.result 64 r) c.in-Read.is c.in_ok-parts.ensures in
    let e = read.0 in
    let variables = c.variables_among_words.ensures c.reborrow-text.result e read.1 ∙ ap variables_among same in
    let unknown = c.has_unknown_variable-unknown.ensures ∙ sym (ap (has_unknown items) variables) in (
      e,
      ap tree_of (sym same) ∙ (c.one_tree.ensures c.reborrow-text.result e).1 read.1.1,
      record {
        faults = record {
          unknown = unknown;
          unlawful = sym (not-true (has_large_table e) read.2);
          deep = λ _. shallow e read.3;
        };
        value = λ sound.
            let known = sym unknown ∙ (sound_parts (record { unknown = c.has_unknown_variable-unknown.result; unlawful = false; deep = false }) sound).0 in
            let is = read.4 in
            c.in_ok-numbered-in-Read.ensures is.0 is.1 ∙ numbers_in_place items c.args.words.now e is.0 variables known is.2 is.3;
      },
    )

pub returns-in-Form : goal.returns-in-Form
returns-in-Form c =
    let none = subst (λ r. IsAnswer c.reborrow-text.result 64 r) c.in-Form.is c.in_ok-parts.ensures in
    ap tree_of (sym c.reborrow-text.ensures.same)
    ∙ no_tree c.one_tree.ensures c.reborrow-text.result (subst (λ ws. list_all is_lawful_word ws ≡ true) (sym c.reborrow-text.ensures.same) c.reborrow-text.ensures.lawful) none
