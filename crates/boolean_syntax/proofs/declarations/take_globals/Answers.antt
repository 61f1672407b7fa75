use Rattle.std.proofs.Common.{◌||◌, ◌++◌, true, false, sym, ap, ◌∙◌}
use Rattle.document_forms.specs.Names.{has_twice, once}
use Rattle.program_forms.specs.Kinds.{has_known}
use Rattle.boolean_syntax.proofs.DeclarationLemmas.{globals_kind}
use Rattle.boolean_syntax.proofs.NameLemmas.{names_said}
use Rattle.boolean_syntax.proofs.ReadLemmas.{globals_taken}
use Rattle.boolean_syntax.proofs.declarations.take_globals.Goals as goal

pub returns-then-branch : goal.returns-then-branch
returns-then-branch c = λ w above l xs h said e.
    let old = c.args.reading.now in
    let same = names_said c.args.names.now xs said in
    record {
      kind =
          globals_kind w above l old h xs true e
          (sym c.if-branch.true ∙ c.in_ok-add_names.ensures.twice ∙ ap (λ ys. has_twice ys || has_known old.globals ys) same);
      taken = tt;
    }

pub returns : goal.returns
returns c = λ w above l xs h said e.
    let old = c.args.reading.now in
    let same = names_said c.args.names.now xs said in
    record {
      kind =
          globals_kind w above l old h xs false e
          (sym c.if-branch.false ∙ c.in_ok-add_names.ensures.twice ∙ ap (λ ys. has_twice ys || has_known old.globals ys) same);
      taken = globals_taken w above l old h xs c.add_names.new.table e (c.in_ok-add_names.ensures.names ∙ ap (λ ys. once (old.globals ++ ys)) same);
    }
