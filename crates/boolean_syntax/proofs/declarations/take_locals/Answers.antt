use Rattle.std.proofs.Common.{◌≡◌, ◌||◌, ◌+◌, ◌++◌, true, false, length, sym, ap, ap₂, ◌∙◌, refl}
use Rattle.std.specs.Prelude.{nat_lt}
use Rattle.wpds_base.specs.Limits.{most_related}
use Rattle.document_forms.specs.Names.{has_twice, once}
use Rattle.program_forms.specs.Kinds.{has_known}
use Rattle.program_forms.specs.Programs.{on_last, with_locals}
use Rattle.boolean_syntax.proofs.DeclarationLemmas.{locals_kind}
use Rattle.boolean_syntax.proofs.NameLemmas.{names_said, names_joined}
use Rattle.boolean_syntax.proofs.ReadLemmas.{locals_taken}
use Rattle.boolean_syntax.proofs.declarations.take_locals.Goals as goal

pub returns-then-branch : goal.returns-then-branch
returns-then-branch c = λ w above l xs t h said e.
    let old = c.args.reading.now in
    let names = c.add_names.new.table in
    let added = c.in_ok-add_names.ensures in
    let same = names_said c.args.names.now xs said in
    record {
      kind =
          locals_kind w above l old h xs names true (nat_lt most_related (length names + w.slots)) e c.stands_once.ensures
          (sym c.if-branch.true ∙ added.twice ∙ ap (λ ys. has_twice ys || has_known old.scope.names ys) same)
          (added.names ∙ ap (λ ys. once (old.scope.names ++ ys)) same) (λ _. refl);
      taken = tt;
    }

pub returns-then-is_too_wide : goal.returns-then-is_too_wide
returns-then-is_too_wide c = λ w above l xs t h said e.
    let old = c.args.reading.now in
    let names = c.add_names.new.table in
    let added = c.in_ok-add_names.ensures in
    let same = names_said c.args.names.now xs said in
    record {
      kind =
          locals_kind w above l old h xs names false true e c.stands_once.ensures
          (sym c.if-branch.false ∙ added.twice ∙ ap (λ ys. has_twice ys || has_known old.scope.names ys) same)
          (added.names ∙ ap (λ ys. once (old.scope.names ++ ys)) same)
          (λ _. sym c.if-is_too_wide.true ∙ c.is_too_wide.ensures ∙ ap₂ (λ n s. nat_lt most_related (n + s)) c.len.ensures t.slots);
      taken = tt;
    }

pub returns : goal.returns
returns c = λ w above l xs t h said e.
    let old = c.args.reading.now in
    let names = c.add_names.new.table in
    let added = c.in_ok-add_names.ensures in
    let same = names_said c.args.names.now xs said in
    let twice : false ≡ (has_twice xs || has_known old.scope.names xs) =
    sym c.if-branch.false ∙ added.twice ∙ ap (λ ys. has_twice ys || has_known old.scope.names ys) same in
    let then : names ≡ once (old.scope.names ++ xs) = added.names ∙ ap (λ ys. once (old.scope.names ++ ys)) same in
    record {
      kind =
          locals_kind w above l old h xs names false false e c.stands_once.ensures twice then
          (λ _. sym c.if-is_too_wide.false ∙ c.is_too_wide.ensures ∙ ap₂ (λ n s. nat_lt most_related (n + s)) c.len.ensures t.slots);
      taken =
          locals_taken w above l old h xs names c.add_locals.new.self e
          (names_joined old.scope.names names xs c.stands_once.ensures then (sym twice) ∙ ap (λ k. k ++ xs) h.names)
          (c.in_ok-add_locals.ensures ∙ ap (λ ys. on_last (with_locals ys) old.procs) same);
    }
