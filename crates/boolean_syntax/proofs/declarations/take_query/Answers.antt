use Rattle.std.proofs.Common.{◌≡◌, ℕ, Bool, ◌∷◌, ◌++◌, ◌&&◌, [], not, length, sym, ap, ◌∙◌, refl}
use Rattle.std.specs.Prelude.{nat_le}
use Rattle.wpds_base.specs.Faults.{first_fault}
use Rattle.wpds_base.specs.Limits.{most_queries}
use Rattle.wpds_port.specs.declared.Kind.TheVariants.{Count, Label}
use Rattle.boolean_programs.specs.declared.point.Point.{Point}
use Rattle.boolean_syntax.proofs.DeclarationLemmas.{query_told, line_told}
use Rattle.boolean_syntax.proofs.ReadLemmas.{query_taken}
use Rattle.boolean_syntax.proofs.declarations.take_query.Goals as goal

abbrev point_of : ℕ → Bool → Point
point_of n fails = record { line = n; failed = fails }

pub returns-in-Some-query_kind : goal.returns-in-Some-query_kind
returns-in-Some-query_kind c = λ w above l t h e.
    let old = c.args.reading.now in
    let count : c.len.result ≡ length old.queries.items = c.len.ensures ∙ old.queries.ok.0 in
    record {
      kind =
          sym c.in-Some-query_kind.is ∙ c.query_kind.ensures
          ∙ ap (λ n. first_fault ((nat_le most_queries n, Count) ∷ (c.args.fails && not c.in-Some.row.asserts, Label) ∷ [])) count
          ∙ query_told w above l old h c.args.fails c.args.label.now c.in-Some.row e (c.in-Some.ensures w t);
      taken = tt;
    }

pub returns : goal.returns
returns c = λ w above l t h e.
    let old = c.args.reading.now in
    let fails = c.args.fails in
    let row = c.in-Some.row in
    let count : c.len.result ≡ length old.queries.items = c.len.ensures ∙ old.queries.ok.0 in
    record {
      kind =
          sym c.in_default-query_kind.is ∙ c.query_kind.ensures
          ∙ ap (λ n. first_fault ((nat_le most_queries n, Count) ∷ (fails && not row.asserts, Label) ∷ [])) count
          ∙ query_told w above l old h fails c.args.label.now row e (c.in-Some.ensures w t);
      taken =
          query_taken w above l old h fails c.args.label.now _ e refl refl refl refl refl refl refl refl
          (c.in_ok-push.ensures.items
          ∙ ap (λ n. old.queries.items ++ point_of n fails ∷ []) (line_told w c.args.label.now row (c.in-Some.ensures w t)));
    }
