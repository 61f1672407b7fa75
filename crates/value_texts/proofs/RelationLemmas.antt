-- What an answer over relations tells of runs.
use Rattle.std.proofs.Common.{◌≡◌, ◌↔◌, ◌*◌, ℕ, Bool, true, false, cond, List, refl, sym, ap, ◌∙◌, inl, inr, arith}
use Rattle.std.specs.Prelude.{IsTrue, nat_eq, codes}
use Rattle.semiring_laws.specs.Semiring.{Fits}
use Rattle.diagram_store.specs.Nodes.{HasVariablesBelow}
use Rattle.diagram_store.specs.Canonical.{IsCanonical}
use Rattle.relation_laws.specs.Building.{Parts}
use Rattle.relation_laws.specs.Relations.{leads}
use Rattle.relation_laws.proofs.CallerLemmas.{leads_combined, leads_nothing}
use Rattle.relation_weights.specs.declared.rel_map.RelMap.{RelMap}
use Rattle.relation_weights.specs.Relations.{relation_operations}
use Rattle.relation_weights.specs.RelationLaws.{fits_in, relation_laws}
use Rattle.pushdown_rules.specs.Configuration.{Configuration}
use Rattle.pushdown_rules.specs.Pushdown.{Pushdown, IsSystem}
use Rattle.pushdown_rules.specs.Answers.{Answers}
use Rattle.document_systems.specs.RelationWeights.{diagram_text, relation_text}
use Rattle.document_systems.specs.RelationLaws.{relation_zero}
use Rattle.value_texts.specs.Telling.{IsRelated, TellsRelations}
use Rattle.value_texts.proofs.AnswerLemmas.{answer_fits, none_where_zero, some_where_not_zero, holds_by_some}

starts_apart : (variables : List (List ℕ)) (w : Parts) → diagram_text variables w.nodes ≡ codes "unreachable" → ⊥
starts_apart variables w e = let first : ◌≡◌ {A = ℕ} 114 117 = cc in omega (arith, first)

module _ (p : Pushdown ℕ Parts RelMap) (valid : IsSystem relation_operations p) (from to : Configuration → Bool) (v : Parts) (runs : List (List ℕ)) (answer : Answers (relation_operations p.semiring) p from to v runs) where
  pub related_by_some : (old new : ℕ → Bool) → IsTrue (leads v old new) ↔ IsRelated p from to old new
  related_by_some old new =
      let n = p.semiring in
      holds_by_some valid (relation_laws n) (λ w. leads w old new) (leads_nothing n old new)
      (λ a b fa fb. leads_combined n a b (fits_in n a fa) (fits_in n b fb) old new) from to v runs answer

  pub relations_fit : Fits (relation_operations p.semiring) v
  relations_fit = answer_fits valid (relation_laws p.semiring) from to v runs answer

  pub relations_told : (variables : List (List ℕ)) → IsCanonical v.root v.nodes × HasVariablesBelow (2 * p.semiring) v.nodes → TellsRelations p from to variables (relation_text variables v)
  relations_told variables shape = go (nat_eq v.root 0) refl
    where
      zero : (relation_text variables v ≡ codes "unreachable") ↔ (v ≡ (relation_operations p.semiring).zero)
      zero = relation_zero p.semiring variables v tt relations_fit

      go : (b : Bool) → nat_eq v.root 0 ≡ b → TellsRelations p from to variables (cond b (codes "unreachable") (diagram_text variables v.nodes))
      go true is =
          let text = ap (λ c. cond c (codes "unreachable") (diagram_text variables v.nodes)) is in
          inl (none_where_zero valid (relation_laws p.semiring) from to v runs answer (zero.0 text), refl)
      go false is =
          let text = ap (λ c. cond c (codes "unreachable") (diagram_text variables v.nodes)) is in
          inr (
            some_where_not_zero valid (relation_laws p.semiring) from to v runs answer (λ none. starts_apart variables v (sym text ∙ zero.1 none)),
            record { diagram = v; canonical = shape.0; below = shape.1; relates = related_by_some; written = refl },
          )
