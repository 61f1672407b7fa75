-- Two texts of a part for each query.
use Rattle.std.proofs.Common.{◌≡◌, ◌⊎◌, inl, inr, ℕ, ◌+◌, Bool, true, false, List, [], ◌∷◌, ◌++◌, Option, sym, ap, ◌∙◌, append-nil, append_assoc}
use Rattle.std.specs.Prelude.{codes, if◌then◌else◌}
use Rattle.boolean_machine.specs.Machine.{IsReached}
use Rattle.boolean_programs.specs.Programs.{program_of}
use Rattle.boolean_programs.specs.declared.point.Point.{Point}
use Rattle.boolean_programs.specs.declared.program.Program.{Program as ParsedProgram}
use Rattle.program_reports.specs.ProgramReports.{IsTraced, IsReachedText, TellsPoint}
use Rattle.pushdown_rules.specs.Pushdown.{Pushdown}
use Rattle.relation_laws.specs.Building.{Parts}
use Rattle.relation_weights.specs.declared.rel_map.RelMap.{RelMap}
use Rattle.report_text.specs.Listings.{query_line}
use Rattle.report_text.specs.Reports.{ByQuery, IsBrief, shown, listed}
use Rattle.report_text.specs.declared.options.Options.{Options}
use Rattle.witness_graph.specs.declared.listing.Listing.{Listing}
use Rattle.report_laws.specs.Agreement.{ByBoth, BeginsWith, TellOneVerdict}

-- what follows of each two parts follows of the texts
pub of_both : {Query : Type 0} {P Q : ℕ → Query → List ℕ → Type 0} {Both : ℕ → Query → List ℕ → List ℕ → Type 0}
    → ((i : ℕ) (q : Query) (t u : List ℕ) → P i q t → Q i q u → Both i q t u)
    → (i : ℕ) (qs : List Query) (one other : List ℕ) → ByQuery P i qs one → ByQuery Q i qs other → ByBoth Both i qs one other
of_both follows i [] one other p q = (p, q)
of_both follows i (x ∷ xs) one other p q =
    (p.0, p.1, p.2, q.0, q.1, q.2, follows i x p.0 q.0 p.3 q.3, of_both follows (i + 1) xs p.1 q.1 p.4 q.4)

-- ---- programs

module _ (p : ParsedProgram) (one other : Options) (system system' : Pushdown ℕ Parts RelMap) where
  begins : (options : Options) (q : Pushdown ℕ Parts RelMap) (i : ℕ) (l : Option Listing) (t : List ℕ)
      → IsReachedText options p q i l t → BeginsWith (query_line i (codes "reachable")) t
  begins options q i l t is =
      (listed options l ++ is.trace, is.lines ∙ append_assoc (query_line i (codes "reachable")) (listed options l) is.trace)

  -- one verdict, since a point is reached or not
  pub one_verdict : (i : ℕ) (point : Point) (t u : List ℕ) → TellsPoint one p system i point t → TellsPoint other p system' i point u
      → TellOneVerdict i point t u
  one_verdict i point t u h k = go h.told k.told
    where
      go : ((IsReached (program_of p) point × IsReachedText one p system i h.answer.listing t) ⊎ ((IsReached (program_of p) point → ⊥) × (t ≡ query_line i (codes "unreachable"))))
          → ((IsReached (program_of p) point × IsReachedText other p system' i k.answer.listing u) ⊎ ((IsReached (program_of p) point → ⊥) × (u ≡ query_line i (codes "unreachable"))))
          → TellOneVerdict i point t u
      go (inl a) (inl b) = inl (begins one system i h.answer.listing t a.1, begins other system' i k.answer.listing u b.1)
      go (inl a) (inr b) = absurd (b.0 a.0)
      go (inr a) (inl b) = absurd (a.0 b.0)
      go (inr a) (inr b) = inr (a.1, b.1)

  -- nothing stands below where values alone are written
  untraced : (q : Pushdown ℕ Parts RelMap) (traces : Bool) (l : Option Listing) (t : List ℕ) → traces ≡ false → IsTraced traces p q l t → t ≡ []
  untraced q true l t e is = cc
  untraced q false l t e is = is

  bare : (options : Options) (q : Pushdown ℕ Parts RelMap) (i : ℕ) (l : Option Listing) (t : List ℕ) → IsBrief options
      → IsReachedText options p q i l t → t ≡ query_line i (codes "reachable")
  bare options q i l t brief is =
      is.lines
      ∙ ap (λ b. query_line i (codes "reachable") ++ (if b then [] else shown l) ++ is.trace) brief.0
      ∙ ap (λ x. query_line i (codes "reachable") ++ [] ++ x) (untraced q options.traces l is.trace brief.1 is.traced)
      ∙ append-nil (query_line i (codes "reachable") ++ [])
      ∙ append-nil (query_line i (codes "reachable"))

  pub one_text : IsBrief one → IsBrief other → (i : ℕ) (point : Point) (t u : List ℕ) → TellsPoint one p system i point t
      → TellsPoint other p system' i point u → t ≡ u
  one_text brief brief' i point t u h k = go h.told k.told
    where
      go : ((IsReached (program_of p) point × IsReachedText one p system i h.answer.listing t) ⊎ ((IsReached (program_of p) point → ⊥) × (t ≡ query_line i (codes "unreachable"))))
          → ((IsReached (program_of p) point × IsReachedText other p system' i k.answer.listing u) ⊎ ((IsReached (program_of p) point → ⊥) × (u ≡ query_line i (codes "unreachable"))))
          → t ≡ u
      go (inl a) (inl b) = bare one system i h.answer.listing t brief a.1 ∙ sym (bare other system' i k.answer.listing u brief' b.1)
      go (inl a) (inr b) = absurd (b.0 a.0)
      go (inr a) (inl b) = absurd (a.0 b.0)
      go (inr a) (inr b) = a.1 ∙ sym b.1
