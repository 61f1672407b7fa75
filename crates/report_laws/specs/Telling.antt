-- What the report on a document tells.
use Rattle.std.specs.Prelude.{◌≡◌, ◌≢◌, ◌⊎◌, ◌↔◌, ℕ, ◌<◌, ◌≤◌, Bool, List, ◌++◌, length, Option, Some, IfSome, codes, decimal, slice_get}
use Rattle.std.specs.List.{AllByRecursion}
use Rattle.semiring_laws.specs.declared.reach.NoMap.{NoMap}
use Rattle.semiring_laws.specs.Reach.{reach_operations}
use Rattle.cost_weights.specs.Cost.{cost_operations}
use Rattle.pushdown_rules.specs.Pushdown.{Pushdown}
use Rattle.pushdown_rules.specs.Values.{value_of}
use Rattle.pushdown_rules.specs.Answers.{Leads, HasFeasibleRun, HasNoFeasibleRun}
use Rattle.config_patterns.specs.Membership.{PatternValue, has_member}
use Rattle.document_forms.specs.Documents.{Document}
use Rattle.document_forms.specs.declared.document.QueryLine.{QueryLine}
use Rattle.document_forms.specs.declared.weight.WeightText.TheVariants.{Zero}
use Rattle.document_systems.specs.Kinds.{Kind}
use Rattle.document_systems.specs.Weights.{reach_kind, cost_kind}
use Rattle.document_systems.specs.Systems.{system_of, side_of}
use Rattle.report_text.specs.Listings.{query_line}
use Rattle.semiring_laws.specs.Semiring.{Operations}
use Rattle.genkill_weights.specs.GenKill.{genkill_operations}
use Rattle.genkill_weights.specs.Widths.{width_for}
use Rattle.copy_weights.specs.CopyConst.{copy_operations}
use Rattle.relation_weights.specs.Relations.{relation_operations}
use Rattle.pushdown_rules.specs.Configuration.{Configuration}
use Rattle.document_systems.specs.CopyWeights.{copy_kind}
use Rattle.document_systems.specs.FactWeights.{genkill_kind}
use Rattle.document_systems.specs.RelationWeights.{relation_kind}
use Rattle.value_texts.specs.Telling.{NamesFacts, GivesForms, WritesRelation}
use Rattle.wpds_app.specs.Reports.{ByDocument}

-- no feasible run leads from the query's first pattern to its second
abbrev pub IsInfeasible : {S W Map : Type 0} → Kind S W Map → S → Document → QueryLine → Type 0
IsInfeasible kind semiring d q =
    HasNoFeasibleRun (kind.operations semiring) (system_of kind semiring d) (has_member (side_of d q.from)) (has_member (side_of d q.to))

-- `unreachable` is written exactly when there is none, over this semiring and over that of the document
abbrev pub TellsFeasibilityOver : {S W Map : Type 0} → Kind S W Map → S → Document → ℕ → QueryLine → List ℕ → Type 0
TellsFeasibilityOver kind semiring d i q text =
    (text ≡ query_line i (codes "unreachable")) ↔ IsInfeasible kind semiring d q

abbrev pub TellsFeasibility : Document → ℕ → QueryLine → List ℕ → Type 0
TellsFeasibility d i q text =
    (text ≡ query_line i (codes "unreachable"))
    ↔ ByDocument (λ S W Map kind semiring. IsInfeasible kind semiring d q) d

-- no rule of the run has the weight `none`
abbrev pub LeadsOn : Document → List ℕ → Type 0
LeadsOn d run = AllByRecursion (λ k. IfSome (slice_get d.rules k) (λ r. r.weight ≢ Zero)) run

-- with reachability such a run leads from a member of the query's first pattern to one of its second
abbrev pub IsReachable : Document → QueryLine → Type 0
IsReachable d q =
    (run : List ℕ) × LeadsOn d run
    × Leads reach_operations (system_of reach_kind (record {}) d) (has_member (side_of d q.from)) (has_member (side_of d q.to)) run

-- the text says that one does, or that none does, and that is so
abbrev pub TellsReachability : Document → ℕ → QueryLine → List ℕ → Type 0
TellsReachability d i q text =
    (IsReachable d q × (rest : List ℕ) × (text ≡ query_line i (codes "reachable") ++ rest))
    ⊎ ((IsReachable d q → ⊥) × (text ≡ query_line i (codes "unreachable")))

-- a run leads from a member to a member at this cost, and each such run that has a cost has no smaller one
abbrev pub IsCheapest : Pushdown ℕ (Option ℕ) NoMap → PatternValue → PatternValue → ℕ → Type 0
IsCheapest p from to n =
    ((run : List ℕ) × Leads (cost_operations p.semiring) p (has_member from) (has_member to) run × (value_of (cost_operations p.semiring) p run ≡ Some n))
    × ((run : List ℕ) (m : ℕ) → Leads (cost_operations p.semiring) p (has_member from) (has_member to) run → value_of (cost_operations p.semiring) p run ≡ Some m → n ≤ m)

-- The text says of costs that no run leads there, or a cost below the cap, which is that of a cheapest run, or that a run leads there and each costs at least the cap.
abbrev pub TellsCost : Pushdown ℕ (Option ℕ) NoMap → ℕ → PatternValue → PatternValue → List ℕ → Type 0
TellsCost p i from to text =
    (HasNoFeasibleRun (cost_operations p.semiring) p (has_member from) (has_member to) × (text ≡ query_line i (codes "unreachable")))
    ⊎ (((n : ℕ) × (n < p.semiring) × IsCheapest p from to n × (rest : List ℕ) × (text ≡ query_line i (decimal n) ++ rest))
    ⊎ (IsCheapest p from to p.semiring × (rest : List ℕ) × (text ≡ query_line i (decimal p.semiring ++ codes " or more") ++ rest)))

-- with costs up to this cap the text of a query of the document says so
abbrev pub TellsCosts : ℕ → Document → ℕ → QueryLine → List ℕ → Type 0
TellsCosts cap d i q text = TellsCost (system_of cost_kind cap d) i (side_of d q.from) (side_of d q.to) text

-- ---- what values tell of runs

-- The text says that no feasible run leads from the query's first pattern to its second, or begins with a value of whose text this holds, between these patterns and under the document's names.
abbrev pub TellsRuns : {S W Map : Type 0} → Operations W Map → Pushdown S W Map → ((from to : Configuration → Bool) → (names : List (List ℕ)) → List ℕ → Type 0) → Document → ℕ → QueryLine → List ℕ → Type 0
TellsRuns s p holds d i q text =
    let from = has_member (side_of d q.from) in
    let to = has_member (side_of d q.to) in
    (HasNoFeasibleRun s p from to × (text ≡ query_line i (codes "unreachable")))
    ⊎ (HasFeasibleRun s p from to × (value : List ℕ) × holds from to d.items value × (rest : List ℕ) × (text ≡ query_line i value ++ rest))

-- with facts the value names those that some run generates, and those that each feasible run kills
abbrev pub TellsFacts : Document → ℕ → QueryLine → List ℕ → Type 0
TellsFacts d =
    let n = width_for (length d.items) in
    let p = system_of (genkill_kind n) (record {}) d in
    TellsRuns (genkill_operations n) p (NamesFacts n p) d

-- with copies it gives each variable a form, which says the meet of what the runs leave in it
abbrev pub TellsConstants : Document → ℕ → QueryLine → List ℕ → Type 0
TellsConstants d =
    let p = system_of copy_kind (length d.items) d in
    TellsRuns (copy_operations p.semiring) p (GivesForms p) d

-- with relations it is the diagram of the pairs of states that some run relates
abbrev pub TellsRelations : Document → ℕ → QueryLine → List ℕ → Type 0
TellsRelations d =
    let p = system_of relation_kind (length d.items) d in
    TellsRuns (relation_operations p.semiring) p (WritesRelation p) d
