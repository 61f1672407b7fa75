-- What the text of an answer tells of the runs between two sets of configurations.
use Rattle.std.specs.Prelude.{◌≡◌, ◌≢◌, ◌↔◌, ◌⊎◌, ℕ, ◌*◌, ◌<◌, Bool, IsTrue, List, ◌∷◌, ◌++◌, codes}
use Rattle.semiring_laws.specs.Semiring.{Operations, Fits}
use Rattle.genkill_weights.specs.declared.genkill.GenKill.{GenKill}
use Rattle.genkill_weights.specs.declared.weight.GenKillW.{GenKillW}
use Rattle.genkill_weights.specs.declared.weight.MaskMap.{MaskMap}
use Rattle.genkill_weights.specs.Effects.{generates, kills}
use Rattle.genkill_weights.specs.GenKill.{genkill_operations}
use Rattle.copy_weights.specs.declared.form.Form.{Form}
use Rattle.copy_weights.specs.declared.form.CopyW.{CopyW}
use Rattle.copy_weights.specs.declared.form.CopyW.TheVariants.{Map as Changes}
use Rattle.copy_weights.specs.declared.form.CopyMap.{CopyMap}
use Rattle.copy_weights.specs.Forms.{form}
use Rattle.copy_weights.specs.CopyConst.{copy_operations}
use Rattle.copy_weights.specs.Values.{Known, either, value, values}
use Rattle.diagram_store.specs.Nodes.{HasVariablesBelow}
use Rattle.diagram_store.specs.Canonical.{IsCanonical}
use Rattle.relation_laws.specs.Building.{Parts}
use Rattle.relation_laws.specs.Relations.{leads}
use Rattle.relation_weights.specs.declared.rel_map.RelMap.{RelMap}
use Rattle.relation_weights.specs.Relations.{relation_operations}
use Rattle.pushdown_rules.specs.Configuration.{Configuration}
use Rattle.pushdown_rules.specs.Pushdown.{Pushdown}
use Rattle.pushdown_rules.specs.Values.{value_of}
use Rattle.pushdown_rules.specs.Answers.{Leads, HasFeasibleRun, HasNoFeasibleRun}
use Rattle.document_forms.specs.Writing.{spaced}
use Rattle.document_systems.specs.ValueTexts.{names_where, or_one}
use Rattle.document_systems.specs.CopyWeights.{copy_text}
use Rattle.document_systems.specs.RelationWeights.{diagram_text}

-- the text is `unreachable` and no feasible run leads there, or one does and this holds of the text
abbrev pub Tells : {S W Map : Type 0} → Operations W Map → Pushdown S W Map → (from to : Configuration → Bool) → (List ℕ → Type 0) → List ℕ → Type 0
Tells s p from to holds text =
    (HasNoFeasibleRun s p from to × (text ≡ codes "unreachable")) ⊎ (HasFeasibleRun s p from to × holds text)

-- ---- facts, of masks of n words

module _ (n : ℕ) (p : Pushdown (GenKill n) (GenKillW n) (MaskMap n)) (from to : Configuration → Bool) where
  -- some run generates the fact
  abbrev pub IsGenerated : ℕ → Type 0
  IsGenerated f =
      (run : List ℕ) × Leads (genkill_operations n) p from to run
      × IsTrue (generates n (value_of (genkill_operations n) p run) f)

  -- each feasible run kills the fact
  abbrev pub IsKilled : ℕ → Type 0
  IsKilled f =
      (run : List ℕ) → Leads (genkill_operations n) p from to run
      → value_of (genkill_operations n) p run ≢ (genkill_operations n).zero
      → IsTrue (kills n (value_of (genkill_operations n) p run) f)

  -- The text is `gen NAMES kill NAMES`, with the names of the facts that some run generates, and of those that each kills.
  pub record NamesFacts (facts : List (List ℕ)) (text : List ℕ) : Type 0 where
    pub generated : ℕ → Bool
    pub killed : ℕ → Bool
    pub by_some : (f : ℕ) → IsTrue (generated f) ↔ IsGenerated f
    pub by_each : (f : ℕ) → IsTrue (killed f) ↔ IsKilled f
    pub written : text ≡ spaced (
        codes "gen" ∷ or_one (codes "-") (names_where facts generated)
        ++ codes "kill" ∷ or_one (codes "-") (names_where facts killed))

  abbrev pub TellsFacts : (facts : List (List ℕ)) → (text : List ℕ) → Type 0
  TellsFacts facts text = Tells (genkill_operations n) p from to (NamesFacts facts) text

-- ---- copies and constants

-- u lies below v: u varies, or v is undefined, or both are one number
abbrev pub IsBelow : Known → Known → Type 0
IsBelow u v = either u v ≡ u

module _ (p : Pushdown ℕ CopyW CopyMap) (from to : Configuration → Bool) where
  -- what a run leaves in a variable, by what is known of the old values; after one that is not feasible nothing is defined
  abbrev pub left_by : List ℕ → (ℕ → Known) → ℕ → Known
  left_by run old k = values p.semiring (value_of (copy_operations p.semiring) p run) old k

  -- The meet of what the runs leave in a variable: it lies below each, and above all that lies below each.
  pub record IsMeetOfRuns (old : ℕ → Known) (k : ℕ) (meet : Known) : Type 0 where
    pub below :
        (run : List ℕ) → Leads (copy_operations p.semiring) p from to run
        → IsBelow meet (left_by run old k)
    pub greatest : (u : Known)
        → ((run : List ℕ) → Leads (copy_operations p.semiring) p from to run
        → IsBelow u (left_by run old k))
        → IsBelow u meet

  -- The text gives each variable a form, which says by the old values the meet of what the runs leave in it.
  pub record GivesForms (variables : List (List ℕ)) (text : List ℕ) : Type 0 where
    pub forms : List Form
    pub fits : Fits (copy_operations p.semiring) (Changes forms)
    pub meets : (old : ℕ → Known) (k : ℕ) → k < p.semiring
        → IsMeetOfRuns old k (value p.semiring (form forms k) old)
    pub written : text ≡ copy_text variables (Changes forms)

  abbrev pub TellsConstants : (variables : List (List ℕ)) → (text : List ℕ) → Type 0
  TellsConstants variables text = Tells (copy_operations p.semiring) p from to (GivesForms variables) text

-- ---- relations

module _ (p : Pushdown ℕ Parts RelMap) (from to : Configuration → Bool) where
  -- the value of some run leads from the old state to the new one
  abbrev pub IsRelated : (old new : ℕ → Bool) → Type 0
  IsRelated old new =
      (run : List ℕ) × Leads (relation_operations p.semiring) p from to run
      × IsTrue (leads (value_of (relation_operations p.semiring) p run) old new)

  -- The text has the nodes of the canonical diagram that relates the states that some run relates.
  pub record WritesRelation (variables : List (List ℕ)) (text : List ℕ) : Type 0 where
    pub diagram : Parts
    pub canonical : IsCanonical diagram.root diagram.nodes
    pub below : HasVariablesBelow (2 * p.semiring) diagram.nodes
    pub relates : (old new : ℕ → Bool) → IsTrue (leads diagram old new) ↔ IsRelated old new
    pub written : text ≡ diagram_text variables diagram.nodes

  abbrev pub TellsRelations : (variables : List (List ℕ)) → (text : List ℕ) → Type 0
  TellsRelations variables text = Tells (relation_operations p.semiring) p from to (WritesRelation variables) text
