-- What lies below a source, for second patterns that end in any number of any symbols: the walk down is the same for all of them.
use Rattle.std.specs.Prelude.{◌≡◌, ◌⊎◌, ℕ, ◌≤◌, ◌<◌, Bool, IsTrue, IsFalse, List, [], ◌∷◌, Some, slice_get}
use Rattle.std.specs.List.{AllByRecursion}
use Rattle.wpds_base.specs.Lists.{IsIn}
use Rattle.semiring_laws.specs.Semiring.{Operations, Fits, Below}
use Rattle.pushdown_rules.specs.declared.rule.Rule.{Rule}
use Rattle.pushdown_rules.specs.Configuration.{Configuration, at_stack}
use Rattle.pushdown_rules.specs.Pushdown.{Pushdown}
use Rattle.pushdown_rules.specs.Firing.{Run}
use Rattle.config_patterns.specs.declared.item.Item.{Item}
use Rattle.config_patterns.specs.Edges.{edges_of, is_final_of}
use Rattle.config_patterns.specs.Membership.{PatternValue, has_member}
use Rattle.config_patterns.specs.Paths.{Reads}
use Rattle.forward_value_laws.specs.Model.{Source, item, callee, head_of}

module _ {S W Map : Type 0} (p : Pushdown S W Map) (first : PatternValue) where
  -- a symbol of the system or of the pattern
  abbrev pub IsSymbol : ℕ → Type 0
  IsSymbol g = (g < p.symbols) ⊎ (g < first.symbols)

  -- The run leads to where runs from the source begin, above some stack of such symbols: for an item it is the run of no rule, where the pattern reads that stack to its end; for a callee it leads
  -- there from a member of the pattern.
  abbrev pub LiesBelow : Source → List ℕ → Type 0
  LiesBelow (item i) run = (word : List ℕ) × (last : ℕ) × Reads (edges_of first.items) i word last × IsTrue (is_final_of first.items last) × AllByRecursion IsSymbol word × (run ≡ [])
  LiesBelow (callee to g) run = (word : List ℕ) × (begin : Configuration) × IsTrue (has_member first begin) × Run p begin run (at_stack to (g ∷ word)) × AllByRecursion IsSymbol word

-- the state is final, and reads each such symbol to itself
abbrev pub TakesRest : (ℕ → Type 0) → List Item → ℕ → Type 0
TakesRest Is items j = IsTrue (is_final_of items j) × ((g : ℕ) → Is g → IsIn (record { from = j; symbol = g; to = j }) (edges_of items))

-- Weights by source are below what each way down from it is worth: the deepest call is the first factor.
pub record AreTails {S W Map : Type 0} (s : Operations W Map) (p : Pushdown S W Map) (items : List Item) (weight : Configuration → Source → W) (tail : Source → W) : Type 0 where
  pub fits : (from : Source) → Fits s (tail from)
  pub ends : (i : ℕ) (word : List ℕ) (last : ℕ) → Reads (edges_of items) i word last → IsTrue (is_final_of items last) → Below s (tail (item i)) s.one
  pub opens : (k : ℕ) (r : Rule S W Map) → slice_get p.rules k ≡ Some r → (g h : ℕ) → r.right ≡ g ∷ h ∷ [] → (from : Source)
      → Below s (tail (callee r.to g)) (s.extend (tail from) (s.extend (weight (head_of r) from) r.weight))

module _ {S W Map : Type 0} (s : Operations W Map) (p : Pushdown S W Map) (items : List Item) (weight : Configuration → Source → W) (to : ℕ) (wanted : List Item) (stops : ℕ → Bool)
    (tail : Source → W) (pair : ℕ → Source → W) (answer : W) where
  -- Nothing is left to do in a walk that goes no further where tails tell the rest.
  pub record IsWalkedTo : Type 0 where
    pub fits : (state : ℕ) (from : Source) → Fits s (pair state from)
    pub fits_answer : Fits s answer
    pub tops : (g j : ℕ) → IsIn (record { from = 0; symbol = g; to = j }) (edges_of wanted) → (from : Source)
        → Below s (pair j from) (weight (at_stack to (g ∷ [])) from)
    pub uncovered : (i : ℕ) → Below s (pair 0 (item i)) (weight (at_stack to []) (item i))
    pub opens : (k : ℕ) (r : Rule S W Map) → slice_get p.rules k ≡ Some r → (g h : ℕ) → r.right ≡ g ∷ h ∷ [] → (i j : ℕ) → IsFalse (stops i)
        → IsIn (record { from = i; symbol = h; to = j }) (edges_of wanted) → (from : Source)
        → Below s (pair j from) (s.extend (s.extend (weight (head_of r) from) r.weight) (pair i (callee r.to g)))
    pub reads : (h i j a b : ℕ) → IsFalse (stops i) → IsIn (record { from = i; symbol = h; to = j }) (edges_of wanted) → IsIn (record { from = a; symbol = h; to = b }) (edges_of items)
        → Below s (pair j (item b)) (pair i (item a))
    pub ends : (j a : ℕ) → IsFalse (stops j) → IsTrue (is_final_of wanted j) → IsTrue (is_final_of items a) → Below s answer (pair j (item a))
    pub tails : (j : ℕ) → IsTrue (stops j) → (from : Source) → Below s answer (s.extend (tail from) (pair j from))
