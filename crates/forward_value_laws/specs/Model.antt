-- What a forward search for values knows: for each row and each source a weight. A row is a configuration with at most one symbol.
use Rattle.std.specs.Prelude.{◌≡◌, ◌≢◌, ℕ, ◌≤◌, IsTrue, List, [], ◌∷◌, ◌++◌, length, Some, slice_get, unwrap_or}
use Rattle.wpds_base.specs.Lists.{IsIn}
use Rattle.semiring_laws.specs.Semiring.{Operations, Fits, Below}
use Rattle.pushdown_rules.specs.declared.rule.Rule.{Rule}
use Rattle.pushdown_rules.specs.Configuration.{Configuration, at_stack}
use Rattle.pushdown_rules.specs.Pushdown.{Pushdown}
use Rattle.pushdown_rules.specs.Firing.{Run}
use Rattle.pushdown_rules.specs.Values.{value_of}
use Rattle.config_patterns.specs.declared.edge.Edge.{Edge}
use Rattle.config_patterns.specs.declared.item.Item.{Item}
use Rattle.config_patterns.specs.Edges.{edges_of, is_final_of}
use Rattle.config_patterns.specs.Paths.{Reads}
use Rattle.value_laws.specs.Runs.{Sums}

-- Where the runs of a row begin: where the pattern has been read to a state, or where a callee begins, in a control over a symbol.
pub data Source : Type 0 where
  item : ℕ → Source
  callee : ℕ → ℕ → Source

-- where a rule fires, alone
abbrev pub head_of : {S W Map : Type 0} → Rule S W Map → Configuration
head_of r = at_stack r.control (r.symbol ∷ [])

module _ (start : ℕ) (edges : List Edge) where
  -- runs from this source begin in the configuration
  abbrev pub Begins : Source → Configuration → Type 0
  Begins (item i) c = (c.control ≡ start) × Reads edges 0 c.stack i
  Begins (callee to g) c = c ≡ at_stack to (g ∷ [])

module _ {S W Map : Type 0} (p : Pushdown S W Map) (start : ℕ) (edges : List Edge) where
  -- The run leads from a source to the row.
  pub record Comes (row : Configuration) (from : Source) (run : List ℕ) : Type 0 where
    pub begin : Configuration
    pub begins : Begins start edges from begin
    pub goes : Run p begin run row

module _ {S W Map : Type 0} (s : Operations W Map) (p : Pushdown S W Map) (start : ℕ) (edges : List Edge) (weight : Configuration → Source → W) where
  -- Each weight is made of runs.
  pub record IsSound : Type 0 where
    pub sums : (row : Configuration) (from : Source) → length row.stack ≤ 1 → Sums s (value_of s p) (Comes p start edges row from) (weight row from)

  -- Nothing is left to do: each weight is below what the rules make of others. A transition that is not there weighs zero.
  pub record IsClosed : Type 0 where
    pub fits : (row : Configuration) (from : Source) → Fits s (weight row from)
    pub starts : Below s (weight (at_stack start []) (item 0)) s.one
    -- what lies below a stack that was used up is read on by the pattern
    pub uncovers : (q i g j : ℕ) → IsIn (record { from = i; symbol = g; to = j }) edges
        → Below s (weight (at_stack q (g ∷ [])) (item j)) (weight (at_stack q []) (item i))
    pub steps : (k : ℕ) (r : Rule S W Map) → slice_get p.rules k ≡ Some r → length r.right ≤ 1 → (from : Source)
        → Below s (weight (at_stack r.to r.right) from) (s.extend (weight (head_of r) from) r.weight)
    -- a push rule that fires enters its callee
    pub enters : (k : ℕ) (r : Rule S W Map) → slice_get p.rules k ≡ Some r → (g h : ℕ) → r.right ≡ g ∷ h ∷ [] → (from : Source)
        → weight (head_of r) from ≢ s.zero → Below s (weight (at_stack r.to (g ∷ [])) (callee r.to g)) s.one
    -- and goes on where its callee ends
    pub returns : (k : ℕ) (r : Rule S W Map) → slice_get p.rules k ≡ Some r → (g h : ℕ) → r.right ≡ g ∷ h ∷ [] → (q : ℕ) (from : Source)
        → Below s (weight (at_stack q (h ∷ [])) from)
        (s.extend (weight (head_of r) from) (s.after (unwrap_or r.map s.plain) (s.extend r.weight (weight (at_stack q []) (callee r.to g)))))

abbrev pub IsItem : Source → Type 0
IsItem (item i) = Unit {0}
IsItem (callee to g) = ⊥

module _ {S W Map : Type 0} (s : Operations W Map) (p : Pushdown S W Map) (items : List Item) (weight : Configuration → Source → W) where
  -- A call that has not returned: a push rule from a row, which left h below what it called. No return map is met.
  pub record IsOpen (to g h : ℕ) (from : Source) (w : W) : Type 0 where
    pub number : ℕ
    pub rule : Rule S W Map
    pub there : slice_get p.rules number ≡ Some rule
    pub right : rule.right ≡ g ∷ h ∷ []
    pub into : rule.to ≡ to
    pub worth : w ≡ s.extend (weight (head_of rule) from) rule.weight

  -- A way down from a source over a stack: through open calls, and then through what of the pattern was never used up. The deepest
  -- call is the first factor.
  abbrev pub Down : List ℕ → Source → W → Type 0
  Down word (item i) w = (last : ℕ) × Reads (edges_of items) i word last × IsTrue (is_final_of items last) × (w ≡ s.one)
  Down [] (callee to g) w = ⊥
  Down (h ∷ word) (callee to g) w = (from : Source) × (v : W) × (u : W) × IsOpen to g h from u × Down word from v × (w ≡ s.extend v u)

  -- A configuration is met: a row on top, and a way down from its source, with a product below v.
  pub record IsMet (d : Configuration) (v : W) : Type 0 where
    pub top : List ℕ
    pub under : List ℕ
    pub parts : d.stack ≡ top ++ under
    pub few : length top ≤ 1
    pub from : Source
    -- over nothing from a callee a call has returned, and is not open
    pub full : top ≡ [] → IsItem from
    pub deep : W
    pub down : Down under from deep
    pub below : Below s (s.extend deep (weight (at_stack d.control top) from)) v

-- What a walk over the stacks of a second pattern knows: for each state of that pattern, and each source, a weight. The stack has been read
-- from the top to the state, and what lies below is below that source.
module _ (start : ℕ) (items : List Item) (to : ℕ) (wanted : List Item) where
  abbrev pub Walks : {S W Map : Type 0} → Pushdown S W Map → ℕ → Source → List ℕ → Type 0
  Walks p state from run = (begin : Configuration) × (word : List ℕ) × Begins start (edges_of items) from begin × Run p begin run (at_stack to word)
      × Reads (edges_of wanted) 0 word state × (word ≡ [] → IsItem from)

module _ {S W Map : Type 0} (s : Operations W Map) (p : Pushdown S W Map) (items : List Item) (weight : Configuration → Source → W) (to : ℕ) (wanted : List Item)
    (pair : ℕ → Source → W) (answer : W) where
  -- Nothing is left to do in the walk.
  pub record IsWalked : Type 0 where
    pub fits : (state : ℕ) (from : Source) → Fits s (pair state from)
    pub fits_answer : Fits s answer
    -- a row on top
    pub tops : (g j : ℕ) → IsIn (record { from = 0; symbol = g; to = j }) (edges_of wanted) → (from : Source)
        → Below s (pair j from) (weight (at_stack to (g ∷ [])) from)
    pub uncovered : (i : ℕ) → Below s (pair 0 (item i)) (weight (at_stack to []) (item i))
    -- below a callee lies what an open call left
    pub opens : (k : ℕ) (r : Rule S W Map) → slice_get p.rules k ≡ Some r → (g h : ℕ) → r.right ≡ g ∷ h ∷ [] → (i j : ℕ)
        → IsIn (record { from = i; symbol = h; to = j }) (edges_of wanted) → (from : Source)
        → Below s (pair j from) (s.extend (s.extend (weight (head_of r) from) r.weight) (pair i (callee r.to g)))
    -- below an item lies what the first pattern reads on
    pub reads : (h i j a b : ℕ) → IsIn (record { from = i; symbol = h; to = j }) (edges_of wanted) → IsIn (record { from = a; symbol = h; to = b }) (edges_of items)
        → Below s (pair j (item b)) (pair i (item a))
    pub ends : (j a : ℕ) → IsTrue (is_final_of wanted j) → IsTrue (is_final_of items a) → Below s answer (pair j (item a))
