-- The walk over the stacks of a second pattern: what it makes are sums of runs, and where nothing is left to do it gives the answer.
use Rattle.std.proofs.Common.{◌≡◌, ◌≢◌, inl, inr, ℕ, List, [], ◌∷◌, ◌++◌, length, refl, sym, ap, ◌∙◌, subst, ◌≤◌, arith}
use Rattle.std.specs.Prelude.{Some, slice_get, IsTrue, nat_eq}
use Rattle.std.proofs.lemmas.Bool.{and_parts, and_from, eqb-true, eq-eqb}
use Rattle.wpds_base.specs.Lists.{IsIn}
use Rattle.semiring_laws.specs.Semiring.{Operations, IsSemiring, Fits, Below}
use Rattle.semiring_laws.proofs.CallerLemmas.{below_trans, below_zero, extend_left_keeps_below}
use Rattle.pushdown_rules.specs.declared.rule.Rule.{Rule}
use Rattle.pushdown_rules.specs.Configuration.{Configuration, at_stack}
use Rattle.pushdown_rules.specs.Pushdown.{Pushdown, IsSystem}
use Rattle.pushdown_rules.specs.Firing.{Run}
use Rattle.pushdown_rules.specs.Values.{value_of}
use Rattle.pushdown_rules.specs.Answers.{Answers, Leads}
use Rattle.pushdown_rules.proofs.CallerLemmas.{run_above, run_then, value_fits, weight_fits, open_value, after_value}
use Rattle.config_patterns.specs.declared.edge.Edge.{Edge}
use Rattle.config_patterns.specs.Edges.{edges_of, is_final_of}
use Rattle.config_patterns.specs.Paths.{Reads}
use Rattle.config_patterns.specs.Membership.{PatternValue, has_member, items_match}
use Rattle.config_patterns.proofs.CallerLemmas.{members_read}
use Rattle.forward_value_laws.specs.Model.{Source, item, callee, head_of, Comes, IsClosed, IsItem, Down, Walks, IsWalked}
use Rattle.forward_value_laws.proofs.MeetingLemmas.{zero_or}
use Rattle.forward_value_laws.proofs.DeepLemmas.{down_fits, run_met}
use Rattle.value_laws.specs.Runs.{Sums}
use Rattle.value_laws.proofs.CallerLemmas.{linear_left, linear_right, sums_fit, sums_map, sums_within, sums_pairs}
use Rattle.forward_value_laws.proofs.SoundLemmas.{read_more, more_above, alone}

module _ {S W Map : Type 0} {operations : S → Operations W Map} {p : Pushdown S W Map} (valid : IsSystem operations p) (laws : IsSemiring (operations p.semiring))
    (first wanted : PatternValue) where
  abbrev s : Operations W Map
  s = operations p.semiring

  abbrev value : List ℕ → W
  value = value_of s p

  abbrev fv : (run : List ℕ) → Fits s (value run)
  fv run = value_fits valid laws run

  abbrev edges : List Edge
  edges = edges_of first.items

  abbrev others : List Edge
  others = edges_of wanted.items

  abbrev To : Configuration → Source → List ℕ → Type 0
  To row from run = Comes p first.control edges row from run

  abbrev Walk : ℕ → Source → List ℕ → Type 0
  Walk state from run = Walks first.control first.items wanted.control wanted.items p state from run

  abbrev Lead : List ℕ → Type 0
  Lead run = Leads s p (has_member first) (has_member wanted) run

  pub tops_sum : (g j : ℕ) → IsIn (record { from = 0; symbol = g; to = j }) others → (from : Source) (w : W)
      → Sums s value (To (at_stack wanted.control (g ∷ [])) from) w → Sums s value (Walk j from) w
  tops_sum g j edge from w sum = sums_within laws value fv (To (at_stack wanted.control (g ∷ [])) from) (Walk j from)
      (λ run is. (is.begin, g ∷ [], is.begins, is.goes, (j, edge, refl), λ e. cc)) w sum

  pub uncovered_top_sum : (i : ℕ) (w : W) → Sums s value (To (at_stack wanted.control []) (item i)) w → Sums s value (Walk 0 (item i)) w
  uncovered_top_sum i w sum = sums_within laws value fv (To (at_stack wanted.control []) (item i)) (Walk 0 (item i))
      (λ run is. (is.begin, [], is.begins, is.goes, refl, λ e. tt)) w sum

  -- a run to where both patterns are read so far is one to where they are read a symbol further
  pub walks_on : (h i j a b : ℕ) → IsIn (record { from = i; symbol = h; to = j }) others → IsIn (record { from = a; symbol = h; to = b }) edges → (run : List ℕ) → Walk i (item a) run → Walk j (item b) run
  walks_on h i j a b edge edge' run is =
      let m = more_above valid laws first.control edges wanted.control a h b is.1 is.0 run edge' is.2 is.3 in
      (at_stack is.0.control (is.0.stack ++ h ∷ []), is.1 ++ h ∷ [], m.0, m.1, read_more others is.1 0 h i j is.4 edge, λ e. tt)

  pub reads_sum : (h i j a b : ℕ) → IsIn (record { from = i; symbol = h; to = j }) others → IsIn (record { from = a; symbol = h; to = b }) edges → (w : W)
      → Sums s value (Walk i (item a)) w → Sums s value (Walk j (item b)) w
  reads_sum h i j a b edge edge' w sum = sums_within laws value fv (Walk i (item a)) (Walk j (item b)) (walks_on h i j a b edge edge') w sum

  module _ (k : ℕ) (r : Rule S W Map) (there : slice_get p.rules k ≡ Some r) (g h : ℕ) (right : r.right ≡ g ∷ h ∷ []) where
    -- from the rule's head over the wanted stack
    abbrev On : ℕ → List ℕ → Type 0
    On j run = (word : List ℕ) × Run p (head_of r) run (at_stack wanted.control (word ++ h ∷ [])) × Reads others 0 (word ++ h ∷ []) j × (word ++ h ∷ [] ≡ [] → ⊥)

    more : (word : List ℕ) → word ++ h ∷ [] ≡ [] → ⊥
    more [] e = cc
    more (x ∷ word) e = cc

    opened : (i j : ℕ) → IsIn (record { from = i; symbol = h; to = j }) others → (run : List ℕ) → Walk i (callee r.to g) run
        → On j (k ∷ run) × (value (k ∷ run) ≡ s.extend r.weight (value run))
    opened i j edge run is =
        let word = is.1 in
        let P : Configuration → Type 0 = λ c. Run p c run (at_stack wanted.control word) in
        let goes : Run p (at_stack r.to (g ∷ [])) run (at_stack wanted.control word) = subst P is.2 is.3 in (
          (
            word,
            run_then p (k ∷ []) run (head_of r) (at_stack r.to (g ∷ h ∷ [])) (at_stack wanted.control (word ++ h ∷ [])) (alone valid laws first.control edges k r there (g ∷ h ∷ []) right [])
                (run_above p (h ∷ []) run (at_stack r.to (g ∷ [])) (at_stack wanted.control word) goes),
            read_more others word 0 h i j is.4 edge,
            more word,
          ),
          open_value valid laws k r there g h right run (at_stack r.to (g ∷ [])) (at_stack wanted.control word) goes refl is.5,
        )

    -- a call that stays open above runs that each read to a state from which an edge leads on
    pub opens_runs : (Is : List ℕ → Type 0) (j : ℕ) → ((run : List ℕ) → Is run → (i : ℕ) × IsIn (record { from = i; symbol = h; to = j }) others × Walk i (callee r.to g) run) → (from : Source) (v w : W)
        → Sums s value (To (head_of r) from) v → Sums s value Is w → Sums s value (Walk j from) (s.extend (s.extend v r.weight) w)
    opens_runs Is j leads from v w above below =
        let fr = weight_fits valid laws k r there in
        let inner = sums_map laws value fv Is (On j) (λ a. k ∷ a) (s.extend r.weight) (linear_left laws r.weight fr) (λ run is. let one = leads run is in opened one.0 j one.1 run one.2) w below in
        let all = sums_pairs laws value fv (To (head_of r) from) (On j) (Walk j from) (λ a b. a ++ b) s.extend (linear_right laws) (linear_left laws)
        (λ a b is on. (
          (is.begin, on.0 ++ h ∷ [], is.begins, run_then p a b is.begin (head_of r) (at_stack wanted.control (on.0 ++ h ∷ [])) is.goes on.1, on.2, λ e. absurd (on.3 e)),
          after_value valid laws a b (head_of r) (at_stack wanted.control (on.0 ++ h ∷ [])) on.1 refl on.3,
        )) v (s.extend r.weight w) above inner in
        let T : W → Type 0 = Sums s value (Walk j from) in
        subst T (sym (laws.extend_assoc v r.weight w (sums_fit laws value fv (To (head_of r) from) v above) fr (sums_fit laws value fv Is w below))) all

    -- and above all runs to one state
    pub opens_sum : (i j : ℕ) → IsIn (record { from = i; symbol = h; to = j }) others → (from : Source) (v w : W)
        → Sums s value (To (head_of r) from) v → Sums s value (Walk i (callee r.to g)) w → Sums s value (Walk j from) (s.extend (s.extend v r.weight) w)
    opens_sum i j edge from v w above below = opens_runs (Walk i (callee r.to g)) j (λ run is. (i, edge, is)) from v w above below

  pub member : (q : PatternValue) (c : Configuration) (last : ℕ) → c.control ≡ q.control → Reads (edges_of q.items) 0 c.stack last → IsTrue (is_final_of q.items last) → IsTrue (has_member q c)
  member q c last at reads final =
      and_from (nat_eq c.control q.control) (items_match q.items c.stack) (eq-eqb c.control q.control at) ((members_read q.items c.stack).1 (last, reads, final))

  -- where both patterns end, the runs are those of the query
  pub walks_lead : (j a : ℕ) → IsTrue (is_final_of wanted.items j) → IsTrue (is_final_of first.items a) → (run : List ℕ) → Walk j (item a) run → Lead run
  walks_lead j a final final' run is = (is.0, at_stack wanted.control is.1, member first is.0 a is.2.0 is.2.1 final', member wanted (at_stack wanted.control is.1) j refl is.4 final, is.3)

  pub ends_sum : (j a : ℕ) → IsTrue (is_final_of wanted.items j) → IsTrue (is_final_of first.items a) → (w : W) → Sums s value (Walk j (item a)) w → Sums s value Lead w
  ends_sum j a final final' w sum = sums_within laws value fv (Walk j (item a)) Lead (walks_lead j a final final') w sum
