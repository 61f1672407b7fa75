-- What lies below sources is made of runs, and a walk by it gives the answer.
use Rattle.std.proofs.Common.{◌≡◌, ◌≢◌, ◌⊎◌, inl, inr, ℕ, true, false, List, [], ◌∷◌, ◌++◌, length, refl, sym, ap, ◌∙◌, subst, ◌<◌, ◌≤◌, arith}
use Rattle.std.specs.Prelude.{All, Some, slice_get, IsTrue, IsFalse, Bool, nat_eq}
use Rattle.std.specs.List.{AllByRecursion}
use Rattle.std.proofs.lemmas.Bool.{and_parts, and_from, eqb-true, eq-eqb, cases_Bool}
use Rattle.wpds_base.specs.Lists.{IsIn}
use Rattle.semiring_laws.specs.Semiring.{Operations, IsSemiring, Fits, Below}
use Rattle.semiring_laws.proofs.CallerLemmas.{below_trans, below_zero, extend_keeps_below, extend_left_keeps_below}
use Rattle.pushdown_rules.specs.declared.rule.Rule.{Rule}
use Rattle.pushdown_rules.specs.Configuration.{Configuration, at_stack}
use Rattle.pushdown_rules.specs.Pushdown.{Pushdown, IsSystem}
use Rattle.pushdown_rules.specs.Firing.{Run}
use Rattle.pushdown_rules.specs.Values.{value_of}
use Rattle.pushdown_rules.specs.Answers.{Answers, Leads}
use Rattle.pushdown_rules.proofs.CallerLemmas.{rule_at, run_above, run_then, value_fits, weight_fits, open_value, after_value}
use Rattle.config_patterns.specs.declared.edge.Edge.{Edge}
use Rattle.config_patterns.specs.Edges.{edges_of, is_final_of}
use Rattle.config_patterns.specs.Paths.{Reads}
use Rattle.config_patterns.specs.Membership.{PatternValue, has_member, items_match}
use Rattle.forward_value_laws.specs.Model.{Source, item, callee, head_of, Begins, Comes, IsItem, Walks}
use Rattle.forward_value_laws.specs.Tails.{IsSymbol, LiesBelow, TakesRest}
use Rattle.forward_value_laws.proofs.WalkLemmas.{member}
use Rattle.value_laws.specs.Runs.{Sums}
use Rattle.value_laws.proofs.CallerLemmas.{linear_left, linear_right, sums_one, sums_map, sums_pairs}
use Rattle.forward_value_laws.proofs.SoundLemmas.{alone}

-- one word after another is read
pub reads_append : (edges : List Edge) (word more : List ℕ) (i j k : ℕ) → Reads edges i word j → Reads edges j more k → Reads edges i (word ++ more) k
reads_append edges [] more i j k same reads = let P : ℕ → Type 0 = λ n. Reads edges n more k in subst P (sym same) reads
reads_append edges (g ∷ word) more i j k reads next = (reads.0, reads.1, reads_append edges word more reads.0 j k reads.2 next)

module _ {S W Map : Type 0} {operations : S → Operations W Map} {p : Pushdown S W Map} (valid : IsSystem operations p) (laws : IsSemiring (operations p.semiring)) (first wanted : PatternValue) where
  abbrev s : Operations W Map
  s = operations p.semiring

  abbrev value : List ℕ → W
  value = value_of s p

  abbrev fv : (run : List ℕ) → Fits s (value run)
  fv run = value_fits valid laws run

  abbrev edges : List Edge
  edges = edges_of first.items

  abbrev others : List Edge
  others = edges_of wanted.items

  abbrev Below' : Source → List ℕ → Type 0
  Below' from run = LiesBelow p first from run

  abbrev Is : ℕ → Type 0
  Is = IsSymbol p first

  -- a pattern that can be read on to its end
  pub end_sum : (i : ℕ) (word : List ℕ) (last : ℕ) → Reads edges i word last → IsTrue (is_final_of first.items last) → AllByRecursion Is word → Sums s value (Below' (item i)) s.one
  end_sum i word last reads final symbols = sums_one laws value fv (Below' (item i)) [] (word, last, reads, final, symbols, refl)

  -- runs from a source to a configuration
  abbrev From : Source → Configuration → List ℕ → Type 0
  From from d run = (begin : Configuration) × Begins first.control edges from begin × Run p begin run d

  -- One run leads to where the other begins, above some stack, which stays below.
  record Joins (a b : List ℕ) (d : Configuration) : Type 0 where
    pub word : List ℕ
    pub begin : Configuration
    pub is_member : IsTrue (has_member first begin)
    pub goes : Run p begin (a ++ b) (at_stack d.control (d.stack ++ word))
    pub symbols : AllByRecursion Is word
    pub worth : value (a ++ b) ≡ s.extend (value a) (value b)

  joined : (from : Source) (a b : List ℕ) (d : Configuration) → Below' from a → From from d b → (d.stack ≡ [] → IsItem from) → Joins a b d
  joined (item i) a b d (word, last, reads, final, symbols, none) (begin, begins, goes) full =
      let c : Configuration = at_stack begin.control (begin.stack ++ word) in
      let P : List ℕ → Type 0 = λ z. Run p c (z ++ b) (at_stack d.control (d.stack ++ word)) in
      record {
        word = word;
        begin = c;
        is_member = member valid laws first wanted first c last begins.0 (reads_append edges begin.stack word 0 i last begins.1 reads) final;
        goes = subst P (sym none) (run_above p word b begin d goes);
        symbols = symbols;
        worth = ap (λ z. value (z ++ b)) none ∙ sym (ap (λ z. s.extend (value z) (value b)) none ∙ laws.extend-one_left (value b) (fv b));
      }
  joined (callee to g) a b d (word, c, is_member, leads, symbols) (begin, begins, goes) full =
      let P : Configuration → Type 0 = λ y. Run p y b d in
      let on : Run p (at_stack to (g ∷ [])) b d = subst P begins goes in
      record {
        word = word;
        begin = c;
        is_member = is_member;
        goes = run_then p a b c (at_stack to (g ∷ word)) (at_stack d.control (d.stack ++ word)) leads (run_above p word b (at_stack to (g ∷ [])) d on);
        symbols = symbols;
        worth = after_value valid laws a b (at_stack to (g ∷ [])) d on refl (λ e. full e);
      }

  -- below a call that stays open lies what its row leads from, and what is below that
  pub open_sum : (k : ℕ) (r : Rule S W Map) → slice_get p.rules k ≡ Some r → (g h : ℕ) → r.right ≡ g ∷ h ∷ [] → (from : Source) (t v : W) → Sums s value (Below' from) t
      → Sums s value (Comes p first.control edges (head_of r) from) v → Sums s value (Below' (callee r.to g)) (s.extend t (s.extend v r.weight))
  open_sum k r there g h right from t v below row =
      let d : Configuration = at_stack r.to (g ∷ h ∷ []) in
      let fr = weight_fits valid laws k r there in
      let one : Run p (head_of r) (k ∷ []) d = alone valid laws first.control edges k r there (g ∷ h ∷ []) right [] in
      let rule : value (k ∷ []) ≡ r.weight = open_value valid laws k r there g h right [] (at_stack r.to (g ∷ [])) (at_stack r.to (g ∷ [])) refl refl (λ e. cc) ∙ laws.extend-one_right r.weight fr in
      let inner = sums_map laws value fv (Comes p first.control edges (head_of r) from) (From from d) (λ a. a ++ k ∷ []) (λ a. s.extend a r.weight) (linear_right laws r.weight fr)
      (λ run is. (
        (is.begin, is.begins, run_then p run (k ∷ []) is.begin (head_of r) d is.goes one),
        after_value valid laws run (k ∷ []) (head_of r) d one refl (λ e. cc) ∙ ap (s.extend (value run)) rule,
      )) v row in
      let P : List ℕ → Type 0 = λ w. All (λ n. n < p.symbols) w in
      let low : h < p.symbols = (subst P right (rule_at valid k r there).right) 1 0 (omega arith) in
      sums_pairs laws value fv (Below' from) (From from d) (Below' (callee r.to g)) (λ a b. a ++ b) s.extend (linear_right laws) (linear_left laws)
      (λ a b is on. let j = joined from a b d is on (λ e. cc) in ((h ∷ j.word, j.begin, j.is_member, j.goes, (inl low, j.symbols)), j.worth)) t (s.extend v r.weight) below inner

  reads_self : (j : ℕ) → TakesRest Is wanted.items j → (word : List ℕ) → AllByRecursion Is word → Reads others j word j
  reads_self j rest [] all = refl
  reads_self j rest (g ∷ word) all = (j, rest.1 g all.0, reads_self j rest word all.1)

  -- what was read to a state that takes the rest, and what is below its source
  pub tailed_sum : (j : ℕ) → TakesRest Is wanted.items j → (from : Source) (t w : W) → Sums s value (Below' from) t → Sums s value (Walks first.control first.items wanted.control wanted.items p j from) w
      → Sums s value (Leads s p (has_member first) (has_member wanted)) (s.extend t w)
  tailed_sum j rest from t w below walked =
      sums_pairs laws value fv (Below' from) (Walks first.control first.items wanted.control wanted.items p j from) (Leads s p (has_member first) (has_member wanted)) (λ a b. a ++ b) s.extend (linear_right laws) (linear_left laws)
      (λ a b is on.
      let d : Configuration = at_stack wanted.control on.1 in
      let one = joined from a b d is (on.0, on.2, on.3) on.5 in (
        (
          one.begin,
          at_stack wanted.control (on.1 ++ one.word),
          one.is_member,
          member valid laws first wanted wanted (at_stack wanted.control (on.1 ++ one.word)) j refl (reads_append others on.1 one.word 0 j j on.4 (reads_self j rest one.word one.symbols)) rest.0,
          one.goes,
        ),
        one.worth,
      )) t w below walked
