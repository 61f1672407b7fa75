-- Numbers that keep their bits, one after another from the last.
use Rattle.std.proofs.Common.{◌≡◌, ℕ, ◌+◌, ◌*◌, ◌<◌, ◌≤◌, Bool, true, false, ◌&&◌, ◌||◌, List, [], ◌∷◌, ◌++◌, length, append_assoc, refl, sym, ap, ◌∙◌, subst, inl, inr, arith}
use Rattle.std.specs.Prelude.{None, Some, IsTrue, nat_eq, nat_lt, cond, option_and_then}
use Rattle.std.proofs.lemmas.Bool.{cases_lt, cases_eq, cond-true, eq-eqb, lt-ltb, ltb-true, and_parts, and_from, or_cases, or_left, or_right}
use Rattle.std.proofs.lemmas.List.{length_push}
use Rattle.diagram_store.specs.declared.branch.Branch.{Branch}
use Rattle.diagram_store.specs.Nodes.{node_at, IsAbove, IsReduced, HasVariablesBelow}
use Rattle.diagram_store.specs.Meaning.{value_at}
use Rattle.diagram_store.specs.Canonical.{IsCanonical}
use Rattle.diagram_store.specs.private.Turns.{turn_after, in_turn}
use Rattle.diagram_store.proofs.CallerLemmas.{node_within, one_node, value_at_end, value_at_node, same_cond}
use Rattle.diagram_store.proofs.CallerLemmas.{turn_below, turn_by_branches, canonical_from_turned, reduced_from_fitting}
use Rattle.diagram_ops.specs.private.Scratch.{Keeps}
use Rattle.diagram_ops.specs.Relations.{of_states}
use Rattle.diagram_ops.specs.Quantifying.{is_listed}
use Rattle.diagram_ops.proofs.CallerLemmas.{keeps_both, keeps_within, keeps_above, keeps_value, node_push, node_old, node_last, keeps_push, reduced_push}
use Rattle.relation_laws.specs.States.{old_state, new_state, same_bit}
use Rattle.relation_laws.proofs.CallerLemmas.{turn_kept, same_truth, each_same, each_gives, each_from, old_of_states, new_of_states}
use Rattle.relation_weights.specs.Actions.{frame_pairs}
use Rattle.relation_weights.specs.private.Frames.{frame_from, pair_nodes, IsFrame}

-- ---- the pairs

abbrev keeps_or_free : List ℕ → (ℕ → Bool) → (ℕ → Bool) → ℕ → Bool
keeps_or_free freed x y k = is_listed freed k || same_bit (x k) (y k)

from_gives : (n : ℕ) (freed : List ℕ) (j : ℕ) (x y : ℕ → Bool) → IsTrue (frame_from n freed j x y) → (k : ℕ) → k < n → j ≤ k → IsTrue (keeps_or_free freed x y k)
from_gives n freed j x y h k below past = elim (or_cases (nat_lt k j) (keeps_or_free freed x y k) (each_gives n (λ i. nat_lt i j || keeps_or_free freed x y i) h k below)) [
  | inl less ↦ let f : k < j = ltb-true k j less in absurd (omega arith)
  | inr is ↦ is
]

from_each : (n : ℕ) (freed : List ℕ) (j : ℕ) (x y : ℕ → Bool) → ((k : ℕ) → k < n → j ≤ k → IsTrue (keeps_or_free freed x y k)) → IsTrue (frame_from n freed j x y)
from_each n freed j x y h = each_from n (λ i. nat_lt i j || keeps_or_free freed x y i) (λ k below. elim (cases_lt k j) [
  | inl less ↦ or_left (nat_lt k j) (keeps_or_free freed x y k) (lt-ltb k j less)
  | inr past ↦ or_right (nat_lt k j) (keeps_or_free freed x y k) (h k below past)
])

frame_free : (n : ℕ) (freed : List ℕ) (j : ℕ) → is_listed freed j ≡ true → (x y : ℕ → Bool) → frame_from n freed j x y ≡ frame_from n freed (j + 1) x y
frame_free n freed j listed x y = same_truth (frame_from n freed j x y) (frame_from n freed (j + 1) x y)
    (λ h. from_each n freed (j + 1) x y (λ k below past. from_gives n freed j x y h k below (omega arith)))
    (λ h. from_each n freed j x y (λ k below past. elim (cases_eq k j) [
      | inl is ↦ or_left (is_listed freed k) (same_bit (x k) (y k)) (ap (is_listed freed) is ∙ listed)
      | inr apart ↦ from_gives n freed (j + 1) x y h k below (omega arith)
    ]))

frame_kept : (n : ℕ) (freed : List ℕ) (j : ℕ) → j < n → is_listed freed j ≡ false → (x y : ℕ → Bool) → frame_from n freed j x y ≡ (same_bit (x j) (y j) && frame_from n freed (j + 1) x y)
frame_kept n freed j below stays x y = same_truth (frame_from n freed j x y) (same_bit (x j) (y j) && frame_from n freed (j + 1) x y)
    (λ h. and_from (same_bit (x j) (y j)) (frame_from n freed (j + 1) x y)
    (elim (or_cases (is_listed freed j) (same_bit (x j) (y j)) (from_gives n freed j x y h j below (omega arith))) [
      | inl listed ↦ let f : true ≡ false = sym listed ∙ stays in cc
      | inr is ↦ is
    ])
    (from_each n freed (j + 1) x y (λ k less past. from_gives n freed j x y h k less (omega arith))))
    (λ h.
    let parts = and_parts (same_bit (x j) (y j)) (frame_from n freed (j + 1) x y) h in
    from_each n freed j x y (λ k less past. elim (cases_eq k j) [
      | inl is ↦ or_right (is_listed freed k) (same_bit (x k) (y k)) (ap (λ i. same_bit (x i) (y i)) is ∙ parts.0)
      | inr apart ↦ from_gives n freed (j + 1) x y parts.1 k less (omega arith)
    ]))

frame_whole : (n : ℕ) (freed : List ℕ) (x y : ℕ → Bool) → frame_from n freed 0 x y ≡ frame_pairs n freed x y
frame_whole n freed x y = same_truth (frame_from n freed 0 x y) (frame_pairs n freed x y)
    (λ h. each_from n (keeps_or_free freed x y) (λ k below. from_gives n freed 0 x y h k below (omega arith)))
    (λ h. from_each n freed 0 x y (λ k below past. each_gives n (keeps_or_free freed x y) h k below))

-- ---- one more number

zero_value : (nodes : List Branch) (bits : ℕ → Bool) → value_at nodes 0 bits ≡ false
zero_value nodes bits = value_at_end nodes 0 bits refl

pair_value : (x y g : Bool) → cond x (cond y g false) (cond y false g) ≡ (same_bit x y && g)
pair_value true true g = refl
pair_value true false g = refl
pair_value false true g = refl
pair_value false false g = refl

module _ (n : ℕ) (freed : List ℕ) (j : ℕ) (below : j < n) (rest : ℕ) (nodes : List Branch) (f : IsFrame n freed (j + 1) rest nodes) (stays : is_listed freed j ≡ false) where
  abbrev v : ℕ
  v = 2 * j + 1

  abbrev ma : Branch
  ma = record { var = v; low = rest; high = 0 }

  abbrev n1 : List Branch
  n1 = nodes ++ ma ∷ []

  abbrev a : ℕ
  a = length nodes + 2

  above_rest : IsAbove nodes v rest
  above_rest m e = let w = f.among rest m e in omega (arith, w.0)

  reduced1 : IsReduced n1
  reduced1 = reduced_push nodes f.reduced ma f.within (omega arith) above_rest (λ m e. cc) f.not_false (λ q e. let w = f.among q ma e in absurd (omega (arith, w.0)))

  at1 : node_at n1 a ≡ Some ma
  at1 = node_last nodes ma a refl

  within1 : a < length n1 + 2
  within1 = (node_within n1 a ma at1).1

  value1 : (bits : ℕ → Bool) → value_at n1 a bits ≡ cond (bits v) false (value_at nodes rest bits)
  value1 bits =
      value_at_node n1 reduced1 a ma bits at1
      ∙ same_cond (bits v) (value_at n1 0 bits) (value_at n1 rest bits) false (value_at nodes rest bits) (zero_value n1 bits) (keeps_value nodes f.reduced n1 reduced1 (keeps_push nodes ma) rest f.within bits)

  abbrev mb : Branch
  mb = record { var = v; low = 0; high = rest }

  abbrev n2 : List Branch
  n2 = n1 ++ mb ∷ []

  abbrev b : ℕ
  b = length n1 + 2

  rest_within1 : rest < length n1 + 2
  rest_within1 = keeps_within nodes n1 (keeps_push nodes ma) rest f.within

  fresh2 : (q : ℕ) → node_at n1 q ≡ Some mb → ⊥
  fresh2 q e = elim (node_push nodes ma mb q e) [
    | inl old ↦ let w = f.among q mb old in absurd (omega (arith, w.0))
    | inr new ↦ f.not_false (ap (λ m. m.low) new.1)
  ]

  reduced2 : IsReduced n2
  reduced2 =
      reduced_push n1 reduced1 mb (omega arith) rest_within1 (λ m e. cc) (keeps_above nodes n1 (keeps_push nodes ma) v rest f.within above_rest) (λ e. f.not_false (sym e)) fresh2

  at2 : node_at n2 b ≡ Some mb
  at2 = node_last n1 mb b refl

  within2 : b < length n2 + 2
  within2 = (node_within n2 b mb at2).1

  value2 : (bits : ℕ → Bool) → value_at n2 b bits ≡ cond (bits v) (value_at nodes rest bits) false
  value2 bits =
      value_at_node n2 reduced2 b mb bits at2
      ∙ same_cond (bits v) (value_at n2 rest bits) (value_at n2 0 bits) (value_at nodes rest bits) false
      (keeps_value n1 reduced1 n2 reduced2 (keeps_push n1 mb) rest rest_within1 bits ∙ keeps_value nodes f.reduced n1 reduced1 (keeps_push nodes ma) rest f.within bits)
      (zero_value n2 bits)

  abbrev mc : Branch
  mc = record { var = 2 * j; low = a; high = b }

  abbrev n3 : List Branch
  n3 = n2 ++ mc ∷ []

  abbrev c : ℕ
  c = length n2 + 2

  a_there : node_at n2 a ≡ Some ma
  a_there = node_old n1 mb ma a at1

  above_a : IsAbove n2 (2 * j) a
  above_a m e = let is : ma ≡ m = one_node n2 a ma m a_there e in subst (λ (k : Branch). 2 * j < k.var) is (omega arith)

  above_b : IsAbove n2 (2 * j) b
  above_b m e = let is : mb ≡ m = one_node n2 b mb m at2 e in subst (λ (k : Branch). 2 * j < k.var) is (omega arith)

  apart : (m : Branch) → m.var ≡ v → m ≡ mc → ⊥
  apart m e is = let w : m.var ≡ 2 * j = ap (λ k. k.var) is in absurd (omega arith)

  fresh3 : (q : ℕ) → node_at n2 q ≡ Some mc → ⊥
  fresh3 q e = elim (node_push n1 mb mc q e) [
    | inl old ↦ elim (node_push nodes ma mc q old) [
      | inl older ↦ let w = f.among q mc older in absurd (omega (arith, w.0))
      | inr new ↦ apart ma refl new.1
    ]
    | inr new ↦ apart mb refl new.1
  ]

  a_apart : a ≡ b → ⊥
  a_apart e = let count : length n1 ≡ length nodes + 1 = length_push nodes ma in absurd (omega arith)

  a_within2 : a < length n2 + 2
  a_within2 = keeps_within n1 n2 (keeps_push n1 mb) a within1

  reduced3 : IsReduced n3
  reduced3 = reduced_push n2 reduced2 mc a_within2 within2 above_a above_b a_apart fresh3

  at3 : node_at n3 c ≡ Some mc
  at3 = node_last n2 mc c refl

  value3 : (bits : ℕ → Bool) → value_at n3 c bits ≡ frame_from n freed j (old_state bits) (new_state bits)
  value3 bits =
      value_at_node n3 reduced3 c mc bits at3
      ∙ same_cond (bits (2 * j)) (value_at n3 b bits) (value_at n3 a bits) (cond (bits v) (value_at nodes rest bits) false) (cond (bits v) false (value_at nodes rest bits))
      (keeps_value n2 reduced2 n3 reduced3 (keeps_push n2 mc) b within2 bits ∙ value2 bits)
      (keeps_value n2 reduced2 n3 reduced3 (keeps_push n2 mc) a a_within2 bits ∙ keeps_value n1 reduced1 n2 reduced2 (keeps_push n1 mb) a within1 bits ∙ value1 bits)
      ∙ pair_value (bits (2 * j)) (bits v) (value_at nodes rest bits)
      ∙ ap (λ t. same_bit (bits (2 * j)) (bits v) && t) (f.means bits)
      ∙ sym (frame_kept n freed j below stays (old_state bits) (new_state bits))

  among3 : (r : ℕ) (m : Branch) → node_at n3 r ≡ Some m → (2 * j ≤ m.var) × (m.var < 2 * n)
  among3 r m e = elim (node_push n2 mc m r e) [
    | inl old ↦ elim (node_push n1 mb m r old) [
      | inl older ↦ elim (node_push nodes ma m r older) [
        | inl oldest ↦ let w = f.among r m oldest in (omega (arith, w.0), w.1)
        | inr new ↦ subst (λ (k : Branch). (2 * j ≤ k.var) × (k.var < 2 * n)) new.1 (omega arith, omega arith)
      ]
      | inr new ↦ subst (λ (k : Branch). (2 * j ≤ k.var) × (k.var < 2 * n)) new.1 (omega arith, omega arith)
    ]
    | inr new ↦ subst (λ (k : Branch). (2 * j ≤ k.var) × (k.var < 2 * n)) new.1 (omega arith, omega arith)
  ]

  keeps13 : Keeps n1 n3
  keeps13 = keeps_both n1 n2 n3 (keeps_push n1 mb) (keeps_push n2 mc)

  turn_a : turn_after n3 a 2 a ≡ Some b
  turn_a =
      let count : length n1 ≡ length nodes + 1 = length_push nodes ma in
      let keeps = keeps_both nodes n1 n3 (keeps_push nodes ma) keeps13 in
      turn_by_branches n3 reduced3 2 a ma (omega arith) (keeps13.each a ma at1)
      ∙ ap (λ o. option_and_then (in_turn a) (option_and_then (λ t. turn_after n3 0 t 0) o)) (turn_kept nodes n3 keeps rest 2 rest (length nodes + 2) f.post_order)
      ∙ ap (λ o. option_and_then (in_turn a) o) (turn_below n3 0 (length nodes + 2) 0 (omega arith))
      ∙ cond-true (nat_eq a a) (Some (a + 1)) None (eq-eqb a a refl)
      ∙ ap Some (omega arith)

  turn_b : turn_after n3 b b b ≡ Some c
  turn_b =
      let count : length n2 ≡ length n1 + 1 = length_push n1 mb in
      turn_by_branches n3 reduced3 b b mb (omega arith) ((keeps_push n2 mc).each b mb at2)
      ∙ ap (λ o. option_and_then (in_turn b) (option_and_then (λ t. turn_after n3 rest t rest) o)) (turn_below n3 0 b 0 (omega arith))
      ∙ ap (λ o. option_and_then (in_turn b) o) (turn_below n3 rest b rest rest_within1)
      ∙ cond-true (nat_eq b b) (Some (b + 1)) None (eq-eqb b b refl)
      ∙ ap Some (omega arith)

  turn_c : turn_after n3 c 2 c ≡ Some (length n3 + 2)
  turn_c =
      let count : length n3 ≡ length n2 + 1 = length_push n2 mc in
      turn_by_branches n3 reduced3 2 c mc (omega arith) at3
      ∙ ap (λ o. option_and_then (in_turn c) (option_and_then (λ t. turn_after n3 b t b) o)) turn_a
      ∙ ap (λ o. option_and_then (in_turn c) o) turn_b
      ∙ cond-true (nat_eq c c) (Some (c + 1)) None (eq-eqb c c refl)
      ∙ ap Some (omega arith)

  frame3 : IsFrame n freed j c n3
  frame3 = record {
    reduced = reduced3;
    post_order = turn_c;
    within = (node_within n3 c mc at3).1;
    not_false = λ e. absurd (omega arith);
    among = among3;
    means = value3;
  }

  nodes3 : nodes ++ pair_nodes a j rest ≡ n3
  nodes3 =
      let count : length n1 ≡ length nodes + 1 = length_push nodes ma in
      let is : a + 1 ≡ b = omega arith in
      ap (λ h. nodes ++ ma ∷ mb ∷ record { var = 2 * j; low = a; high = h } ∷ []) is
      ∙ sym (append_assoc nodes (ma ∷ []) (mb ∷ mc ∷ []))
      ∙ sym (append_assoc n1 (mb ∷ []) (mc ∷ []))

  pub frame_added : (root : ℕ) (more : List Branch) → more ≡ nodes ++ pair_nodes (length nodes + 2) j rest → root ≡ length nodes + 4 → IsFrame n freed j root more
  frame_added root more is at =
      let count1 : length n1 ≡ length nodes + 1 = length_push nodes ma in
      let count2 : length n2 ≡ length n1 + 1 = length_push n1 mb in
      let place : c ≡ root = omega arith in
      let P : ℕ → Type 0 = λ r. IsFrame n freed j r n3 in
      let Q : List Branch → Type 0 = λ l. IsFrame n freed j root l in
      subst Q (sym (is ∙ nodes3)) (subst P place frame3)

pub frame_stays : (n : ℕ) (freed : List ℕ) (j rest : ℕ) (nodes : List Branch) → IsFrame n freed (j + 1) rest nodes → is_listed freed j ≡ true → IsFrame n freed j rest nodes
frame_stays n freed j rest nodes f listed = record {
  reduced = f.reduced;
  post_order = f.post_order;
  within = f.within;
  not_false = f.not_false;
  among = λ r m e. let w = f.among r m e in (omega (arith, w.0), w.1);
  means = λ bits. f.means bits ∙ sym (frame_free n freed j listed (old_state bits) (new_state bits));
}

pub frame_begun : (n : ℕ) (freed : List ℕ) (nodes : List Branch) → nodes ≡ [] → IsFrame n freed n 1 nodes
frame_begun n freed nodes e =
    let P : List Branch → Type 0 = λ l. IsFrame n freed n 1 l in
    subst P (sym e)
    (record {
      reduced = reduced_from_fitting [] (λ k m g. cc);
      post_order = turn_below [] 1 2 1 (omega arith);
      within = omega arith;
      not_false = λ g. absurd (omega (arith, g));
      among = λ r m g. let w = node_within [] r m g in absurd (omega (arith, w.0, w.1));
      means = λ bits. value_at_end [] 1 bits refl ∙ sym (from_each n freed n (old_state bits) (new_state bits) (λ k below past. absurd (omega arith)));
    })

pub frame_canonical : (n : ℕ) (freed : List ℕ) (root : ℕ) (nodes : List Branch) → IsFrame n freed 0 root nodes → IsCanonical root nodes
frame_canonical n freed root nodes f = canonical_from_turned root nodes (record { reduced = f.reduced; post_order = f.post_order })

pub frame_relates : (n : ℕ) (freed : List ℕ) (root : ℕ) (nodes : List Branch) → IsFrame n freed 0 root nodes → (x y : ℕ → Bool) → value_at nodes root (of_states x y) ≡ frame_pairs n freed x y
frame_relates n freed root nodes f x y =
    f.means (of_states x y)
    ∙ frame_whole n freed (old_state (of_states x y)) (new_state (of_states x y))
    ∙ each_same n (keeps_or_free freed (old_state (of_states x y)) (new_state (of_states x y))) (keeps_or_free freed x y) (λ k below.
    ap (λ b. is_listed freed k || same_bit b (new_state (of_states x y) k)) (old_of_states x y k) ∙ ap (λ b. is_listed freed k || same_bit (x k) b) (new_of_states x y k))

pub frame_below : (n : ℕ) (freed : List ℕ) (root : ℕ) (nodes : List Branch) → IsFrame n freed 0 root nodes → HasVariablesBelow (2 * n) nodes
frame_below n freed root nodes f r m e = (f.among r m e).1
