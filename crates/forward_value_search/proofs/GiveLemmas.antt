-- All that a place gives, by what was done for it.
use Rattle.std.proofs.Common.{◌≡◌, ℕ, ◌<◌, ◌≤◌, ◌+◌, ◌-◌, true, [], ◌∷◌, length, sym, ap, ap₂, ◌∙◌, subst, arith}
use Rattle.std.specs.Prelude.{Some, option_map, slice_get, nat_eq}
use Rattle.std.proofs.lemmas.Bool.{and_from, and_parts, eq-eqb, eqb-true}
use Rattle.std.proofs.lemmas.Option.{same_Some, slice_get_within}
use Rattle.wpds_base.specs.Lists.{IsIn}
use Rattle.semiring_laws.specs.Semiring.{Operations, IsSemiring, Below}
use Rattle.weighted_automata.specs.declared.place.Label.TheVariants.{Symbol, Empty}
use Rattle.weighted_automata.specs.declared.place.Place.{Place}
use Rattle.key_rows.specs.Rows.{index_where}
use Rattle.pushdown_rules.specs.declared.rule.Rule.{Rule}
use Rattle.pushdown_rules.specs.Pushdown.{Pushdown, IsSystem}
use Rattle.pushdown_rules.specs.Rows.{has_head, goes_onto, first_of, is_symbol}
use Rattle.config_patterns.specs.Edges.{edges_of}
use Rattle.config_patterns.specs.Membership.{PatternValue}
use Rattle.weight_tables.specs.Tables.{TablesValue}
use Rattle.forward_value_laws.specs.Model.{callee}
use Rattle.forward_value_laws.specs.Settling.{call_weight}
use Rattle.forward_value_search.specs.Places.{arrow, number_of}
use Rattle.forward_value_search.specs.Settled.{head_at}
use Rattle.forward_value_search.specs.Search.{weights, settled, IsReady, IsOnward, HasGiven, HasGivenAll, HasReturned, Enters}
use Rattle.forward_value_search.proofs.EdgeLemmas.{edge_within}
use Rattle.forward_value_search.proofs.NumberLemmas.{callee_is}
use Rattle.forward_value_search.proofs.MeetLemmas.{met_later, for_rule}

module _ {S W Map : Type 0} (operations : S → Operations W Map) (p : Pushdown S W Map) (first : PatternValue) (v : TablesValue S W Map) (x : Place) where
  abbrev s : Operations W Map
  s = operations p.semiring

  abbrev items : ℕ
  items = length first.items

  -- a row over a symbol
  pub row_gives : (g : ℕ) → x.label ≡ Symbol g → ((k : ℕ) (r : Rule S W Map) → slice_get p.rules k ≡ Some r → has_head x.from g r ≡ true → HasGiven operations p first v r x.to) → HasGivenAll operations p first v x
  row_gives g label each = record {
    reads = λ q i h j at. let no : Symbol g ≡ Empty = sym label ∙ ap (λ (y : Place). y.label) at in cc;
    rules = λ k r there n at.
        let control : r.control ≡ x.from = ap (λ (y : Place). y.from) (sym at) in
        let labels : Symbol r.symbol ≡ Symbol g = ap (λ (y : Place). y.label) (sym at) ∙ label in
        let symbol : r.symbol ≡ g = cc in
        let to : x.to ≡ n = ap (λ (y : Place). y.to) at in
        let P : ℕ → Type 0 = HasGiven operations p first v r in
        subst P to (each k r there (and_from (nat_eq r.control x.from) (nat_eq r.symbol g) (eq-eqb r.control x.from control) (eq-eqb r.symbol g symbol)));
    ends = λ k r there a b right m number q at. let no : Symbol g ≡ Empty = sym label ∙ ap (λ (y : Place). y.label) at in cc;
  }

  module _ (label : x.label ≡ Empty) where
    no_head : (r : Rule S W Map) (n : ℕ) → x ≡ head_at r n → ⊥
    no_head r n at = let no : Empty ≡ Symbol r.symbol = sym label ∙ ap (λ (y : Place). y.label) at in cc

    -- a row over nothing to an item
    pub item_gives : x.to ≤ items → ((g j : ℕ) → IsIn (record { from = x.to; symbol = g; to = j }) (edges_of first.items) → Below s (weights operations p first v (arrow x.from (Symbol g) j)) (settled operations p first v x))
        → HasGivenAll operations p first v x
    item_gives low each = record {
      reads = λ q i g j at edge.
          let to : i ≡ x.to = ap (λ (y : Place). y.to) (sym at) in
          let from : x.from ≡ q = ap (λ (y : Place). y.from) at in
          let P : ℕ → Type 0 = λ n. IsIn (record { from = n; symbol = g; to = j }) (edges_of first.items) in
          let Q : ℕ → Type 0 = λ n. Below s (weights operations p first v (arrow n (Symbol g) j)) (settled operations p first v x) in
          subst Q from (each g j (subst P to edge));
      rules = λ k r there n at. absurd (no_head r n at);
      ends = λ k r there a b right m number q at.
          let is = callee_is items p r.to a m number in
          let behind = is.number in
          let to : x.to ≡ m = ap (λ (y : Place). y.to) at in
          absurd (omega (arith, low, behind, to));
    }

    -- a row over nothing to a callee
    pub end_gives : items < x.to → ((k : ℕ) (r : Rule S W Map) → slice_get p.rules k ≡ Some r → (a b : ℕ) → r.right ≡ a ∷ b ∷ [] → number_of items p (callee r.to a) ≡ Some x.to → HasReturned operations p first v k x)
        → HasGivenAll operations p first v x
    end_gives behind each = record {
      reads = λ q i g j at edge.
          let low = (edge_within first.items (record { from = i; symbol = g; to = j }) edge).0 in
          let to : x.to ≡ i = ap (λ (y : Place). y.to) at in
          absurd (omega (arith, low, behind, to));
      rules = λ k r there n at. absurd (no_head r n at);
      ends = λ k r there a b right m number q at n.
          let to : m ≡ x.to = ap (λ (y : Place). y.to) (sym at) in
          let from : x.from ≡ q = ap (λ (y : Place). y.from) at in
          let met = each k r there a b right (number ∙ ap Some to) r there a b right n r there in
          let P : ℕ → Type 0 = λ c. Below s (weights operations p first v (arrow c (Symbol b) n)) (s.extend (settled operations p first v (head_at r n)) (call_weight s r (settled operations p first v x))) in
          subst P from met;
    }

module _ {S W Map : Type 0} {operations : S → Operations W Map} {p : Pushdown S W Map} (valid : IsSystem operations p) (laws : IsSemiring (operations p.semiring)) (first : PatternValue) where
  pub returned_later : (v new : TablesValue S W Map) → IsReady operations p first v → IsOnward operations p first v new → (k : ℕ) (x : Place) → HasReturned operations p first v k x → HasReturned operations p first new k x
  returned_later v new ready onward k x met r there a b right n = met_later valid laws first k r there a b right v new ready onward (head_at r n) x (met r there a b right n)

-- a rule that goes onto what a callee begins with enters that callee
pub enters_by : {S W Map : Type 0} (operations : S → Operations W Map) (p : Pushdown S W Map) (first : PatternValue) (to top number n : ℕ) → n ≡ length first.items + 1 + number → Some number ≡ index_where (goes_onto to top) p.rules
    → (k : ℕ) (r : Rule S W Map) → slice_get p.rules k ≡ Some r → goes_onto to top r ≡ true → Enters operations p first k n
enters_by operations p first to top number n is onto k r there passes q there' a b right =
    let same : r ≡ q = same_Some r q (sym there ∙ there') in
    let tests = and_parts (nat_eq r.to to) (is_symbol top (first_of r.right)) passes in
    let into : to ≡ q.to = sym (eqb-true r.to to tests.0) ∙ ap (λ (z : Rule _ _ _). z.to) same in
    let test : is_symbol top (first_of (a ∷ b ∷ [])) ≡ true = ap (λ w. is_symbol top (first_of w)) (sym (ap (λ (z : Rule _ _ _). z.right) same ∙ right)) ∙ tests.1 in
    let symbol : top ≡ a = sym (eqb-true a top test) in
    let found : option_map (λ j. length first.items + 1 + j) (index_where (goes_onto to top) p.rules) ≡ Some n = ap (option_map (λ j. length first.items + 1 + j)) (sym onto) ∙ ap Some (sym is) in
    ap₂ (λ c g. option_map (λ j. length first.items + 1 + j) (index_where (goes_onto c g) p.rules)) (sym into) (sym symbol) ∙ found

-- a rule that fires on a row
pub head_by : {S W Map : Type 0} (p : Pushdown S W Map) (x : Place) (g : ℕ) → x.label ≡ Symbol g → (k : ℕ) (r : Rule S W Map) → slice_get p.rules k ≡ Some r → has_head x.from g r ≡ true
    → (q : Rule S W Map) → slice_get p.rules k ≡ Some q → x ≡ head_at q x.to
head_by p x g label k r there passes =
    let tests = and_parts (nat_eq r.control x.from) (nat_eq r.symbol g) passes in
    let is : x ≡ head_at r x.to =
    ap (λ l. arrow x.from l x.to) label ∙ ap₂ (λ c h. arrow c (Symbol h) x.to) (sym (eqb-true r.control x.from tests.0)) (sym (eqb-true r.symbol g tests.1)) in
    for_rule p.rules k r there (λ z. x ≡ head_at z x.to) is
