-- The numbers of sources: each is of one source, and a callee that a rule calls has one.
use Rattle.std.proofs.Common.{◌≡◌, ℕ, zero, suc, ◌+◌, ◌-◌, ◌≤◌, ◌<◌, Bool, true, false, List, [], ◌∷◌, length, refl, sym, ap, ap₂, ◌∙◌, subst, arith}
use Rattle.std.specs.Prelude.{Option, None, Some, option_map, slice_get, nat_le, nat_eq, if◌then◌else◌}
use Rattle.std.proofs.lemmas.Bool.{cond-true, cond_both, and_parts, and_from, eqb-true, eq-eqb, leb-true, le-leb}
use Rattle.std.proofs.lemmas.Option.{same_Some, slice_get_within}
use Rattle.key_rows.specs.Rows.{index_where}
use Rattle.pushdown_rules.specs.declared.rule.Rule.{Rule}
use Rattle.pushdown_rules.specs.Pushdown.{Pushdown}
use Rattle.pushdown_rules.specs.Rows.{goes_onto, first_of, is_symbol}
use Rattle.pushdown_rules.proofs.CallerLemmas.{index_found, index_from_start, IsFound}
use Rattle.forward_value_laws.specs.Model.{Source, item, callee}
use Rattle.forward_value_search.specs.Places.{number_of}

abbrev to_of : Source → ℕ
to_of (item i) = 0
to_of (callee to g) = to

abbrev top_of : Source → ℕ
top_of (item i) = 0
top_of (callee to g) = g

first_is : (word : List ℕ) (g : ℕ) → is_symbol g (first_of word) ≡ true → first_of word ≡ Some g
first_is [] g h = cc
first_is (a ∷ word) g h = ap Some (eqb-true a g h)

-- one that passes is found
found_some : {X : Type 0} (t : X → Bool) (xs : List X) (k : ℕ) (x : X) → slice_get xs k ≡ Some x → t x ≡ true → (i : ℕ) × (index_where t xs ≡ Some i)
found_some t [] k x there passes = cc
found_some t (y ∷ xs) zero x there passes =
    let first : t y ≡ true = ap t (same_Some y x there) ∙ passes in
    (0, cond-true (t y) (Some 0) (option_map (λ j. j + 1) (index_where t xs)) first)
found_some t (y ∷ xs) (suc k) x there passes =
    let rest = found_some t xs k x there passes in
    cond_both (t y) (Some 0) (option_map (λ j. j + 1) (index_where t xs)) (λ o. (i : ℕ) × (o ≡ Some i))
    (λ _. (0, refl)) (λ _. (rest.0 + 1, ap (λ o. option_map (λ j. j + 1) o) rest.1))

module _ {S W Map : Type 0} (items : ℕ) (p : Pushdown S W Map) where
  -- an item by its number
  pub item_number : (i : ℕ) → i ≤ items → number_of items p (item i) ≡ Some i
  item_number i few = cond-true (nat_le i items) (Some i) None (le-leb i items few)

  by_test : (b : Bool) (i n : ℕ) → (if b then Some i else None) ≡ Some n → (b ≡ true) × (i ≡ n)
  by_test true i n e = (refl, same_Some i n e)
  by_test false i n e = cc

  -- What the number of a callee says.
  pub record CalleeIs (to g n : ℕ) : Type 0 where
    pub k : ℕ
    pub rule : Rule S W Map
    pub number : n ≡ items + 1 + k
    pub first_at : index_where (goes_onto to g) p.rules ≡ Some k
    pub there : slice_get p.rules k ≡ Some rule
    pub into : rule.to ≡ to
    pub first : first_of rule.right ≡ Some g

  callee_by : (to g n : ℕ) (o : Option ℕ) → index_where (goes_onto to g) p.rules ≡ o → option_map (λ k. items + 1 + k) o ≡ Some n → CalleeIs to g n
  callee_by to g n None is e = cc
  callee_by to g n (Some k) is e =
      let at : IsFound (goes_onto to g) p.rules k = (index_found (goes_onto to g) 0 p.rules k (sym (index_from_start (goes_onto to g) p.rules) ∙ is)).0 in
      let r = at.item in
      let tests = and_parts (nat_eq r.to to) (is_symbol g (first_of r.right)) at.passes in
      record {
        k = k;
        rule = r;
        number = sym (same_Some (items + 1 + k) n e);
        first_at = is;
        there = at.there;
        into = eqb-true r.to to tests.0;
        first = first_is r.right g tests.1;
      }

  pub callee_is : (to g n : ℕ) → number_of items p (callee to g) ≡ Some n → CalleeIs to g n
  callee_is to g n e = callee_by to g n (index_where (goes_onto to g) p.rules) refl e

  -- which rule the number of a callee is that of
  module _ (to g n : ℕ) (number : number_of items p (callee to g) ≡ Some n) where
    pub callee_behind : items < n
    callee_behind = let at = (callee_is to g n number).number in omega (arith, at)

    pub callee_first : index_where (goes_onto to g) p.rules ≡ Some (n - items - 1)
    callee_first =
        let is = callee_is to g n number in
        let at = is.number in
        let k : is.k ≡ n - items - 1 = omega (arith, at) in
        is.first_at ∙ ap Some k

    pub callee_within : n - items - 1 < length p.rules
    callee_within =
        let is = callee_is to g n number in
        let at = is.number in
        let low = slice_get_within p.rules is.k is.rule is.there in
        omega (arith, at, low)

    pub callee_rule : (r : Rule S W Map) → slice_get p.rules (n - items - 1) ≡ Some r → (r.to ≡ to) × (first_of r.right ≡ Some g)
    callee_rule r there =
        let is = callee_is to g n number in
        let at = is.number in
        let k : is.k ≡ n - items - 1 = omega (arith, at) in
        let same : is.rule ≡ r = same_Some is.rule r (sym is.there ∙ ap (slice_get p.rules) k ∙ there) in
        (ap (λ (q : Rule S W Map). q.to) (sym same) ∙ is.into, ap (λ (q : Rule S W Map). first_of q.right) (sym same) ∙ is.first)

  -- a number is of one source
  pub one_source : (a b : Source) (n : ℕ) → number_of items p a ≡ Some n → number_of items p b ≡ Some n → a ≡ b
  one_source (item i) (item j) n e f =
      let is = by_test (nat_le i items) i n e in
      let is' = by_test (nat_le j items) j n f in
      ap item (is.1 ∙ sym is'.1)
  one_source (item i) (callee to g) n e f =
      let is = by_test (nat_le i items) i n e in
      let low : i ≤ items = leb-true i items is.0 in
      let is' = callee_is to g n f in
      let number = is'.number in
      let same = is.1 in
      absurd (omega (arith, low, number, same))
  one_source (callee to g) (item i) n f e =
      let is = by_test (nat_le i items) i n e in
      let low : i ≤ items = leb-true i items is.0 in
      let is' = callee_is to g n f in
      let number = is'.number in
      let same = is.1 in
      absurd (omega (arith, low, number, same))
  one_source (callee to g) (callee to' g') n e f =
      let is = callee_is to g n e in
      let is' = callee_is to' g' n f in
      let one = is.number in
      let two = is'.number in
      let k : is.k ≡ is'.k = omega (arith, one, two) in
      let r : is.rule ≡ is'.rule = same_Some is.rule is'.rule (sym is.there ∙ ap (slice_get p.rules) k ∙ is'.there) in
      let into : to ≡ to' = sym is.into ∙ ap (λ (v : Rule S W Map). v.to) r ∙ is'.into in
      let first : g ≡ g' = same_Some g g' (sym is.first ∙ ap (λ (v : Rule S W Map). first_of v.right) r ∙ is'.first) in
      ap₂ callee into first

  -- the rule of a number goes onto what it calls
  pub onto_itself : (r : Rule S W Map) (g : ℕ) (rest : List ℕ) → r.right ≡ g ∷ rest → goes_onto r.to g r ≡ true
  onto_itself r g rest right = and_from (nat_eq r.to r.to) (is_symbol g (first_of r.right)) (eq-eqb r.to r.to refl) (ap (λ w. is_symbol g (first_of w)) right ∙ eq-eqb g g refl)

  -- a rule that calls the callee of a number goes onto it
  pub goes_there : (to top n : ℕ) → number_of items p (callee to top) ≡ Some n → (r : Rule S W Map) (g : ℕ) (rest : List ℕ) → r.right ≡ g ∷ rest → number_of items p (callee r.to g) ≡ Some n
      → goes_onto to top r ≡ true
  goes_there to top n number r g rest right entered =
      let same : callee r.to g ≡ callee to top = one_source (callee r.to g) (callee to top) n entered number in
      let P : ℕ → Type 0 = λ a. goes_onto a top r ≡ true in
      let Q : ℕ → Type 0 = λ b. goes_onto r.to b r ≡ true in
      subst P (ap to_of same) (subst Q (ap top_of same) (onto_itself r g rest right))

  -- a callee that a rule calls has a number
  pub callee_number : (k : ℕ) (r : Rule S W Map) → slice_get p.rules k ≡ Some r → (g : ℕ) (rest : List ℕ) → r.right ≡ g ∷ rest → (n : ℕ) × (number_of items p (callee r.to g) ≡ Some n)
  callee_number k r there g rest right =
      let at = found_some (goes_onto r.to g) p.rules k r there (onto_itself r g rest right) in
      (items + 1 + at.0, ap (option_map (λ j. items + 1 + j)) at.1)

pub first_within : {X : Type 0} (t : X → Bool) (xs : List X) (j : ℕ) → index_where t xs ≡ Some j → j < length xs
first_within t xs j is = let at = (index_found t 0 xs j (sym (index_from_start t xs) ∙ is)).0 in slice_get_within xs j at.item at.there
