-- What a turn makes of sums of runs, by places.
use Rattle.std.proofs.Common.{◌≡◌, ℕ, ◌≤◌, List, [], ◌∷◌, length, refl, sym, ap, ap₂, ◌∙◌, subst, arith}
use Rattle.std.specs.Prelude.{Option, None, Some, slice_get}
use Rattle.std.proofs.lemmas.Option.{same_Some}
use Rattle.wpds_base.specs.Lists.{IsIn}
use Rattle.semiring_laws.specs.Semiring.{Operations, IsSemiring}
use Rattle.weighted_automata.specs.declared.place.Label.{Label}
use Rattle.weighted_automata.specs.declared.place.Label.TheVariants.{Symbol, Empty}
use Rattle.weighted_automata.specs.declared.place.Place.{Place}
use Rattle.pushdown_rules.specs.declared.rule.Rule.{Rule}
use Rattle.pushdown_rules.specs.Configuration.{Configuration, at_stack}
use Rattle.pushdown_rules.specs.Pushdown.{Pushdown, IsSystem}
use Rattle.pushdown_rules.specs.Values.{value_of}
use Rattle.pushdown_rules.proofs.CallerLemmas.{value_fits}
use Rattle.config_patterns.specs.declared.edge.Edge.{Edge}
use Rattle.value_laws.specs.Runs.{Sums}
use Rattle.value_laws.proofs.CallerLemmas.{sums_combine}
use Rattle.forward_value_laws.specs.Model.{Source, item, callee, head_of, Comes}
use Rattle.forward_value_laws.specs.Settling.{call_weight}
use Rattle.forward_value_laws.proofs.CallerLemmas.{starts_sum, uncovered_sum, step_sum, entered_sum, return_sum}
use Rattle.forward_value_search.specs.Places.{label_of, number_of, place_by, short_label, arrow, IsAt}
use Rattle.forward_value_search.specs.Settled.{head_at, SumsAt}
use Rattle.forward_value_search.proofs.NumberLemmas.{item_number, one_source}

-- What it says that a row and a source are at a place.
pub record Parts (control : ℕ) (label : Option Label) (number : Option ℕ) (x : Place) : Type 0 where
  pub from : control ≡ x.from
  pub label_is : label ≡ Some x.label
  pub number_is : number ≡ Some x.to

pub parts : (control : ℕ) (label : Option Label) (number : Option ℕ) (x : Place) → place_by control label number ≡ Some x → Parts control label number x
parts control None number x e = cc
parts control (Some l) None x e = cc
parts control (Some l) (Some n) x e =
    let same : arrow control l n ≡ x = same_Some (arrow control l n) x e in record {
      from = ap (λ (y : Place). y.from) same;
      label_is = ap (λ (y : Place). Some y.label) same;
      number_is = ap (λ (y : Place). Some y.to) same;
    }

-- a row by its label
row_is : (word : List ℕ) (l : Label) → label_of word ≡ Some l → (other : List ℕ) → label_of other ≡ Some l → word ≡ other
row_is [] l e [] f = refl
row_is [] l e (g ∷ []) f = let same : Empty ≡ Symbol g = same_Some Empty (Symbol g) (e ∙ sym f) in cc
row_is [] l e (g ∷ h ∷ other) f = cc
row_is (g ∷ []) l e [] f = let same : Symbol g ≡ Empty = same_Some (Symbol g) Empty (e ∙ sym f) in cc
row_is (g ∷ []) l e (h ∷ []) f = let same : Symbol g ≡ Symbol h = same_Some (Symbol g) (Symbol h) (e ∙ sym f) in cc
row_is (g ∷ []) l e (h ∷ i ∷ other) f = cc
row_is (g ∷ h ∷ word) l e other f = cc

pub short_is : (word : List ℕ) → length word ≤ 1 → label_of word ≡ Some (short_label word)
short_is [] few = refl
short_is (g ∷ []) few = refl
short_is (g ∷ h ∷ word) few = absurd (omega arith)

module _ {S W Map : Type 0} {operations : S → Operations W Map} {p : Pushdown S W Map} (valid : IsSystem operations p) (laws : IsSemiring (operations p.semiring)) (items start : ℕ) (edges : List Edge) where
  abbrev s : Operations W Map
  s = operations p.semiring

  abbrev SumTo : Configuration → Source → W → Type 0
  SumTo row from w = Sums s (value_of s p) (Comes p start edges row from) w

  abbrev At : Place → W → Type 0
  At x w = SumsAt s p items start edges x w

  -- a place of which one row and the number are known
  at_row : (control : ℕ) (word : List ℕ) (l : Label) → label_of word ≡ Some l → (n : ℕ) (w : W) → ((from : Source) → number_of items p from ≡ Some n → SumTo (at_stack control word) from w) → At (arrow control l n) w
  at_row control word l label n w each row from few at =
      let is = parts row.control (label_of row.stack) (number_of items p from) (arrow control l n) at in
      let same : at_stack control word ≡ row = ap₂ at_stack (sym is.from) (row_is word l label row.stack is.label_is) in
      let P : Configuration → Type 0 = λ c. SumTo c from w in
      subst P same (each from is.number_is)

  is_at : (control : ℕ) (word : List ℕ) (l : Label) → label_of word ≡ Some l → (from : Source) (n : ℕ) → number_of items p from ≡ Some n → IsAt items p (arrow control l n) (at_stack control word) from
  is_at control word l label from n number = ap₂ (λ a b. place_by control a b) label number

  pub start_at : At (arrow start Empty 0) s.one
  start_at = at_row start [] Empty refl 0 s.one (λ from number.
      let P : Source → Type 0 = λ o. SumTo (at_stack start []) o s.one in
      subst P (one_source items p (item 0) from 0 (item_number items p 0 (omega arith)) number) (starts_sum valid laws start edges))

  pub read_at : (q i g j : ℕ) → i ≤ items → j ≤ items → IsIn (record { from = i; symbol = g; to = j }) edges → (w : W) → At (arrow q Empty i) w → At (arrow q (Symbol g) j) w
  read_at q i g j few few' edge w sum = at_row q (g ∷ []) (Symbol g) refl j w (λ from number.
      let P : Source → Type 0 = λ o. SumTo (at_stack q (g ∷ [])) o w in
      let below : SumTo (at_stack q []) (item i) w = sum (at_stack q []) (item i) (omega arith) (is_at q [] Empty refl (item i) i (item_number items p i few)) in
      subst P (one_source items p (item j) from j (item_number items p j few') number) (uncovered_sum valid laws start edges q i g j edge w below))

  module _ (k : ℕ) (r : Rule S W Map) (there : slice_get p.rules k ≡ Some r) where
    pub step_at : length r.right ≤ 1 → (n : ℕ) (w : W) → At (head_at r n) w → At (arrow r.to (short_label r.right) n) (s.extend w r.weight)
    step_at few n w sum = at_row r.to r.right (short_label r.right) (short_is r.right few) n (s.extend w r.weight) (λ from number.
        step_sum valid laws start edges k r there few from w (sum (head_of r) from (omega arith) (is_at r.control (r.symbol ∷ []) (Symbol r.symbol) refl from n number)))

    pub enter_at : (a n : ℕ) → number_of items p (callee r.to a) ≡ Some n → At (arrow r.to (Symbol a) n) s.one
    enter_at a n is = at_row r.to (a ∷ []) (Symbol a) refl n s.one (λ from number.
        let P : Source → Type 0 = λ o. SumTo (at_stack r.to (a ∷ [])) o s.one in
        subst P (one_source items p (callee r.to a) from n is number) (entered_sum valid laws start edges r.to a))

    pub return_at : (a b : ℕ) → r.right ≡ a ∷ b ∷ [] → (q m n : ℕ) → number_of items p (callee r.to a) ≡ Some n → (v u : W) → At (head_at r m) v → At (arrow q Empty n) u
        → At (arrow q (Symbol b) m) (s.extend v (call_weight s r u))
    return_at a b right q m n is v u first second = at_row q (b ∷ []) (Symbol b) refl m (s.extend v (call_weight s r u)) (λ from number.
        return_sum valid laws start edges k r there a b right q from v u
        (first (head_of r) from (omega arith) (is_at r.control (r.symbol ∷ []) (Symbol r.symbol) refl from m number))
        (second (at_stack q []) (callee r.to a) (omega arith) (is_at q [] Empty refl (callee r.to a) n is)))

  -- two sums at a place
  pub combine_at : (x : Place) (v w : W) → At x v → At x w → At x (s.combine v w)
  combine_at x v w first second row from few at = sums_combine laws (value_of s p) (λ run. value_fits valid laws run) (Comes p start edges row from) v w (first row from few at) (second row from few at)
