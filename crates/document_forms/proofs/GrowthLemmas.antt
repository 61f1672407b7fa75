-- What keeps to fewer names keeps to more.
use Rattle.std.proofs.Common.{◌≡◌, ℕ, ◌<◌, ◌≤◌, Bool, true, ◌&&◌, List, map, Option, Some, None, refl, lt_of_lt_of_le}
use Rattle.std.specs.Prelude.{nat_lt}
use Rattle.std.proofs.lemmas.Bool.{ltb-true, lt-ltb}
use Rattle.std.proofs.lemmas.List.Elements.{All-weaker}
use Rattle.std.proofs.Common.{pow_mono}
use Rattle.truth_tables.specs.Formulas.{Formula, Constant, Variable, Opposite, Binary, Ternary, is_over}
use Rattle.document_forms.specs.declared.weight.WeightsLine.{WeightsLine}
use Rattle.document_forms.specs.declared.weight.WeightsLine.TheVariants.{Cost, GenKill, Copy, Relation}
use Rattle.document_forms.specs.declared.weight.FormText.{FormText}
use Rattle.document_forms.specs.declared.weight.FormText.TheVariants.{Varying, Meet}
use Rattle.document_forms.specs.declared.weight.ValueText.{ValueText}
use Rattle.document_forms.specs.declared.weight.ValueText.TheVariants.{Free, Is}
use Rattle.document_forms.specs.declared.weight.Action.{Action}
use Rattle.document_forms.specs.declared.weight.Action.TheVariants.{Assume, Choose, Assign}
use Rattle.document_forms.specs.declared.weight.WeightText.{WeightText}
use Rattle.document_forms.specs.declared.weight.WeightText.TheVariants.{One, Zero, Number, Facts, Forms, Actions}
use Rattle.document_forms.specs.declared.pattern.SetText.{SetText}
use Rattle.document_forms.specs.declared.pattern.SetText.TheVariants.{All as AllSymbols, Listed}
use Rattle.document_forms.specs.declared.pattern.PatternText.{PatternText}
use Rattle.document_forms.specs.declared.document.MapText.{MapText}
use Rattle.document_forms.specs.declared.document.RuleLine.{RuleLine}
use Rattle.document_forms.specs.declared.document.QueryLine.{QueryLine}
use Rattle.document_forms.specs.Lawful.{AreBelow, AreSome, IsExpressionText, IsFormText, IsValueText, IsAction, IsWeightText, IsMapText, IsRuleLine, IsSetText, IsPatternText, IsQueryLine}

all_below : (n m : ℕ) → n ≤ m → (ks : List ℕ) → AreBelow n ks → AreBelow m ks
all_below n m l ks h = All-weaker (λ k. k < n) (λ k. k < m) (λ k b. lt_of_lt_of_le b l) ks h

pub three : (x y z : Bool) → (x && y && z) ≡ true → (x ≡ true) × (y ≡ true) × (z ≡ true)
three true true true h = (refl, refl, refl)
three _ _ _ h = cc

three_from : (x y z : Bool) → x ≡ true → y ≡ true → z ≡ true → (x && y && z) ≡ true
three_from x y z e f g = rw (e, f, g) refl

over_more : (n m : ℕ) → n ≤ m → (f : Formula ℕ) → is_over n f ≡ true → is_over m f ≡ true
over_more n m l (Constant b) h = refl
over_more n m l (Variable k) h = lt-ltb k m (lt_of_lt_of_le (ltb-true k n h) l)
over_more n m l (Opposite f) h = over_more n m l f h
over_more n m l (Binary t f g) h =
    let k = three (nat_lt t 16) (is_over n f) (is_over n g) h in
    three_from (nat_lt t 16) (is_over m f) (is_over m g) k.0 (over_more n m l f k.1) (over_more n m l g k.2)
over_more n m l (Ternary t f g i) h =
    let k = three (is_over n f) (is_over n g) (is_over n i) h in
    three_from (is_over m f) (is_over m g) (is_over m i) (over_more n m l f k.0) (over_more n m l g k.1) (over_more n m l i k.2)

module _ (n m : ℕ) (l : n ≤ m) where
  form_more : (f : FormText) → IsFormText n f → IsFormText m f
  form_more Varying h = tt
  form_more (Meet c bits) h = (h.0, lt_of_lt_of_le h.1 (pow_mono l))

  expression_more : (f : Formula ℕ) → IsExpressionText n f → IsExpressionText m f
  expression_more f h = record { over = over_more n m l f h.over; ternaries = h.ternaries; shallow = h.shallow }

  some_more : (ks : List ℕ) → AreSome n ks → AreSome m ks
  some_more ks h = record { some = h.some; below = all_below n m l ks h.below; once = h.once }

  value_more : (v : ValueText) → IsValueText n v → IsValueText m v
  value_more Free h = tt
  value_more (Is f) h = expression_more f h

  action_more : (a : Action) → IsAction n a → IsAction m a
  action_more (Assume f) h = expression_more f h
  action_more (Choose ks) h = (h.0, all_below n m l ks h.1)
  action_more (Assign ps) h = (some_more (map (λ p. p.variable) ps) h.0, All-weaker (λ p. IsValueText n p.value) (λ p. IsValueText m p.value) (λ p. value_more p.value) ps h.1)

  weight_more : (u : WeightsLine) (w : WeightText) → IsWeightText u n w → IsWeightText u m w
  weight_more u One h = tt
  weight_more u Zero h = tt
  weight_more (Cost cap) (Number k) h = h
  weight_more GenKill (Facts ss) h = some_more (map (λ s. s.fact) ss) h
  weight_more Copy (Forms ps) h = (some_more (map (λ p. p.variable) ps) h.0, All-weaker (λ p. IsFormText n p.form) (λ p. IsFormText m p.form) (λ p. form_more p.form) ps h.1)
  weight_more Relation (Actions acts) h = (h.0, All-weaker (IsAction n) (IsAction m) action_more acts h.1)
  weight_more _ _ h = absurd h

  map_more : (u : WeightsLine) (right : List ℕ) (o : Option MapText) → IsMapText u n right o → IsMapText u m right o
  map_more u right None h = tt
  map_more u right (Some v) h = record {
    push = h.push;
    restore = all_below n m l v.restore h.restore;
    to = all_below n m l (map (λ x. x.to) v.moves) h.to;
    from = all_below n m l (map (λ x. x.from) v.moves) h.from;
    restores = h.restores;
    moves = h.moves;
    once = h.once;
  }

  set_more : (s : SetText) → IsSetText n s → IsSetText m s
  set_more AllSymbols h = tt
  set_more (Listed gs) h = (all_below n m l gs h.0, h.1)

pub rule_with_more : (u : WeightsLine) (c s i d t j : ℕ) → c ≤ d → s ≤ t → i ≤ j → (r : RuleLine) → IsRuleLine u c s i r → IsRuleLine u d t j r
rule_with_more u c s i d t j e f g r h = record {
  control = lt_of_lt_of_le h.control e;
  symbol = lt_of_lt_of_le h.symbol f;
  to = lt_of_lt_of_le h.to e;
  right = all_below s t f r.right h.right;
  short = h.short;
  weight = weight_more i j g u r.weight h.weight;
  map = map_more i j g u r.right r.map h.map;
}

pattern_with_more : (all c s d t : ℕ) → c ≤ d → s ≤ t → (p : PatternText) → IsPatternText all c s p → IsPatternText all d t p
pattern_with_more all c s d t e f p h = record {
  control = lt_of_lt_of_le h.control e;
  items = All-weaker (λ i. IsSetText s i.set) (λ i. IsSetText t i.set) (λ i. set_more s t f i.set) p.items h.items;
  few = h.few;
  edges = h.edges;
}

pub query_with_more : (all c s d t : ℕ) → c ≤ d → s ≤ t → (q : QueryLine) → IsQueryLine all c s q → IsQueryLine all d t q
query_with_more all c s d t e f q h = record {
  from = pattern_with_more all c s d t e f q.from h.from;
  to = pattern_with_more all c s d t e f q.to h.to;
}
