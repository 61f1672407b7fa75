-- The values of answers are told by their texts.
use Rattle.std.proofs.Common.{◌≡◌, ◌≢◌, ℕ, zero, suc, ◌*◌, ◌<◌, ◌≤◌, Bool, true, false, cond, ◌||◌, List, [], ◌∷◌, filter, length, map, refl, ap, ap₂, subst, ◌∙◌, arith}
use Rattle.std.specs.Prelude.{All, not, ◌&&◌, bit_or, ℤ, Option, None, Some, IfSome, nat_eq, codes}
use Rattle.std.specs.List.{AllByRecursion}
use Rattle.std.specs.Ordering.{int_eq}
use Rattle.std.proofs.lemmas.Bool.{eqb-true, false_from_ne_true}
use Rattle.std.proofs.lemmas.List.Elements.{All-from_recursion, recursion_from_All}
use Rattle.semiring_laws.specs.Semiring.{Fits, FitsMap}
use Rattle.genkill_weights.specs.declared.weight.GenKillW.{GenKillW}
use Rattle.genkill_weights.specs.GenKill.{genkill_operations}
use Rattle.genkill_weights.specs.GenKillLaws.{genkill_laws}
use Rattle.genkill_weights.specs.Making.{is_listed}
use Rattle.genkill_weights.proofs.CallerLemmas.{Leaves, leaves_after, leaves_combine, leaves_extend, leaves_one, leaves_zero, where_generates, where_kills}
use Rattle.copy_weights.specs.declared.form.Form.{Form}
use Rattle.copy_weights.specs.declared.form.Form.TheVariants.{Varying, Meet}
use Rattle.copy_weights.specs.declared.form.CopyW.{CopyW}
use Rattle.copy_weights.specs.declared.form.CopyW.TheVariants.{Zero as NoRun, Map}
use Rattle.copy_weights.specs.declared.form.CopyMap.{CopyMap}
use Rattle.copy_weights.specs.declared.form.CopyMap.TheVariants.{Plain, Restore}
use Rattle.copy_weights.specs.CopyConst.{copy_operations}
use Rattle.copy_weights.specs.Forms.{joined, with_constant, meet, itself, has, meet_over, put, tabulate, form, over, changed}
use Rattle.diagram_store.specs.Nodes.{HasVariablesBelow}
use Rattle.diagram_store.specs.Canonical.{IsCanonical}
use Rattle.relation_laws.specs.Building.{Parts}
use Rattle.pushdown_rules.specs.Configuration.{Configuration}
use Rattle.pushdown_rules.specs.Answers.{Answers}
use Rattle.document_forms.specs.declared.weight.FactSign.{FactSign}
use Rattle.document_forms.specs.declared.weight.FormText.{FormText}
use Rattle.document_forms.specs.declared.weight.FormText.TheVariants.{Varying as VaryingText, Meet as MeetText}
use Rattle.document_forms.specs.declared.weight.VariableForm.{VariableForm}
use Rattle.document_forms.specs.declared.weight.WeightText.{WeightText}
use Rattle.document_forms.specs.declared.weight.WeightText.TheVariants.{One, Zero, Number, Facts, Forms, Actions}
use Rattle.document_forms.specs.declared.weight.WeightsLine.TheVariants.{GenKill as GenKillLine, Copy as CopyLine, Relation as RelationLine}
use Rattle.document_forms.specs.Documents.{Document}
use Rattle.document_forms.specs.Above.{most_names, item_class}
use Rattle.document_forms.specs.Lawful.{AreNames, IsConstant, IsFormText, IsWeightText, IsDocument}
use Rattle.document_systems.specs.FactLaws.{genkill_weights_fit, genkill_maps_fit}
use Rattle.document_systems.specs.FactWeights.{is_signed, facts_behind, genkill_weight, genkill_kind, IsToldByFacts}
use Rattle.document_systems.specs.CopyWeights.{form_of, change_of, copy_weight, copy_kind, HasConstant, HasConstants, IsToldByVariables}
use Rattle.document_systems.specs.RelationWeights.{IsToldByRelation}
use Rattle.document_systems.specs.Systems.{system_of}
use Rattle.value_texts.proofs.KeptLemmas.{IsKept, answer_has}
use Rattle.value_texts.proofs.RuleLemmas.{rules_have}

-- ---- facts: those without a name are left as they are

-- a fact that is none of these numbers is not behind a sign
behind_not : (m : ℕ) (plus : Bool) (ss : List FactSign) → AllByRecursion (λ k. k < m) (map (λ s. s.fact) ss) → (f : ℕ) → m ≤ f → is_listed (facts_behind plus ss) f ≡ false
behind_not m plus [] below f past = refl
behind_not m plus (s ∷ ss) below f past = go (is_signed plus s) (behind_not m plus ss below.1 f past)
  where
    apart : nat_eq s.fact f ≡ false
    apart = false_from_ne_true (nat_eq s.fact f) (λ e. let same = eqb-true s.fact f e in absurd (omega (arith, same, below.0, past)))

    go : (b : Bool) → is_listed (facts_behind plus ss) f ≡ false → is_listed (map (λ t. t.fact) (cond b (s ∷ filter (is_signed plus) ss) (filter (is_signed plus) ss))) f ≡ false
    go true rest = ap₂ (λ a b. a || b) apart rest
    go false rest = rest

module _ (n m : ℕ) where
  -- the weight fits, and leaves each fact from m on
  abbrev LeavesOthers : GenKillW n → Type 0
  LeavesOthers w = Fits (genkill_operations n) w × ((f : ℕ) → m ≤ f → f < 64 * n → Leaves n f w)

  others_kept : IsKept (genkill_operations n) LeavesOthers (FitsMap (genkill_operations n))
  others_kept = let laws = genkill_laws n in record {
    zero = (laws.fits-zero, λ f past below. leaves_zero n f);
    one = (laws.fits-one, λ f past below. leaves_one n f below);
    plain = laws.fits-plain;
    combine = λ a b ha hb. (laws.fits-combine a b ha.0 hb.0, λ f past below. leaves_combine n f below a b ha.0 hb.0 (ha.1 f past below) (hb.1 f past below));
    extend = λ a b ha hb. (laws.fits-extend a b ha.0 hb.0, λ f past below. leaves_extend n f below a b ha.0 hb.0 (ha.1 f past below) (hb.1 f past below));
    after = λ h a fit ha. (laws.fits-after h a fit ha.0, λ f past below. leaves_after n f below h a fit ha.0 (ha.1 f past below));
  }

  others_left : (t : WeightText) → IsWeightText GenKillLine m t → (f : ℕ) → m ≤ f → f < 64 * n → Leaves n f (genkill_weight n t)
  others_left Zero is f past below = leaves_zero n f
  others_left (Facts ss) is f past below =
      let all = recursion_from_All (λ k. k < m) (map (λ s. s.fact) ss) is.below in
      let gens = is_listed (facts_behind true ss) in
      let killed = is_listed (facts_behind false ss) in
      record {
        generates_not = where_generates n gens killed f below ∙ behind_not m true ss all f past;
        kills_not = where_kills n gens killed f below ∙ ap (λ b. b && not (gens f)) (behind_not m false ss all f past);
      }
  others_left One is f past below = leaves_one n f below
  others_left (Number k) is f past below = leaves_one n f below
  others_left (Forms ps) is f past below = leaves_one n f below
  others_left (Actions acts) is f past below = leaves_one n f below

pub facts_are_told : (n : ℕ) (d : Document) (from to : Configuration → Bool) (v : GenKillW n) (runs : List (List ℕ)) → d.weights ≡ GenKillLine → IsDocument d → All (λ x. x ≢ codes "kill") d.items
    → Answers (genkill_operations n) (system_of (genkill_kind n) (record {}) d) from to v runs → IsToldByFacts n d.items v
facts_are_told n d from to v runs line is others answer =
    let m = length d.items in
    let kind = genkill_kind n in
    let has : LeavesOthers n m v =
    answer_has (others_kept n m) (system_of kind (record {}) d)
    (rules_have kind (record {}) (LeavesOthers n m) (FitsMap (genkill_operations n)) (genkill_laws n).fits-plain GenKillLine m
    (λ t lawful. (genkill_weights_fit n t tt, others_left n m t lawful)) (λ right t lawful. genkill_maps_fit n t tt) d is line refl)
    from to v runs answer in
    record {
      fits = has.0;
      names = subst (λ u. AreNames (most_names u (item_class u)) d.items) line is.items;
      others = others;
      generates_named = λ f past below. (has.1 f past below).generates_not;
      kills_named = λ f past below. (has.1 f past below).kills_not;
    }

-- ---- constants: those of a document are kept by substitution and meet

constant_joined : (s : ℕ) (c d : Option ℤ) → IfSome c IsConstant → IfSome d IsConstant → HasConstant (with_constant s (joined c d))
constant_joined s None d hc hd = hd
constant_joined s (Some x) None hc hd = hc
constant_joined s (Some x) (Some y) hc hd = go (int_eq x y)
  where
    go : (b : Bool) → HasConstant (with_constant s (cond b (Some (Some x)) None))
    go true = hc
    go false = tt

constant_meet : (f g : Form) → HasConstant f → HasConstant g → HasConstant (meet f g)
constant_meet Varying g hf hg = tt
constant_meet (Meet c s) Varying hf hg = tt
constant_meet (Meet c s) (Meet d t) hf hg = constant_joined (bit_or s t) c d hf hg

constant_over_sources : (k : ℕ) (f : ℕ → Form) (s : ℕ) → ((i : ℕ) → HasConstant (f i)) → HasConstant (meet_over k f s)
unfolding meet_over
constant_over_sources zero f s each = tt
constant_over_sources (suc k) f s each = go (has s k) (constant_over_sources k f s each)
  where
    go : (b : Bool) → HasConstant (meet_over k f s) → HasConstant (cond b (meet (f k) (meet_over k f s)) (meet_over k f s))
    go true rest = constant_meet (f k) (meet_over k f s) (each k) rest
    go false rest = rest

constant_put : (n : ℕ) (f : ℕ → Form) (g : Form) → ((i : ℕ) → HasConstant (f i)) → HasConstant g → HasConstant (put n f g)
constant_put n f Varying each hg = tt
constant_put n f (Meet c s) each hg = constant_meet (Meet c 0) (meet_over n f s) hg (constant_over_sources n f s each)

-- each form of a list, and varying past its end
constant_at : (fs : List Form) → AllByRecursion HasConstant fs → (k : ℕ) → HasConstant (form fs k)
unfolding form
constant_at [] all k = tt
constant_at (f ∷ fs) all zero = all.0
constant_at (f ∷ fs) all (suc k) = constant_at fs all.1 k

constants_tabulate : (n : ℕ) (f : ℕ → Form) → ((i : ℕ) → HasConstant (f i)) → AllByRecursion HasConstant (tabulate n f)
unfolding tabulate
constants_tabulate zero f each = tt
constants_tabulate (suc n) f each = (each 0, constants_tabulate n (λ i. f (suc i)) (λ i. each (suc i)))

constants_of : (n : ℕ) (f : ℕ → Form) → ((i : ℕ) → HasConstant (f i)) → HasConstants (Map (tabulate n f))
constants_of n f each = All-from_recursion HasConstant (tabulate n f) (constants_tabulate n f each)

constant_in : (fs : List Form) → HasConstants (Map fs) → (k : ℕ) → HasConstant (form fs k)
constant_in fs all = constant_at fs (recursion_from_All HasConstant fs all)

constant_choice : (b : Bool) (f g : Form) → HasConstant f → HasConstant g → HasConstant (cond b f g)
constant_choice true f g hf hg = hf
constant_choice false f g hf hg = hg

module _ (n : ℕ) where
  combine_constants : (a b : CopyW) → HasConstants a → HasConstants b → HasConstants ((copy_operations n).combine a b)
  combine_constants NoRun b ha hb = hb
  combine_constants (Map fs) NoRun ha hb = ha
  combine_constants (Map fs) (Map gs) ha hb = constants_of n (λ k. meet (form fs k) (form gs k)) (λ k. constant_meet (form fs k) (form gs k) (constant_in fs ha k) (constant_in gs hb k))

  extend_constants : (a b : CopyW) → HasConstants a → HasConstants b → HasConstants ((copy_operations n).extend a b)
  extend_constants NoRun b ha hb = tt
  extend_constants (Map fs) NoRun ha hb = tt
  extend_constants (Map fs) (Map gs) ha hb = constants_of n (λ k. put n (form fs) (form gs k)) (λ k. constant_put n (form fs) (form gs k) (constant_in fs ha) (constant_in gs hb k))

  after_constants : (h : CopyMap) (a : CopyW) → HasConstants a → HasConstants ((copy_operations n).after h a)
  after_constants Plain a ha = ha
  after_constants (Restore vars) NoRun ha = tt
  after_constants (Restore vars) (Map fs) ha =
      constants_of n (λ k. cond (has vars k) (itself k) (form fs k)) (λ k. constant_choice (has vars k) (itself k) (form fs k) tt (constant_in fs ha k))

  one_constants : HasConstants (copy_operations n).one
  one_constants = constants_of n itself (λ k. tt)

  constants_kept : IsKept (copy_operations n) HasConstants (λ h. Unit {0})
  constants_kept = record {
    zero = tt;
    one = one_constants;
    plain = tt;
    combine = combine_constants;
    extend = extend_constants;
    after = λ h a _. after_constants h a;
  }

  constant_cut : (f : Form) → HasConstant f → HasConstant (over n f)
  constant_cut Varying hf = tt
  constant_cut (Meet c s) hf = hf

  constant_text : (items : ℕ) (t : FormText) → IsFormText items t → HasConstant (form_of t)
  constant_text items VaryingText is = tt
  constant_text items (MeetText c from) is = is.0

  constant_changed : (items : ℕ) (ps : List VariableForm) → AllByRecursion (λ p. IsFormText items p.form) ps → (k : ℕ) → HasConstant (changed (map change_of ps) k)
  constant_changed items [] all k = tt
  constant_changed items (p ∷ ps) all k =
      constant_choice (nat_eq p.variable k) (form_of p.form) (changed (map change_of ps) k) (constant_text items p.form all.0) (constant_changed items ps all.1 k)

  weight_constants : (items : ℕ) (t : WeightText) → IsWeightText CopyLine items t → HasConstants (copy_weight n t)
  weight_constants items Zero is = tt
  weight_constants items (Forms ps) is =
      let all = recursion_from_All (λ (p : VariableForm). IsFormText items p.form) ps is.1 in
      constants_of n (λ k. over n (changed (map change_of ps) k)) (λ k. constant_cut (changed (map change_of ps) k) (constant_changed items ps all k))
  weight_constants items One is = one_constants
  weight_constants items (Number k) is = one_constants
  weight_constants items (Facts ss) is = one_constants
  weight_constants items (Actions acts) is = one_constants

pub constants_are_told : (d : Document) (from to : Configuration → Bool) (v : CopyW) (runs : List (List ℕ)) → d.weights ≡ CopyLine → IsDocument d
    → Answers (copy_operations (length d.items)) (system_of copy_kind (length d.items) d) from to v runs → Fits (copy_operations (length d.items)) v → IsToldByVariables (length d.items) d.items v
constants_are_told d from to v runs line is answer fit =
    let n = length d.items in
    record {
      fits = fit;
      names = subst (λ u. AreNames (most_names u (item_class u)) d.items) line is.items;
      all_named = refl;
      constants =
          answer_has (constants_kept n) (system_of copy_kind n d)
          (rules_have copy_kind n HasConstants (λ h. Unit {0}) tt CopyLine n (weight_constants n n) (λ right t lawful. tt) d is line refl)
          from to v runs answer;
    }

-- ---- relations: whatever fits is told

pub relations_are_told : (d : Document) (v : Parts) → d.weights ≡ RelationLine → IsDocument d → IsCanonical v.root v.nodes × HasVariablesBelow (2 * length d.items) v.nodes
    → IsToldByRelation (length d.items) d.items v
relations_are_told d v line is shape = record {
  canonical = shape.0;
  below = shape.1;
  names = subst (λ u. AreNames (most_names u (item_class u)) d.items) line is.items;
  all_named = refl;
}
