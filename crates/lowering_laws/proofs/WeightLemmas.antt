-- Diagrams as the weights of the lowering, by the laws of relations as weights.
use Rattle.std.proofs.Common.{◌≡◌, ◌≢◌, ◌↔◌, ℕ, suc, Bool, true, false, not, cond, nat_eq, List, [], ◌∷◌, refl, sym, ap, ap₂, ◌∙◌, subst}
use Rattle.std.specs.Prelude.{IsTrue, Option, None, Some, slice_get, option_map}
use Rattle.std.proofs.lemmas.Bool.{and_parts, and_from}
use Rattle.semiring_laws.specs.Semiring.{Fits, FitsMap}
use Rattle.truth_tables.specs.Formulas.{Formula, Constant, Variable, Opposite, Binary, Ternary}
use Rattle.truth_tables.specs.Tables.{value2_of, value3_of}
use Rattle.relation_laws.specs.Building.{Parts}
use Rattle.relation_laws.specs.States.{AgreeBelow, same_bit, some_state}
use Rattle.relation_laws.specs.Relations.{ReadsPairs, leads, identity}
use Rattle.relation_laws.proofs.CallerLemmas.{same_bit_is, same_bit_itself, agree_same, each_gives, each_from, some_gives, some_of, FitsIn, leads_reads}
use Rattle.relation_weights.specs.declared.rel_map.Slot.{Slot}
use Rattle.relation_weights.specs.declared.rel_map.RelMap.{RelMap}
use Rattle.relation_weights.specs.declared.rel_map.RelMap.TheVariants.{Plain, Slots}
use Rattle.relation_weights.specs.Actions.{value_in, assumed, allows, becomes, assigned}
use Rattle.relation_weights.specs.Relations.{source_of, relation_operations}
use Rattle.relation_weights.specs.RelationLaws.{fits_in, relation_laws}
use Rattle.boolean_programs.specs.declared.statement.Choice.{Choice}
use Rattle.boolean_programs.specs.Lists.{place_in}
use Rattle.boolean_machine.specs.Machine.{value_at, MayBe, value_for, MayBecome}
use Rattle.setting_runs.specs.Relations.{Setting, IsRestored, MeansRelations}
use Rattle.lowering_laws.specs.Lowering.{Means, Assumes, Assigns}
use Rattle.lowering_laws.specs.Weights.{slots_of, choice_of, targets_of, values_of}
use Rattle.lowering_laws.proofs.NameLemmas.{At}

-- ---- the operations

by_truth : (b : Bool) → (b ≡ true → ⊥) → b ≡ false
by_truth true h = absurd (h refl)
by_truth false h = refl

either : (b : Bool) {P : Type 0} → (b ≡ true → P) → (b ≡ false → P) → P
either true f g = f refl
either false f g = g refl

some_same : (n : ℕ) (p q : Setting → Bool) → ((x : Setting) → p x ≡ q x) → some_state n p ≡ some_state n q
some_same n p q same = let e : p ≡ q = λ i x. same x i in ap (some_state n) e

module _ (n : ℕ) (w : Parts) (fit : FitsIn n w) where
  abbrev leads_somewhere : Setting → Bool
  leads_somewhere x = some_state n (leads w x)

  reads : ReadsPairs n (leads w)
  reads = leads_reads n w fit

  somewhere : (x y : Setting) → IsTrue (leads w x y) → IsTrue (leads_somewhere x)
  somewhere x y h = some_of n (leads w x) (λ a b agree. reads x a x b (agree_same n x) agree) y h

  from_somewhere : (x y : Setting) → IsTrue (leads w x y) → IsTrue (some_state n leads_somewhere)
  from_somewhere x y h =
      some_of n leads_somewhere (λ a b agree. some_same n (leads w a) (leads w b) (λ c. reads a c b c agree (agree_same n c))) x (somewhere x y h)

  -- a relation has a pair, or leads nowhere
  pub pair_or_none : {P : Type 0} → ((x : Setting) × (y : Setting) × IsTrue (leads w x y) → P) → (((x y : Setting) → leads w x y ≡ false) → P) → P
  pair_or_none found none = either (some_state n leads_somewhere)
      (λ h. let a = some_gives n 0 leads_somewhere h in let b = some_gives n 0 (leads w a.0) a.1 in found (a.0, b.0, b.1))
      (λ h. none (λ x y. by_truth (leads w x y) (λ there. let e : true ≡ false = sym (from_somewhere x y there) ∙ h in cc)))

  -- the new state may differ outside the n numbers
  pub leads_like : (x y z : Setting) → IsTrue (leads w x z) → AgreeBelow n y z → IsTrue (leads w x y)
  leads_like x y z h agree = reads x y x z (agree_same n x) agree ∙ h

module _ (zero_leads : (n : ℕ) (x y : Setting) → leads (relation_operations n).zero x y ≡ false)
    (one_leads : (n : ℕ) (x y : Setting) → IsTrue (leads (relation_operations n).one x y) ↔ AgreeBelow n x y)
    (extend_leads : (n : ℕ) (a b : Parts) → Fits (relation_operations n) a → Fits (relation_operations n) b → (x z : Setting)
    → IsTrue (leads ((relation_operations n).extend a b) x z) ↔ ((y : Setting) × IsTrue (leads a x y) × IsTrue (leads b y z)))
    (after_leads : (n : ℕ) (slots : List Slot) (a : Parts) → FitsMap (relation_operations n) (Slots slots) → Fits (relation_operations n) a → (x y : Setting)
    → IsTrue (leads ((relation_operations n).after (Slots slots) a) x y) ↔ ((z : Setting) × IsTrue (leads a x z) × AgreeBelow n y (λ v. source_of slots v x z)))
    (equal : (n : ℕ) (a b : Parts) → Fits (relation_operations n) a → Fits (relation_operations n) b → ((x y : Setting) → leads a x y ≡ leads b x y) → a ≡ b) where
  has_pair : (n : ℕ) (w : Parts) → Fits (relation_operations n) w → w ≢ (relation_operations n).zero → (x : Setting) × (y : Setting) × IsTrue (leads w x y)
  has_pair n w fit full = pair_or_none n w (fits_in n w fit) (λ found. found)
      (λ none. absurd (full (equal n w (relation_operations n).zero fit ((relation_laws n).fits-zero) (λ x y. none x y ∙ sym (zero_leads n x y)))))

  is_full : (n : ℕ) (w : Parts) → (x : Setting) × (y : Setting) × IsTrue (leads w x y) → w ≢ (relation_operations n).zero
  is_full n w pair e = let f : true ≡ false = sym pair.2 ∙ ap (λ v. leads v pair.0 pair.1) e ∙ zero_leads n pair.0 pair.1 in cc

  by_map : (n : ℕ) (h : RelMap) (b : Parts) → FitsMap (relation_operations n) h → Fits (relation_operations n) b → (x y : Setting)
      → IsTrue (leads ((relation_operations n).after h b) x y) ↔ ((z : Setting) × IsTrue (leads b x z) × IsRestored n (slots_of h) x z y)
  by_map n Plain b fh fb x y = (λ h. (y, h, λ v _. refl), λ h. leads_like n b (fits_in n b fb) x y h.0 h.1 h.2)
  by_map n (Slots slots) b fh fb x y = after_leads n slots b fh fb x y

  pub means_relations : (n : ℕ) → MeansRelations (relation_operations n) n leads slots_of
  means_relations n = record {
    empty = λ w fit. (has_pair n w fit, is_full n w);
    identity = λ x y. (λ h v below. sym ((one_leads n x y).0 h v below), λ same. (one_leads n x y).1 (λ v below. sym (same v below)));
    composition = extend_leads n;
    return_map = by_map n;
  }

-- ---- the actions

pub identity_agrees : (n : ℕ) (x y : Setting) → IsTrue (identity n x y) → AgreeBelow n y x
identity_agrees n x y h v b = sym (same_bit_is (x v) (y v) (each_gives n (λ k. same_bit (x k) (y k)) h v b))

pub agrees_identity : (n : ℕ) (x y : Setting) → AgreeBelow n y x → IsTrue (identity n x y)
agrees_identity n x y h = each_from n (λ k. same_bit (x k) (y k)) (λ k b. ap (same_bit (x k)) (h k b) ∙ same_bit_itself (x k))

pub value_same : (x : Setting) (f : Formula ℕ) → value_in x f ≡ value_at x f
value_same x (Constant b) = refl
value_same x (Variable k) = refl
value_same x (Opposite f) = ap not (value_same x f)
value_same x (Binary t f g) = ap₂ (value2_of t) (value_same x f) (value_same x g)
value_same x (Ternary t f g h) = ap₂ (λ u v. value3_of t u v (value_in x h)) (value_same x f) (value_same x g) ∙ ap (value3_of t (value_at x f) (value_at x g)) (value_same x h)

-- an assumption's pairs are its meaning
pub assumed_means : (n : ℕ) (f : Formula ℕ) (x y : Setting) → IsTrue (assumed n f x y) ↔ Means n (Assumes f) x y
assumed_means n f x y = (
  λ h. let parts = and_parts (value_in x f) (identity n x y) h in (sym (value_same x f) ∙ parts.0, identity_agrees n x y parts.1),
  λ h. and_from (value_in x f) (identity n x y) (value_same x f ∙ h.0) (agrees_identity n x y h.1),
)

abbrev values_from : List Choice → Option ℕ → Option Choice
values_from values o = elim o [ None ↦ None | Some j ↦ slice_get values j ]

later_value : (c : Choice) (values : List Choice) (o : Option ℕ) → values_from (c ∷ values) (option_map (λ j. suc j) o) ≡ values_from values o
later_value c values None = refl
later_value c values (Some j) = refl

may_allow : (v : Option (Formula ℕ)) (x : Setting) (b : Bool) → IsTrue (allows v x b) → MayBe x (choice_of v) b
may_allow None x b h = tt
may_allow (Some e) x b h = same_bit_is b (value_in x e) h ∙ value_same x e

allow_may : (v : Option (Formula ℕ)) (x : Setting) (b : Bool) → MayBe x (choice_of v) b → IsTrue (allows v x b)
allow_may None x b h = refl
allow_may (Some e) x b h = ap (same_bit b) (value_same x e ∙ sym h) ∙ same_bit_itself b

module _ (x : Setting) (k : ℕ) (b : Bool) where
  at_value : (t : ℕ × Option (Formula ℕ)) (ts : List (ℕ × Option (Formula ℕ))) (test : Bool) → nat_eq t.0 k ≡ test
      → value_for (targets_of (t ∷ ts)) (values_of (t ∷ ts)) k ≡ cond test (Some (choice_of t.1)) (value_for (targets_of ts) (values_of ts) k)
  at_value t ts true e = ap (λ c. values_from (values_of (t ∷ ts)) (cond c (Some 0) (option_map (λ j. suc j) (place_in (targets_of ts) k)))) e
  at_value t ts false e =
      ap (λ c. values_from (values_of (t ∷ ts)) (cond c (Some 0) (option_map (λ j. suc j) (place_in (targets_of ts) k)))) e
      ∙ later_value (choice_of t.1) (values_of ts) (place_in (targets_of ts) k)

  pub become_of : (ts : List (ℕ × Option (Formula ℕ))) → IsTrue (becomes ts k x b) → MayBecome (targets_of ts) (values_of ts) x x k b
  become_of [] h = sym (same_bit_is (x k) b h)
  become_of (t ∷ ts) h = by_test (nat_eq t.0 k) refl (λ later. become_of ts later)
    where
      by_test : (test : Bool) → nat_eq t.0 k ≡ test → (IsTrue (becomes ts k x b) → MayBecome (targets_of ts) (values_of ts) x x k b) → MayBecome (targets_of (t ∷ ts)) (values_of (t ∷ ts)) x x k b
      by_test true e more =
          let first : IsTrue (allows t.1 x b) = subst (λ c. IsTrue (cond c (allows t.1 x b) (becomes ts k x b))) e h in
          subst (At x x k b) (sym (at_value t ts true e)) (may_allow t.1 x b first)
      by_test false e more =
          let later : IsTrue (becomes ts k x b) = subst (λ c. IsTrue (cond c (allows t.1 x b) (becomes ts k x b))) e h in
          subst (At x x k b) (sym (at_value t ts false e)) (more later)

  pub of_become : (ts : List (ℕ × Option (Formula ℕ))) → MayBecome (targets_of ts) (values_of ts) x x k b → IsTrue (becomes ts k x b)
  of_become [] h = ap (same_bit (x k)) h ∙ same_bit_itself (x k)
  of_become (t ∷ ts) h = by_test (nat_eq t.0 k) refl (λ later. of_become ts later)
    where
      by_test : (test : Bool) → nat_eq t.0 k ≡ test → (MayBecome (targets_of ts) (values_of ts) x x k b → IsTrue (becomes ts k x b)) → IsTrue (becomes (t ∷ ts) k x b)
      by_test true e more =
          let may : At x x k b (Some (choice_of t.1)) = subst (At x x k b) (at_value t ts true e) h in
          subst (λ c. IsTrue (cond c (allows t.1 x b) (becomes ts k x b))) (sym e) (allow_may t.1 x b may)
      by_test false e more =
          let may : MayBecome (targets_of ts) (values_of ts) x x k b = subst (At x x k b) (at_value t ts false e) h in
          subst (λ c. IsTrue (cond c (allows t.1 x b) (becomes ts k x b))) (sym e) (more may)

-- an assignment's pairs are its meaning
pub assigned_means : (n : ℕ) (ts : List (ℕ × Option (Formula ℕ))) (x y : Setting) → IsTrue (assigned n ts x y) ↔ Means n (Assigns (targets_of ts) (values_of ts)) x y
assigned_means n ts x y = (
  λ h v below. become_of x v (y v) ts (each_gives n (λ k. becomes ts k x (y k)) h v below),
  λ h. each_from n (λ k. becomes ts k x (y k)) (λ k below. of_become x k (y k) ts (h k below)),
)

-- a diagram that has the pairs of an effect
pub through : (a b : Bool) {P : Type 0} → a ≡ b → IsTrue b ↔ P → IsTrue a ↔ P
through a b same is = (λ h. is.0 (sym same ∙ h), λ h. same ∙ is.1 h)
