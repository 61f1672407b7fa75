-- An accepted rule keeps to what every rule of a document keeps to.
use Rattle.std.proofs.Common.{◌≡◌, ◌≢◌, ◌⊎◌, inl, inr, ℕ, zero, suc, ◌^◌, ◌<◌, ◌≤◌, Bool, true, false, not, cond, ◌&&◌, ◌||◌, ◌==◌, List, [], ◌∷◌, ◌++◌, map, length, Option, Some, None, refl, sym, ap, ◌∙◌, subst, arith, pow_pos, ℤ, pos, neg_ℤ}
use Rattle.std.specs.Prelude.{All, codes, flat_map, nat_lt, nat_le, unwrap_or, option_map, is_some, is_none, fold, bit_or, zip, IsTrue, IfSome, if◌then◌else◌}
use Rattle.std.specs.List.{list_any}
use Rattle.std.proofs.lemmas.Bool.{or_parts, or_from, ltb-false, leb-false, eqb-true}
use Rattle.std.proofs.lemmas.List.{map-append}
use Rattle.std.proofs.lemmas.Nat.{or_lt}
use Rattle.std.proofs.Math.Pow.{pow-lt}
use Rattle.std.proofs.lemmas.List.Elements.{All-nil, All-cons, All-head, All-tail, All-append}
use Rattle.wpds_base.specs.Faults.{first_fault}
use Rattle.wpds_base.specs.Limits.{most_pushed, most_rules, most_depth}
use Rattle.wpds_base.specs.Lists.{IsOnce}
use Rattle.wpds_port.specs.declared.Word.{Word}
use Rattle.wpds_port.specs.declared.Word.TheVariants.{Number}
use Rattle.truth_tables.specs.Grammar.{Tree, number_of, has_large_table, depth}
use Rattle.truth_tables.specs.Stacks.{tree_of}
use Rattle.truth_tables.specs.Texts.{is_name}
use Rattle.document_forms.specs.declared.weight.WeightsLine.{WeightsLine}
use Rattle.document_forms.specs.declared.weight.WeightsLine.TheVariants.{Reach, Cost, GenKill, Copy, Relation}
use Rattle.document_forms.specs.declared.weight.WeightText.TheVariants.{One}
use Rattle.document_forms.specs.Lines.{in_front}
use Rattle.document_forms.specs.Names.{is_among, has_twice, has_unknown, number_in}
use Rattle.document_forms.specs.Words.{parted, parted_outside, pairs, before, behind, name_of, each, each_of_some, is_comma, is_becomes, is_semicolon, ◌>>=◌}
use Rattle.document_forms.specs.Returns.{MoveForm, ReturnForm, PlainReturn, GivenMap}
use Rattle.document_forms.specs.Weights.{SignForm, PartForm, OfVariable, OfNumber, PartsForm, VaryingParts, Undefined, Parts, PairForm, ValueForm, FreeValue, TreeValue, ActionForm, AssumeForm, ChooseForm, AssignForm, WeightForm, OneForm, NoneForm, NumberForm, SignsForm, PairsForm, ActionsForm, cost_of, sign_of, signs, genkill_of, pair_of, pairs_in, value_of as value_form_of, target_of, assign_of, action_of, relation_of, own_weight, is_only, weight_of}
use Rattle.document_forms.specs.Forms.{RuleForm}
use Rattle.wpds_port.specs.declared.Kind.{Kind}
use Rattle.wpds_port.specs.declared.Kind.TheVariants.{Twice, Unknown, WeightText, Return, Count}
use Rattle.document_forms.specs.Above.{Above}
use Rattle.document_forms.specs.Kinds.{Conditions, part_names, parts_names, value_names, action_names, weight_names, value_trees, action_trees, is_wide_part, has_wide_part, is_uneven, is_unlawful, is_deep, rule_weight, allows_restore, allows_moves, restored, moved, has_map_twice, map_names, is_foreign_map, rule_conditions}
use Rattle.document_forms.specs.Documents.{bits_at, variables_in, constants_in, same_integer, one_constant, meet_of, parts_value, pair_value, sign_value, value_of, assignment_of, action_value, weight_value, map_value, move_value, rule_value}
use Rattle.document_forms.specs.Lawful.{AreBelow, AreSome, IsConstant, IsFormText, IsValueText, IsAction, IsWeightText, IsMapText, IsRuleLine}
use Rattle.document_forms.proofs.FormLemmas.{of_bind, of_map, of_each}
use Rattle.document_forms.proofs.LawfulLemmas.{number_below, numbers_below, known_parts, known_both, is_known, expression_lawful, numbers_once, mapped_some, numbers_some}

-- ---- a weight is one of its own weights

abbrev pub HasTargets : ActionForm → Type 0
HasTargets (AssumeForm e) = Unit {0}
HasTargets (ChooseForm xs) = xs ≢ []
HasTargets (AssignForm xs vs) = xs ≢ []

abbrev pub IsOwn : WeightsLine → WeightForm → Type 0
IsOwn weights OneForm = Unit {0}
IsOwn weights NoneForm = Unit {0}
IsOwn (Cost cap) (NumberForm n) = Unit {0}
IsOwn GenKill (SignsForm ss) = ss ≢ []
IsOwn Copy (PairsForm ps) = ps ≢ []
IsOwn Relation (ActionsForm acts) = (acts ≢ []) × All HasTargets acts
IsOwn _ _ = ⊥

cost_own : (cap : ℕ) (ws : List Word) (x : WeightForm) → cost_of ws ≡ Some x → IsOwn (Cost cap) x
cost_own cap (Number n ∷ []) x h = let same : NumberForm n ≡ x = cc in subst (IsOwn (Cost cap)) same tt
cost_own cap _ x h = cc

each_some : {A B : Type 0} (f : A → Option B) (xs : List A) (ys : List B) → xs ≢ [] → each f xs ≡ Some ys → ys ≢ []
each_some f [] ys s h e = s refl
each_some f (x ∷ xs) ys s h e = let m = of_each f x xs ys h in cc

each_of_some_some : {A B : Type 0} (f : A → Option B) (xs : List A) (ys : List B) → each_of_some f xs ≡ Some ys → ys ≢ []
each_of_some_some f [] ys h = cc
each_of_some_some f (x ∷ xs) ys h = each_some f (x ∷ xs) ys (λ e. cc) h

each_all : {A B : Type 0} (f : A → Option B) (P : B → Type 0) → ((x : A) (y : B) → f x ≡ Some y → P y) → (xs : List A) (ys : List B) → each f xs ≡ Some ys → All P ys
each_all f P k [] ys h = let same : [] ≡ ys = cc in subst (All P) same (All-nil P)
each_all f P k (x ∷ xs) ys h =
    let m = of_each f x xs ys h in
    subst (All P) m.4 (All-cons P m.0 m.1 (k x m.0 m.2) (each_all f P k xs m.1 m.3))

in_front_some : {A : Type 0} (w : A) (ps : List (List A)) → in_front w ps ≢ []
in_front_some w [] e = cc
in_front_some w (p ∷ ps) e = cc

parted_some : (test : Word → Bool) (ws : List Word) → parted test ws ≢ []
parted_some test [] e = cc
parted_some test (w ∷ ws) e = go (test w) e
  where
    go : (t : Bool) → cond t ([] ∷ parted test ws) (in_front w (parted test ws)) ≡ [] → ⊥
    go true e = cc
    go false e = in_front_some w (parted test ws) e

signs_some : (ws : List Word) (ss : List SignForm) → ws ≢ [] → signs ws ≡ Some ss → ss ≢ []
signs_some [] ss s h e = s refl
signs_some (w ∷ []) ss s h e = cc
signs_some (w ∷ v ∷ ws) ss s h e =
    let a = of_bind (sign_of w) (λ plus. name_of v >>= λ fact. signs ws >>= λ more. Some (record { plus = plus; fact = fact } ∷ more)) ss h in
    let b = of_bind (name_of v) (λ fact. signs ws >>= λ more. Some (record { plus = a.0; fact = fact } ∷ more)) ss a.2 in
    let c = of_bind (signs ws) (λ more. Some (record { plus = a.0; fact = b.0 } ∷ more)) ss b.2 in
    let same : record { plus = a.0; fact = b.0 } ∷ c.0 ≡ ss = cc in
    cc

genkill_own : (ws : List Word) (x : WeightForm) → genkill_of ws ≡ Some x → IsOwn GenKill x
genkill_own [] x h = cc
genkill_own (w ∷ ws) x h =
    let m = of_map SignsForm (signs (w ∷ ws)) x h in
    subst (IsOwn GenKill) m.2 (signs_some (w ∷ ws) m.0 (λ e. cc) m.1)

copy_own : (ps : List (List Word)) (x : WeightForm) → pairs_in ps ≡ Some x → IsOwn Copy x
copy_own [] x h = cc
copy_own ([] ∷ ps) x h =
    let m = of_map PairsForm (each_of_some pair_of ps) x h in
    subst (IsOwn Copy) m.2 (each_of_some_some pair_of ps m.0 m.1)
copy_own ((w ∷ p) ∷ ps) x h = cc

assign_targets : (ws : List Word) (a : ActionForm) → assign_of ws ≡ Some a → HasTargets a
assign_targets ws a h =
    let pieces = parted is_comma (before is_becomes ws) in
    let k = of_bind (each target_of pieces) (λ targets. behind is_becomes ws >>= λ text. each value_form_of (parted_outside 0 is_comma text) >>= λ values. Some (AssignForm targets values)) a h in
    let l = of_bind (behind is_becomes ws) (λ text. each value_form_of (parted_outside 0 is_comma text) >>= λ values. Some (AssignForm k.0 values)) a k.2 in
    let m = of_bind (each value_form_of (parted_outside 0 is_comma l.0)) (λ values. Some (AssignForm k.0 values)) a l.2 in
    let same : AssignForm k.0 m.0 ≡ a = cc in
    subst HasTargets same (each_some target_of pieces k.0 (parted_some is_comma (before is_becomes ws)) k.1)

action_targets : (ws : List Word) (a : ActionForm) → action_of ws ≡ Some a → HasTargets a
action_targets [] a h = cc
action_targets (w ∷ ws) a h = assume (is_name (codes "assume") w) h
  where
    choose : (t : Bool) → (if t then option_map ChooseForm (each_of_some name_of ws) else assign_of (w ∷ ws)) ≡ Some a → HasTargets a
    choose true s = let m = of_map ChooseForm (each_of_some name_of ws) a s in subst HasTargets m.2 (each_of_some_some name_of ws m.0 m.1)
    choose false s = assign_targets (w ∷ ws) a s

    assume : (t : Bool) → (if t then option_map AssumeForm (tree_of ws) else (if is_name (codes "choose") w then option_map ChooseForm (each_of_some name_of ws) else assign_of (w ∷ ws))) ≡ Some a → HasTargets a
    assume true s = let m = of_map AssumeForm (tree_of ws) a s in subst HasTargets m.2 tt
    assume false s = choose (is_name (codes "choose") w) s

relation_own : (ws : List Word) (x : WeightForm) → relation_of ws ≡ Some x → IsOwn Relation x
relation_own ws x h =
    let m = of_map ActionsForm (each action_of (parted is_semicolon ws)) x h in
    subst (IsOwn Relation) m.2
    (each_some action_of (parted is_semicolon ws) m.0 (parted_some is_semicolon ws) m.1, each_all action_of HasTargets action_targets (parted is_semicolon ws) m.0 m.1)

own_own : (u : WeightsLine) (ws : List Word) (x : WeightForm) → own_weight u ws ≡ Some x → IsOwn u x
own_own Reach ws x h = cc
own_own (Cost cap) ws x h = cost_own cap ws x h
own_own GenKill ws x h = genkill_own ws x h
own_own Copy ws x h = copy_own (pairs ws) x h
own_own Relation ws x h = relation_own ws x h

pub weight_own : (u : WeightsLine) (ws : List Word) (x : WeightForm) → weight_of u ws ≡ Some x → IsOwn u x
weight_own u ws x h = one (is_only (codes "one") ws) h
  where
    none : (t : Bool) → (if t then Some NoneForm else own_weight u ws) ≡ Some x → IsOwn u x
    none true s = let same : NoneForm ≡ x = cc in subst (IsOwn u) same tt
    none false s = own_own u ws x s

    one : (t : Bool) → (if t then Some OneForm else (if is_only (codes "none") ws then Some NoneForm else own_weight u ws)) ≡ Some x → IsOwn u x
    one true s = let same : OneForm ≡ x = cc in subst (IsOwn u) same tt
    one false s = none (is_only (codes "none") ws) s

rule_own : (u : WeightsLine) (o : Option (List Word)) (x : WeightForm) → rule_weight u o ≡ Some x → IsOwn u x
rule_own u None x h = let same : OneForm ≡ x = cc in subst (IsOwn u) same tt
rule_own u (Some ws) x h = weight_own u ws x h

-- ---- what a weight's numbers are

module _ (names : List (List ℕ)) where
  facts_are : (ss : List SignForm) → map (λ s. s.fact) (map (sign_value names) ss) ≡ map (number_in names) (map (λ s. s.fact) ss)
  facts_are [] = refl
  facts_are (s ∷ ss) = ap (λ ks. number_in names s.fact ∷ ks) (facts_are ss)

  facts_some : (ss : List SignForm) → ss ≢ [] → has_unknown names (map (λ s. s.fact) ss) ≡ false → has_twice (map (λ s. s.fact) ss) ≡ false → AreSome (length names) (map (λ s. s.fact) (map (sign_value names) ss))
  facts_some ss s h t =
      subst (AreSome (length names)) (sym (facts_are ss)) (numbers_some names (map (λ s. s.fact) ss) (mapped_some (λ s. s.fact) ss s) h t)

  variables_below : (ps : List PartForm) → has_unknown names (flat_map part_names ps) ≡ false → AreBelow (length names) (flat_map (variables_in names) ps)
  variables_below [] h = All-nil (λ k. k < length names)
  variables_below (OfVariable x ∷ ps) h =
      let k = or_parts (not (is_among names x)) (has_unknown names (flat_map part_names ps)) h in
      All-cons (λ n. n < length names) (number_in names x) (flat_map (variables_in names) ps) (number_below names x (is_known (is_among names x) k.0)) (variables_below ps k.1)
  variables_below (OfNumber negative n ∷ ps) h = variables_below ps h

  bits_below : (ks : List ℕ) (b : ℕ) → AreBelow (length names) ks → b < 2 ^ length names → fold (λ n k. bit_or n (2 ^ k)) b ks < 2 ^ length names
  bits_below [] b h l = l
  bits_below (k ∷ ks) b h l =
      bits_below ks (bit_or b (2 ^ k)) (All-tail (λ n. n < length names) k ks h)
      (or_lt (length names) b (2 ^ k) l (pow-lt (All-head (λ n. n < length names) k ks h)))

  constant_in : (p : PartForm) → is_wide_part p ≡ false → All IsConstant (constants_in p)
  constant_in (OfVariable x) h = All-nil IsConstant
  constant_in (OfNumber false n) h = All-cons IsConstant (pos (number_of n)) [] (leb-false (2 ^ 63) (number_of n) h) (All-nil IsConstant)
  constant_in (OfNumber true n) h = All-cons IsConstant (neg_ℤ (pos (number_of n))) [] (go (number_of n) (ltb-false (2 ^ 63) (number_of n) h)) (All-nil IsConstant)
    where
      go : (k : ℕ) → k ≤ 2 ^ 63 → IsConstant (neg_ℤ (pos k))
      go zero l = omega arith
      go (suc k) l = omega arith

  constants_fit : (ps : List PartForm) → list_any is_wide_part ps ≡ false → All IsConstant (flat_map constants_in ps)
  constants_fit [] h = All-nil IsConstant
  constants_fit (p ∷ ps) h =
      let k = or_parts (is_wide_part p) (list_any is_wide_part ps) h in
      All-append IsConstant (constants_in p) (flat_map constants_in ps) (constant_in p k.0) (constants_fit ps k.1)

  one_fits : (cs : List ℤ) → All IsConstant cs → (c : Option ℤ) → one_constant cs ≡ Some c → IfSome c IsConstant
  one_fits [] h c e = let same : None ≡ c = cc in subst (λ o. IfSome o IsConstant) same tt
  one_fits (x ∷ []) h c e = let same : Some x ≡ c = cc in subst (λ o. IfSome o IsConstant) same (All-head IsConstant x [] h)
  one_fits (x ∷ y ∷ xs) h c e = go (same_integer x y) e (one_fits (y ∷ xs) (All-tail IsConstant x (y ∷ xs) h) c)
    where
      go : (t : Bool) → (if t then one_constant (y ∷ xs) else None) ≡ Some c → (one_constant (y ∷ xs) ≡ Some c → IfSome c IsConstant) → IfSome c IsConstant
      go true s more = more s
      go false s more = cc

  form_lawful : (p : PartsForm) → has_unknown names (parts_names p) ≡ false → has_wide_part p ≡ false → IsFormText (length names) (parts_value names p)
  form_lawful VaryingParts h w = tt
  form_lawful Undefined h w = (tt, pow_pos (length names))
  form_lawful (Parts ps) h w = go (one_constant (flat_map constants_in ps)) refl
    where
      go : (o : Option (Option ℤ)) → one_constant (flat_map constants_in ps) ≡ o → IsFormText (length names) (meet_of o (bits_at (flat_map (variables_in names) ps)))
      go None e = tt
      go (Some c) e = (one_fits (flat_map constants_in ps) (constants_fit ps w) c e, bits_below (flat_map (variables_in names) ps) 0 (variables_below ps h) (pow_pos (length names)))

  pair_known : (p : PairForm) (ps : List PairForm) → has_unknown names (weight_names (PairsForm (p ∷ ps))) ≡ false → (is_among names p.variable ≡ true) × (has_unknown names (parts_names p.parts) ≡ false) × (has_unknown names (weight_names (PairsForm ps)) ≡ false)
  pair_known p ps h =
      let k = known_parts names (p.variable ∷ parts_names p.parts) (weight_names (PairsForm ps)) h in
      let m = or_parts (not (is_among names p.variable)) (has_unknown names (parts_names p.parts)) k.0 in
      (is_known (is_among names p.variable) m.0, m.1, k.1)

  pairs_are : (ps : List PairForm) → map (λ p. p.variable) (map (pair_value names) ps) ≡ map (number_in names) (map (λ p. p.variable) ps)
  pairs_are [] = refl
  pairs_are (p ∷ ps) = ap (λ ks. number_in names p.variable ∷ ks) (pairs_are ps)

  targets_known : (ps : List PairForm) → has_unknown names (weight_names (PairsForm ps)) ≡ false → has_unknown names (map (λ p. p.variable) ps) ≡ false
  targets_known [] h = refl
  targets_known (p ∷ ps) h =
      let k = pair_known p ps h in
      or_from (not (is_among names p.variable)) (has_unknown names (map (λ q. q.variable) ps)) (ap not k.0) (targets_known ps k.2)

  pairs_some : (ps : List PairForm) → ps ≢ [] → has_unknown names (weight_names (PairsForm ps)) ≡ false → has_twice (map (λ p. p.variable) ps) ≡ false → AreSome (length names) (map (λ p. p.variable) (map (pair_value names) ps))
  pairs_some ps s h t =
      subst (AreSome (length names)) (sym (pairs_are ps)) (numbers_some names (map (λ p. p.variable) ps) (mapped_some (λ p. p.variable) ps s) (targets_known ps h) t)

  pairs_lawful : (ps : List PairForm) → has_unknown names (weight_names (PairsForm ps)) ≡ false → list_any (λ p. has_wide_part p.parts) ps ≡ false → All (λ p. IsFormText (length names) p.form) (map (pair_value names) ps)
  pairs_lawful [] h w = All-nil (λ p. IsFormText (length names) p.form)
  pairs_lawful (p ∷ ps) h w =
      let k = pair_known p ps h in
      let v = or_parts (has_wide_part p.parts) (list_any (λ q. has_wide_part q.parts) ps) w in
      All-cons (λ q. IsFormText (length names) q.form) (pair_value names p) (map (pair_value names) ps) (form_lawful p.parts k.1 v.0) (pairs_lawful ps k.2 v.1)

  abbrev is_too_deep : Tree → Bool
  is_too_deep e = nat_lt most_depth (depth e)

  value_lawful : (v : ValueForm) → has_unknown names (value_names v) ≡ false → list_any has_large_table (value_trees v) ≡ false → list_any is_too_deep (value_trees v) ≡ false → IsValueText (length names) (value_of names v)
  value_lawful FreeValue h t d = tt
  value_lawful (TreeValue e) h t d = expression_lawful names e h (or_parts (has_large_table e) false t).0 (or_parts (is_too_deep e) false d).0

  targets_are : (xs : List (List ℕ)) (vs : List ValueForm) → length xs ≡ length vs → map (λ p. p.variable) (map (assignment_of names) (zip xs vs)) ≡ map (number_in names) xs
  targets_are [] [] e = refl
  targets_are [] (v ∷ vs) e = absurd (omega arith)
  targets_are (x ∷ xs) [] e = absurd (omega arith)
  targets_are (x ∷ xs) (v ∷ vs) e = ap (λ ks. number_in names x ∷ ks) (targets_are xs vs (omega arith))

  any_parts : (f : Tree → Bool) (xs ys : List Tree) → list_any f (xs ++ ys) ≡ false → (list_any f xs ≡ false) × (list_any f ys ≡ false)
  any_parts f [] ys h = (refl, h)
  any_parts f (x ∷ xs) ys h =
      let k = or_parts (f x) (list_any f (xs ++ ys)) h in
      let m = any_parts f xs ys k.1 in
      (or_from (f x) (list_any f xs) k.0 m.0, m.1)

  values_lawful : (xs : List (List ℕ)) (vs : List ValueForm) → has_unknown names (flat_map value_names vs) ≡ false → list_any has_large_table (flat_map value_trees vs) ≡ false → list_any is_too_deep (flat_map value_trees vs) ≡ false → All (λ p. IsValueText (length names) p.value) (map (assignment_of names) (zip xs vs))
  values_lawful [] vs h t d = All-nil (λ p. IsValueText (length names) p.value)
  values_lawful (x ∷ xs) [] h t d = All-nil (λ p. IsValueText (length names) p.value)
  values_lawful (x ∷ xs) (v ∷ vs) h t d =
      let k = known_parts names (value_names v) (flat_map value_names vs) h in
      let m = any_parts has_large_table (value_trees v) (flat_map value_trees vs) t in
      let n = any_parts is_too_deep (value_trees v) (flat_map value_trees vs) d in
      All-cons (λ p. IsValueText (length names) p.value) (assignment_of names (x, v)) (map (assignment_of names) (zip xs vs)) (value_lawful v k.0 m.0 n.0) (values_lawful xs vs k.1 m.1 n.1)

  action_lawful : (a : ActionForm) → HasTargets a → has_unknown names (action_names a) ≡ false → is_uneven a ≡ false → list_any has_large_table (action_trees a) ≡ false → list_any is_too_deep (action_trees a) ≡ false → IsAction (length names) (action_value names a)
  action_lawful (AssumeForm e) s h u t d = expression_lawful names e h (or_parts (has_large_table e) false t).0 (or_parts (is_too_deep e) false d).0
  action_lawful (ChooseForm xs) s h u t d = (mapped_some (number_in names) xs s, numbers_below names xs h)
  action_lawful (AssignForm xs vs) s h u t d =
      let k = known_parts names xs (flat_map value_names vs) h in
      let m = or_parts (not (length xs == length vs)) (has_twice xs) u in
      let even = eqb-true (length xs) (length vs) (is_known (length xs == length vs) m.0) in
      (subst (AreSome (length names)) (sym (targets_are xs vs even)) (numbers_some names xs s k.0 m.1), values_lawful xs vs k.1 t d)

  actions_lawful : (acts : List ActionForm) → All HasTargets acts → has_unknown names (flat_map action_names acts) ≡ false → list_any is_uneven acts ≡ false → list_any has_large_table (flat_map action_trees acts) ≡ false → list_any is_too_deep (flat_map action_trees acts) ≡ false → All (IsAction (length names)) (map (action_value names) acts)
  actions_lawful [] s h u t d = All-nil (IsAction (length names))
  actions_lawful (a ∷ acts) s h u t d =
      let k = known_parts names (action_names a) (flat_map action_names acts) h in
      let v = or_parts (is_uneven a) (list_any is_uneven acts) u in
      let m = any_parts has_large_table (action_trees a) (flat_map action_trees acts) t in
      let n = any_parts is_too_deep (action_trees a) (flat_map action_trees acts) d in
      All-cons (IsAction (length names)) (action_value names a) (map (action_value names) acts) (action_lawful a (All-head HasTargets a acts s) k.0 v.0 m.0 n.0) (actions_lawful acts (All-tail HasTargets a acts s) k.1 v.1 m.1 n.1)

  weight_lawful : (u : WeightsLine) (x : WeightForm) → IsOwn u x → has_unknown names (weight_names x) ≡ false → is_unlawful x ≡ false → is_deep x ≡ false → IsWeightText u (length names) (weight_value names x)
  weight_lawful u OneForm o h t d = tt
  weight_lawful u NoneForm o h t d = tt
  weight_lawful (Cost cap) (NumberForm n) o h t d = leb-false (2 ^ 64) (number_of n) t
  weight_lawful GenKill (SignsForm ss) o h t d = facts_some ss o h t
  weight_lawful Copy (PairsForm ps) o h t d =
      let k = or_parts (has_twice (map (λ p. p.variable) ps)) (list_any (λ p. has_wide_part p.parts) ps) t in
      (pairs_some ps o h k.0, pairs_lawful ps h k.1)
  weight_lawful Relation (ActionsForm acts) o h t d =
      let k = or_parts (list_any is_uneven acts) (list_any has_large_table (flat_map action_trees acts)) t in
      (mapped_some (action_value names) acts o.0, actions_lawful acts o.1 h k.0 k.1 d)
  weight_lawful _ _ o h t d = absurd o

  -- ---- return maps

  moves_to : (ms : List MoveForm) → has_unknown names (flat_map (λ p. p.to ∷ p.from ∷ []) ms) ≡ false → AreBelow (length names) (map (λ v. v.to) (map (move_value names) ms)) × AreBelow (length names) (map (λ v. v.from) (map (move_value names) ms))
  moves_to [] h = (All-nil (λ k. k < length names), All-nil (λ k. k < length names))
  moves_to (m ∷ ms) h =
      let k = or_parts (not (is_among names m.to)) (not (is_among names m.from) || has_unknown names (flat_map (λ p. p.to ∷ p.from ∷ []) ms)) h in
      let l = or_parts (not (is_among names m.from)) (has_unknown names (flat_map (λ p. p.to ∷ p.from ∷ []) ms)) k.1 in
      let more = moves_to ms l.1 in (
        All-cons (λ n. n < length names) (number_in names m.to) (map (λ v. v.to) (map (move_value names) ms)) (number_below names m.to (is_known (is_among names m.to) k.0)) more.0,
        All-cons (λ n. n < length names) (number_in names m.from) (map (λ v. v.from) (map (move_value names) ms)) (number_below names m.from (is_known (is_among names m.from) l.0)) more.1,
      )

  restored_below : (t : Bool) (o : Option (List (List ℕ))) → (is_some o && not t) ≡ false → has_unknown names (if t then unwrap_or o [] else []) ≡ false → AreBelow (length names) (map (number_in names) (unwrap_or o [])) × (IsTrue t ⊎ (map (number_in names) (unwrap_or o []) ≡ []))
  restored_below true o f h = (numbers_below names (unwrap_or o []) h, inl refl)
  restored_below false None f h = (All-nil (λ k. k < length names), inr refl)
  restored_below false (Some xs) f h = cc

  abbrev ToBelow : List MoveForm → Type 0
  ToBelow ms = AreBelow (length names) (map (λ v. v.to) (map (move_value names) ms)) × AreBelow (length names) (map (λ v. v.from) (map (move_value names) ms))

  moved_below : (t : Bool) (o : Option (List MoveForm)) → (is_some o && not t) ≡ false → has_unknown names (if t then flat_map (λ p. p.to ∷ p.from ∷ []) (unwrap_or o []) else []) ≡ false → ToBelow (unwrap_or o []) × (IsTrue t ⊎ (map (move_value names) (unwrap_or o []) ≡ []))
  moved_below true o f h = (moves_to (unwrap_or o []) h, inl refl)
  moved_below false None f h = ((All-nil (λ k. k < length names), All-nil (λ k. k < length names)), inr refl)
  moved_below false (Some ms) f h = cc

  restored_known : (t : Bool) (o : Option (List (List ℕ))) → (is_some o && not t) ≡ false → has_unknown names (if t then unwrap_or o [] else []) ≡ false → has_unknown names (unwrap_or o []) ≡ false
  restored_known true o f h = h
  restored_known false None f h = refl
  restored_known false (Some xs) f h = cc

  to_known : (ms : List MoveForm) → has_unknown names (flat_map (λ p. p.to ∷ p.from ∷ []) ms) ≡ false → has_unknown names (map (λ p. p.to) ms) ≡ false
  to_known [] h = refl
  to_known (m ∷ ms) h =
      let more = flat_map (λ p. p.to ∷ p.from ∷ []) ms in
      let k = or_parts (not (is_among names m.to)) (not (is_among names m.from) || has_unknown names more) h in
      let l = or_parts (not (is_among names m.from)) (has_unknown names more) k.1 in
      or_from (not (is_among names m.to)) (has_unknown names (map (λ p. p.to) ms)) k.0 (to_known ms l.1)

  moved_known : (t : Bool) (o : Option (List MoveForm)) → (is_some o && not t) ≡ false → has_unknown names (if t then flat_map (λ p. p.to ∷ p.from ∷ []) (unwrap_or o []) else []) ≡ false → has_unknown names (map (λ p. p.to) (unwrap_or o [])) ≡ false
  moved_known true o f h = to_known (unwrap_or o []) h
  moved_known false None f h = refl
  moved_known false (Some ms) f h = cc

  moves_are : (ms : List MoveForm) → map (λ v. v.to) (map (move_value names) ms) ≡ map (number_in names) (map (λ p. p.to) ms)
  moves_are [] = refl
  moves_are (m ∷ ms) = ap (λ ks. number_in names m.to ∷ ks) (moves_are ms)

  map_once : (xs : List (List ℕ)) (ms : List MoveForm) → has_unknown names xs ≡ false → has_unknown names (map (λ p. p.to) ms) ≡ false → has_twice (xs ++ map (λ p. p.to) ms) ≡ false → IsOnce (map (number_in names) xs ++ map (λ v. v.to) (map (move_value names) ms))
  map_once xs ms h k t =
      subst IsOnce (map-append (number_in names) xs (map (λ p. p.to) ms) ∙ ap (λ ks. map (number_in names) xs ++ ks) (sym (moves_are ms)))
      (numbers_once names (xs ++ map (λ p. p.to) ms) (known_both names xs (map (λ p. p.to) ms) h k) t)

  map_lawful : (u : WeightsLine) (right : List ℕ) (back : ReturnForm) → (PlainReturn ≢ back → length right ≡ 2) → is_foreign_map u back ≡ false → has_unknown names (map_names u back) ≡ false → has_map_twice back ≡ false → IsMapText u (length names) right (map_value names back)
  map_lawful u right PlainReturn p f h w = tt
  map_lawful u right (GivenMap m) p f h w =
      let k = or_parts (is_some m.restore && not (allows_restore u)) (is_some m.moves && not (allows_moves u)) f in
      let n = known_parts names (if allows_restore u then restored m else []) (if allows_moves u then flat_map (λ v. v.to ∷ v.from ∷ []) (moved m) else []) h in
      let r = restored_below (allows_restore u) m.restore k.0 n.0 in
      let v = moved_below (allows_moves u) m.moves k.1 n.1 in
      record { push = p (λ e. cc); restore = r.0; to = v.0.0; from = v.0.1; restores = r.1; moves = v.1; once = map_once (restored m) (moved m) (restored_known (allows_restore u) m.restore k.0 n.0) (moved_known (allows_moves u) m.moves k.1 n.1) w }

-- ---- rules

or4 : (a b c d : Bool) → (a || b || c || d) ≡ false → (a ≡ false) × (b ≡ false) × (c ≡ false) × (d ≡ false)
or4 false false false false h = (refl, refl, refl, refl)
or4 _ _ _ _ h = cc

pub first_false : (b : Bool) (k : Kind) (cs : Conditions) → first_fault ((b, k) ∷ cs) ≡ None → (b ≡ false) × (first_fault cs ≡ None)
first_false true k cs h = cc
first_false false k cs h = (refl, h)

none_holds : (a b c d e : Bool) → first_fault ((a, Twice) ∷ (b, Unknown) ∷ (c, WeightText) ∷ (d, Return) ∷ (e, Count) ∷ []) ≡ None → (a ≡ false) × (b ≡ false) × (c ≡ false) × (d ≡ false) × (e ≡ false)
none_holds a b c d e h =
    let k = first_false a Twice ((b, Unknown) ∷ (c, WeightText) ∷ (d, Return) ∷ (e, Count) ∷ []) h in
    let l = first_false b Unknown ((c, WeightText) ∷ (d, Return) ∷ (e, Count) ∷ []) k.1 in
    let m = first_false c WeightText ((d, Return) ∷ (e, Count) ∷ []) l.1 in
    let n = first_false d Return ((e, Count) ∷ []) m.1 in
    (k.0, l.0, m.0, n.0, (first_false e Count [] n.1).0)

pub first_known : (names : List (List ℕ)) (x : List ℕ) (xs : List (List ℕ)) → has_unknown names (x ∷ xs) ≡ false → (number_in names x < length names) × (has_unknown names xs ≡ false)
first_known names x xs h =
    let k = or_parts (not (is_among names x)) (has_unknown names xs) h in
    (number_below names x (is_known (is_among names x) k.0), k.1)

pub length_numbers : (names xs : List (List ℕ)) → length (map (number_in names) xs) ≡ length xs
length_numbers names [] = refl
length_numbers names (x ∷ xs) = let e = length_numbers names xs in omega arith

pub rule_lawful : (a : Above) (r : RuleForm) → length r.right ≤ most_pushed → first_fault (rule_conditions a r) ≡ None → IsRuleLine a.weights (length a.controls) (length a.symbols) (length a.items) (rule_value a r)
rule_lawful a r short h = by_weight (rule_weight a.weights r.weight) refl h
  where
    map_of : (o : Option ReturnForm) → ((is_some o && not (length r.right == 2)) || is_foreign_map a.weights (unwrap_or o PlainReturn)) ≡ false → has_unknown a.items (map_names a.weights (unwrap_or o PlainReturn)) ≡ false → has_map_twice (unwrap_or o PlainReturn) ≡ false → IsMapText a.weights (length a.items) (map (number_in a.symbols) r.right) (map_value a.items (unwrap_or o PlainReturn))
    map_of None f k w = tt
    map_of (Some b) f k w =
        let m = or_parts (not (length r.right == 2)) (is_foreign_map a.weights b) f in
        let two = eqb-true (length r.right) 2 (is_known (length r.right == 2) m.0) in
        map_lawful a.items a.weights (map (number_in a.symbols) r.right) b (λ _. length_numbers a.symbols r.right ∙ two) m.1 k w

    with_weight : (x : WeightForm) → rule_weight a.weights r.weight ≡ Some x → (has_unknown a.controls (r.control ∷ r.to ∷ []) || has_unknown a.symbols (r.symbol ∷ r.right) || has_unknown a.items (weight_names x) || has_unknown a.items (map_names a.weights (unwrap_or r.back PlainReturn))) ≡ false → is_unlawful x ≡ false → is_deep x ≡ false → has_map_twice (unwrap_or r.back PlainReturn) ≡ false → ((is_some r.back && not (length r.right == 2)) || is_foreign_map a.weights (unwrap_or r.back PlainReturn)) ≡ false → IsRuleLine a.weights (length a.controls) (length a.symbols) (length a.items) (rule_value a r)
    with_weight x e u l d w b =
        let k = or4 (has_unknown a.controls (r.control ∷ r.to ∷ [])) (has_unknown a.symbols (r.symbol ∷ r.right)) (has_unknown a.items (weight_names x)) (has_unknown a.items (map_names a.weights (unwrap_or r.back PlainReturn))) u in
        let c = first_known a.controls r.control (r.to ∷ []) k.0 in
        let t = first_known a.controls r.to [] c.1 in
        let s = first_known a.symbols r.symbol r.right k.1 in
        record {
          control = c.0;
          symbol = s.0;
          to = t.0;
          right = numbers_below a.symbols r.right s.1;
          short = let n = length_numbers a.symbols r.right in omega arith;
          weight = subst (λ o. IsWeightText a.weights (length a.items) (unwrap_or (option_map (weight_value a.items) o) One)) (sym e) (weight_lawful a.items a.weights x (rule_own a.weights r.weight x e) k.2 l d);
          map = map_of r.back b k.3 w;
        }

    by_weight : (o : Option WeightForm) → rule_weight a.weights r.weight ≡ o → first_fault ((has_map_twice (unwrap_or r.back PlainReturn), Twice) ∷ ((has_unknown a.controls (r.control ∷ r.to ∷ []) || has_unknown a.symbols (r.symbol ∷ r.right) || has_unknown a.items (unwrap_or (option_map weight_names o) []) || has_unknown a.items (map_names a.weights (unwrap_or r.back PlainReturn))), Unknown) ∷ (is_none o || unwrap_or (option_map is_unlawful o) false, WeightText) ∷ ((is_some r.back && not (length r.right == 2)) || is_foreign_map a.weights (unwrap_or r.back PlainReturn), Return) ∷ (unwrap_or (option_map is_deep o) false || nat_le most_rules a.rules, Count) ∷ []) ≡ None → IsRuleLine a.weights (length a.controls) (length a.symbols) (length a.items) (rule_value a r)
    by_weight None e s =
        let n = none_holds (has_map_twice (unwrap_or r.back PlainReturn)) (has_unknown a.controls (r.control ∷ r.to ∷ []) || has_unknown a.symbols (r.symbol ∷ r.right) || has_unknown a.items [] || has_unknown a.items (map_names a.weights (unwrap_or r.back PlainReturn))) true ((is_some r.back && not (length r.right == 2)) || is_foreign_map a.weights (unwrap_or r.back PlainReturn)) (false || nat_le most_rules a.rules) s in
        let no : true ≡ false = n.2 in cc
    by_weight (Some x) e s =
        let n = none_holds (has_map_twice (unwrap_or r.back PlainReturn)) (has_unknown a.controls (r.control ∷ r.to ∷ []) || has_unknown a.symbols (r.symbol ∷ r.right) || has_unknown a.items (weight_names x) || has_unknown a.items (map_names a.weights (unwrap_or r.back PlainReturn))) (is_unlawful x) ((is_some r.back && not (length r.right == 2)) || is_foreign_map a.weights (unwrap_or r.back PlainReturn)) (is_deep x || nat_le most_rules a.rules) s in
        with_weight x e n.1 n.2 (or_parts (is_deep x) (nat_le most_rules a.rules) n.4).0 n.0 n.3
