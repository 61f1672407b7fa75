-- Weights that are relations are read as they are written.
use Rattle.std.proofs.Common.{◌≡◌, ◌≢◌, ℕ, ◌<◌, Bool, true, false, not, ◌||◌, ◌==◌, List, [], ◌∷◌, ◌++◌, map, length, Option, Some, None, refl, sym, ap, ap₂, ◌∙◌, subst, append_assoc}
use Rattle.std.specs.Prelude.{All, codes, flat_map, nat_lt, if◌then◌else◌, option_map, zip}
use Rattle.std.specs.List.{list_any}
use Rattle.std.proofs.lemmas.Bool.{and_from, or_from, eq-eqb}
use Rattle.std.proofs.lemmas.List.Elements.{All-head, All-tail}
use Rattle.std.proofs.lemmas.List.{length-map}
use Rattle.wpds_base.specs.Limits.{most_depth}
use Rattle.wpds_base.specs.Lists.{IsOnce}
use Rattle.wpds_port.specs.declared.Mark.TheVariants.{Becomes, Colon, Semicolon, Comma, Star}
use Rattle.wpds_port.specs.declared.Word.{Word}
use Rattle.wpds_port.specs.declared.Word.TheVariants.{Name, Mark as Sign}
use Rattle.truth_tables.specs.Formulas.{Formula, Constant as Const, Variable as Var, Opposite, Binary, Ternary}
use Rattle.truth_tables.specs.Grammar.{Tree, tree_words, depth, has_large_table}
use Rattle.truth_tables.specs.Stacks.{tree_of}
use Rattle.truth_tables.specs.Texts.{is_name}
use Rattle.document_forms.specs.declared.weight.WeightsLine.TheVariants.{Relation}
use Rattle.document_forms.specs.declared.weight.ValueText.{ValueText}
use Rattle.document_forms.specs.declared.weight.ValueText.TheVariants.{Free, Is}
use Rattle.document_forms.specs.declared.weight.Assignment.{Assignment}
use Rattle.document_forms.specs.declared.weight.Action.{Action}
use Rattle.document_forms.specs.declared.weight.Action.TheVariants.{Assume, Choose, Assign}
use Rattle.document_forms.specs.declared.weight.WeightText.TheVariants.{Actions}
use Rattle.document_forms.specs.Names.{is_reserved, has_twice, has_unknown, name}
use Rattle.document_forms.specs.Words.{is_comma, is_semicolon, is_becomes, is_return, behind, parted, parted_outside, name_of, each, each_of_some, ◌>>=◌}
use Rattle.document_forms.specs.Weights.{ValueForm, FreeValue, TreeValue, ActionForm, AssumeForm, ChooseForm, AssignForm, OneForm, NoneForm, ActionsForm, value_of, target_of, assign_of, action_of, relation_of, own_weight, is_only, weight_of}
use Rattle.document_forms.specs.FormWords.{is_some_list, has_none}
use Rattle.document_forms.specs.Kinds.{value_names, action_names, value_trees, action_trees, is_uneven}
use Rattle.document_forms.specs.Documents.{assignment_of, action_value, value_of as value_said}
use Rattle.document_forms.specs.Writing.{listed, in_turn, expression_text, value_text, action_text}
use Rattle.document_forms.specs.Lawful.{AreBelow, AreSome, IsName, IsExpressionText, IsValueText, IsAction}
use Rattle.document_forms.proofs.CutLemmas.{before_joined, behind_joined, written_some_names}
use Rattle.document_forms.proofs.FormLemmas.{none_append}
use Rattle.document_forms.proofs.WrittenWordLemmas.{Says, says_word, says_apart, says_spaced, say_more, say_one}
use Rattle.document_forms.proofs.LawfulLemmas.{known_both, unmapped_some}
use Rattle.document_forms.proofs.WrittenNameLemmas.{number_named, numbers_named, names_known, none_named_twice, name_at, says_named, say_named}
use Rattle.document_forms.proofs.WrittenMapLemmas.{no_word}
use Rattle.document_forms.proofs.WrittenRuleLemmas.{WeightIs}
use Rattle.document_forms.proofs.WrittenListLemmas.{SayEach, between, says_listed, says_in_turn, NoneHas, parted_between, none_between}
use Rattle.document_forms.proofs.WrittenExpressionLemmas.{OneTree, says_behind, KeptFrom, AreKept, parted_kept, kept_word, Passes, no_return, no_semicolon, tree_at, expression_fits, says_expression, tree_again, value_tree, tree_shallow, tree_small, tree_known, none_in_tree, kept_tree}

-- ---- the first word

abbrev is_first : List ℕ → List Word → Bool
is_first x [] = false
is_first x (w ∷ ws) = is_name x w

first_not_only : (x : List ℕ) (ws : List Word) → is_first x ws ≡ false → is_only x ws ≡ false
first_not_only x [] h = refl
first_not_only x (w ∷ []) h = h
first_not_only x (w ∷ v ∷ ws) h = refl

first_between : (x : List ℕ) (m : Word) (ws : List Word) (wss : List (List Word)) → is_name x m ≡ false → is_first x ws ≡ false → is_first x (between m (ws ∷ wss)) ≡ false
first_between x m ws [] k h = h
first_between x m [] (vs ∷ wss) k h = k
first_between x m (w ∷ ws) (vs ∷ wss) k h = h

first_joined : (x : List ℕ) (us : List Word) (m : Word) (vs : List Word) → is_name x m ≡ false → is_first x us ≡ false → is_first x (us ++ m ∷ vs) ≡ false
first_joined x [] m vs k h = k
first_joined x (u ∷ us) m vs k h = h

assigns : (ws : List Word) → is_first (codes "assume") ws ≡ false → is_first (codes "choose") ws ≡ false → action_of ws ≡ assign_of ws
assigns [] h k = refl
assigns (w ∷ ws) h k =
    ap (λ t. if t then option_map AssumeForm (tree_of ws) else (if is_name (codes "choose") w then option_map ChooseForm (each_of_some name_of ws) else assign_of (w ∷ ws))) h
    ∙ ap (λ t. if t then option_map ChooseForm (each_of_some name_of ws) else assign_of (w ∷ ws)) k

own_relation : (ws : List Word) → is_first (codes "one") ws ≡ false → is_first (codes "none") ws ≡ false → weight_of Relation ws ≡ relation_of ws
own_relation ws h k =
    ap (λ t. if t then Some OneForm else (if is_only (codes "none") ws then Some NoneForm else own_weight Relation ws)) (first_not_only (codes "one") ws h)
    ∙ ap (λ t. if t then Some NoneForm else own_weight Relation ws) (first_not_only (codes "none") ws k)

any_both : (f : Tree → Bool) (xs ys : List Tree) → list_any f xs ≡ false → list_any f ys ≡ false → list_any f (xs ++ ys) ≡ false
any_both f [] ys h k = k
any_both f (x ∷ xs) ys h k = go (f x) h (any_both f xs ys)
  where
    go : (t : Bool) → (t || list_any f xs) ≡ false → (list_any f xs ≡ false → list_any f ys ≡ false → list_any f (xs ++ ys) ≡ false) → (t || list_any f (xs ++ ys)) ≡ false
    go true e more = cc
    go false e more = more e k

no_becomes : Passes is_becomes
no_becomes = record {
  name = λ x h. refl;
  tab2 = refl;
  tab3 = refl;
  number = λ n. refl;
  inverse = refl;
  open_ = refl;
  close = refl;
  comma = refl;
}

module _ (names : List (List ℕ)) (named : All IsName names) (once : IsOnce names) (one : OneTree) where
  abbrev tree : Formula ℕ → Tree
  tree f = tree_at names named once f

  abbrev IsOver : Formula ℕ → Type 0
  IsOver f = IsExpressionText (length names) f

  -- ---- values

  abbrev value_form : ValueText → ValueForm
  value_form Free = FreeValue
  value_form (Is f) = TreeValue (tree f)

  abbrev value_words : ValueText → List Word
  value_words Free = Sign Star ∷ []
  value_words (Is f) = tree_words (tree f)

  abbrev IsValue : ValueText → Type 0
  IsValue v = IsValueText (length names) v

  says_value : (v : ValueText) → IsValue v → Says (value_text names v) (value_words v)
  says_value Free h = says_word (Sign Star) refl refl
  says_value (Is f) h = says_expression names named once f (expression_fits names named once f h)

  no_star : (f : Formula ℕ) → value_of (tree_words (tree f)) ≡ option_map TreeValue (tree_of (tree_words (tree f)))
  no_star (Const b) = refl
  no_star (Var k) = refl
  no_star (Opposite f) = refl
  no_star (Binary t f g) = refl
  no_star (Ternary t f g h) = refl

  value_again : (v : ValueText) → IsValue v → value_of (value_words v) ≡ Some (value_form v)
  value_again Free h = refl
  value_again (Is f) h = no_star f ∙ ap (option_map TreeValue) (tree_again names named once one f (expression_fits names named once f h))

  value_back : (v : ValueText) → IsValue v → value_said names (value_form v) ≡ v
  value_back Free h = refl
  value_back (Is f) h = ap Is (value_tree names named once f (expression_fits names named once f h))

  value_passes : (test : Word → Bool) → Passes test → test (Sign Star) ≡ false → (v : ValueText) → IsValue v → has_none test (value_words v) ≡ true
  value_passes test p s Free h = and_from (not (test (Sign Star))) true (ap not s) refl
  value_passes test p s (Is f) h = none_in_tree names named once test p f (expression_fits names named once f h)

  value_kept : (v : ValueText) → KeptFrom 0 (value_words v)
  value_kept Free = kept_word (Sign Star) refl (λ d. refl)
  value_kept (Is f) = kept_tree names named once f

  value_known : (v : ValueText) → IsValue v → has_unknown names (value_names (value_form v)) ≡ false
  value_known Free h = refl
  value_known (Is f) h = tree_known names named once f (expression_fits names named once f h)

  value_small : (v : ValueText) → IsValue v → list_any has_large_table (value_trees (value_form v)) ≡ false
  value_small Free h = refl
  value_small (Is f) h = or_from (has_large_table (tree f)) false (tree_small names named once f (expression_fits names named once f h)) refl

  value_shallow : (v : ValueText) → IsValue v → list_any (λ e. nat_lt most_depth (depth e)) (value_trees (value_form v)) ≡ false
  value_shallow Free h = refl
  value_shallow (Is f) h = or_from (nat_lt most_depth (depth (tree f))) false (tree_shallow names named once f h.shallow) refl

  -- ---- assignments

  abbrev variables : List Assignment → List ℕ
  variables ps = map (λ p. p.variable) ps

  abbrev target_words : List ℕ → List (List Word)
  target_words ks = map (λ x. Name x ∷ []) (map (name names) ks)

  abbrev values_words : List Assignment → List (List Word)
  values_words ps = map (λ p. value_words p.value) ps

  abbrev AreValues : List Assignment → Type 0
  AreValues ps = All (λ p. IsValue p.value) ps

  abbrev assign_words : List Assignment → List Word
  assign_words ps = between (Sign Comma) (target_words (variables ps)) ++ Sign Becomes ∷ between (Sign Comma) (values_words ps)

  abbrev values_form : List Assignment → List ValueForm
  values_form ps = map (λ p. value_form p.value) ps

  say_targets : (ps : List Assignment) → AreBelow (length names) (variables ps) → SayEach (map (λ p. name names p.variable) ps) (target_words (variables ps))
  say_targets [] b = tt
  say_targets (p ∷ ps) b = (says_named names p.variable named (All-head (λ n. n < length names) p.variable (variables ps) b), say_targets ps (All-tail (λ n. n < length names) p.variable (variables ps) b))

  say_values : (ps : List Assignment) → AreValues ps → SayEach (map (λ p. value_text names p.value) ps) (values_words ps)
  say_values [] h = tt
  say_values (p ∷ ps) h = (says_value p.value (All-head (λ q. IsValue q.value) p ps h), say_values ps (All-tail (λ q. IsValue q.value) p ps h))

  says_assign : (ps : List Assignment) → AreBelow (length names) (variables ps) → AreValues ps → Says (action_text names (Assign ps)) (assign_words ps)
  says_assign ps b h =
      let left = listed (map (λ p. name names p.variable) ps) in
      let right = listed (map (λ p. value_text names p.value) ps) in
      let us = between (Sign Comma) (target_words (variables ps)) in
      let vs = between (Sign Comma) (values_words ps) in
      subst (Says (action_text names (Assign ps))) (append_assoc us (Sign Becomes ∷ []) vs)
      (says_behind left (codes " :=") right (us ++ Sign Becomes ∷ []) vs
      (says_apart left (codes ":=") us (Sign Becomes ∷ []) (says_listed (map (λ p. name names p.variable) ps) (target_words (variables ps)) (say_targets ps b)) (says_word (Sign Becomes) refl refl))
      (says_listed (map (λ p. value_text names p.value) ps) (values_words ps) (say_values ps h)))

  targets_none : (test : Word → Bool) → ((x : List ℕ) → IsName x → test (Name x) ≡ false) → (ks : List ℕ) → AreBelow (length names) ks → NoneHas test (target_words ks)
  targets_none test f [] b = tt
  targets_none test f (k ∷ ks) b = (
    and_from (not (test (Name (name names k)))) true (ap not (f (name names k) (name_at names k named (All-head (λ n. n < length names) k ks b)))) refl,
    targets_none test f ks (All-tail (λ n. n < length names) k ks b),
  )

  values_none : (test : Word → Bool) → Passes test → test (Sign Star) ≡ false → (ps : List Assignment) → AreValues ps → NoneHas test (values_words ps)
  values_none test p s [] h = tt
  values_none test p s (q ∷ ps) h = (value_passes test p s q.value (All-head (λ r. IsValue r.value) q ps h), values_none test p s ps (All-tail (λ r. IsValue r.value) q ps h))

  values_kept : (ps : List Assignment) → AreKept (values_words ps)
  values_kept [] = tt
  values_kept (p ∷ ps) = (value_kept p.value, values_kept ps)

  targets_again : (xs : List (List ℕ)) → each target_of (map (λ x. Name x ∷ []) xs) ≡ Some xs
  targets_again [] = refl
  targets_again (x ∷ xs) = ap (option_map (λ ys. x ∷ ys)) (targets_again xs)

  values_again : (ps : List Assignment) → AreValues ps → each value_of (values_words ps) ≡ Some (values_form ps)
  values_again [] h = refl
  values_again (p ∷ ps) h =
      ap (λ o. elim o as (λ _. Option (List ValueForm)) [ None ↦ None | Some z ↦ option_map (λ zs. z ∷ zs) (each value_of (values_words ps)) ]) (value_again p.value (All-head (λ q. IsValue q.value) p ps h))
      ∙ ap (option_map (λ zs. value_form p.value ∷ zs)) (values_again ps (All-tail (λ q. IsValue q.value) p ps h))

  parted_targets : (ks : List ℕ) → ks ≢ [] → AreBelow (length names) ks → parted is_comma (between (Sign Comma) (target_words ks)) ≡ target_words ks
  parted_targets [] s b = absurd (s refl)
  parted_targets (k ∷ ks) s b = parted_between is_comma (Sign Comma) refl (Name (name names k) ∷ []) (target_words ks) (targets_none is_comma (λ x h. refl) (k ∷ ks) b)

  parted_values : (ps : List Assignment) → ps ≢ [] → parted_outside 0 is_comma (between (Sign Comma) (values_words ps)) ≡ values_words ps
  parted_values [] s = absurd (s refl)
  parted_values (p ∷ ps) s = parted_kept (value_words p.value) (values_words ps) (values_kept (p ∷ ps))

  assign_again : (ps : List Assignment) → AreSome (length names) (variables ps) → AreValues ps → assign_of (assign_words ps) ≡ Some (AssignForm (map (name names) (variables ps)) (values_form ps))
  assign_again ps b h =
      let us = between (Sign Comma) (target_words (variables ps)) in
      let vs = between (Sign Comma) (values_words ps) in
      let none : has_none is_becomes us ≡ true = none_between is_becomes (Sign Comma) refl (target_words (variables ps)) (targets_none is_becomes (λ x h. refl) (variables ps) b.below) in
      ap (λ ws. each target_of (parted is_comma ws) >>= λ targets. behind is_becomes (assign_words ps) >>= λ text. each value_of (parted_outside 0 is_comma text) >>= λ values. Some (AssignForm targets values))
      (before_joined is_becomes us (Sign Becomes) vs none refl)
      ∙ ap (λ o. o >>= λ targets. behind is_becomes (assign_words ps) >>= λ text. each value_of (parted_outside 0 is_comma text) >>= λ values. Some (AssignForm targets values))
      (ap (each target_of) (parted_targets (variables ps) b.some b.below) ∙ targets_again (map (name names) (variables ps)))
      ∙ ap (λ o. o >>= λ text. each value_of (parted_outside 0 is_comma text) >>= λ values. Some (AssignForm (map (name names) (variables ps)) values))
      (behind_joined is_becomes us (Sign Becomes) vs none refl)
      ∙ ap (λ o. o >>= λ values. Some (AssignForm (map (name names) (variables ps)) values))
      (ap (each value_of) (parted_values ps (unmapped_some (λ p. p.variable) ps b.some)) ∙ values_again ps h)

  -- a target is no word of another action, and no weight by itself
  first_assign : (word : List ℕ) → is_reserved word ≡ true → (ps : List Assignment) → AreBelow (length names) (variables ps) → is_first word (assign_words ps) ≡ false
  first_assign word r ps b =
      first_joined word (between (Sign Comma) (target_words (variables ps))) (Sign Becomes) (between (Sign Comma) (values_words ps)) refl (first_target (variables ps) b)
    where
      first_target : (ks : List ℕ) → AreBelow (length names) ks → is_first word (between (Sign Comma) (target_words ks)) ≡ false
      first_target [] b = refl
      first_target (k ∷ ks) b =
          first_between word (Sign Comma) (Name (name names k) ∷ []) (target_words ks) refl
          (no_word word (name names k) r (name_at names k named (All-head (λ n. n < length names) k ks b)))

  -- ---- actions

  abbrev action_form : Action → ActionForm
  action_form (Assume f) = AssumeForm (tree f)
  action_form (Choose ks) = ChooseForm (map (name names) ks)
  action_form (Assign ps) = AssignForm (map (name names) (variables ps)) (values_form ps)

  abbrev action_words : Action → List Word
  action_words (Assume f) = Name (codes "assume") ∷ tree_words (tree f)
  action_words (Choose ks) = Name (codes "choose") ∷ map Name (map (name names) ks)
  action_words (Assign ps) = assign_words ps

  abbrev IsOne : Action → Type 0
  IsOne a = IsAction (length names) a

  says_action : (a : Action) → IsOne a → Says (action_text names a) (action_words a)
  says_action (Assume f) h =
      says_apart (codes "assume") (expression_text names f) (Name (codes "assume") ∷ []) (tree_words (tree f))
      (says_word (Name (codes "assume")) refl refl) (says_expression names named once f (expression_fits names named once f h))
  says_action (Choose ks) h =
      says_spaced (codes "choose" ∷ map (name names) ks) (action_words (Choose ks))
      (say_more (codes "choose") (map (name names) ks) (Name (codes "choose") ∷ []) (map Name (map (name names) ks)) (says_word (Name (codes "choose")) refl refl) (say_named names ks named h.1))
  says_action (Assign ps) h = says_assign ps h.0.below h.1

  some_named : (ks : List ℕ) → ks ≢ [] → is_some_list (map (name names) ks) ≡ true
  some_named [] s = absurd (s refl)
  some_named (k ∷ ks) s = refl

  action_again : (a : Action) → IsOne a → action_of (action_words a) ≡ Some (action_form a)
  action_again (Assume f) h = ap (option_map AssumeForm) (tree_again names named once one f (expression_fits names named once f h))
  action_again (Choose ks) h = ap (option_map ChooseForm) (written_some_names (map (name names) ks) (some_named ks h.0))
  action_again (Assign ps) h =
      assigns (assign_words ps) (first_assign (codes "assume") refl ps h.0.below) (first_assign (codes "choose") refl ps h.0.below)
      ∙ assign_again ps h.0 h.1

  action_first : (word : List ℕ) → is_reserved word ≡ true → is_name word (Name (codes "assume")) ≡ false → is_name word (Name (codes "choose")) ≡ false → (a : Action) → IsOne a → is_first word (action_words a) ≡ false
  action_first word r e f (Assume g) h = e
  action_first word r e f (Choose ks) h = f
  action_first word r e f (Assign ps) h = first_assign word r ps h.0.below

  assign_passes : (test : Word → Bool) → Passes test → test (Sign Star) ≡ false → test (Sign Becomes) ≡ false → (ps : List Assignment) → AreBelow (length names) (variables ps) → AreValues ps → has_none test (assign_words ps) ≡ true
  assign_passes test p s b ps l h =
      none_append test (between (Sign Comma) (target_words (variables ps))) (Sign Becomes ∷ between (Sign Comma) (values_words ps))
      (none_between test (Sign Comma) p.comma (target_words (variables ps)) (targets_none test p.name (variables ps) l))
      (and_from (not (test (Sign Becomes))) (has_none test (between (Sign Comma) (values_words ps))) (ap not b)
      (none_between test (Sign Comma) p.comma (values_words ps) (values_none test p s ps h)))

  names_pass : (test : Word → Bool) → Passes test → (ks : List ℕ) → AreBelow (length names) ks → has_none test (map Name (map (name names) ks)) ≡ true
  names_pass test p [] b = refl
  names_pass test p (k ∷ ks) b =
      and_from (not (test (Name (name names k)))) (has_none test (map Name (map (name names) ks)))
      (ap not (p.name (name names k) (name_at names k named (All-head (λ n. n < length names) k ks b)))) (names_pass test p ks (All-tail (λ n. n < length names) k ks b))

  action_passes : (test : Word → Bool) → Passes test → test (Sign Star) ≡ false → test (Sign Becomes) ≡ false → test (Name (codes "assume")) ≡ false → test (Name (codes "choose")) ≡ false → (a : Action) → IsOne a → has_none test (action_words a) ≡ true
  action_passes test p s b e f (Assume g) h =
      and_from (not (test (Name (codes "assume")))) (has_none test (tree_words (tree g))) (ap not e) (none_in_tree names named once test p g (expression_fits names named once g h))
  action_passes test p s b e f (Choose ks) h =
      and_from (not (test (Name (codes "choose")))) (has_none test (map Name (map (name names) ks))) (ap not f) (names_pass test p ks h.1)
  action_passes test p s b e f (Assign ps) h = assign_passes test p s b ps h.0.below h.1

  -- what is asked of an action

  values_known : (ps : List Assignment) → AreValues ps → has_unknown names (flat_map value_names (values_form ps)) ≡ false
  values_known [] h = refl
  values_known (p ∷ ps) h = known_both names (value_names (value_form p.value)) (flat_map value_names (values_form ps)) (value_known p.value (All-head (λ q. IsValue q.value) p ps h)) (values_known ps (All-tail (λ q. IsValue q.value) p ps h))

  action_known : (a : Action) → IsOne a → has_unknown names (action_names (action_form a)) ≡ false
  action_known (Assume f) h = tree_known names named once f (expression_fits names named once f h)
  action_known (Choose ks) h = names_known names ks h.1
  action_known (Assign ps) h = known_both names (map (name names) (variables ps)) (flat_map value_names (values_form ps)) (names_known names (variables ps) h.0.below) (values_known ps h.1)

  values_pass : (test : Tree → Bool) → ((v : ValueText) → IsValue v → list_any test (value_trees (value_form v)) ≡ false) → (ps : List Assignment) → AreValues ps → list_any test (flat_map value_trees (values_form ps)) ≡ false
  values_pass test f [] h = refl
  values_pass test f (p ∷ ps) h = any_both test (value_trees (value_form p.value)) (flat_map value_trees (values_form ps)) (f p.value (All-head (λ q. IsValue q.value) p ps h)) (values_pass test f ps (All-tail (λ q. IsValue q.value) p ps h))

  action_trees_pass : (test : Tree → Bool) → ((v : ValueText) → IsValue v → list_any test (value_trees (value_form v)) ≡ false) → (a : Action) → IsOne a → list_any test (action_trees (action_form a)) ≡ false
  action_trees_pass test f (Assume g) h = f (Is g) h
  action_trees_pass test f (Choose ks) h = refl
  action_trees_pass test f (Assign ps) h = values_pass test f ps h.1

  same_lengths : (ps : List Assignment) → (length (map (name names) (variables ps)) == length (values_form ps)) ≡ true
  same_lengths ps = eq-eqb (length (map (name names) (variables ps))) (length (values_form ps)) (length-map (variables ps) (name names) ∙ length-map ps (λ p. p.variable) ∙ sym (length-map ps (λ p. value_form p.value)))

  action_even : (a : Action) → IsOne a → is_uneven (action_form a) ≡ false
  action_even (Assume f) h = refl
  action_even (Choose ks) h = refl
  action_even (Assign ps) h =
      or_from (not (length (map (name names) (variables ps)) == length (values_form ps))) (has_twice (map (name names) (variables ps)))
      (ap not (same_lengths ps)) (none_named_twice names (variables ps) once h.0.below h.0.once)

  assignments_back : (ps : List Assignment) → AreBelow (length names) (variables ps) → AreValues ps → map (assignment_of names) (zip (map (name names) (variables ps)) (values_form ps)) ≡ ps
  assignments_back [] b h = refl
  assignments_back (p ∷ ps) b h =
      ap₂ (λ x xs. x ∷ xs)
      (ap₂ (λ k v. record { variable = k; value = v }) (number_named names p.variable once (All-head (λ n. n < length names) p.variable (variables ps) b)) (value_back p.value (All-head (λ q. IsValue q.value) p ps h)))
      (assignments_back ps (All-tail (λ n. n < length names) p.variable (variables ps) b) (All-tail (λ q. IsValue q.value) p ps h))

  action_back : (a : Action) → IsOne a → action_value names (action_form a) ≡ a
  action_back (Assume f) h = ap Assume (value_tree names named once f (expression_fits names named once f h))
  action_back (Choose ks) h = ap Choose (numbers_named names ks once h.1)
  action_back (Assign ps) h = ap Assign (assignments_back ps h.0.below h.1)

  -- ---- all actions

  abbrev AreActions : List Action → Type 0
  AreActions acts = All IsOne acts

  abbrev actions_words : List Action → List Word
  actions_words acts = between (Sign Semicolon) (map action_words acts)

  say_actions : (acts : List Action) → AreActions acts → SayEach (map (action_text names) acts) (map action_words acts)
  say_actions [] h = tt
  say_actions (a ∷ acts) h = (says_action a (All-head IsOne a acts h), say_actions acts (All-tail IsOne a acts h))

  none_in_actions : (test : Word → Bool) → ((a : Action) → IsOne a → has_none test (action_words a) ≡ true) → (acts : List Action) → AreActions acts → NoneHas test (map action_words acts)
  none_in_actions test f [] h = tt
  none_in_actions test f (a ∷ acts) h = (f a (All-head IsOne a acts h), none_in_actions test f acts (All-tail IsOne a acts h))

  actions_again : (acts : List Action) → acts ≢ [] → AreActions acts → relation_of (actions_words acts) ≡ Some (ActionsForm (map action_form acts))
  actions_again [] s h = absurd (s refl)
  actions_again (a ∷ acts) s h =
      ap (λ ps. option_map ActionsForm (each action_of ps)) (parted_between is_semicolon (Sign Semicolon) refl (action_words a) (map action_words acts) (none_in_actions is_semicolon (action_passes is_semicolon no_semicolon refl refl refl refl) (a ∷ acts) h))
      ∙ ap (option_map ActionsForm) (each_action (a ∷ acts) h)
    where
      each_action : (as_ : List Action) → AreActions as_ → each action_of (map action_words as_) ≡ Some (map action_form as_)
      each_action [] k = refl
      each_action (b ∷ as_) k =
          ap (λ o. elim o as (λ _. Option (List ActionForm)) [ None ↦ None | Some z ↦ option_map (λ zs. z ∷ zs) (each action_of (map action_words as_)) ]) (action_again b (All-head IsOne b as_ k))
          ∙ ap (option_map (λ zs. action_form b ∷ zs)) (each_action as_ (All-tail IsOne b as_ k))

  actions_first : (word : List ℕ) → is_reserved word ≡ true → is_name word (Name (codes "assume")) ≡ false → is_name word (Name (codes "choose")) ≡ false → (acts : List Action) → AreActions acts → is_first word (actions_words acts) ≡ false
  actions_first word r e f [] h = refl
  actions_first word r e f (a ∷ acts) h = first_between word (Sign Semicolon) (action_words a) (map action_words acts) refl (action_first word r e f a (All-head IsOne a acts h))

  actions_known : (acts : List Action) → AreActions acts → has_unknown names (flat_map action_names (map action_form acts)) ≡ false
  actions_known [] h = refl
  actions_known (a ∷ acts) h = known_both names (action_names (action_form a)) (flat_map action_names (map action_form acts)) (action_known a (All-head IsOne a acts h)) (actions_known acts (All-tail IsOne a acts h))

  actions_even : (acts : List Action) → AreActions acts → list_any is_uneven (map action_form acts) ≡ false
  actions_even [] h = refl
  actions_even (a ∷ acts) h = or_from (is_uneven (action_form a)) (list_any is_uneven (map action_form acts)) (action_even a (All-head IsOne a acts h)) (actions_even acts (All-tail IsOne a acts h))

  actions_pass : (test : Tree → Bool) → ((v : ValueText) → IsValue v → list_any test (value_trees (value_form v)) ≡ false) → (acts : List Action) → AreActions acts → list_any test (flat_map action_trees (map action_form acts)) ≡ false
  actions_pass test f [] h = refl
  actions_pass test f (a ∷ acts) h = any_both test (action_trees (action_form a)) (flat_map action_trees (map action_form acts)) (action_trees_pass test f a (All-head IsOne a acts h)) (actions_pass test f acts (All-tail IsOne a acts h))

  actions_back : (acts : List Action) → AreActions acts → map (action_value names) (map action_form acts) ≡ acts
  actions_back [] h = refl
  actions_back (a ∷ acts) h = ap₂ (λ x xs. x ∷ xs) (action_back a (All-head IsOne a acts h)) (actions_back acts (All-tail IsOne a acts h))

  pub actions_are : (acts : List Action) → acts ≢ [] → AreActions acts → WeightIs Relation names (Actions acts)
  actions_are acts s h = record {
    words = Some (actions_words acts);
    form = ActionsForm (map action_form acts);
    says =
        say_more (codes ":") (in_turn (map (action_text names) acts) ∷ []) (Sign Colon ∷ []) (actions_words acts) (says_word (Sign Colon) refl refl)
        (say_one (in_turn (map (action_text names) acts)) (actions_words acts) (says_in_turn (map (action_text names) acts) (map action_words acts) (say_actions acts h)));
    stays = none_between is_return (Sign Semicolon) refl (map action_words acts) (none_in_actions is_return (action_passes is_return no_return refl refl refl refl) acts h);
    reads = own_relation (actions_words acts) (actions_first (codes "one") refl refl refl acts h) (actions_first (codes "none") refl refl refl acts h) ∙ actions_again acts s h;
    known = actions_known acts h;
    lawful = or_from (list_any is_uneven (map action_form acts)) (list_any has_large_table (flat_map action_trees (map action_form acts))) (actions_even acts h) (actions_pass has_large_table value_small acts h);
    shallow = actions_pass (λ e. nat_lt most_depth (depth e)) value_shallow acts h;
    value = ap Actions (actions_back acts h);
  }
