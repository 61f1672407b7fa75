-- A line's words are its form exactly where the form writes them.
use Rattle.std.proofs.Common.{◌≡◌, ◌↔◌, ℕ, Bool, true, false, not, cond, ◌&&◌, ◌||◌, List, [], ◌∷◌, ◌++◌, Option, Some, None, map, refl, sym, ap, ap₂, ◌∙◌, subst, append-nil, length}
use Rattle.std.specs.Prelude.{codes, flat_map, option_map, is_some, nat_le, if◌then◌else◌}
use Rattle.std.specs.List.{list_all, list_any}
use Rattle.std.proofs.lemmas.Bool.{and_parts, and_from}
use Rattle.wpds_port.specs.declared.Mark.TheVariants.{Arrow, Implies, Colon, Equal, CloseBrace}
use Rattle.wpds_port.specs.declared.Word.{Word}
use Rattle.wpds_port.specs.declared.Word.TheVariants.{Name, Number, Mark as Sign}
use Rattle.wpds_port.specs.Tokens.{is_lawful_word}
use Rattle.truth_tables.specs.Texts.{is_name}
use Rattle.wpds_base.specs.Limits.{most_pushed}
use Rattle.document_forms.specs.Lines.{in_front}
use Rattle.document_forms.specs.Names.{is_reserved}
use Rattle.document_forms.specs.Words.{is_return, is_implies, is_colon, is_move, before, behind, begins_pair, pairs, name_of, each, each_of_some, guarded, ◌>>=◌}
use Rattle.document_forms.specs.Patterns.{SetForm, Dotted, Bare, Braced, ItemForm, PatternForm, set_words, star_words, items_words, items_of, are_items, pattern_of}
use Rattle.document_forms.specs.Returns.{MoveForm, ReturnForm, PlainReturn, GivenMap, move_of, moves_in, moves_of, moves_behind, restore_of, plain_of, only_moves, return_of}
use Rattle.document_forms.specs.Forms.{WeightsForm, ReachWeights, CostWeights, GenKillWeights, CopyWeights, RelationWeights, Class, Controls, Symbols, Facts, Variables, RuleForm, LineForm, OfWeights, OfNames, OfRule, OfQuery, weights_named, weights_of, names_of, return_behind, rule_with, rule_of, query_of, form_behind, form_of}
use Rattle.document_forms.specs.FormWords.{weights_words, class_word, pattern_words, move_words, moves_words, restore_words, return_words, back_words, weight_words, right_words, rule_words, form_words, is_some_list, has_none, is_restore, are_moves, is_return_form, is_back, is_rule_form, is_form, IsForm}
use Rattle.document_forms.proofs.ItemLemmas.{are_items_lem}
use Rattle.document_forms.proofs.CutLemmas.{colon_only, implies_only, name_only, all_before, cut_at, none_before, before_joined, behind_joined, before_all, behind_none, names_written, written_names, some_names_written, written_some_names, names_have_no_colon, all_pieces, pairs_joined}

-- ---- options

pub of_guarded : {A : Type 0} (b : Bool) (o : Option A) (x : A) → guarded b o ≡ Some x → (b ≡ true) × (o ≡ Some x)
of_guarded true o x h = (refl, h)
of_guarded false o x h = cc

pub of_bind : {A B : Type 0} (o : Option A) (f : A → Option B) (y : B) → (o >>= f) ≡ Some y → (x : A) × (o ≡ Some x) × (f x ≡ Some y)
of_bind None f y h = cc
of_bind (Some x) f y h = (x, refl, h)

pub of_map : {A B : Type 0} (f : A → B) (o : Option A) (y : B) → option_map f o ≡ Some y → (x : A) × (o ≡ Some x) × (f x ≡ y)
of_map f None y h = cc
of_map f (Some x) y h = let same : f x ≡ y = cc in (x, refl, same)

-- ---- patterns

pattern_written : (ws : List Word) (p : PatternForm) → pattern_of ws ≡ Some p → (are_items p.items ≡ true) × (pattern_words p ≡ ws)
pattern_written (Name x ∷ Sign Colon ∷ ws) p h =
    let m = of_map (λ is. record { control = x; items = is }) (items_of ws) p h in
    let k = (are_items_lem ws m.0).0 m.1 in (
      subst (λ q. are_items q.items ≡ true) m.2 k.0,
      ap pattern_words (sym m.2) ∙ ap (λ v. Name x ∷ Sign Colon ∷ v) k.1,
    )
pattern_written _ p h = cc

written_pattern : (p : PatternForm) → are_items p.items ≡ true → pattern_of (pattern_words p) ≡ Some p
written_pattern p h = ap (option_map (λ is. record { control = p.control; items = is })) ((are_items_lem (items_words p.items) p.items).1 (h, refl))

pub none_append : (test : Word → Bool) (us vs : List Word) → has_none test us ≡ true → has_none test vs ≡ true → has_none test (us ++ vs) ≡ true
none_append test [] vs h k = k
none_append test (u ∷ us) vs h k =
    let m = and_parts (not (test u)) (has_none test us) h in
    and_from (not (test u)) (has_none test (us ++ vs)) m.0 (none_append test us vs m.1 k)

names_no_implies : (xs : List (List ℕ)) → has_none is_implies (map Name xs) ≡ true
names_no_implies [] = refl
names_no_implies (x ∷ xs) = names_no_implies xs

set_no_implies : (s : SetForm) → has_none is_implies (set_words s) ≡ true
set_no_implies Dotted = refl
set_no_implies (Bare x) = refl
set_no_implies (Braced xs) = none_append is_implies (map Name xs) (Sign CloseBrace ∷ []) (names_no_implies xs) refl

star_no_implies : (b : Bool) → has_none is_implies (star_words b) ≡ true
star_no_implies true = refl
star_no_implies false = refl

items_no_implies : (is : List ItemForm) → has_none is_implies (items_words is) ≡ true
items_no_implies [] = refl
items_no_implies (i ∷ is) =
    none_append is_implies (set_words i.set ++ star_words i.star) (items_words is)
    (none_append is_implies (set_words i.set) (star_words i.star) (set_no_implies i.set) (star_no_implies i.star))
    (items_no_implies is)

-- ---- queries

query_written : (ws : List Word) (f : LineForm) → query_of ws ≡ Some f → (is_form f ≡ true) × (form_words f ≡ Name (codes "query") ∷ ws)
query_written ws f h =
    let a = of_bind (pattern_of (before is_implies ws)) (λ p. behind is_implies ws >>= λ text. pattern_of text >>= λ q. Some (OfQuery p q)) f h in
    let b = of_bind (behind is_implies ws) (λ text. pattern_of text >>= λ q. Some (OfQuery a.0 q)) f a.2 in
    let c = of_bind (pattern_of b.0) (λ q. Some (OfQuery a.0 q)) f b.2 in
    let same : OfQuery a.0 c.0 ≡ f = cc in
    let p = pattern_written (before is_implies ws) a.0 a.1 in
    let q = pattern_written b.0 c.0 c.1 in
    let cut = cut_at is_implies ws b.0 b.1 in (
      subst (λ g. is_form g ≡ true) same (and_from (are_items a.0.items) (are_items c.0.items) p.0 q.0),
      ap form_words (sym same)
          ∙ ap (λ v. Name (codes "query") ∷ v)
          (ap₂ (λ u v. u ++ Sign Implies ∷ v) p.1 q.1
          ∙ ap (λ w. before is_implies ws ++ w ∷ b.0) (sym (implies_only cut.0 cut.1))
          ∙ sym cut.2),
    )

written_query : (p q : PatternForm) → is_form (OfQuery p q) ≡ true → query_of (pattern_words p ++ Sign Implies ∷ pattern_words q) ≡ Some (OfQuery p q)
written_query p q h =
    let k = and_parts (are_items p.items) (are_items q.items) h in
    let none = items_no_implies p.items in
    ap (λ us. pattern_of us >>= λ a. behind is_implies (pattern_words p ++ Sign Implies ∷ pattern_words q) >>= λ text. pattern_of text >>= λ b. Some (OfQuery a b))
    (before_joined is_implies (pattern_words p) (Sign Implies) (pattern_words q) none refl)
    ∙ ap (λ o. o >>= λ a. behind is_implies (pattern_words p ++ Sign Implies ∷ pattern_words q) >>= λ text. pattern_of text >>= λ b. Some (OfQuery a b))
    (written_pattern p k.0)
    ∙ ap (λ o. o >>= λ text. pattern_of text >>= λ b. Some (OfQuery p b))
    (behind_joined is_implies (pattern_words p) (Sign Implies) (pattern_words q) none refl)
    ∙ ap (λ o. o >>= λ b. Some (OfQuery p b)) (written_pattern q k.1)

-- ---- moves

module _ {A B : Type 0} (f : A → Option B) where
  -- the first item and the others
  abbrev pub Parts : A → List A → List B → Type 0
  Parts x xs ys = (y : B) × (zs : List B) × (f x ≡ Some y) × (each f xs ≡ Some zs) × (y ∷ zs ≡ ys)

  pub of_each : (x : A) (xs : List A) (ys : List B) → each f (x ∷ xs) ≡ Some ys → Parts x xs ys
  of_each x xs ys h = first (f x) refl h
    where
      rest : (y : B) → f x ≡ Some y → (o : Option (List B)) → each f xs ≡ o → option_map (λ zs. y ∷ zs) o ≡ Some ys → Parts x xs ys
      rest y e None k s = cc
      rest y e (Some zs) k s = let same : y ∷ zs ≡ ys = cc in (y, zs, e, k, same)

      first : (o : Option B) → f x ≡ o → elim o as (λ _. Option (List B)) [ None ↦ None | Some y ↦ option_map (λ zs. y ∷ zs) (each f xs) ] ≡ Some ys → Parts x xs ys
      first None e s = cc
      first (Some y) e s = rest y e (each f xs) refl s

move_written : (p : List Word) (m : MoveForm) → move_of p ≡ Some m → move_words m ≡ p
move_written (Name x ∷ Sign Equal ∷ Name y ∷ []) m h =
    let same : record { to = x; from = y } ≡ m = cc in ap move_words (sym same)
move_written _ m h = cc

moves_joined : (ps : List (List Word)) (ms : List MoveForm) → each move_of ps ≡ Some ms → flat_map move_words ms ≡ all_pieces ps
moves_joined [] ms h = let same : ms ≡ [] = cc in ap (flat_map move_words) same
moves_joined (p ∷ ps) ms h =
    let m = of_each move_of p ps ms h in
    ap (flat_map move_words) (sym m.4)
    ∙ ap₂ (λ u v. u ++ v) (move_written p m.0 m.2) (moves_joined ps m.1 m.3)

some_moves : (ps : List (List Word)) (ms : List MoveForm) → each_of_some move_of ps ≡ Some ms → (is_some_list ms ≡ true) × (flat_map move_words ms ≡ all_pieces ps)
some_moves [] ms h = cc
some_moves (p ∷ ps) ms h =
    let m = of_each move_of p ps ms h in
    (subst (λ l. is_some_list l ≡ true) m.4 refl, moves_joined (p ∷ ps) ms h)

pub moves_written : (ws : List Word) (ms : List MoveForm) → moves_of ws ≡ Some ms → (is_some_list ms ≡ true) × (flat_map move_words ms ≡ ws)
moves_written ws ms h = let k = go (pairs ws) h in (k.0, k.1 ∙ pairs_joined ws)
  where
    go : (ps : List (List Word)) → moves_in ps ≡ Some ms → (is_some_list ms ≡ true) × (flat_map move_words ms ≡ all_pieces ps)
    go [] e = cc
    go ([] ∷ ps) e = some_moves ps ms e
    go ((w ∷ p) ∷ ps) e = cc

no_pair : (x : List ℕ) (ms : List MoveForm) → begins_pair (Name x ∷ flat_map move_words ms) ≡ false
no_pair x [] = refl
no_pair x (m ∷ ms) = refl

pairs_of_moves : (ms : List MoveForm) → pairs (flat_map move_words ms) ≡ [] ∷ map move_words ms
pairs_of_moves [] = refl
pairs_of_moves (m ∷ ms) =
    let rest = pairs (flat_map move_words ms) in
    ap (λ b. [] ∷ in_front (Name m.to) (in_front (Sign Equal) (cond b ([] ∷ in_front (Name m.from) rest) (in_front (Name m.from) rest))))
    (no_pair m.from ms)
    ∙ ap (λ ps. [] ∷ in_front (Name m.to) (in_front (Sign Equal) (in_front (Name m.from) ps))) (pairs_of_moves ms)

each_move : (ms : List MoveForm) → each move_of (map move_words ms) ≡ Some ms
each_move [] = refl
each_move (m ∷ ms) = ap (option_map (λ ys. m ∷ ys)) (each_move ms)

pub written_moves : (ms : List MoveForm) → is_some_list ms ≡ true → moves_of (flat_map move_words ms) ≡ Some ms
written_moves [] h = cc
written_moves (m ∷ ms) h = ap moves_in (pairs_of_moves (m ∷ ms)) ∙ each_move (m ∷ ms)

-- ---- returns

moves_behind_written : (ws : List Word) (ms : Option (List MoveForm)) → moves_behind ws ≡ Some ms → (are_moves ms ≡ true) × (before is_move ws ++ moves_words ms ≡ ws)
moves_behind_written ws ms h = go (behind is_move ws) refl h
  where
    go : (o : Option (List Word)) → behind is_move ws ≡ o → elim o as (λ _. Option (Option (List MoveForm))) [ None ↦ Some None | Some vs ↦ option_map Some (moves_of vs) ] ≡ Some ms → (are_moves ms ≡ true) × (before is_move ws ++ moves_words ms ≡ ws)
    go None e s =
        let same : ms ≡ None = cc in (
          subst (λ o. are_moves o ≡ true) (sym same) refl,
          ap (λ o. before is_move ws ++ moves_words o) same ∙ append-nil (before is_move ws) ∙ all_before is_move ws e,
        )
    go (Some vs) e s =
        let m = of_map Some (moves_of vs) ms s in
        let k = moves_written vs m.0 m.1 in
        let cut = cut_at is_move ws vs e in (
          subst (λ o. are_moves o ≡ true) m.2 k.0,
          ap (λ o. before is_move ws ++ moves_words o) (sym m.2)
              ∙ ap (λ v. before is_move ws ++ Name (codes "move") ∷ v) k.1
              ∙ ap (λ w. before is_move ws ++ w ∷ vs) (sym (name_only (codes "move") cut.0 cut.1))
              ∙ sym cut.2,
        )

restore_written : (ws : List Word) (r : ReturnForm) → restore_of ws ≡ Some r → (is_return_form r ≡ true) × (return_words r ≡ Name (codes "restore") ∷ ws)
restore_written ws r h =
    let a = of_bind (each_of_some name_of (before is_move ws)) (λ xs. moves_behind ws >>= λ ms. Some (GivenMap (record { restore = Some xs; moves = ms }))) r h in
    let b = of_bind (moves_behind ws) (λ ms. Some (GivenMap (record { restore = Some a.0; moves = ms }))) r a.2 in
    let same : GivenMap (record { restore = Some a.0; moves = b.0 }) ≡ r = cc in
    let xs = some_names_written (before is_move ws) a.0 a.1 in
    let ms = moves_behind_written ws b.0 b.1 in
    let none : has_none is_move (map Name a.0) ≡ true = subst (λ v. has_none is_move v ≡ true) (sym xs.1) (none_before is_move ws) in (
      subst (λ q. is_return_form q ≡ true) same
          (and_from (is_restore (Some a.0)) (are_moves b.0) (and_from (is_some_list a.0) (has_none is_move (map Name a.0)) xs.0 none) ms.0),
      ap return_words (sym same)
          ∙ ap (λ v. Name (codes "restore") ∷ (v ++ moves_words b.0)) xs.1
          ∙ ap (λ v. Name (codes "restore") ∷ v) ms.1,
    )

return_written : (ws : List Word) (r : ReturnForm) → return_of ws ≡ Some r → (is_return_form r ≡ true) × (return_words r ≡ ws)
return_written [] r h = cc
return_written (w ∷ ws) r h = plain (is_name (codes "plain") w) refl h
  where
    only_plain : (vs : List Word) → plain_of vs ≡ Some r → (is_return_form r ≡ true) × (return_words r ≡ Name (codes "plain") ∷ vs)
    only_plain [] e = let same : PlainReturn ≡ r = cc in (subst (λ q. is_return_form q ≡ true) same refl, ap return_words (sym same))
    only_plain (v ∷ vs) e = cc

    moves : (t : Bool) → is_name (codes "move") w ≡ t → (if t then option_map only_moves (moves_of ws) else None) ≡ Some r → (is_return_form r ≡ true) × (return_words r ≡ w ∷ ws)
    moves true e s =
        let m = of_map only_moves (moves_of ws) r s in
        let k = moves_written ws m.0 m.1 in (
          subst (λ q. is_return_form q ≡ true) m.2 k.0,
          ap return_words (sym m.2) ∙ ap (λ v. Name (codes "move") ∷ v) k.1 ∙ ap (λ u. u ∷ ws) (sym (name_only (codes "move") w e)),
        )
    moves false e s = cc

    restore : (t : Bool) → is_name (codes "restore") w ≡ t → (if t then restore_of ws else (if is_name (codes "move") w then option_map only_moves (moves_of ws) else None)) ≡ Some r → (is_return_form r ≡ true) × (return_words r ≡ w ∷ ws)
    restore true e s = let k = restore_written ws r s in (k.0, k.1 ∙ ap (λ u. u ∷ ws) (sym (name_only (codes "restore") w e)))
    restore false e s = moves (is_name (codes "move") w) refl s

    plain : (t : Bool) → is_name (codes "plain") w ≡ t → (if t then plain_of ws else (if is_name (codes "restore") w then restore_of ws else (if is_name (codes "move") w then option_map only_moves (moves_of ws) else None))) ≡ Some r → (is_return_form r ≡ true) × (return_words r ≡ w ∷ ws)
    plain true e s = let k = only_plain ws s in (k.0, k.1 ∙ ap (λ u. u ∷ ws) (sym (name_only (codes "plain") w e)))
    plain false e s = restore (is_name (codes "restore") w) refl s

written_restore : (xs : List (List ℕ)) (ms : Option (List MoveForm)) → is_restore (Some xs) ≡ true → are_moves ms ≡ true → restore_of (map Name xs ++ moves_words ms) ≡ Some (GivenMap (record { restore = Some xs; moves = ms }))
written_restore xs ms h k =
    ap (λ us. each_of_some name_of us >>= λ a. moves_behind (map Name xs ++ moves_words ms) >>= λ b. Some (GivenMap (record { restore = Some a; moves = b }))) (start ms)
    ∙ ap (λ o. o >>= λ a. moves_behind (map Name xs ++ moves_words ms) >>= λ b. Some (GivenMap (record { restore = Some a; moves = b }))) (written_some_names xs parts.0)
    ∙ ap (λ o. o >>= λ b. Some (GivenMap (record { restore = Some xs; moves = b }))) (end ms k)
  where
    parts : (is_some_list xs ≡ true) × (has_none is_move (map Name xs) ≡ true)
    parts = and_parts (is_some_list xs) (has_none is_move (map Name xs)) h

    start : (o : Option (List MoveForm)) → before is_move (map Name xs ++ moves_words o) ≡ map Name xs
    start None = ap (before is_move) (append-nil (map Name xs)) ∙ before_all is_move (map Name xs) parts.1
    start (Some vs) = before_joined is_move (map Name xs) (Name (codes "move")) (flat_map move_words vs) parts.1 refl

    end : (o : Option (List MoveForm)) → are_moves o ≡ true → moves_behind (map Name xs ++ moves_words o) ≡ Some o
    end None e =
        ap (λ o. elim o as (λ _. Option (Option (List MoveForm))) [ None ↦ Some None | Some vs ↦ option_map Some (moves_of vs) ])
        (ap (behind is_move) (append-nil (map Name xs)) ∙ behind_none is_move (map Name xs) parts.1)
    end (Some vs) e =
        ap (λ o. elim o as (λ _. Option (Option (List MoveForm))) [ None ↦ Some None | Some us ↦ option_map Some (moves_of us) ])
        (behind_joined is_move (map Name xs) (Name (codes "move")) (flat_map move_words vs) parts.1 refl)
        ∙ ap (option_map Some) (written_moves vs e)

written_return : (r : ReturnForm) → is_return_form r ≡ true → return_of (return_words r) ≡ Some r
written_return PlainReturn h = refl
written_return (GivenMap m) h = go m.restore m.moves h
  where
    go : (o : Option (List (List ℕ))) (p : Option (List MoveForm)) → ((is_some o || is_some p) && (is_restore o && are_moves p)) ≡ true → return_of (restore_words o ++ moves_words p) ≡ Some (GivenMap (record { restore = o; moves = p }))
    go None None e = cc
    go None (Some ms) e = ap (option_map only_moves) (written_moves ms e)
    go (Some xs) p e = let k = and_parts (is_restore (Some xs)) (are_moves p) e in written_restore xs p k.0 k.1

-- ---- rules

back_written : (ws : List Word) (back : Option ReturnForm) → return_behind ws ≡ Some back → (is_back back ≡ true) × (before is_return ws ++ back_words back ≡ ws)
back_written ws back h = go (behind is_return ws) refl h
  where
    go : (o : Option (List Word)) → behind is_return ws ≡ o → elim o as (λ _. Option (Option ReturnForm)) [ None ↦ Some None | Some vs ↦ option_map Some (return_of vs) ] ≡ Some back → (is_back back ≡ true) × (before is_return ws ++ back_words back ≡ ws)
    go None e s =
        let same : back ≡ None = cc in (
          subst (λ o. is_back o ≡ true) (sym same) refl,
          ap (λ o. before is_return ws ++ back_words o) same ∙ append-nil (before is_return ws) ∙ all_before is_return ws e,
        )
    go (Some vs) e s =
        let m = of_map Some (return_of vs) back s in
        let k = return_written vs m.0 m.1 in
        let cut = cut_at is_return ws vs e in (
          subst (λ o. is_back o ≡ true) m.2 k.0,
          ap (λ o. before is_return ws ++ back_words o) (sym m.2)
              ∙ ap (λ v. before is_return ws ++ Name (codes "return") ∷ v) k.1
              ∙ ap (λ w. before is_return ws ++ w ∷ vs) (sym (name_only (codes "return") cut.0 cut.1))
              ∙ sym cut.2,
        )

-- the words up to a colon, and from it on
weight_behind : (text : List Word) → before is_colon text ++ weight_words (behind is_colon text) ≡ text
weight_behind text = go (behind is_colon text) refl
  where
    go : (o : Option (List Word)) → behind is_colon text ≡ o → before is_colon text ++ weight_words o ≡ text
    go None e = append-nil (before is_colon text) ∙ all_before is_colon text e
    go (Some vs) e =
        let cut = cut_at is_colon text vs e in
        ap (λ w. before is_colon text ++ w ∷ vs) (sym (colon_only cut.0 cut.1)) ∙ sym cut.2

module _ (p g q : List ℕ) where
  abbrev made : List Word → List (List ℕ) → Option ReturnForm → RuleForm
  made ws right back = record {
    control = p;
    symbol = g;
    to = q;
    right = right;
    weight = behind is_colon (before is_return ws);
    back = back;
  }

  abbrev made_with : List Word → List (List ℕ) → Option ReturnForm → Option RuleForm
  made_with ws right back = guarded (nat_le (length right) most_pushed) (Some (made ws right back))

  rule_with_written : (ws : List Word) (r : RuleForm) → rule_with p g q ws ≡ Some r → (is_rule_form r ≡ true) × (rule_words r ≡ Name p ∷ Name g ∷ Sign Arrow ∷ Name q ∷ ws)
  rule_with_written ws r h =
      let text = before is_return ws in
      let a = of_bind (each name_of (before is_colon text)) (λ right. return_behind ws >>= λ back. made_with ws right back) r h in
      let b = of_bind (return_behind ws) (λ back. made_with ws a.0 back) r a.2 in
      let c = of_guarded (nat_le (length a.0) most_pushed) (Some (made ws a.0 b.0)) r b.2 in
      let same : made ws a.0 b.0 ≡ r = cc in
      let right = names_written (before is_colon text) a.0 a.1 in
      let back = back_written ws b.0 b.1 in
      let whole : right_words (made ws a.0 b.0) ≡ text = ap (λ v. v ++ weight_words (behind is_colon text)) right ∙ weight_behind text in
      let none : has_none is_return (right_words (made ws a.0 b.0)) ≡ true = subst (λ v. has_none is_return v ≡ true) (sym whole) (none_before is_return ws) in (
        subst (λ s. is_rule_form s ≡ true) same
            (and_from (nat_le (length a.0) most_pushed) (has_none is_return (right_words (made ws a.0 b.0)) && is_back b.0) c.0
            (and_from (has_none is_return (right_words (made ws a.0 b.0))) (is_back b.0) none back.0)),
        ap rule_words (sym same)
            ∙ ap (λ v. Name p ∷ Name g ∷ Sign Arrow ∷ Name q ∷ (v ++ back_words b.0)) whole
            ∙ ap (λ v. Name p ∷ Name g ∷ Sign Arrow ∷ Name q ∷ v) back.1,
      )

rule_written : (ws : List Word) (r : RuleForm) → rule_of ws ≡ Some r → (is_rule_form r ≡ true) × (rule_words r ≡ ws)
rule_written (Name p ∷ Name g ∷ Sign Arrow ∷ Name q ∷ ws) r h = rule_with_written p g q ws r h
rule_written _ r h = cc

text_before : (us : List Word) (back : Option ReturnForm) → has_none is_return us ≡ true → before is_return (us ++ back_words back) ≡ us
text_before us None h = ap (before is_return) (append-nil us) ∙ before_all is_return us h
text_before us (Some r) h = before_joined is_return us (Name (codes "return")) (return_words r) h refl

return_after : (us : List Word) (back : Option ReturnForm) → has_none is_return us ≡ true → is_back back ≡ true → return_behind (us ++ back_words back) ≡ Some back
return_after us None h k =
    ap (λ o. elim o as (λ _. Option (Option ReturnForm)) [ None ↦ Some None | Some vs ↦ option_map Some (return_of vs) ])
    (ap (behind is_return) (append-nil us) ∙ behind_none is_return us h)
return_after us (Some r) h k =
    ap (λ o. elim o as (λ _. Option (Option ReturnForm)) [ None ↦ Some None | Some vs ↦ option_map Some (return_of vs) ])
    (behind_joined is_return us (Name (codes "return")) (return_words r) h refl)
    ∙ ap (option_map Some) (written_return r k)

names_before : (xs : List (List ℕ)) (weight : Option (List Word)) → before is_colon (map Name xs ++ weight_words weight) ≡ map Name xs
names_before xs None = ap (before is_colon) (append-nil (map Name xs)) ∙ before_all is_colon (map Name xs) (names_have_no_colon xs)
names_before xs (Some ws) = before_joined is_colon (map Name xs) (Sign Colon) ws (names_have_no_colon xs) refl

weight_after : (xs : List (List ℕ)) (weight : Option (List Word)) → behind is_colon (map Name xs ++ weight_words weight) ≡ weight
weight_after xs None = ap (behind is_colon) (append-nil (map Name xs)) ∙ behind_none is_colon (map Name xs) (names_have_no_colon xs)
weight_after xs (Some ws) = behind_joined is_colon (map Name xs) (Sign Colon) ws (names_have_no_colon xs) refl

guarded_true : {A : Type 0} (b : Bool) (o : Option A) → b ≡ true → guarded b o ≡ o
guarded_true b o h = ap (λ t. guarded t o) h

written_rule : (r : RuleForm) → is_rule_form r ≡ true → rule_of (rule_words r) ≡ Some r
written_rule r h =
    let short = nat_le (length r.right) most_pushed in
    let k = and_parts short (has_none is_return (right_words r) && is_back r.back) h in
    let m = and_parts (has_none is_return (right_words r)) (is_back r.back) k.1 in
    let ws = right_words r ++ back_words r.back in
    let text = text_before (right_words r) r.back m.0 in
    ap (λ u. each name_of (before is_colon u) >>= λ right. return_behind ws >>= λ back. guarded (nat_le (length right) most_pushed) (Some (record { control = r.control; symbol = r.symbol; to = r.to; right = right; weight = behind is_colon u; back = back }))) text
    ∙ ap (λ u. each name_of u >>= λ right. return_behind ws >>= λ back. guarded (nat_le (length right) most_pushed) (Some (record { control = r.control; symbol = r.symbol; to = r.to; right = right; weight = behind is_colon (right_words r); back = back }))) (names_before r.right r.weight)
    ∙ ap (λ o. o >>= λ right. return_behind ws >>= λ back. guarded (nat_le (length right) most_pushed) (Some (record { control = r.control; symbol = r.symbol; to = r.to; right = right; weight = behind is_colon (right_words r); back = back }))) (written_names r.right)
    ∙ ap (λ o. o >>= λ back. guarded short (Some (record { control = r.control; symbol = r.symbol; to = r.to; right = r.right; weight = behind is_colon (right_words r); back = back }))) (return_after (right_words r) r.back m.0 m.1)
    ∙ guarded_true short (Some (record { control = r.control; symbol = r.symbol; to = r.to; right = r.right; weight = behind is_colon (right_words r); back = r.back })) k.0
    ∙ ap (λ w. Some (record { control = r.control; symbol = r.symbol; to = r.to; right = r.right; weight = w; back = r.back })) (weight_after r.right r.weight)

-- ---- weights and names

weights_named_written : (w : Word) (x : WeightsForm) → weights_named w ≡ Some x → weights_words x ≡ w ∷ []
weights_named_written w x h = reach (is_name (codes "reach") w) refl h
  where
    word : (y : WeightsForm) (n : List ℕ) → weights_words y ≡ Name n ∷ [] → is_name n w ≡ true → Some y ≡ Some x → weights_words x ≡ w ∷ []
    word y n e t s = let same : y ≡ x = cc in ap weights_words (sym same) ∙ e ∙ ap (λ u. u ∷ []) (sym (name_only n w t))

    relation : (t : Bool) → is_name (codes "relation") w ≡ t → (if t then Some RelationWeights else None) ≡ Some x → weights_words x ≡ w ∷ []
    relation true e s = word RelationWeights (codes "relation") refl e s
    relation false e s = cc

    copy : (t : Bool) → is_name (codes "copy") w ≡ t → (if t then Some CopyWeights else (if is_name (codes "relation") w then Some RelationWeights else None)) ≡ Some x → weights_words x ≡ w ∷ []
    copy true e s = word CopyWeights (codes "copy") refl e s
    copy false e s = relation (is_name (codes "relation") w) refl s

    genkill : (t : Bool) → is_name (codes "genkill") w ≡ t → (if t then Some GenKillWeights else (if is_name (codes "copy") w then Some CopyWeights else (if is_name (codes "relation") w then Some RelationWeights else None))) ≡ Some x → weights_words x ≡ w ∷ []
    genkill true e s = word GenKillWeights (codes "genkill") refl e s
    genkill false e s = copy (is_name (codes "copy") w) refl s

    reach : (t : Bool) → is_name (codes "reach") w ≡ t → (if t then Some ReachWeights else (if is_name (codes "genkill") w then Some GenKillWeights else (if is_name (codes "copy") w then Some CopyWeights else (if is_name (codes "relation") w then Some RelationWeights else None)))) ≡ Some x → weights_words x ≡ w ∷ []
    reach true e s = word ReachWeights (codes "reach") refl e s
    reach false e s = genkill (is_name (codes "genkill") w) refl s

weights_written : (ws : List Word) (x : WeightsForm) → weights_of ws ≡ Some x → weights_words x ≡ ws
weights_written (w ∷ []) x h = weights_named_written w x h
weights_written (w ∷ Number n ∷ []) x h = go (is_name (codes "cost") w) refl h
  where
    go : (t : Bool) → is_name (codes "cost") w ≡ t → (if t then Some (CostWeights n) else None) ≡ Some x → weights_words x ≡ w ∷ Number n ∷ []
    go true e s =
        let same : CostWeights n ≡ x = cc in
        ap weights_words (sym same) ∙ ap (λ u. u ∷ Number n ∷ []) (sym (name_only (codes "cost") w e))
    go false e s = cc
weights_written _ x h = cc

written_weights : (x : WeightsForm) → weights_of (weights_words x) ≡ Some x
written_weights ReachWeights = refl
written_weights (CostWeights n) = refl
written_weights GenKillWeights = refl
written_weights CopyWeights = refl
written_weights RelationWeights = refl

abbrev are_new : List (List ℕ) → Bool
are_new xs = not (list_any is_reserved xs)

names_line_written : (ws : List Word) (xs : List (List ℕ)) → names_of ws ≡ Some xs → ((is_some_list xs && are_new xs) ≡ true) × (map Name xs ≡ ws)
names_line_written ws xs h =
    let a = of_bind (each_of_some name_of ws) (λ ys. guarded (are_new ys) (Some ys)) xs h in
    let b = of_guarded (are_new a.0) (Some a.0) xs a.2 in
    let same : a.0 ≡ xs = cc in
    let k = some_names_written ws a.0 a.1 in (
      subst (λ ys. (is_some_list ys && are_new ys) ≡ true) same (and_from (is_some_list a.0) (are_new a.0) k.0 b.0),
      ap (map Name) (sym same) ∙ k.1,
    )

written_names_line : (xs : List (List ℕ)) → (is_some_list xs && are_new xs) ≡ true → names_of (map Name xs) ≡ Some xs
written_names_line xs h =
    let k = and_parts (is_some_list xs) (are_new xs) h in
    ap (λ o. o >>= λ ys. guarded (are_new ys) (Some ys)) (written_some_names xs k.0)
    ∙ guarded_true (are_new xs) (Some xs) k.1

-- ---- all lines

module _ (w : Word) (ws : List Word) (f : LineForm) where
  abbrev IsWritten : Type 0
  IsWritten = (is_form f ≡ true) × (form_words f ≡ w ∷ ws)

  -- behind the first word of a form
  begun : (x : List ℕ) → is_name x w ≡ true → (is_form f ≡ true) × (form_words f ≡ Name x ∷ ws) → IsWritten
  begun x t m = (m.0, m.1 ∙ ap (λ u. u ∷ ws) (sym (name_only x w t)))

  names_line : (c : Class) → option_map (OfNames c) (names_of ws) ≡ Some f → (is_form f ≡ true) × (form_words f ≡ Name (class_word c) ∷ ws)
  names_line c h =
      let m = of_map (OfNames c) (names_of ws) f h in
      let k = names_line_written ws m.0 m.1 in
      (subst (λ g. is_form g ≡ true) m.2 k.0, ap form_words (sym m.2) ∙ ap (λ v. Name (class_word c) ∷ v) k.1)

  weights_line : option_map OfWeights (weights_of ws) ≡ Some f → (is_form f ≡ true) × (form_words f ≡ Name (codes "weights") ∷ ws)
  weights_line h =
      let m = of_map OfWeights (weights_of ws) f h in
      (subst (λ g. is_form g ≡ true) m.2 refl, ap form_words (sym m.2) ∙ ap (λ v. Name (codes "weights") ∷ v) (weights_written ws m.0 m.1))

  rule_line : option_map OfRule (rule_of ws) ≡ Some f → (is_form f ≡ true) × (form_words f ≡ Name (codes "rule") ∷ ws)
  rule_line h =
      let m = of_map OfRule (rule_of ws) f h in
      let k = rule_written ws m.0 m.1 in
      (subst (λ g. is_form g ≡ true) m.2 k.0, ap form_words (sym m.2) ∙ ap (λ v. Name (codes "rule") ∷ v) k.1)

  -- the tests of the first word, from the last to the first
  abbrev if_query : Option LineForm
  if_query = if is_name (codes "query") w then query_of ws else None

  abbrev if_rule : Option LineForm
  if_rule = if is_name (codes "rule") w then option_map OfRule (rule_of ws) else if_query

  abbrev if_variables : Option LineForm
  if_variables = if is_name (codes "variables") w then option_map (OfNames Variables) (names_of ws) else if_rule

  abbrev if_facts : Option LineForm
  if_facts = if is_name (codes "facts") w then option_map (OfNames Facts) (names_of ws) else if_variables

  abbrev if_symbols : Option LineForm
  if_symbols = if is_name (codes "symbols") w then option_map (OfNames Symbols) (names_of ws) else if_facts

  abbrev if_controls : Option LineForm
  if_controls = if is_name (codes "controls") w then option_map (OfNames Controls) (names_of ws) else if_symbols

  query : (t : Bool) → is_name (codes "query") w ≡ t → (if t then query_of ws else None) ≡ Some f → IsWritten
  query true e s = begun (codes "query") e (query_written ws f s)
  query false e s = cc

  rule : (t : Bool) → is_name (codes "rule") w ≡ t → (if t then option_map OfRule (rule_of ws) else if_query) ≡ Some f → IsWritten
  rule true e s = begun (codes "rule") e (rule_line s)
  rule false e s = query (is_name (codes "query") w) refl s

  variables : (t : Bool) → is_name (codes "variables") w ≡ t → (if t then option_map (OfNames Variables) (names_of ws) else if_rule) ≡ Some f → IsWritten
  variables true e s = begun (codes "variables") e (names_line Variables s)
  variables false e s = rule (is_name (codes "rule") w) refl s

  facts : (t : Bool) → is_name (codes "facts") w ≡ t → (if t then option_map (OfNames Facts) (names_of ws) else if_variables) ≡ Some f → IsWritten
  facts true e s = begun (codes "facts") e (names_line Facts s)
  facts false e s = variables (is_name (codes "variables") w) refl s

  symbols : (t : Bool) → is_name (codes "symbols") w ≡ t → (if t then option_map (OfNames Symbols) (names_of ws) else if_facts) ≡ Some f → IsWritten
  symbols true e s = begun (codes "symbols") e (names_line Symbols s)
  symbols false e s = facts (is_name (codes "facts") w) refl s

  controls : (t : Bool) → is_name (codes "controls") w ≡ t → (if t then option_map (OfNames Controls) (names_of ws) else if_symbols) ≡ Some f → IsWritten
  controls true e s = begun (codes "controls") e (names_line Controls s)
  controls false e s = symbols (is_name (codes "symbols") w) refl s

  weights : (t : Bool) → is_name (codes "weights") w ≡ t → (if t then option_map OfWeights (weights_of ws) else if_controls) ≡ Some f → IsWritten
  weights true e s = begun (codes "weights") e (weights_line s)
  weights false e s = controls (is_name (codes "controls") w) refl s

form_written : (ws : List Word) (f : LineForm) → form_of ws ≡ Some f → IsForm ws f
form_written [] f h = cc
form_written (w ∷ ws) f h =
    let m = of_guarded (list_all is_lawful_word (w ∷ ws)) (form_behind w ws) f h in
    let k = weights w ws f (is_name (codes "weights") w) refl m.1 in
    (m.0, k.0, k.1)

written_form : (f : LineForm) → list_all is_lawful_word (form_words f) ≡ true → is_form f ≡ true → form_of (form_words f) ≡ Some f
written_form (OfWeights x) l h = guarded_true (list_all is_lawful_word (form_words (OfWeights x))) (option_map OfWeights (weights_of (weights_words x))) l ∙ ap (option_map OfWeights) (written_weights x)
written_form (OfNames Controls xs) l h = guarded_true (list_all is_lawful_word (form_words (OfNames Controls xs))) (option_map (OfNames Controls) (names_of (map Name xs))) l ∙ ap (option_map (OfNames Controls)) (written_names_line xs h)
written_form (OfNames Symbols xs) l h = guarded_true (list_all is_lawful_word (form_words (OfNames Symbols xs))) (option_map (OfNames Symbols) (names_of (map Name xs))) l ∙ ap (option_map (OfNames Symbols)) (written_names_line xs h)
written_form (OfNames Facts xs) l h = guarded_true (list_all is_lawful_word (form_words (OfNames Facts xs))) (option_map (OfNames Facts) (names_of (map Name xs))) l ∙ ap (option_map (OfNames Facts)) (written_names_line xs h)
written_form (OfNames Variables xs) l h = guarded_true (list_all is_lawful_word (form_words (OfNames Variables xs))) (option_map (OfNames Variables) (names_of (map Name xs))) l ∙ ap (option_map (OfNames Variables)) (written_names_line xs h)
written_form (OfRule r) l h = guarded_true (list_all is_lawful_word (form_words (OfRule r))) (option_map OfRule (rule_of (rule_words r))) l ∙ ap (option_map OfRule) (written_rule r h)
written_form (OfQuery p q) l h = guarded_true (list_all is_lawful_word (form_words (OfQuery p q))) (query_of (pattern_words p ++ Sign Implies ∷ pattern_words q)) l ∙ written_query p q h

pub one_form : (ws : List Word) (f : LineForm) → (form_of ws ≡ Some f) ↔ IsForm ws f
one_form ws f = (form_written ws f, back)
  where
    back : IsForm ws f → form_of ws ≡ Some f
    back m = subst (λ v. form_of v ≡ Some f) m.2 (written_form f (subst (λ v. list_all is_lawful_word v ≡ true) (sym m.2) m.0) m.1)
