-- Cutting words at marks, and joining them again.
use Rattle.std.proofs.Common.{◌≡◌, ℕ, Bool, true, false, not, cond, List, [], ◌∷◌, ◌++◌, Option, Some, None, map, refl, sym, ap, ◌∙◌}
use Rattle.std.specs.Prelude.{flat_map, option_map}
use Rattle.std.proofs.lemmas.Bool.{and_parts, and_from, not-true}
use Rattle.std.proofs.lemmas.Slice.Eq.{bytes_eq-Decides}
use Rattle.wpds_port.specs.declared.Mark.TheVariants.{Colon, Implies, Equal}
use Rattle.wpds_port.specs.declared.Word.{Word}
use Rattle.wpds_port.specs.declared.Word.TheVariants.{Name, Number, Mark as Sign}
use Rattle.truth_tables.specs.Texts.{is_name}
use Rattle.document_forms.specs.Lines.{in_front}
use Rattle.document_forms.specs.Words.{is_colon, is_implies, is_equal, before, behind, begins_pair, pairs, name_of, each, each_of_some}
use Rattle.document_forms.specs.FormWords.{has_none, is_some_list}

-- ---- the words at which a test holds

pub colon_only : (w : Word) → is_colon w ≡ true → w ≡ Sign Colon
colon_only (Sign Colon) h = refl
colon_only _ h = cc

pub implies_only : (w : Word) → is_implies w ≡ true → w ≡ Sign Implies
implies_only (Sign Implies) h = refl
implies_only _ h = cc

pub equal_only : (w : Word) → is_equal w ≡ true → w ≡ Sign Equal
equal_only (Sign Equal) h = refl
equal_only w h = cc

pub name_only : (x : List ℕ) (w : Word) → is_name x w ≡ true → w ≡ Name x
name_only x (Name y) h = ap Name (sym ((bytes_eq-Decides x y).0 h))
name_only x (Number n) h = cc
name_only x (Sign m) h = cc

pub name_itself : (x : List ℕ) → is_name x (Name x) ≡ true
name_itself x = (bytes_eq-Decides x x).1 refl

-- ---- before and behind

pub all_before : (test : Word → Bool) (ws : List Word) → behind test ws ≡ None → before test ws ≡ ws
all_before test [] h = refl
all_before test (w ∷ ws) h = go (test w) h (all_before test ws)
  where
    go : (t : Bool) → cond t (Some ws) (behind test ws) ≡ None → (behind test ws ≡ None → before test ws ≡ ws) → cond t [] (w ∷ before test ws) ≡ w ∷ ws
    go true e more = cc
    go false e more = ap (λ v. w ∷ v) (more e)

pub cut_at : (test : Word → Bool) (ws vs : List Word) → behind test ws ≡ Some vs → (w : Word) × (test w ≡ true) × (ws ≡ before test ws ++ w ∷ vs)
cut_at test [] vs h = cc
cut_at test (w ∷ ws) vs h = go (test w) refl h (cut_at test ws vs)
  where
    go :
        (t : Bool) → test w ≡ t → cond t (Some ws) (behind test ws) ≡ Some vs
        → (behind test ws ≡ Some vs → (v : Word) × (test v ≡ true) × (ws ≡ before test ws ++ v ∷ vs))
        → (v : Word) × (test v ≡ true) × (w ∷ ws ≡ cond t [] (w ∷ before test ws) ++ v ∷ vs)
    go true e s more = let same : ws ≡ vs = cc in (w, e, ap (λ u. w ∷ u) same)
    go false e s more = let m = more s in (m.0, m.1, ap (λ u. w ∷ u) m.2)

pub none_before : (test : Word → Bool) (ws : List Word) → has_none test (before test ws) ≡ true
none_before test [] = refl
none_before test (w ∷ ws) = go (test w) refl (none_before test ws)
  where
    go : (t : Bool) → test w ≡ t → has_none test (before test ws) ≡ true → has_none test (cond t [] (w ∷ before test ws)) ≡ true
    go true e more = refl
    go false e more = and_from (not (test w)) (has_none test (before test ws)) (ap not e) more

-- words without one, and then one
pub before_joined : (test : Word → Bool) (us : List Word) (w : Word) (vs : List Word) → has_none test us ≡ true → test w ≡ true → before test (us ++ w ∷ vs) ≡ us
before_joined test [] w vs h t = ap (λ b. cond b [] (w ∷ before test vs)) t
before_joined test (u ∷ us) w vs h t =
    let k = and_parts (not (test u)) (has_none test us) h in
    ap (λ b. cond b [] (u ∷ before test (us ++ w ∷ vs))) (not-true (test u) k.0)
    ∙ ap (λ x. u ∷ x) (before_joined test us w vs k.1 t)

pub behind_joined : (test : Word → Bool) (us : List Word) (w : Word) (vs : List Word) → has_none test us ≡ true → test w ≡ true → behind test (us ++ w ∷ vs) ≡ Some vs
behind_joined test [] w vs h t = ap (λ b. cond b (Some vs) (behind test vs)) t
behind_joined test (u ∷ us) w vs h t =
    let k = and_parts (not (test u)) (has_none test us) h in
    ap (λ b. cond b (Some (us ++ w ∷ vs)) (behind test (us ++ w ∷ vs))) (not-true (test u) k.0)
    ∙ behind_joined test us w vs k.1 t

pub before_all : (test : Word → Bool) (us : List Word) → has_none test us ≡ true → before test us ≡ us
before_all test [] h = refl
before_all test (u ∷ us) h =
    let k = and_parts (not (test u)) (has_none test us) h in
    ap (λ b. cond b [] (u ∷ before test us)) (not-true (test u) k.0)
    ∙ ap (λ x. u ∷ x) (before_all test us k.1)

pub behind_none : (test : Word → Bool) (us : List Word) → has_none test us ≡ true → behind test us ≡ None
behind_none test [] h = refl
behind_none test (u ∷ us) h =
    let k = and_parts (not (test u)) (has_none test us) h in
    ap (λ b. cond b (Some us) (behind test us)) (not-true (test u) k.0) ∙ behind_none test us k.1

pub none_joined : (test : Word → Bool) (us vs : List Word) → has_none test (us ++ vs) ≡ true → (has_none test us ≡ true) × (has_none test vs ≡ true)
none_joined test [] vs h = (refl, h)
none_joined test (u ∷ us) vs h =
    let k = and_parts (not (test u)) (has_none test (us ++ vs)) h in
    let m = none_joined test us vs k.1 in
    (and_from (not (test u)) (has_none test us) k.0 m.0, m.1)

-- ---- names

pub names_written : (ws : List Word) (xs : List (List ℕ)) → each name_of ws ≡ Some xs → map Name xs ≡ ws
names_written [] xs h = let same : xs ≡ [] = cc in ap (map Name) same
names_written (Name x ∷ ws) xs h = go (each name_of ws) refl h (names_written ws)
  where
    go : (o : Option (List (List ℕ))) → each name_of ws ≡ o → option_map (λ ys. x ∷ ys) o ≡ Some xs → ((ys : List (List ℕ)) → each name_of ws ≡ Some ys → map Name ys ≡ ws) → map Name xs ≡ Name x ∷ ws
    go None e s more = cc
    go (Some ys) e s more = let same : xs ≡ x ∷ ys = cc in ap (map Name) same ∙ ap (λ v. Name x ∷ v) (more ys e)
names_written (Number n ∷ ws) xs h = cc
names_written (Sign m ∷ ws) xs h = cc

pub written_names : (xs : List (List ℕ)) → each name_of (map Name xs) ≡ Some xs
written_names [] = refl
written_names (x ∷ xs) = ap (option_map (λ ys. x ∷ ys)) (written_names xs)

pub some_names_written : (ws : List Word) (xs : List (List ℕ)) → each_of_some name_of ws ≡ Some xs → (is_some_list xs ≡ true) × (map Name xs ≡ ws)
some_names_written [] xs h = cc
some_names_written (w ∷ ws) xs h = (some xs (names_written (w ∷ ws) xs h), names_written (w ∷ ws) xs h)
  where
    some : (ys : List (List ℕ)) → map Name ys ≡ w ∷ ws → is_some_list ys ≡ true
    some [] e = cc
    some (y ∷ ys) e = refl

pub written_some_names : (xs : List (List ℕ)) → is_some_list xs ≡ true → each_of_some name_of (map Name xs) ≡ Some xs
written_some_names [] h = cc
written_some_names (x ∷ xs) h = written_names (x ∷ xs)

pub names_have_no_colon : (xs : List (List ℕ)) → has_none is_colon (map Name xs) ≡ true
names_have_no_colon [] = refl
names_have_no_colon (x ∷ xs) = names_have_no_colon xs

-- ---- pairs

abbrev pub all_pieces : List (List Word) → List Word
all_pieces ps = flat_map (λ p. p) ps

in_front_joined : (w : Word) (ps : List (List Word)) → all_pieces (in_front w ps) ≡ w ∷ all_pieces ps
in_front_joined w [] = refl
in_front_joined w (p ∷ ps) = refl

pub pairs_joined : (ws : List Word) → all_pieces (pairs ws) ≡ ws
pairs_joined [] = refl
pairs_joined (w ∷ ws) = go (begins_pair (w ∷ ws)) (pairs_joined ws)
  where
    go : (t : Bool) → all_pieces (pairs ws) ≡ ws → all_pieces (cond t ([] ∷ in_front w (pairs ws)) (in_front w (pairs ws))) ≡ w ∷ ws
    go true e = in_front_joined w (pairs ws) ∙ ap (λ v. w ∷ v) e
    go false e = in_front_joined w (pairs ws) ∙ ap (λ v. w ∷ v) e
