-- A return map is read as it is written.
use Rattle.std.proofs.Common.{◌≡◌, ◌≢◌, ◌⊎◌, inl, inr, ℕ, ◌<◌, Bool, true, false, not, ◌&&◌, ◌||◌, ◌==◌, List, [], ◌∷◌, ◌++◌, map, length, Option, Some, None, refl, sym, ap, ap₂, ◌∙◌, subst, append_assoc}
use Rattle.std.specs.Prelude.{All, IsTrue, bytes_eq, codes, flat_map, unwrap_or, is_some, if◌then◌else◌}
use Rattle.std.specs.List.{list_all}
use Rattle.std.proofs.lemmas.Bool.{and_parts, and_from, or_from, or_left, or_right, false_from_ne_true, eqb-true, le-leb}
use Rattle.std.proofs.lemmas.List.Elements.{All-head, All-tail, All-append}
use Rattle.std.proofs.lemmas.Slice.Eq.{bytes_eq-Decides}
use Rattle.wpds_base.specs.Limits.{longest_name}
use Rattle.wpds_base.specs.Lists.{IsOnce}
use Rattle.wpds_port.specs.declared.Mark.TheVariants.{Equal}
use Rattle.wpds_port.specs.declared.Word.TheVariants.{Name, Mark as Sign}
use Rattle.wpds_port.specs.Tokens.{begins_name, goes_on_name, is_name_text, is_lawful_word, stops}
use Rattle.truth_tables.specs.Texts.{is_name}
use Rattle.document_forms.specs.declared.weight.WeightsLine.{WeightsLine}
use Rattle.document_forms.specs.declared.document.Move.{Move}
use Rattle.document_forms.specs.declared.document.MapText.{MapText}
use Rattle.document_forms.specs.Names.{is_reserved, has_twice, has_unknown, number_in, name}
use Rattle.document_forms.specs.Returns.{MoveForm, MapForm, ReturnForm, PlainReturn, GivenMap}
use Rattle.document_forms.specs.FormWords.{move_words, moves_words, restore_words, return_words, back_words, has_none, is_restore, are_moves, is_back}
use Rattle.document_forms.specs.Kinds.{allows_restore, allows_moves, restored, moved, has_map_twice, map_names, is_foreign_map}
use Rattle.document_forms.specs.Documents.{move_value, map_value}
use Rattle.document_forms.specs.Writing.{headed, move_text, map_texts}
use Rattle.document_forms.specs.Lawful.{AreBelow, IsName, IsMapText, HasMap}
use Rattle.document_forms.proofs.WrittenWordLemmas.{Says, says_word, says_glued, SayAll, say_more, say_both}
use Rattle.document_forms.proofs.LawfulLemmas.{known_both}
use Rattle.document_forms.proofs.WrittenNameLemmas.{name_among, number_named, numbers_named, known_more, names_known, none_named_twice, name_at, says_named, say_named}

-- ---- words that are no name

pub no_word : (word x : List ℕ) → is_reserved word ≡ true → IsName x → bytes_eq word x ≡ false
no_word word x r h =
    false_from_ne_true (bytes_eq word x) (λ e. differ (sym (subst (λ y. is_reserved y ≡ true) ((bytes_eq-Decides word x).0 e) r) ∙ h.free))
  where
    differ : true ≡ false → ⊥
    differ e = cc

pub other_word : (x word : List ℕ) → is_reserved word ≡ true → IsName x → bytes_eq x word ≡ false
other_word x word r h = false_from_ne_true (bytes_eq x word) (λ e. differ (sym (ap is_reserved ((bytes_eq-Decides x word).0 e) ∙ r) ∙ h.free))
  where
    differ : true ≡ false → ⊥
    differ e = cc

pub no_words : (word : List ℕ) (names : List (List ℕ)) (ks : List ℕ) → is_reserved word ≡ true → All IsName names → AreBelow (length names) ks → has_none (is_name word) (map Name (map (name names) ks)) ≡ true
no_words word names [] r h b = refl
no_words word names (k ∷ ks) r h b =
    and_from (not (bytes_eq word (name names k))) (has_none (is_name word) (map Name (map (name names) ks)))
    (ap not (no_word word (name names k) r (name_at names k h (All-head (λ n. n < length names) k ks b))))
    (no_words word names ks r h (All-tail (λ n. n < length names) k ks b))

-- a name does not go on a mark
pub begins_other : (b c : ℕ) → begins_name c ≡ false → begins_name b ≡ true → not (b == c) ≡ true
begins_other b c f h = ap not (false_from_ne_true (b == c) (λ e. differ (sym h ∙ ap begins_name (eqb-true b c e) ∙ f)))
  where
    differ : true ≡ false → ⊥
    differ e = cc

pub equal_stops : (x rest : List ℕ) → is_name_text x ≡ true → stops (Sign Equal) (x ++ rest) ≡ true
equal_stops [] rest h = cc
equal_stops (b ∷ x) rest h = begins_other b 62 refl (and_parts (begins_name b) (list_all goes_on_name x) h).0

-- ---- the forms

abbrev pub some_list : {A : Type 0} → List A → Option (List A)
some_list [] = None
some_list (x ∷ xs) = Some (x ∷ xs)

abbrev pub move_form : List (List ℕ) → Move → MoveForm
move_form names m = record { to = name names m.to; from = name names m.from }

abbrev pub given_form : List (List ℕ) → MapText → MapForm
given_form names m = record {
  restore = some_list (map (name names) m.restore);
  moves = some_list (map (move_form names) m.moves);
}

abbrev pub map_form : List (List ℕ) → Option MapText → Option ReturnForm
map_form names None = None
map_form names (Some m) = Some (GivenMap (given_form names m))

listed_again : {A : Type 0} (xs : List A) → unwrap_or (some_list xs) [] ≡ xs
listed_again [] = refl
listed_again (x ∷ xs) = refl

module _ (names : List (List ℕ)) (named : All IsName names) (once : IsOnce names) where
  -- ---- the words

  abbrev tos : List Move → List ℕ
  tos ms = map (λ v. v.to) ms

  abbrev froms : List Move → List ℕ
  froms ms = map (λ v. v.from) ms

  says_move : (m : Move) → m.to < length names → m.from < length names → Says (move_text names m) (move_words (move_form names m))
  says_move m t f =
      let x = name names m.to in
      let y = name names m.from in
      subst (λ z. Says z (Name x ∷ Sign Equal ∷ Name y ∷ [])) (sym (append_assoc x (codes "=") y))
      (says_glued (Name x) (61 ∷ y) (Sign Equal ∷ Name y ∷ []) (name_at names m.to named t).text (name_short m.to t) (λ rest. refl)
      (says_glued (Sign Equal) y (Name y ∷ []) refl refl (λ rest. equal_stops y rest (name_at names m.from named f).text)
      (says_named names m.from named f)))
    where
      name_short : (k : ℕ) → k < length names → is_lawful_word (Name (name names k)) ≡ true
      name_short k l = le-leb (length (name names k)) longest_name (name_at names k named l).short

  say_moves : (ms : List Move) → AreBelow (length names) (tos ms) → AreBelow (length names) (froms ms) → SayAll (map (move_text names) ms) (flat_map move_words (map (move_form names) ms))
  say_moves [] t f = refl
  say_moves (m ∷ ms) t f =
      say_more (move_text names m) (map (move_text names) ms) (move_words (move_form names m)) (flat_map move_words (map (move_form names) ms))
      (says_move m (All-head (λ n. n < length names) m.to (tos ms) t) (All-head (λ n. n < length names) m.from (froms ms) f))
      (say_moves ms (All-tail (λ n. n < length names) m.to (tos ms) t) (All-tail (λ n. n < length names) m.from (froms ms) f))

  say_restore : (ks : List ℕ) → AreBelow (length names) ks → SayAll (headed (codes "restore") (map (name names) ks)) (restore_words (some_list (map (name names) ks)))
  say_restore [] b = refl
  say_restore (k ∷ ks) b =
      say_more (codes "restore") (map (name names) (k ∷ ks)) (Name (codes "restore") ∷ []) (map Name (map (name names) (k ∷ ks)))
      (says_word (Name (codes "restore")) refl refl) (say_named names (k ∷ ks) named b)

  say_moved : (ms : List Move) → AreBelow (length names) (tos ms) → AreBelow (length names) (froms ms) → SayAll (headed (codes "move") (map (move_text names) ms)) (moves_words (some_list (map (move_form names) ms)))
  say_moved [] t f = refl
  say_moved (m ∷ ms) t f =
      say_more (codes "move") (map (move_text names) (m ∷ ms)) (Name (codes "move") ∷ []) (flat_map move_words (map (move_form names) (m ∷ ms)))
      (says_word (Name (codes "move")) refl refl) (say_moves (m ∷ ms) t f)

  pub say_map : (u : WeightsLine) (right : List ℕ) (m : Option MapText) → IsMapText u (length names) right m → SayAll (map_texts names m) (back_words (map_form names m))
  say_map u right None h = refl
  say_map u right (Some m) h =
      say_more (codes "return") (headed (codes "restore") (map (name names) m.restore) ++ headed (codes "move") (map (move_text names) m.moves))
      (Name (codes "return") ∷ []) (return_words (GivenMap (given_form names m)))
      (says_word (Name (codes "return")) refl refl)
      (say_both (headed (codes "restore") (map (name names) m.restore)) (headed (codes "move") (map (move_text names) m.moves))
      (restore_words (some_list (map (name names) m.restore))) (moves_words (some_list (map (move_form names) m.moves)))
      (say_restore m.restore h.restore) (say_moved m.moves h.to h.from))

  -- ---- the form

  some_restored : (ks : List ℕ) → AreBelow (length names) ks → is_restore (some_list (map (name names) ks)) ≡ true
  some_restored [] b = refl
  some_restored (k ∷ ks) b = no_words (codes "move") names (k ∷ ks) refl named b

  some_moved : (ms : List Move) → are_moves (some_list (map (move_form names) ms)) ≡ true
  some_moved [] = refl
  some_moved (m ∷ ms) = refl

  is_some_mapped : {A B : Type 0} (f : A → B) (xs : List A) → xs ≢ [] → is_some (some_list (map f xs)) ≡ true
  is_some_mapped f [] h = absurd (h refl)
  is_some_mapped f (x ∷ xs) h = refl

  one_of_both : (m : MapText) → (m.restore ≢ []) ⊎ (m.moves ≢ []) → (is_some (given_form names m).restore || is_some (given_form names m).moves) ≡ true
  one_of_both m (inl h) = or_left (is_some (given_form names m).restore) (is_some (given_form names m).moves) (is_some_mapped (name names) m.restore h)
  one_of_both m (inr h) = or_right (is_some (given_form names m).restore) (is_some (given_form names m).moves) (is_some_mapped (move_form names) m.moves h)

  pub map_is_back : (u : WeightsLine) (right : List ℕ) (m : Option MapText) → IsMapText u (length names) right m → HasMap m → is_back (map_form names m) ≡ true
  map_is_back u right None h s = refl
  map_is_back u right (Some m) h s =
      let g = given_form names m in
      and_from (is_some g.restore || is_some g.moves) (is_restore g.restore && are_moves g.moves) (one_of_both m s)
      (and_from (is_restore g.restore) (are_moves g.moves) (some_restored m.restore h.restore) (some_moved m.moves))

  -- ---- what is asked

  tos_named : (ms : List Move) → map (λ p. p.to) (map (move_form names) ms) ≡ map (name names) (tos ms)
  tos_named [] = refl
  tos_named (m ∷ ms) = ap (λ xs. name names m.to ∷ xs) (tos_named ms)

  named_both : (ks js : List ℕ) → map (name names) ks ++ map (name names) js ≡ map (name names) (ks ++ js)
  named_both [] js = refl
  named_both (k ∷ ks) js = ap (λ xs. name names k ∷ xs) (named_both ks js)

  below_both : (ks js : List ℕ) → AreBelow (length names) ks → AreBelow (length names) js → AreBelow (length names) (ks ++ js)
  below_both ks js = All-append (λ n. n < length names) ks js

  pub map_once : (u : WeightsLine) (right : List ℕ) (m : Option MapText) → IsMapText u (length names) right m → has_map_twice (unwrap_or (map_form names m) PlainReturn) ≡ false
  map_once u right None h = refl
  map_once u right (Some m) h =
      let same : restored (given_form names m) ++ map (λ p. p.to) (moved (given_form names m)) ≡ map (name names) (m.restore ++ tos m.moves) =
      ap₂ (λ xs ps. xs ++ map (λ p. p.to) ps) (listed_again (map (name names) m.restore)) (listed_again (map (move_form names) m.moves))
      ∙ ap (λ xs. map (name names) m.restore ++ xs) (tos_named m.moves)
      ∙ named_both m.restore (tos m.moves) in
      subst (λ xs. has_twice xs ≡ false) (sym same) (none_named_twice names (m.restore ++ tos m.moves) once (below_both m.restore (tos m.moves) h.restore h.to) h.once)

  moves_known : (ms : List Move) → AreBelow (length names) (tos ms) → AreBelow (length names) (froms ms) → has_unknown names (flat_map (λ p. p.to ∷ p.from ∷ []) (map (move_form names) ms)) ≡ false
  moves_known [] t f = refl
  moves_known (m ∷ ms) t f =
      let more = flat_map (λ p. p.to ∷ p.from ∷ []) (map (move_form names) ms) in
      known_more names (name names m.to) (name names m.from ∷ more) (name_among names m.to (All-head (λ n. n < length names) m.to (tos ms) t))
      (known_more names (name names m.from) more (name_among names m.from (All-head (λ n. n < length names) m.from (froms ms) f))
      (moves_known ms (All-tail (λ n. n < length names) m.to (tos ms) t) (All-tail (λ n. n < length names) m.from (froms ms) f)))

  if_known : (t : Bool) (xs : List (List ℕ)) → has_unknown names xs ≡ false → has_unknown names (if t then xs else []) ≡ false
  if_known true xs h = h
  if_known false xs h = refl

  pub map_known : (u : WeightsLine) (right : List ℕ) (m : Option MapText) → IsMapText u (length names) right m → has_unknown names (map_names u (unwrap_or (map_form names m) PlainReturn)) ≡ false
  map_known u right None h = refl
  map_known u right (Some m) h =
      let g = given_form names m in
      let ms = flat_map (λ p. p.to ∷ p.from ∷ []) (moved g) in
      known_both names (if allows_restore u then restored g else []) (if allows_moves u then ms else [])
      (if_known (allows_restore u) (restored g) (subst (λ xs. has_unknown names xs ≡ false) (sym (listed_again (map (name names) m.restore))) (names_known names m.restore h.restore)))
      (if_known (allows_moves u) ms (subst (λ ps. has_unknown names (flat_map (λ p. p.to ∷ p.from ∷ []) ps) ≡ false) (sym (listed_again (map (move_form names) m.moves))) (moves_known m.moves h.to h.from)))

  allowed_part : {A B : Type 0} (f : A → B) (t : Bool) (xs : List A) → IsTrue t ⊎ (xs ≡ []) → (is_some (some_list (map f xs)) && not t) ≡ false
  allowed_part f true [] h = refl
  allowed_part f true (x ∷ xs) h = refl
  allowed_part f false [] h = refl
  allowed_part f false (x ∷ xs) (inl h) = cc
  allowed_part f false (x ∷ xs) (inr h) = cc

  pub map_allowed : (u : WeightsLine) (right : List ℕ) (m : Option MapText) → IsMapText u (length names) right m → (n : ℕ) → n ≡ length right → ((is_some (map_form names m) && not (n == 2)) || is_foreign_map u (unwrap_or (map_form names m) PlainReturn)) ≡ false
  map_allowed u right None h n e = refl
  map_allowed u right (Some m) h n e =
      let g = given_form names m in
      or_from (not (n == 2)) (is_foreign_map u (GivenMap g)) (ap (λ k. not (k == 2)) (e ∙ h.push))
      (or_from (is_some g.restore && not (allows_restore u)) (is_some g.moves && not (allows_moves u))
      (allowed_part (name names) (allows_restore u) m.restore h.restores) (allowed_part (move_form names) (allows_moves u) m.moves h.moves))

  value_moves : (ms : List Move) → AreBelow (length names) (tos ms) → AreBelow (length names) (froms ms) → map (move_value names) (map (move_form names) ms) ≡ ms
  value_moves [] t f = refl
  value_moves (m ∷ ms) t f =
      ap₂ (λ x xs. x ∷ xs)
      (ap₂ (λ x y. record { to = x; from = y }) (number_named names m.to once (All-head (λ n. n < length names) m.to (tos ms) t)) (number_named names m.from once (All-head (λ n. n < length names) m.from (froms ms) f)))
      (value_moves ms (All-tail (λ n. n < length names) m.to (tos ms) t) (All-tail (λ n. n < length names) m.from (froms ms) f))

  pub value_map : (u : WeightsLine) (right : List ℕ) (m : Option MapText) → IsMapText u (length names) right m → map_value names (unwrap_or (map_form names m) PlainReturn) ≡ m
  value_map u right None h = refl
  value_map u right (Some m) h =
      ap₂ (λ xs ps. Some (record { restore = map (number_in names) xs; moves = map (move_value names) ps }))
      (listed_again (map (name names) m.restore)) (listed_again (map (move_form names) m.moves))
      ∙ ap₂ (λ ks ms. Some (record { restore = ks; moves = ms })) (numbers_named names m.restore once h.restore) (value_moves m.moves h.to h.from)
