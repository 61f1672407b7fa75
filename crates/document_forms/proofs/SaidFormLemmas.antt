-- The forms of lines: their names are words, and what stands in a row has one at least.
use Rattle.std.proofs.Common.{◌≡◌, ◌≢◌, ◌⊎◌, inl, inr, ℕ, Bool, true, false, not, cond, ◌&&◌, ◌||◌, List, [], ◌∷◌, ◌++◌, map, length, Option, Some, None, refl, sym, subst}
use Rattle.std.specs.Prelude.{All, bytes_eq, filter, flat_map, option_map, option_and_then, unwrap_or, is_some, nat_le}
use Rattle.std.specs.List.{list_all, list_any}
use Rattle.std.proofs.lemmas.Bool.{and_parts, and_from, or_cases, or_parts, not-true, leb-true}
use Rattle.std.proofs.lemmas.List.Elements.{All-nil, All-cons, All-head, All-tail, All-append}
use Rattle.std.proofs.lemmas.List.{map-append}
use Rattle.wpds_base.specs.Limits.{longest_name, most_pushed}
use Rattle.wpds_port.specs.declared.Word.{Word}
use Rattle.wpds_port.specs.declared.Word.TheVariants.{Name}
use Rattle.wpds_port.specs.declared.Token.{Token}
use Rattle.wpds_port.specs.Tokens.{is_name_text, is_word, is_lawful_word, tokens, AreTokens}
use Rattle.wpds_port.specs.Words.{words_of, text_words}
use Rattle.document_forms.specs.declared.document.RuleLine.{RuleLine}
use Rattle.document_forms.specs.Names.{is_reserved, once, number_in}
use Rattle.document_forms.specs.Words.{is_return}
use Rattle.document_forms.specs.Patterns.{SetForm, Dotted, Bare, Braced, ItemForm, is_set, are_items}
use Rattle.document_forms.specs.Returns.{MapForm, ReturnForm, PlainReturn, GivenMap}
use Rattle.document_forms.specs.Forms.{Class, LineForm, OfWeights, OfNames, OfRule, OfQuery, form_of, line_form}
use Rattle.document_forms.specs.FormWords.{class_word, form_words, is_some_list, has_none, right_words, is_restore, are_moves, is_return_form, is_back, is_form}
use Rattle.document_forms.specs.Above.{names_on, same_class, declared, is_query, Above, above_of}
use Rattle.document_forms.specs.Documents.{set_value, item_value, pattern_value, map_value, move_value, rules_on, queries_on, gathered}
use Rattle.document_forms.specs.Lawful.{IsName, HasSymbol, HasSets, HasMap}
use Rattle.document_forms.proofs.FormLemmas.{one_form}
use Rattle.document_forms.proofs.WrittenWordLemmas.{OneCutting}

-- ---- the words of a line are words

tokens_words : (place : ℕ) (text : List ℕ) (ts : List Token) → AreTokens place text ts → list_all is_word (words_of ts) ≡ true
tokens_words place text [] h = refl
tokens_words place text (t ∷ ts) h = and_from (is_word t.word) (list_all is_word (words_of ts)) h.2.word (tokens_words t.end h.1 ts h.3)

line_is_words : OneCutting → (line : List ℕ) (ws : List Word) → text_words line ≡ Some ws → list_all is_word ws ≡ true
line_is_words cut line ws h = go (tokens line) refl h
  where
    go : (o : Option (List Token)) → tokens line ≡ o → option_map words_of o ≡ Some ws → list_all is_word ws ≡ true
    go None e s = cc
    go (Some ts) e s = let same : words_of ts ≡ ws = cc in subst (λ vs. list_all is_word vs ≡ true) same (tokens_words 0 line ts ((cut line ts).0 e))

-- ---- the names of a form

abbrev HasNames : LineForm → Type 0
HasNames (OfNames c xs) = All IsName xs
HasNames _ = Unit {0}

-- a form that a line has
pub record IsSaid (f : LineForm) : Type 0 where
  pub form : is_form f ≡ true
  pub names : HasNames f

all_names : (xs : List (List ℕ)) → list_all is_word (map Name xs) ≡ true → list_all is_lawful_word (map Name xs) ≡ true → list_any is_reserved xs ≡ false → All IsName xs
all_names [] w l r = All-nil IsName
all_names (x ∷ xs) w l r =
    let v = and_parts (is_name_text x) (list_all is_word (map Name xs)) w in
    let m = and_parts (nat_le (length x) longest_name) (list_all is_lawful_word (map Name xs)) l in
    let s = or_parts (is_reserved x) (list_any is_reserved xs) r in
    All-cons IsName x xs (record { text = v.0; short = leb-true (length x) longest_name m.0; free = s.0 }) (all_names xs v.1 m.1 s.1)

form_names : (f : LineForm) → is_form f ≡ true → list_all is_word (form_words f) ≡ true → list_all is_lawful_word (form_words f) ≡ true → HasNames f
form_names (OfWeights w) o v l = tt
form_names (OfNames c xs) o v l =
    all_names xs (and_parts (is_word (Name (class_word c))) (list_all is_word (map Name xs)) v).1
    (and_parts (is_lawful_word (Name (class_word c))) (list_all is_lawful_word (map Name xs)) l).1
    (not-true (list_any is_reserved xs) (and_parts (is_some_list xs) (not (list_any is_reserved xs)) o).1)
form_names (OfRule r) o v l = tt
form_names (OfQuery p q) o v l = tt

pub said_form : OneCutting → (line : List ℕ) (f : LineForm) → line_form line ≡ Some f → IsSaid f
said_form cut line f h = go (text_words line) refl h
  where
    go : (o : Option (List Word)) → text_words line ≡ o → option_and_then form_of o ≡ Some f → IsSaid f
    go None e s = cc
    go (Some ws) e s =
        let k = (one_form ws f).0 s in
        record {
          form = k.1;
          names = form_names f k.1 (subst (λ vs. list_all is_word vs ≡ true) (sym k.2) (line_is_words cut line ws e)) (subst (λ vs. list_all is_lawful_word vs ≡ true) (sym k.2) k.0);
        }

abbrev pub AreSaid : List LineForm → Type 0
AreSaid [] = Unit {0}
AreSaid (f ∷ fs) = IsSaid f × AreSaid fs

-- ---- declared names are names

filtered_all : {A : Type 0} (P : A → Type 0) (test : A → Bool) (xs : List A) → All P xs → All P (filter test xs)
filtered_all P test [] h = h
filtered_all P test (x ∷ xs) h = go (test x) (filtered_all P test xs (All-tail P x xs h))
  where
    go : (t : Bool) → All P (filter test xs) → All P (cond t (x ∷ filter test xs) (filter test xs))
    go true m = All-cons P x (filter test xs) (All-head P x xs h) m
    go false m = m

once_all : (P : List ℕ → Type 0) (xs : List (List ℕ)) → All P xs → All P (once xs)
once_all P [] h = h
once_all P (x ∷ xs) h =
    All-cons P x (filter (λ y. not (bytes_eq x y)) (once xs)) (All-head P x xs h)
    (filtered_all P (λ y. not (bytes_eq x y)) (once xs) (once_all P xs (All-tail P x xs h)))

names_here : (c : Class) (f : LineForm) → HasNames f → All IsName (names_on c f)
names_here c (OfWeights w) h = All-nil IsName
names_here c (OfNames k xs) h = go (same_class c k)
  where
    go : (t : Bool) → All IsName (cond t xs [])
    go true = h
    go false = All-nil IsName
names_here c (OfRule r) h = All-nil IsName
names_here c (OfQuery p q) h = All-nil IsName

names_all : (c : Class) (fs : List LineForm) → AreSaid fs → All IsName (flat_map (names_on c) fs)
names_all c [] h = All-nil IsName
names_all c (f ∷ fs) h = All-append IsName (names_on c f) (flat_map (names_on c) fs) (names_here c f h.0.names) (names_all c fs h.1)

pub names_declared : (c : Class) (fs : List LineForm) → AreSaid fs → All IsName (declared c fs)
names_declared c fs h = once_all IsName (flat_map (names_on c) fs) (names_all c fs h)

-- ---- what stands in a row

gathered_all : {A : Type 0} (g : Above → LineForm → List A) (P : A → Type 0) → ((a : Above) (f : LineForm) → is_form f ≡ true → All P (g a f)) → (pre fs : List LineForm) → AreSaid fs → All P (gathered g pre fs)
gathered_all g P k pre [] h = All-nil P
gathered_all g P k pre (f ∷ fs) h =
    All-append P (g (above_of pre) f) (gathered g (pre ++ f ∷ []) fs) (k (above_of pre) f h.0.form) (gathered_all g P k (pre ++ f ∷ []) fs h.1)

-- sets of patterns

set_has : (symbols : List (List ℕ)) (s : SetForm) → is_set s ≡ true → HasSymbol (set_value symbols s)
set_has symbols Dotted h = tt
set_has symbols (Bare x) h = λ e. cc
set_has symbols (Braced []) h = cc
set_has symbols (Braced (x ∷ xs)) h = λ e. cc

items_have : (symbols : List (List ℕ)) (is : List ItemForm) → are_items is ≡ true → All (λ i. HasSymbol i.set) (map (item_value symbols) is)
items_have symbols [] h = All-nil (λ i. HasSymbol i.set)
items_have symbols (i ∷ is) h =
    let k = and_parts (is_set i.set) (are_items is) h in
    All-cons (λ j. HasSymbol j.set) (item_value symbols i) (map (item_value symbols) is) (set_has symbols i.set k.0) (items_have symbols is k.1)

sets_here : (a : Above) (f : LineForm) → is_form f ≡ true → All HasSets (queries_on a f)
sets_here a (OfWeights w) h = All-nil HasSets
sets_here a (OfNames c xs) h = All-nil HasSets
sets_here a (OfRule r) h = All-nil HasSets
sets_here a (OfQuery p q) h =
    let k = and_parts (are_items p.items) (are_items q.items) h in
    All-cons HasSets (record { from = pattern_value a.controls a.symbols p; to = pattern_value a.controls a.symbols q }) []
    (items_have a.symbols p.items k.0, items_have a.symbols q.items k.1) (All-nil HasSets)

pub sets_said : (pre fs : List LineForm) → AreSaid fs → All HasSets (gathered queries_on pre fs)
sets_said pre fs h = gathered_all queries_on HasSets sets_here pre fs h

-- return maps

some_listed : {A B : Type 0} (f : A → B) (o : Option (List A)) → is_some o ≡ true → ((xs : List A) → o ≡ Some xs → is_some_list xs ≡ true) → map f (unwrap_or o []) ≢ []
some_listed f None s k e = cc
some_listed f (Some []) s k e = let no : false ≡ true = k [] refl in cc
some_listed f (Some (x ∷ xs)) s k e = cc

given_has : (names : List (List ℕ)) (m : MapForm) → is_return_form (GivenMap m) ≡ true → HasMap (map_value names (GivenMap m))
given_has names m h =
    let k = and_parts (is_some m.restore || is_some m.moves) (is_restore m.restore && are_moves m.moves) h in
    let l = and_parts (is_restore m.restore) (are_moves m.moves) k.1 in
    go (or_cases (is_some m.restore) (is_some m.moves) k.0) l.0 l.1
  where
    go : (is_some m.restore ≡ true) ⊎ (is_some m.moves ≡ true) → is_restore m.restore ≡ true → are_moves m.moves ≡ true → HasMap (map_value names (GivenMap m))
    go (inl s) r v = inl (some_listed (number_in names) m.restore s (λ xs e. (and_parts (is_some_list xs) _ (subst (λ o. is_restore o ≡ true) e r)).0))
    go (inr s) r v = inr (some_listed (move_value names) m.moves s (λ ms e. subst (λ o. are_moves o ≡ true) e v))

back_has : (names : List (List ℕ)) (o : Option ReturnForm) → is_back o ≡ true → HasMap (map_value names (unwrap_or o PlainReturn))
back_has names None h = tt
back_has names (Some PlainReturn) h = tt
back_has names (Some (GivenMap m)) h = given_has names m h

maps_here : (a : Above) (f : LineForm) → is_form f ≡ true → All HasMap (map (λ r. r.map) (rules_on a f))
maps_here a (OfWeights w) h = All-nil HasMap
maps_here a (OfNames c xs) h = All-nil HasMap
maps_here a (OfRule r) h =
    let k = and_parts (nat_le (length r.right) most_pushed) (has_none is_return (right_words r) && is_back r.back) h in
    All-cons HasMap (map_value a.items (unwrap_or r.back PlainReturn)) [] (back_has a.items r.back (and_parts (has_none is_return (right_words r)) (is_back r.back) k.1).1) (All-nil HasMap)
maps_here a (OfQuery p q) h = All-nil HasMap

pub maps_said : (pre fs : List LineForm) → AreSaid fs → All HasMap (map (λ r. r.map) (gathered rules_on pre fs))
maps_said pre [] h = All-nil HasMap
maps_said pre (f ∷ fs) h =
    subst (All HasMap) (sym (map-append (λ (r : RuleLine). r.map) (rules_on (above_of pre) f) (gathered rules_on (pre ++ f ∷ []) fs)))
    (All-append HasMap (map (λ r. r.map) (rules_on (above_of pre) f)) (map (λ r. r.map) (gathered rules_on (pre ++ f ∷ []) fs))
    (maps_here (above_of pre) f h.0.form) (maps_said (pre ++ f ∷ []) fs h.1))

-- a query

pub some_query : (pre fs : List LineForm) → list_any is_query fs ≡ true → gathered queries_on pre fs ≢ []
some_query pre [] h e = cc
some_query pre (OfWeights w ∷ fs) h e = some_query (pre ++ OfWeights w ∷ []) fs h e
some_query pre (OfNames c xs ∷ fs) h e = some_query (pre ++ OfNames c xs ∷ []) fs h e
some_query pre (OfRule r ∷ fs) h e = some_query (pre ++ OfRule r ∷ []) fs h e
some_query pre (OfQuery p q ∷ fs) h e = cc
