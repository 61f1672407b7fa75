-- The symbols of lines, each once.
use Rattle.std.proofs.Common.{◌≡◌, ℕ, Bool, true, false, not, cond, List, [], ◌∷◌, ◌++◌, length, map, Option, Some, None, refl, sym, ap, ◌∙◌, subst, append_assoc, append-nil}
use Rattle.std.specs.Prelude.{IfOk, IfSome, Result, Ok, Err, bytes_eq, codes, filter, flat_map, option_map, unwrap_or}
use Rattle.std.specs.List.{cons_option}
use Rattle.std.proofs.lemmas.List.Elements.{filter-append}
use Rattle.std.proofs.lemmas.Slice.Eq.{bytes_eq-Decides}
use Rattle.wpds_port.specs.declared.Word.{Word}
use Rattle.truth_tables.specs.Texts.{is_name}
use Rattle.document_forms.specs.Lines.{Line}
use Rattle.document_forms.specs.Names.{once}
use Rattle.document_forms.specs.Forms.{Class, Controls, Symbols, Facts, Variables, LineForm, OfWeights, OfNames, OfRule, OfQuery, line_form, form_behind}
use Rattle.document_forms.specs.Above.{Above, names_on, with_line}
use Rattle.document_forms.specs.FirstRefusal.{counted, forms, all_symbols}
use Rattle.document_reader.specs.declared.reading.Reading.{Reading}
use Rattle.document_reader.specs.private.Readings.{declared_on, names_in, symbols_with, all_behind, above_now, Takes}
use Rattle.document_reader.proofs.LineFormLemmas.{query_symbols}

-- ---- each name once, again

abbrev other : List ℕ → List ℕ → Bool
other x y = not (bytes_eq x y)

abbrev Names : Type 0
Names = List (List ℕ)

keeps : (p : List ℕ → Bool) (y : List ℕ) (ys : Names) → p y ≡ true → filter p (y ∷ ys) ≡ y ∷ filter p ys
keeps p y ys h = ap (λ t. cond t (y ∷ filter p ys) (filter p ys)) h

drops : (p : List ℕ → Bool) (y : List ℕ) (ys : Names) → p y ≡ false → filter p (y ∷ ys) ≡ filter p ys
drops p y ys h = ap (λ t. cond t (y ∷ filter p ys) (filter p ys)) h

-- two tests in either order
two_filters : (p q : List ℕ → Bool) (ys : Names) → filter p (filter q ys) ≡ filter q (filter p ys)
two_filters p q [] = refl
two_filters p q (y ∷ ys) = go (p y) (q y) refl refl (two_filters p q ys)
  where
    go : (s t : Bool) → p y ≡ s → q y ≡ t → filter p (filter q ys) ≡ filter q (filter p ys) → filter p (filter q (y ∷ ys)) ≡ filter q (filter p (y ∷ ys))
    go true true e f h = ap (filter p) (keeps q y ys f) ∙ keeps p y (filter q ys) e ∙ ap (λ l. y ∷ l) h ∙ sym (keeps q y (filter p ys) f) ∙ ap (filter q) (sym (keeps p y ys e))
    go true false e f h = ap (filter p) (drops q y ys f) ∙ h ∙ sym (drops q y (filter p ys) f) ∙ ap (filter q) (sym (keeps p y ys e))
    go false true e f h = ap (filter p) (keeps q y ys f) ∙ drops p y (filter q ys) e ∙ h ∙ ap (filter q) (sym (drops p y ys e))
    go false false e f h = ap (filter p) (drops q y ys f) ∙ h ∙ ap (filter q) (sym (drops p y ys e))

filter_twice : (p : List ℕ → Bool) (ys : Names) → filter p (filter p ys) ≡ filter p ys
filter_twice p [] = refl
filter_twice p (y ∷ ys) = go (p y) refl (filter_twice p ys)
  where
    go : (t : Bool) → p y ≡ t → filter p (filter p ys) ≡ filter p ys → filter p (filter p (y ∷ ys)) ≡ filter p (y ∷ ys)
    go true e h = ap (filter p) (keeps p y ys e) ∙ keeps p y (filter p ys) e ∙ ap (λ l. y ∷ l) h ∙ sym (keeps p y ys e)
    go false e h = ap (filter p) (drops p y ys e) ∙ h ∙ sym (drops p y ys e)

-- without a name that the test drops anyway
filter_without : (p : List ℕ → Bool) (x : List ℕ) (ys : Names) → p x ≡ false → filter p (filter (other x) ys) ≡ filter p ys
filter_without p x [] h = refl
filter_without p x (y ∷ ys) h = go (bytes_eq x y) refl (filter_without p x ys h)
  where
    go : (t : Bool) → bytes_eq x y ≡ t → filter p (filter (other x) ys) ≡ filter p ys → filter p (filter (other x) (y ∷ ys)) ≡ filter p (y ∷ ys)
    go true e m = ap (filter p) (drops (other x) y ys (ap not e)) ∙ m ∙ sym (drops p y ys (subst (λ z. p z ≡ false) ((bytes_eq-Decides x y).0 e) h))
    go false e m = ap (filter p) (keeps (other x) y ys (ap not e)) ∙ ap (λ l. cond (p y) (y ∷ l) l) m

filter_once : (p : List ℕ → Bool) (xs : Names) → filter p (once xs) ≡ once (filter p xs)
filter_once p [] = refl
filter_once p (x ∷ xs) = go (p x) refl (filter_once p xs)
  where
    go : (t : Bool) → p x ≡ t → filter p (once xs) ≡ once (filter p xs) → filter p (once (x ∷ xs)) ≡ once (filter p (x ∷ xs))
    go true e h =
        keeps p x (filter (other x) (once xs)) e
        ∙ ap (λ l. x ∷ l) (two_filters p (other x) (once xs) ∙ ap (filter (other x)) h)
        ∙ ap once (sym (keeps p x xs e))
    go false e h = drops p x (filter (other x) (once xs)) e ∙ filter_without p x (once xs) e ∙ h ∙ ap once (sym (drops p x xs e))

filter_inner : (p : List ℕ → Bool) (zs ys : Names) → filter p (once (filter p zs ++ ys)) ≡ filter p (once (zs ++ ys))
filter_inner p zs ys =
    filter_once p (filter p zs ++ ys)
    ∙ ap once (filter-append p (filter p zs) ys ∙ ap (λ l. l ++ filter p ys) (filter_twice p zs) ∙ sym (filter-append p zs ys))
    ∙ sym (filter_once p (zs ++ ys))

pub once_again : (xs ys : Names) → once (once xs ++ ys) ≡ once (xs ++ ys)
once_again [] ys = refl
once_again (x ∷ xs) ys = ap (λ l. x ∷ l) (filter_inner (other x) (once xs) ys ∙ ap (filter (other x)) (once_again xs ys))

pub once_twice : (xs : Names) → once (once xs) ≡ once xs
once_twice xs = ap once (sym (append-nil (once xs))) ∙ once_again xs [] ∙ ap once (append-nil xs)

-- ---- the names of lines

pub names_first : (c : Class) (l : Line) (ls : List Line) → names_in c (map counted (l ∷ ls)) ≡ declared_on c l.bytes ++ names_in c (map counted ls)
names_first c l ls = go (counted l).form
  where
    go : (o : Option LineForm) → flat_map (names_on c) (cons_option o (forms (map counted ls))) ≡ unwrap_or (option_map (names_on c) o) [] ++ names_in c (map counted ls)
    go None = refl
    go (Some f) = refl

-- with a line's symbols more
pub symbols_more : (c : Class) (old new : Names) (l : Line) (ls : List Line) → new ≡ once (old ++ declared_on c l.bytes) → once (new ++ names_in c (map counted ls)) ≡ once (old ++ names_in c (map counted (l ∷ ls)))
symbols_more c old new l ls e =
    let here = declared_on c l.bytes in
    let rest = names_in c (map counted ls) in
    ap (λ xs. once (xs ++ rest)) e
    ∙ once_again (old ++ here) rest
    ∙ ap once (append_assoc old here rest ∙ ap (λ xs. old ++ xs) (sym (names_first c l ls)))

-- ---- how many symbols all lines declare

-- those of a line and of the lines behind it
pub all_first : (xs : Names) (l : Line) (ls : List Line) → symbols_with xs (l ∷ ls) ≡ all_behind xs (line_form l.bytes) ls
all_first xs l ls = ap (λ ys. length (once (xs ++ ys))) (names_first Symbols l ls)

-- the symbols with a line more
with_form : (a : Above) (f : LineForm) → (with_line a f).symbols ≡ a.symbols ++ names_on Symbols f
with_form a (OfWeights w) = sym (append-nil a.symbols)
with_form a (OfNames Controls xs) = sym (append-nil a.symbols)
with_form a (OfNames Symbols xs) = refl
with_form a (OfNames Facts xs) = sym (append-nil a.symbols)
with_form a (OfNames Variables xs) = sym (append-nil a.symbols)
with_form a (OfRule r) = sym (append-nil a.symbols)
with_form a (OfQuery p q) = sym (append-nil a.symbols)

-- as many when a line is taken
pub symbols_taken : (old new : Reading) (line : List ℕ) (ls : List Line) → Takes old new line → symbols_with new.scope.symbols ls ≡ all_behind old.scope.symbols (line_form line) ls
symbols_taken old new line ls t =
    let xs = old.scope.symbols in
    let here = names_on Symbols t.0 in
    let rest = names_in Symbols (map counted ls) in
    let more : new.scope.symbols ≡ xs ++ here = ap (λ a. a.symbols) t.2.above ∙ with_form (above_now old) t.0 in
    ap (λ ys. length (once (ys ++ rest))) more
    ∙ ap (λ ys. length (once ys)) (append_assoc xs here rest)
    ∙ sym (ap (λ o. all_behind xs o ls) t.1)

-- where no symbols stand above the lines behind the first two, all symbols are those of all lines
pub all_of_lines : (ls : List Line) (h w : Line) (left : List Line) (r : Reading) → ls ≡ h ∷ w ∷ left → r.scope.symbols ≡ [] → symbols_with r.scope.symbols left ≡ all_symbols (map counted ls)
all_of_lines ls h w left r e none =
    ap (λ xs. symbols_with xs left) none ∙ sym (ap (λ k. all_symbols (map counted k)) e)

-- a query declares none
pub none_here : (xs : Names) (w : Word) (ws : List Word) (ls : List Line) → is_name (codes "query") w ≡ true → all_behind xs (form_behind w ws) ls ≡ symbols_with xs ls
none_here xs w ws ls h = ap (λ here. length (once (xs ++ (here ++ names_in Symbols (map counted ls))))) (query_symbols w ws h)

-- what is known stands, whatever comes out
pub still_known : {T E : Type 0} (r : Result T E) (known : Option ℕ) (n all : ℕ) → known ≡ Some n → n ≡ all → IfOk r (λ _. IfSome known (λ k. k ≡ all))
still_known (Err e) known n all k s = tt
still_known (Ok t) known n all k s = subst (λ o. IfSome o (λ k. k ≡ all)) (sym k) s
