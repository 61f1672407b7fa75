-- Names that a line declares.
use Rattle.std.proofs.Common.{◌≡◌, ◌∙◌, ℕ, Bool, true, false, not, List, [], ◌∷◌, ◌++◌, Option, Some, None, refl, sym, ap, subst, option_map, append_assoc, append-nil, ◌<◌, ◌≤◌, length, arith}
use Rattle.std.specs.Prelude.{is_some, ◌&&◌, ◌||◌, if◌then◌else◌, nat_lt, MatchOption}
use Rattle.std.specs.List.{list_all, list_any}
use Rattle.std.proofs.lemmas.Bool.{or_parts, lt-ltb, ltb-true, false_from_ne_true}
use Rattle.wpds_port.specs.declared.Kind.TheVariants.{Twice, Count}
use Rattle.wpds_base.specs.Lists.{IsOnce}
use Rattle.std.proofs.Common.{Bor}
use Rattle.wpds_port.specs.Words.{word_of}
use Rattle.wpds_port.specs.declared.Lexeme.{Lexeme}
use Rattle.wpds_port.specs.declared.Lexeme.TheVariants.{Name as NameLexeme, Number as NumberLexeme, Mark as MarkLexeme}
use Rattle.wpds_port.specs.declared.Word.{Word}
use Rattle.wpds_port.specs.declared.Word.TheVariants.{Name, Number, Mark as Sign}
use Rattle.document_forms.specs.Forms.{names_of}
use Rattle.document_forms.specs.Names.{is_among, has_twice, once, is_reserved}
use Rattle.document_forms.specs.Words.{name_of, each, guarded, ◌>>=◌}
use Rattle.document_forms.proofs.CallerLemmas.{has_known, known_first, known_next, once_alone, once_is_once, once_joined, once_known, twice_is_once}
use Rattle.document_reader.specs.NameLines.{names_in, is_free, HasAdded, kind_of_names, Declares}

-- ---- which words are names

-- words that are names that may be declared
record AreFree (ws : List Word) (t : Bool) : Type 0 where
  yes : t ≡ true → (each name_of ws ≡ Some (names_in ws)) × (list_any is_reserved (names_in ws) ≡ false)
  no : t ≡ false → (each name_of ws >>= λ xs. guarded (not (list_any is_reserved xs)) (Some xs)) ≡ None

free : (ws : List Word) → AreFree ws (list_all is_free ws)
free [] = record { yes = λ _. (refl, refl); no = λ h. cc }
free (Number n ∷ ws) = record { yes = λ h. cc; no = λ _. refl }
free (Sign m ∷ ws) = record { yes = λ h. cc; no = λ _. refl }
free (Name x ∷ ws) = go (is_reserved x) refl (list_all is_free ws) (free ws)
  where
    bind : List (List ℕ) → Option (List (List ℕ))
    bind xs = guarded (not (list_any is_reserved xs)) (Some xs)

    reserved_here : is_reserved x ≡ true → (o : Option (List (List ℕ))) → (option_map (λ xs. x ∷ xs) o >>= λ xs. guarded (not (list_any is_reserved xs)) (Some xs)) ≡ None
    reserved_here e None = refl
    reserved_here e (Some xs) = rw e refl

    reserved_later : is_reserved x ≡ false → (o : Option (List (List ℕ))) → (o >>= λ xs. guarded (not (list_any is_reserved xs)) (Some xs)) ≡ None → (option_map (λ xs. x ∷ xs) o >>= λ xs. guarded (not (list_any is_reserved xs)) (Some xs)) ≡ None
    reserved_later e None h = refl
    reserved_later e (Some xs) h = rw e (last (list_any is_reserved xs) h)
      where
        last : (t : Bool) → guarded (not t) (Some xs) ≡ None → guarded (not t) (Some (x ∷ xs)) ≡ None
        last true h = refl
        last false h = cc

    go : (r : Bool) → is_reserved x ≡ r → (t : Bool) → AreFree ws t → AreFree (Name x ∷ ws) (not r && t)
    go true e t a = record { yes = λ h. cc; no = λ _. reserved_here e (each name_of ws) }
    go false e true a =
        record {
          yes = λ _. (ap (option_map (λ xs. x ∷ xs)) (a.yes refl).0, rw e (a.yes refl).1);
          no = λ h. cc;
        }
    go false e false a = record { yes = λ h. cc; no = λ _. reserved_later e (each name_of ws) (a.no refl) }

-- Words are names that may be declared, one at least, or not.
pub names_some : (w : Word) (ws : List Word) → list_all is_free (w ∷ ws) ≡ true → names_of (w ∷ ws) ≡ Some (names_in (w ∷ ws))
names_some w ws h =
    let a = (free (w ∷ ws)).yes h in
    ap (λ o. o >>= λ xs. guarded (not (list_any is_reserved xs)) (Some xs)) a.0
    ∙ ap (λ t. guarded (not t) (Some (names_in (w ∷ ws)))) a.1

pub names_none : (ws : List Word) → list_all is_free ws ≡ false → names_of ws ≡ None
names_none [] h = refl
names_none (w ∷ ws) h = (free (w ∷ ws)).no h

pub names_known : (ws : List Word) → is_some (names_of ws) ≡ true → names_of ws ≡ Some (names_in ws)
names_known [] h = cc
names_known (w ∷ ws) h = go (list_all is_free (w ∷ ws)) refl
  where
    go : (t : Bool) → list_all is_free (w ∷ ws) ≡ t → names_of (w ∷ ws) ≡ Some (names_in (w ∷ ws))
    go true e = names_some w ws e
    go false e = let none : is_some (names_of (w ∷ ws)) ≡ false = ap is_some (names_none (w ∷ ws) e) in cc

-- ---- names that are added

-- with a name that is added unless it is there
pub name_added : (old : List (List ℕ)) (x : List ℕ) (new : List (List ℕ)) (added : Bool) → IsOnce old → added ≡ not (is_among old x)
    → new ≡ (if added then old ++ x ∷ [] else old) → HasAdded old new (x ∷ []) (not added)
name_added old x new added o a n = go (is_among old x) refl
  where
    alone : old ≡ once (old ++ [])
    alone = sym (ap once (append-nil old) ∙ once_alone old ((twice_is_once old).1 o))

    go : (t : Bool) → is_among old x ≡ t → HasAdded old new (x ∷ []) (not added)
    go true e =
        let is : added ≡ false = a ∙ ap not e in
        record {
          names = n ∙ ap (λ b. if b then old ++ x ∷ [] else old) is ∙ alone ∙ sym (once_known old x [] e);
          twice = ap not is ∙ sym (known_first old x [] e);
        }
    go false e =
        let is : added ≡ true = a ∙ ap not e in
        record {
          names = n ∙ ap (λ b. if b then old ++ x ∷ [] else old) is ∙ sym (once_joined old (x ∷ []) o (or_false e) refl);
          twice = ap not is ∙ sym (known_next old x [] e);
        }
      where
        or_false : is_among old x ≡ false → (is_among old x || false) ≡ false
        or_false f = rw f refl

pub nothing_added : (old : List (List ℕ)) → IsOnce old → HasAdded old old [] false
nothing_added old o = record { names = sym (ap once (append-nil old) ∙ once_alone old ((twice_is_once old).1 o)); twice = refl }

-- A word more of words whose names are added.
pub record IsWordMore (old new : List (List ℕ)) (w : Word) (ws : List Word) (repeated : Bool) : Type 0 where
  pub once_now : IsOnce new
  pub names : once (new ++ names_in ws) ≡ once (old ++ names_in (w ∷ ws))
  pub twice : (repeated || has_known new (names_in ws)) ≡ has_known old (names_in (w ∷ ws))

pub word_more : (old new : List (List ℕ)) (w : Word) (ws : List Word) (repeated : Bool) → IsOnce old → HasAdded old new (names_in (w ∷ [])) repeated → IsWordMore old new w ws repeated
word_more old new w ws repeated o h = go w refl
  where
    alone : once (old ++ []) ≡ old
    alone = ap once (append-nil old) ∙ once_alone old ((twice_is_once old).1 o)

    none : names_in (w ∷ []) ≡ [] → names_in (w ∷ ws) ≡ names_in ws → IsWordMore old new w ws repeated
    none e f =
        let same : new ≡ old = h.names ∙ ap (λ xs. once (old ++ xs)) e ∙ alone in
        let no : repeated ≡ false = h.twice ∙ ap (has_known old) e in
        record {
          once_now = subst IsOnce (sym same) o;
          names = ap (λ xs. once (xs ++ names_in ws)) same ∙ ap (λ xs. once (old ++ xs)) (sym f);
          twice = ap (λ b. b || has_known new (names_in ws)) no ∙ ap (λ xs. has_known xs (names_in ws)) same ∙ ap (has_known old) (sym f);
        }

    one : (x : List ℕ) → names_in (w ∷ []) ≡ x ∷ [] → names_in (w ∷ ws) ≡ x ∷ names_in ws → (t : Bool) → is_among old x ≡ t → IsWordMore old new w ws repeated
    one x e f true k =
        let same : new ≡ old = h.names ∙ ap (λ xs. once (old ++ xs)) e ∙ once_known old x [] k ∙ alone in
        let yes : repeated ≡ true = h.twice ∙ ap (has_known old) e ∙ known_first old x [] k in
        record {
          once_now = subst IsOnce (sym same) o;
          names = ap (λ xs. once (xs ++ names_in ws)) same ∙ sym (once_known old x (names_in ws) k) ∙ ap (λ xs. once (old ++ xs)) (sym f);
          twice = ap (λ b. b || has_known new (names_in ws)) yes ∙ sym (known_first old x (names_in ws) k) ∙ ap (has_known old) (sym f);
        }
    one x e f false k =
        let joined : once (old ++ x ∷ []) ≡ old ++ x ∷ [] = once_joined old (x ∷ []) o (rw k refl) refl in
        let same : new ≡ old ++ x ∷ [] = h.names ∙ ap (λ xs. once (old ++ xs)) e ∙ joined in
        let no : repeated ≡ false = h.twice ∙ ap (has_known old) e ∙ known_next old x [] k in
        record {
          once_now = subst IsOnce (sym h.names) (once_is_once (old ++ names_in (w ∷ [])));
          names = ap (λ xs. once (xs ++ names_in ws)) same ∙ ap once (append_assoc old (x ∷ []) (names_in ws)) ∙ ap (λ xs. once (old ++ xs)) (sym f);
          twice = ap (λ b. b || has_known new (names_in ws)) no ∙ ap (λ xs. has_known xs (names_in ws)) same ∙ sym (known_next old x (names_in ws) k) ∙ ap (has_known old) (sym f);
        }

    go : (v : Word) → w ≡ v → IsWordMore old new w ws repeated
    go (Number n) e = none (ap (λ u. names_in (u ∷ [])) e) (ap (λ u. names_in (u ∷ ws)) e)
    go (Sign m) e = none (ap (λ u. names_in (u ∷ [])) e) (ap (λ u. names_in (u ∷ ws)) e)
    go (Name x) e = one x (ap (λ u. names_in (u ∷ [])) e) (ap (λ u. names_in (u ∷ ws)) e) (is_among old x) refl

-- all words were taken
pub words_added : (old new : List (List ℕ)) (ws : List Word) (repeated : Bool) → IsOnce new → once (new ++ []) ≡ once (old ++ names_in ws) → (repeated || has_known new []) ≡ has_known old (names_in ws) → HasAdded old new (names_in ws) repeated
words_added old new ws repeated o n t =
    record {
      names = sym (ap once (append-nil new) ∙ once_alone new ((twice_is_once new).1 o)) ∙ n;
      twice = sym (or_none repeated) ∙ t;
    }
  where
    or_none : (b : Bool) → (b || false) ≡ b
    or_none true = refl
    or_none false = refl

-- ---- what a line of names is told

module _ (old new : List (List ℕ)) (most : ℕ) (ws : List Word) (h : is_some (names_of ws) ≡ true) where
  names_are : names_of ws ≡ Some (names_in ws)
  names_are = names_known ws h

  pub told_twice : (t : Bool) → HasAdded old new (names_in ws) t → t ≡ true → Some Twice ≡ kind_of_names old most (names_of ws)
  told_twice t a e = sym (ap (kind_of_names old most) names_are ∙ rw (sym a.twice ∙ e) refl)

  pub told_many : (t : Bool) → HasAdded old new (names_in ws) t → t ≡ false → most < length new → Some Count ≡ kind_of_names old most (names_of ws)
  told_many t a e m =
      let many : nat_lt most (length (once (old ++ names_in ws))) ≡ true = lt-ltb most _ (subst (λ xs. most < length xs) a.names m) in
      sym (ap (kind_of_names old most) names_are ∙ rw (sym a.twice ∙ e, many) refl)

  pub told_none : (t : Bool) → HasAdded old new (names_in ws) t → t ≡ false → length new ≤ most → None ≡ kind_of_names old most (names_of ws)
  told_none t a e m =
      let few : nat_lt most (length (once (old ++ names_in ws))) ≡ false = false_from_ne_true _ (λ l. absurd (omega (arith, ltb-true most (length (once (old ++ names_in ws))) l, ap length a.names))) in
      sym (ap (kind_of_names old most) names_are ∙ rw (sym a.twice ∙ e, few) refl)

  pub declares : (t : Bool) → HasAdded old new (names_in ws) t → t ≡ false → IsOnce old → Declares old new ws
  declares t a e o =
      let parts = or_parts (has_twice (names_in ws)) (list_any (is_among old) (names_in ws)) (sym a.twice ∙ e) in
      (names_in ws, names_are, a.names ∙ once_joined old (names_in ws) o parts.1 parts.0)

pub not_a_name : (l : Lexeme) → ((x : Bor (List ℕ)) → l ≡ NameLexeme x → ⊥) → names_in (word_of l ∷ []) ≡ []
not_a_name (NameLexeme x) h = absurd (h x refl)
not_a_name (NumberLexeme x) h = refl
not_a_name (MarkLexeme m) h = refl

pub stops_names : (left ws all : List Word) (w : Word) → left ≡ w ∷ ws → list_all is_free left ≡ list_all is_free all → false ≡ is_free w → false ≡ is_some (names_of all)
stops_names left ws all w e same h =
    let no : list_all is_free all ≡ false = sym same ∙ ap (list_all is_free) e ∙ rw (sym h) refl in
    sym (ap is_some (names_none all no))

pub free_behind : (left ws all : List Word) (w : Word) → left ≡ w ∷ ws → list_all is_free left ≡ list_all is_free all → true ≡ is_free w → list_all is_free ws ≡ list_all is_free all
free_behind left ws all w e same h = ap (λ t. t && list_all is_free ws) h ∙ sym (ap (list_all is_free) e) ∙ same

pub ends_names : (left all : List Word) (r : Option (Lexeme × List Word)) → left ≡ [] → list_all is_free left ≡ list_all is_free all
    → MatchOption r (all ≡ []) (λ p. all ≡ word_of p.0 ∷ p.1) → is_some r ≡ is_some (names_of all)
ends_names left all None e same h = sym (ap (λ ws. is_some (names_of ws)) h)
ends_names left all (Some p) e same h =
    let yes : list_all is_free (word_of p.0 ∷ p.1) ≡ true = ap (list_all is_free) (sym h) ∙ sym same ∙ ap (list_all is_free) e in
    sym (ap (λ ws. is_some (names_of ws)) h ∙ ap is_some (names_some (word_of p.0) p.1 yes))

-- what the loop over words keeps, with a word more
pub record StillAdds (first new : List (List ℕ)) (ws all : List Word) (seen : Bool) : Type 0 where
  pub alone : IsOnce new
  pub names : once (new ++ names_in ws) ≡ once (first ++ names_in all)
  pub twice : (seen || has_known new (names_in ws)) ≡ has_known first (names_in all)

pub still_adds : (first old new : List (List ℕ)) (left ws all : List Word) (w : Word) (seen repeated : Bool)
    → StillAdds first old left all seen → left ≡ w ∷ ws → HasAdded old new (names_in (w ∷ [])) repeated → StillAdds first new ws all (seen || repeated)
still_adds first old new left ws all w seen repeated s e h =
    let m = word_more old new w ws repeated s.alone h in
    record {
      alone = m.once_now;
      names = m.names ∙ ap (λ vs. once (old ++ names_in vs)) (sym e) ∙ s.names;
      twice = grouped seen repeated (has_known new (names_in ws)) ∙ ap (λ b. seen || b) m.twice ∙ ap (λ vs. seen || has_known old (names_in vs)) (sym e) ∙ s.twice;
    }
  where
    grouped : (a b c : Bool) → ((a || b) || c) ≡ (a || (b || c))
    grouped true b c = refl
    grouped false b c = refl

pub ends_added : (first new : List (List ℕ)) (left all : List Word) (seen : Bool) → StillAdds first new left all seen → left ≡ [] → HasAdded first new (names_in all) seen
ends_added first new left all seen s e =
    words_added first new all seen s.alone
    (ap (λ vs. once (new ++ names_in vs)) (sym e) ∙ s.names)
    (ap (λ vs. seen || has_known new (names_in vs)) (sym e) ∙ s.twice)

pub names_not_known : (ws : List Word) → is_some (names_of ws) ≡ false → names_of ws ≡ None
names_not_known ws h = go (names_of ws) h
  where
    go : {A : Type 0} (o : Option A) → is_some o ≡ false → o ≡ None
    go None h = refl
    go (Some a) h = cc
