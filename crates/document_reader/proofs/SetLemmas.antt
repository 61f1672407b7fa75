-- What is read of the symbols of a set, and of the set.
use Rattle.std.proofs.Common.{◌≡◌, ℕ, ◌<◌, Bool, true, false, not, ◌||◌, cond, List, [], ◌∷◌, ◌++◌, length, map, Some, None, refl, sym, ap, ◌∙◌, subst, append_assoc, arith}
use Rattle.std.specs.Prelude.{unwrap_or, is_none}
use Rattle.std.proofs.lemmas.List.Folds.{list_any-append}
use Rattle.std.proofs.Math.Bool.{or-false}
use Rattle.document_forms.specs.Names.{is_among, number_in, has_unknown}
use Rattle.rule_reader.specs.declared.name_reads.NamesOnce.{NamesOnce}
use Rattle.rule_reader.specs.declared.name_reads.NamesRead.{NamesRead}
use Rattle.rule_reader.specs.Names.{number_among, begins_with_name, names_in_front, behind_names}
use Rattle.rule_reader.specs.NameReads.{AreNumbersRead, HasNames}
use Rattle.wpds_port.specs.declared.Mark.TheVariants.{OpenBrace, CloseBrace}
use Rattle.wpds_port.specs.declared.Word.{Word}
use Rattle.wpds_port.specs.declared.Word.TheVariants.{Name, Number, Mark as Sign}
use Rattle.document_forms.specs.Patterns.{Braced, is_set, set_words, star_words, items_of}
use Rattle.document_forms.specs.declared.pattern.SetText.TheVariants.{Listed}
use Rattle.document_reader.specs.declared.items.SetRead.{SetRead}
use Rattle.document_reader.specs.declared.items.ItemRead.{ItemRead}
use Rattle.document_reader.specs.private.ItemReading.{begins_with_close, begins_with_star, IsSetRead, HasSet, HasItem}
use Rattle.document_reader.proofs.ItemsLeftLemmas.{braces_left_open, braces_empty, item_in_front, item_is_longer}

pub regroup : (a b c d : Bool) → ((a || b) || (c || d)) ≡ ((a || c) || (b || d))
regroup true b c d = refl
regroup false true true d = refl
regroup false true false d = refl
regroup false false true d = refl
regroup false false false d = refl

none_among :
    (known : List (List ℕ)) (x : List ℕ) → is_none (number_among known x) ≡ not (is_among known x)
none_among known x = go (is_among known x)
  where
    go : (b : Bool) → is_none (cond b (Some (number_in known x)) None) ≡ not b
    go true = refl
    go false = refl

pub unknown_push :
    (known xs : List (List ℕ)) (x : List ℕ)
    → has_unknown known (xs ++ x ∷ []) ≡ (has_unknown known xs || is_none (number_among known x))
unknown_push known xs x =
    list_any-append (λ y. not (is_among known y)) xs (x ∷ [])
    ∙ ap (λ b. has_unknown known xs || b) (or-false (not (is_among known x)) ∙ sym (none_among known x))

-- a name that is known has its number
pub known_number :
    (known : List (List ℕ)) (x : List ℕ) (d : ℕ) → is_none (number_among known x) ≡ false
    → unwrap_or (number_among known x) d ≡ number_in known x
known_number known x d = go (is_among known x)
  where
    go :
        (b : Bool) → is_none (cond b (Some (number_in known x)) None) ≡ false
        → unwrap_or (cond b (Some (number_in known x)) None) d ≡ number_in known x
    go true h = refl
    go false h = cc

-- ---- a set

-- words are the names in front and the words behind them
front_and_behind : (ws : List Word) → ws ≡ map Name (names_in_front ws) ++ behind_names ws
front_and_behind [] = refl
front_and_behind (Name x ∷ ws) = ap (λ vs. Name x ∷ vs) (front_and_behind ws)
front_and_behind (Number n ∷ ws) = refl
front_and_behind (Sign m ∷ ws) = refl

behind_is_none : (ws : List Word) → begins_with_name (behind_names ws) ≡ false
behind_is_none [] = refl
behind_is_none (Name x ∷ ws) = behind_is_none ws
behind_is_none (Number n ∷ ws) = refl
behind_is_none (Sign m ∷ ws) = refl

-- no items begin with braces that stay open
pub open_braces : (ws : List Word) → begins_with_close (behind_names ws) ≡ false → items_of (Sign OpenBrace ∷ ws) ≡ None
open_braces ws e =
    ap (λ vs. items_of (Sign OpenBrace ∷ vs)) (front_and_behind ws)
    ∙ braces_left_open (names_in_front ws) (behind_names ws) (behind_is_none ws) e

-- nor with braces that have no name in them
pub empty_braces : (ws : List Word) → length (names_in_front ws) ≡ 0 → items_of (Sign OpenBrace ∷ ws) ≡ None
empty_braces ws e = braces_empty ws (none ws e)
  where
    none : (ws : List Word) → length (names_in_front ws) ≡ 0 → begins_with_name ws ≡ false
    none [] e = refl
    none (Name x ∷ ws) e = cc
    none (Number n ∷ ws) e = refl
    none (Sign m ∷ ws) e = refl

pub set_in_braces :
    (symbols : List (List ℕ)) (ws rest : List Word) (r : NamesRead) (once : NamesOnce) (q : SetRead)
    → behind_names ws ≡ Sign CloseBrace ∷ rest → AreNumbersRead symbols (names_in_front ws) r
    → HasNames (names_in_front ws) once → 0 < length r.numbers.items → q.set ≡ Listed r.numbers.items
    → q.twice ≡ once.twice → q.unknown ≡ r.unknown → HasSet symbols (Sign OpenBrace ∷ ws) q rest
set_in_braces symbols ws rest r once q e read added some set twice unknown = record {
  set = Braced names;
  lawful = lawful names (omega (arith, some, read.count));
  front = ap (λ vs. Sign OpenBrace ∷ vs) (front_and_behind ws ∙ (ap (λ vs. map Name names ++ vs) e ∙ sym (append_assoc (map Name names) (Sign CloseBrace ∷ []) rest)));
  read = record {
    count = λ all. rw set read.count;
    twice = twice ∙ added.twice;
    unknown = unknown ∙ read.unknown;
    value = λ u. set ∙ ap Listed (read.numbers (sym unknown ∙ u));
  };
}
  where
    names : List (List ℕ)
    names = names_in_front ws

    lawful : (xs : List (List ℕ)) → 0 < length xs → is_set (Braced xs) ≡ true
    lawful [] z = absurd (omega (arith, z))
    lawful (x ∷ xs) z = refl

-- ---- an item

pub item_read :
    (symbols : List (List ℕ)) (ws behind : List Word) (r : SetRead) (q : ItemRead) (h : HasSet symbols ws r behind)
    → behind ≡ star_words q.star ++ q.rest → (q.star ≡ false → begins_with_star q.rest ≡ false)
    → q.set ≡ r → HasItem symbols ws q
item_read symbols ws behind r q h e one set = record {
  item = record { set = h.set; star = q.star };
  items = ap items_of words ∙ item_in_front h.set q.star q.rest h.lawful one;
  shorter = subst (λ vs. length q.rest < length vs) (sym words) (item_is_longer h.set q.star q.rest h.lawful);
  star = refl;
  read = subst (IsSetRead symbols h.set) (sym set) h.read;
}
  where
    words : ws ≡ set_words h.set ++ (star_words q.star ++ q.rest)
    words = h.front ∙ ap (λ vs. set_words h.set ++ vs) e
