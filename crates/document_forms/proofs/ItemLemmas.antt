-- The items of a pattern are what they are said to be.
use Rattle.std.proofs.Common.{◌≡◌, ◌↔◌, ℕ, Bool, true, false, List, [], ◌∷◌, ◌++◌, map, Option, Some, None, refl, ap, ◌∙◌, subst, append_assoc}
use Rattle.std.specs.Prelude.{IfSome}
use Rattle.std.proofs.lemmas.Bool.{and_parts}
use Rattle.wpds_port.specs.declared.Mark.TheVariants.{Dot, Star, OpenBrace, CloseBrace}
use Rattle.wpds_port.specs.declared.Word.{Word}
use Rattle.wpds_port.specs.declared.Word.TheVariants.{Name, Mark as Sign}
use Rattle.document_forms.specs.Words.{◌>>=◌}
use Rattle.document_forms.specs.Patterns.{SetForm, Dotted, Bare, Braced, ItemForm, item, set_words, star_words, items_words, is_set, are_items, AreItems, ItemsReading, Items, Starred, InBraces, item_before, items_reading, items_in, items_of}

-- ---- what a reading from the right has met

abbrev met : ItemsReading → List Word
met (Items is) = items_words is
met (Starred is) = Sign Star ∷ items_words is
met (InBraces xs star is) = map Name xs ++ Sign CloseBrace ∷ (star_words star ++ items_words is)

abbrev lawful : ItemsReading → Bool
lawful (Items is) = are_items is
lawful (Starred is) = are_items is
lawful (InBraces xs star is) = are_items is

abbrev IsMet : List Word → ItemsReading → Type 0
IsMet ws r = (lawful r ≡ true) × (met r ≡ ws)

braces_met : (x : List ℕ) (xs : List (List ℕ)) (star : Bool) (is : List ItemForm) → items_words (item (Braced (x ∷ xs)) star ∷ is) ≡ Sign OpenBrace ∷ met (InBraces (x ∷ xs) star is)
braces_met x xs star is = simp append_assoc

step_met : (w : Word) (r : ItemsReading) → lawful r ≡ true → IfSome (item_before w r) (IsMet (w ∷ met r))
step_met (Sign Star) (Items is) h = (h, refl)
step_met (Sign Dot) (Items is) h = (h, refl)
step_met (Sign Dot) (Starred is) h = (h, refl)
step_met (Name x) (Items is) h = (h, refl)
step_met (Name x) (Starred is) h = (h, refl)
step_met (Sign CloseBrace) (Items is) h = (h, refl)
step_met (Sign CloseBrace) (Starred is) h = (h, refl)
step_met (Name x) (InBraces xs star is) h = (h, refl)
step_met (Sign OpenBrace) (InBraces (x ∷ xs) star is) h = (h, braces_met x xs star is)
step_met _ _ h = tt

are_met : (ws : List Word) → IfSome (items_reading ws) (IsMet ws)
are_met [] = (refl, refl)
are_met (w ∷ ws) = go (items_reading ws) (are_met ws)
  where
    next : (o : Option ItemsReading) (r : ItemsReading) → met r ≡ ws → IfSome o (IsMet (w ∷ met r)) → IfSome o (IsMet (w ∷ ws))
    next None r e h = tt
    next (Some q) r e h = (h.0, h.1 ∙ ap (λ x. w ∷ x) e)

    go : (o : Option ItemsReading) → IfSome o (IsMet ws) → IfSome (o >>= item_before w) (IsMet (w ∷ ws))
    go None h = tt
    go (Some r) h = next (item_before w r) r h.1 (step_met w r h.0)

-- ---- and back

names_met : (xs : List (List ℕ)) (star : Bool) (is : List ItemForm) (ws : List Word) → items_reading ws ≡ Some (InBraces [] star is) → items_reading (map Name xs ++ ws) ≡ Some (InBraces xs star is)
names_met [] star is ws h = h
names_met (x ∷ xs) star is ws h = ap (λ o. o >>= item_before (Name x)) (names_met xs star is ws h)

close_met : (star : Bool) (is : List ItemForm) (ws : List Word) → items_reading ws ≡ Some (Items is) → items_reading (Sign CloseBrace ∷ (star_words star ++ ws)) ≡ Some (InBraces [] star is)
close_met true is ws h = ap (λ o. (o >>= item_before (Sign Star)) >>= item_before (Sign CloseBrace)) h
close_met false is ws h = ap (λ o. o >>= item_before (Sign CloseBrace)) h

item_met : (s : SetForm) (star : Bool) (is : List ItemForm) (ws : List Word) → is_set s ≡ true → items_reading ws ≡ Some (Items is) → items_reading ((set_words s ++ star_words star) ++ ws) ≡ Some (Items (item s star ∷ is))
item_met Dotted true is ws g h = ap (λ o. (o >>= item_before (Sign Star)) >>= item_before (Sign Dot)) h
item_met Dotted false is ws g h = ap (λ o. o >>= item_before (Sign Dot)) h
item_met (Bare x) true is ws g h = ap (λ o. (o >>= item_before (Sign Star)) >>= item_before (Name x)) h
item_met (Bare x) false is ws g h = ap (λ o. o >>= item_before (Name x)) h
item_met (Braced []) star is ws g h = cc
item_met (Braced (x ∷ xs)) star is ws g h =
    ap items_reading (regroup (map Name (x ∷ xs)) (star_words star) ws)
    ∙ ap (λ o. o >>= item_before (Sign OpenBrace)) (names_met (x ∷ xs) star is (Sign CloseBrace ∷ (star_words star ++ ws)) (close_met star is ws h))
  where
    regroup : (a b c : List Word) → ((Sign OpenBrace ∷ a ++ Sign CloseBrace ∷ []) ++ b) ++ c ≡ Sign OpenBrace ∷ (a ++ Sign CloseBrace ∷ (b ++ c))
    regroup a b c = simp append_assoc

all_met : (is : List ItemForm) → are_items is ≡ true → items_reading (items_words is) ≡ Some (Items is)
all_met [] h = refl
all_met (i ∷ is) h =
    let k = and_parts (is_set i.set) (are_items is) h in
    item_met i.set i.star is (items_words is) k.0 (all_met is k.1)

-- The words are these items exactly where `items_of` finds them.
pub are_items_lem : (ws : List Word) (is : List ItemForm) → (items_of ws ≡ Some is) ↔ AreItems ws is
are_items_lem ws is = (go (items_reading ws) (are_met ws), back)
  where
    go : (o : Option ItemsReading) → IfSome o (IsMet ws) → (o >>= items_in) ≡ Some is → AreItems ws is
    go None h e = cc
    go (Some (Items js)) h e = let same : js ≡ is = cc in subst (AreItems ws) same h
    go (Some (Starred js)) h e = cc
    go (Some (InBraces xs star js)) h e = cc

    back : AreItems ws is → items_of ws ≡ Some is
    back h = subst (λ x. items_of x ≡ Some is) h.1 (ap (λ o. o >>= items_in) (all_met is h.0))
