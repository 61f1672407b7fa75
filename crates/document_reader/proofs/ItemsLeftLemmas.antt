-- The items of words, read from the left: what they are where an item stands in front, and that
-- there are none where none does.
use Rattle.std.proofs.Common.{◌≡◌, ℕ, ◌+◌, ◌<◌, Bool, true, false, List, [], ◌∷◌, ◌++◌, length, map, Option, Some, None, refl, ap, ◌∙◌, append_assoc, length-append, arith}
use Rattle.std.specs.Prelude.{option_map}
use Rattle.wpds_port.specs.declared.Mark.TheVariants.{Dot, Star, OpenBrace, CloseBrace}
use Rattle.wpds_port.specs.declared.Word.{Word}
use Rattle.wpds_port.specs.declared.Word.TheVariants.{Name, Mark as Sign}
use Rattle.document_forms.specs.Words.{◌>>=◌}
use Rattle.document_forms.specs.Patterns.{SetForm, Dotted, Bare, Braced, ItemForm, item, set_words, star_words, is_set, ItemsReading, Items, Starred, InBraces, item_before, items_reading, items_in, items_of}
use Rattle.rule_reader.specs.Names.{begins_with_name}
use Rattle.document_reader.specs.private.ItemReading.{begins_with_close, begins_with_star}

-- ---- what a reading from the right waits for

abbrev is_starred : Option ItemsReading → Bool
is_starred (Some (Starred is)) = true
is_starred _ = false

abbrev is_in_braces : Option ItemsReading → Bool
is_in_braces (Some (InBraces xs star is)) = true
is_in_braces _ = false

step_starred :
    (w : Word) (ws : List Word) (r : ItemsReading) → begins_with_star (w ∷ ws) ≡ false
    → is_starred (item_before w r) ≡ false
step_starred (Sign Star) ws r h = cc
step_starred (Sign Dot) ws (Items is) h = refl
step_starred (Sign Dot) ws (Starred is) h = refl
step_starred (Name x) ws (Items is) h = refl
step_starred (Name x) ws (Starred is) h = refl
step_starred (Sign CloseBrace) ws (Items is) h = refl
step_starred (Sign CloseBrace) ws (Starred is) h = refl
step_starred (Name x) ws (InBraces xs star is) h = refl
step_starred (Sign OpenBrace) ws (InBraces (x ∷ xs) star is) h = refl
step_starred _ ws _ h = refl

not_starred : (ws : List Word) → begins_with_star ws ≡ false → is_starred (items_reading ws) ≡ false
not_starred [] h = refl
not_starred (w ∷ ws) h = go (items_reading ws)
  where
    go : (o : Option ItemsReading) → is_starred (o >>= item_before w) ≡ false
    go None = refl
    go (Some r) = step_starred w ws r h

step_in_braces :
    (w : Word) (ws : List Word) (r : ItemsReading) → begins_with_name (w ∷ ws) ≡ false
    → begins_with_close (w ∷ ws) ≡ false → is_in_braces (item_before w r) ≡ false
step_in_braces (Sign Star) ws (Items is) h g = refl
step_in_braces (Sign Dot) ws (Items is) h g = refl
step_in_braces (Sign Dot) ws (Starred is) h g = refl
step_in_braces (Name x) ws r h g = cc
step_in_braces (Sign CloseBrace) ws r h g = cc
step_in_braces (Sign OpenBrace) ws (InBraces (x ∷ xs) star is) h g = refl
step_in_braces _ ws _ h g = refl

name_in_braces :
    (x : List ℕ) (o : Option ItemsReading) → is_in_braces o ≡ false
    → is_in_braces (o >>= item_before (Name x)) ≡ false
name_in_braces x None h = refl
name_in_braces x (Some (Items is)) h = refl
name_in_braces x (Some (Starred is)) h = refl
name_in_braces x (Some (InBraces xs star is)) h = cc

not_in_braces :
    (xs : List (List ℕ)) (ws : List Word) → begins_with_name ws ≡ false
    → begins_with_close ws ≡ false → is_in_braces (items_reading (map Name xs ++ ws)) ≡ false
not_in_braces (x ∷ xs) ws h g = name_in_braces x (items_reading (map Name xs ++ ws)) (not_in_braces xs ws h g)
not_in_braces [] [] h g = refl
not_in_braces [] (w ∷ ws) h g = go (items_reading ws)
  where
    go : (o : Option ItemsReading) → is_in_braces (o >>= item_before w) ≡ false
    go None = refl
    go (Some r) = step_in_braces w ws r h g

-- ---- where braces stay open

open_none :
    (o : Option ItemsReading) → is_in_braces o ≡ false
    → ((o >>= item_before (Sign OpenBrace)) >>= items_in) ≡ None
open_none None h = refl
open_none (Some (Items is)) h = refl
open_none (Some (Starred is)) h = refl
open_none (Some (InBraces xs star is)) h = cc

-- braces that don't end behind their names
pub braces_left_open :
    (xs : List (List ℕ)) (ws : List Word) → begins_with_name ws ≡ false
    → begins_with_close ws ≡ false → items_of (Sign OpenBrace ∷ (map Name xs ++ ws)) ≡ None
braces_left_open xs ws h g = open_none (items_reading (map Name xs ++ ws)) (not_in_braces xs ws h g)

-- ---- where braces have no name in them

closed_at_once : (ws : List Word) → begins_with_close ws ≡ true → items_of (Sign OpenBrace ∷ ws) ≡ None
closed_at_once (Sign CloseBrace ∷ ws) h = go (items_reading ws)
  where
    go : (o : Option ItemsReading) → (((o >>= item_before (Sign CloseBrace)) >>= item_before (Sign OpenBrace)) >>= items_in) ≡ None
    go None = refl
    go (Some (Items is)) = refl
    go (Some (Starred is)) = refl
    go (Some (InBraces xs star is)) = refl
closed_at_once _ h = cc

pub braces_empty : (ws : List Word) → begins_with_name ws ≡ false → items_of (Sign OpenBrace ∷ ws) ≡ None
braces_empty ws h = go (begins_with_close ws) refl
  where
    go : (t : Bool) → begins_with_close ws ≡ t → items_of (Sign OpenBrace ∷ ws) ≡ None
    go true e = closed_at_once ws e
    go false e = braces_left_open [] ws h e

-- ---- where an item stands in front

abbrev braced : List (List ℕ) → Bool × List ItemForm → ItemsReading
braced xs p = InBraces xs p.0 p.1

names_in :
    (xs : List (List ℕ)) (ws : List Word) (o : Option (Bool × List ItemForm))
    → items_reading ws ≡ option_map (braced []) o
    → items_reading (map Name xs ++ ws) ≡ option_map (braced xs) o
names_in [] ws o h = h
names_in (x ∷ xs) ws o h = ap (λ r. r >>= item_before (Name x)) (names_in xs ws o h) ∙ go o
  where
    go :
        (o : Option (Bool × List ItemForm))
        → (option_map (braced xs) o >>= item_before (Name x)) ≡ option_map (braced (x ∷ xs)) o
    go None = refl
    go (Some p) = refl

close_in :
    (star : Bool) (ws : List Word) → (star ≡ false → begins_with_star ws ≡ false)
    → items_reading (Sign CloseBrace ∷ (star_words star ++ ws)) ≡ option_map (braced []) (option_map (λ is. (star, is)) (items_of ws))
close_in true ws h = go (items_reading ws)
  where
    go :
        (o : Option ItemsReading)
        → ((o >>= item_before (Sign Star)) >>= item_before (Sign CloseBrace)) ≡ option_map (braced []) (option_map (λ is. (true, is)) (o >>= items_in))
    go None = refl
    go (Some (Items is)) = refl
    go (Some (Starred is)) = refl
    go (Some (InBraces xs star is)) = refl
close_in false ws h = go (items_reading ws) (not_starred ws (h refl))
  where
    go :
        (o : Option ItemsReading) → is_starred o ≡ false
        → (o >>= item_before (Sign CloseBrace)) ≡ option_map (braced []) (option_map (λ is. (false, is)) (o >>= items_in))
    go None e = refl
    go (Some (Items is)) e = refl
    go (Some (Starred is)) e = cc
    go (Some (InBraces xs star is)) e = refl

-- The items of words in front of which an item stands are that one and those of the words behind.
pub item_in_front :
    (s : SetForm) (star : Bool) (ws : List Word) → is_set s ≡ true
    → (star ≡ false → begins_with_star ws ≡ false)
    → items_of (set_words s ++ (star_words star ++ ws)) ≡ option_map (λ is. item s star ∷ is) (items_of ws)
item_in_front Dotted true ws g h = go (items_reading ws)
  where
    go :
        (o : Option ItemsReading)
        → (((o >>= item_before (Sign Star)) >>= item_before (Sign Dot)) >>= items_in) ≡ option_map (λ is. item Dotted true ∷ is) (o >>= items_in)
    go None = refl
    go (Some (Items is)) = refl
    go (Some (Starred is)) = refl
    go (Some (InBraces xs star is)) = refl
item_in_front Dotted false ws g h = go (items_reading ws) (not_starred ws (h refl))
  where
    go :
        (o : Option ItemsReading) → is_starred o ≡ false
        → ((o >>= item_before (Sign Dot)) >>= items_in) ≡ option_map (λ is. item Dotted false ∷ is) (o >>= items_in)
    go None e = refl
    go (Some (Items is)) e = refl
    go (Some (Starred is)) e = cc
    go (Some (InBraces xs star is)) e = refl
item_in_front (Bare x) true ws g h = go (items_reading ws)
  where
    go :
        (o : Option ItemsReading)
        → (((o >>= item_before (Sign Star)) >>= item_before (Name x)) >>= items_in) ≡ option_map (λ is. item (Bare x) true ∷ is) (o >>= items_in)
    go None = refl
    go (Some (Items is)) = refl
    go (Some (Starred is)) = refl
    go (Some (InBraces xs star is)) = refl
item_in_front (Bare x) false ws g h = go (items_reading ws) (not_starred ws (h refl))
  where
    go :
        (o : Option ItemsReading) → is_starred o ≡ false
        → ((o >>= item_before (Name x)) >>= items_in) ≡ option_map (λ is. item (Bare x) false ∷ is) (o >>= items_in)
    go None e = refl
    go (Some (Items is)) e = refl
    go (Some (Starred is)) e = cc
    go (Some (InBraces xs star is)) e = refl
item_in_front (Braced []) star ws g h = cc
item_in_front (Braced (x ∷ xs)) star ws g h =
    ap items_of (regroup (map Name (x ∷ xs)) (star_words star ++ ws))
    ∙ (ap (λ r. (r >>= item_before (Sign OpenBrace)) >>= items_in) (names_in (x ∷ xs) (Sign CloseBrace ∷ (star_words star ++ ws)) (option_map (λ is. (star, is)) (items_of ws)) (close_in star ws h))
    ∙ go (items_of ws))
  where
    regroup :
        (a b : List Word)
        → (Sign OpenBrace ∷ a ++ Sign CloseBrace ∷ []) ++ b ≡ Sign OpenBrace ∷ (a ++ Sign CloseBrace ∷ b)
    regroup a b = simp append_assoc

    go :
        (o : Option (List ItemForm))
        → ((option_map (braced (x ∷ xs)) (option_map (λ is. (star, is)) o) >>= item_before (Sign OpenBrace)) >>= items_in) ≡ option_map (λ is. item (Braced (x ∷ xs)) star ∷ is) o
    go None = refl
    go (Some is) = refl

-- such words are more than those behind
pub item_is_longer :
    (s : SetForm) (star : Bool) (ws : List Word) → is_set s ≡ true
    → length ws < length (set_words s ++ (star_words star ++ ws))
item_is_longer s star ws g = go s g
  where
    more : (a : List Word) (b : List Word) → length b < length (a ++ b) + 1
    more a b = omega (arith, length-append a b)

    go :
        (s : SetForm) → is_set s ≡ true
        → length ws < length (set_words s ++ (star_words star ++ ws))
    go Dotted e = omega (arith, more (star_words star) ws)
    go (Bare x) e = omega (arith, more (star_words star) ws)
    go (Braced xs) e = omega (arith, more (star_words star) ws, more (map Name xs ++ Sign CloseBrace ∷ []) (star_words star ++ ws))
