-- The places where a walk over the items may stand, kept in an array.
use Rattle.std.proofs.Common.{◌≡◌, ℕ, zero, suc, ◌+◌, ◌<◌, ◌≤◌, Bool, true, false, List, [], ◌∷◌, ◌++◌, length, get_or, take, drop, set, refl, sym, ap, ap₂, ◌∙◌, add-one, arith}
use Rattle.std.specs.Prelude.{◌||◌, ◌&&◌, not, replicate}
use Rattle.std.proofs.lemmas.List.{at_drop_more, set_split, drop_all}
use Rattle.config_patterns.specs.declared.item.Item.{Item}
use Rattle.config_patterns.specs.Membership.{has_symbol, takes_any, takes_one, items_match, is_bare}
use Rattle.config_patterns.specs.private.Places.{place_matches, advanced}
use Rattle.config_patterns.proofs.SetTestLemmas.{or_false, last_place, place_step, end_step}

-- the places after a symbol match what those before it match with the symbol
pub advanced_matches : (items : List Item) (places : List Bool) (g : ℕ) (skipped entered : Bool) (word : List ℕ) → length items < length places
    → place_matches items (advanced g skipped entered items places) word
    ≡ (((entered && items_match items word) || (skipped && items_match items (g ∷ word))) || place_matches items places (g ∷ word))
advanced_matches items [] g skipped entered word less = absurd (omega arith)
advanced_matches [] (b ∷ bs) g skipped entered word less = last_place (entered && is_bare word) skipped b
advanced_matches (x ∷ xs) (b ∷ bs) g skipped entered word less =
    let here = b || skipped in
    let takes = here && has_symbol g x.set in
    let on = advanced_matches xs bs g (here && x.star) (takes && not x.star) word (omega arith) in
    ap (λ z. ((entered || (takes && x.star)) && items_match (x ∷ xs) word) || z) on
    ∙ place_step x.star entered skipped b (has_symbol g x.set) (takes_any x.set (items_match xs) word) (takes_one x.set (items_match xs) word)
    (items_match xs word) (items_match xs (g ∷ word)) (place_matches xs bs (g ∷ word))

none_set : (items : List Item) (n : ℕ) (word : List ℕ) → place_matches items (replicate n false) word ≡ false
none_set [] zero word = refl
none_set [] (suc n) word = refl
none_set (x ∷ xs) zero word = refl
none_set (x ∷ xs) (suc n) word = none_set xs n word

-- the walk begins before the first item
pub first_place : (items : List Item) (n : ℕ) (word : List ℕ) → place_matches items (true ∷ replicate n false) word ≡ items_match items word
first_place [] n word = refl
first_place (x ∷ xs) n word = ap (λ b. items_match (x ∷ xs) word || b) (none_set xs n word) ∙ or_false (items_match (x ∷ xs) word)

at_place : {X : Type 0} (xs : List X) (i : ℕ) (x : X) → i < length xs → x ≡ get_or xs i x → drop i xs ≡ x ∷ drop (i + 1) xs
at_place {X} xs i x less read = let f : List X → List X = λ ys. ys in at_drop_more f xs i x less ∙ ap (λ y. y ∷ drop (i + 1) xs) (sym read)

place_at : (places : List Bool) (i : ℕ) (b : Bool) → i < length places → b ≡ get_or places i false → drop i places ≡ b ∷ drop (i + 1) places
place_at places i b less read = let f : List Bool → List Bool = λ ys. ys in at_drop_more f places i false less ∙ ap (λ y. y ∷ drop (i + 1) places) (sym read)

-- the end of the walk over a symbol
pub advance_end : (g : ℕ) (skipped entered : Bool) (items : List Item) (places : List Bool) (i : ℕ) → length items ≡ i → i < length places
    → take i places ++ advanced g skipped entered (drop i items) (drop i places) ≡ set places i entered
advance_end g skipped entered items places i is less =
    ap₂ (λ xs bs. take i places ++ advanced g skipped entered xs bs) (drop_all i items (omega arith)) (place_at places i (get_or places i false) less refl)
    ∙ ap (λ n. take i places ++ entered ∷ drop n places) (add-one i)
    ∙ sym (set_split places i entered less)

pub advance_done : (g : ℕ) (skipped entered : Bool) (items : List Item) (places after : List Bool) (i : ℕ) → length items ≡ i → i < length places
    → take i places ++ advanced g skipped entered (drop i items) (drop i places) ≡ after → set places (length items) entered ≡ after
advance_done g skipped entered items places after i is less so = ap (λ n. set places n entered) is ∙ sym (advance_end g skipped entered items places i is less) ∙ so

-- the places at the start
pub places_first : (items : List Item) (places : List Bool) (n : ℕ) (word : List ℕ) → places ≡ set (replicate (suc n) false) 0 true → place_matches items places word ≡ items_match items word
places_first items places n word is = ap (λ ps. place_matches items ps word) is ∙ first_place items n word

-- one symbol of the stack
pub stack_more : (items : List Item) (places after : List Bool) (stack : List ℕ) (k g : ℕ) → length items < length places → k < length stack → g ≡ get_or stack k 0
    → after ≡ advanced g false false items places → place_matches items after (drop (k + 1) stack) ≡ place_matches items places (drop k stack)
stack_more items places after stack k g less within read is =
    ap (λ ps. place_matches items ps (drop (k + 1) stack)) is
    ∙ advanced_matches items places g false false (drop (k + 1) stack) less
    ∙ ap (λ h. place_matches items places (h ∷ drop (k + 1) stack)) read
    ∙ sym (at_drop_more (place_matches items places) stack k 0 within)

-- the stack is at its end
pub stack_end : (items : List Item) (places : List Bool) (stack : List ℕ) (k : ℕ) → length stack ≤ k → place_matches items places (drop k stack) ≡ place_matches items places []
stack_end items places stack k past = ap (place_matches items places) (drop_all k stack past)

-- one turn of the walk to the end
end_more : (reached : Bool) (items : List Item) (places : List Bool) (i : ℕ) (x : Item) (b : Bool) → i < length items → i < length places
    → x ≡ get_or items i x → b ≡ get_or places i false
    → ((reached && items_match (drop i items) []) || place_matches (drop i items) (drop i places) [])
    ≡ ((((reached || b) && x.star) && items_match (drop (i + 1) items) []) || place_matches (drop (i + 1) items) (drop (i + 1) places) [])
end_more reached items places i x b less within read place =
    ap₂ (λ xs bs. (reached && items_match xs []) || place_matches xs bs []) (at_place items i x less read) (place_at places i b within place)
    ∙ end_step x.star reached b (items_match (drop (i + 1) items) []) (place_matches (drop (i + 1) items) (drop (i + 1) places) [])

pub end_turn : (reached after : Bool) (items : List Item) (places : List Bool) (i : ℕ) (x : Item) (b value all : Bool) → i < length items → i < length places
    → x ≡ get_or items i x → b ≡ get_or places i false → value ≡ (reached || b) → after ≡ (value && x.star)
    → ((reached && items_match (drop i items) []) || place_matches (drop i items) (drop i places) []) ≡ all
    → ((after && items_match (drop (i + 1) items) []) || place_matches (drop (i + 1) items) (drop (i + 1) places) []) ≡ all
end_turn reached after items places i x b value all less within read place value_is after_is so =
    ap (λ v. (v && items_match (drop (i + 1) items) []) || place_matches (drop (i + 1) items) (drop (i + 1) places) []) (after_is ∙ ap (λ v. v && x.star) value_is)
    ∙ sym (end_more reached items places i x b less within read place)
    ∙ so
