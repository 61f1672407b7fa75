-- The edges that go on from a state over a symbol lead to states that match the rest.
use Rattle.std.proofs.Common.{◌≡◌, ℕ, zero, suc, ◌+◌, ◌<◌, Bool, true, false, List, [], ◌∷◌, ◌++◌, length, drop, refl, sym, ap, ap₂, ◌∙◌, arith}
use Rattle.std.specs.Prelude.{◌||◌, ◌&&◌, nat_eq, nat_le, if◌then◌else◌}
use Rattle.std.specs.List.{list_any, list_all}
use Rattle.std.proofs.lemmas.List.Folds.{list_any-append}
use Rattle.std.proofs.lemmas.Bool.{eq-eqb, ne_eqb, leb-true, leb-false, le-leb, lt-leb}
use Rattle.config_patterns.specs.declared.item.Item.{Item}
use Rattle.config_patterns.specs.declared.edge.Edge.{Edge}
use Rattle.config_patterns.specs.Membership.{has_symbol, takes_any, items_match}
use Rattle.config_patterns.specs.Edges.{edges_into, edges_on, edges_back, edges_from, edges_of, is_starred, is_final_of}
use Rattle.config_patterns.proofs.SetTestLemmas.{and_false, or_false, one_more, skip_or_take}

-- what follows an item that was reached, and the item again where it is starred
abbrev pub stays : Item → List Item → List ℕ → Bool
stays x xs word = if x.star then takes_any x.set (items_match xs) word else items_match xs word

abbrev pub item_state : List Item → ℕ → List ℕ → Bool
item_state [] k word = false
item_state (x ∷ xs) zero word = stays x xs word
item_state (x ∷ xs) (suc k) word = item_state xs k word

-- a state matches the word
abbrev pub state_matches : List Item → ℕ → List ℕ → Bool
state_matches items zero word = items_match items word
state_matches items (suc k) word = item_state items k word

-- one of the edges goes on from the state over the symbol
abbrev pub goes_on : List Edge → ℕ → ℕ → (ℕ → Bool) → Bool
goes_on edges at g rest = list_any (λ e. nat_eq e.from at && (nat_eq e.symbol g && rest e.to)) edges

-- what is said of the states that have these items, by their numbers
abbrev Agrees : (ℕ → Bool) → List ℕ → ℕ → List Item → Type 0
Agrees rest word to [] = ℕ
Agrees rest word to (x ∷ xs) = (rest to ≡ stays x xs word) × Agrees rest word (suc to) xs

agrees : (rest : ℕ → Bool) (word : List ℕ) (to : ℕ) (xs : List Item) → ((k : ℕ) → rest (to + k) ≡ item_state xs k word) → Agrees rest word to xs
agrees rest word to [] h = 0
agrees rest word to (x ∷ xs) h =
    let here : to ≡ to + 0 = omega arith in
    (ap rest here ∙ h 0, agrees rest word (suc to) xs (λ k. let on : suc to + k ≡ to + suc k = omega arith in ap rest on ∙ h (suc k)))

goes_append : (ds es : List Edge) (at g : ℕ) (rest : ℕ → Bool) → goes_on (ds ++ es) at g rest ≡ (goes_on ds at g rest || goes_on es at g rest)
goes_append ds es at g rest = list_any-append (λ (e : Edge). nat_eq e.from at && (nat_eq e.symbol g && rest e.to)) ds es

goes_into : (from to : ℕ) (set : List ℕ) (at g : ℕ) (rest : ℕ → Bool) → goes_on (edges_into from to set) at g rest ≡ (nat_eq from at && (has_symbol g set && rest to))
goes_into from to [] at g rest = sym (and_false (nat_eq from at))
goes_into from to (h ∷ set) at g rest =
    ap (λ b. (nat_eq from at && (nat_eq h g && rest to)) || b) (goes_into from to set at g rest)
    ∙ one_more (nat_eq from at) (nat_eq h g) (has_symbol g set) (rest to)

-- an item is entered, or skipped where it is starred
entered : (b : Bool) (from to : ℕ) (set : List ℕ) (xs : List Item) (at g : ℕ) (word : List ℕ) (rest : ℕ → Bool)
    → rest to ≡ (if b then takes_any set (items_match xs) word else items_match xs word)
    → goes_on (if b then edges_on from (suc to) xs else []) at g rest ≡ (if b then nat_eq from at && items_match xs (g ∷ word) else false)
    → goes_on (edges_into from to set ++ (if b then edges_on from (suc to) xs else [])) at g rest
    ≡ (nat_eq from at && (if b then takes_any set (items_match xs) (g ∷ word) else has_symbol g set && items_match xs word))
entered true from to set xs at g word rest agree later =
    goes_append (edges_into from to set) (edges_on from (suc to) xs) at g rest
    ∙ ap₂ ◌||◌ (goes_into from to set at g rest ∙ ap (λ b. nat_eq from at && (has_symbol g set && b)) agree) later
    ∙ skip_or_take (nat_eq from at) (has_symbol g set && takes_any set (items_match xs) word) (items_match xs (g ∷ word))
entered false from to set xs at g word rest agree later =
    goes_append (edges_into from to set) [] at g rest
    ∙ or_false (goes_on (edges_into from to set) at g rest)
    ∙ goes_into from to set at g rest
    ∙ ap (λ b. nat_eq from at && (has_symbol g set && b)) agree

goes_on_is : (from to : ℕ) (xs : List Item) (at g : ℕ) (word : List ℕ) (rest : ℕ → Bool) → Agrees rest word to xs
    → goes_on (edges_on from to xs) at g rest ≡ (nat_eq from at && items_match xs (g ∷ word))
goes_on_is from to [] at g word rest agree = sym (and_false (nat_eq from at))
goes_on_is from to (x ∷ xs) at g word rest agree =
    let later : goes_on (edges_on from (suc to) xs) at g rest ≡ (nat_eq from at && items_match xs (g ∷ word)) = goes_on_is from (suc to) xs at g word rest agree.1 in
    let both : goes_on (if x.star then edges_on from (suc to) xs else []) at g rest ≡ (if x.star then nat_eq from at && items_match xs (g ∷ word) else false) =
    elim x.star as (λ b. goes_on (if b then edges_on from (suc to) xs else []) at g rest ≡ (if b then nat_eq from at && items_match xs (g ∷ word) else false)) [ true ↦ later | false ↦ refl ] in
    entered x.star from to x.set xs at g word rest agree.0 both
    ∙ ap (λ b. nat_eq from at && b) (elim x.star as (λ b. (if b then takes_any x.set (items_match xs) (g ∷ word) else has_symbol g x.set && items_match xs word)
    ≡ (if b then takes_any x.set (items_match xs) (g ∷ word) else has_symbol g x.set && items_match xs word)) [ true ↦ refl | false ↦ refl ])

goes_back : (b : Bool) (to : ℕ) (set : List ℕ) (xs : List Item) (at g : ℕ) (word : List ℕ) (rest : ℕ → Bool)
    → rest to ≡ (if b then takes_any set (items_match xs) word else items_match xs word)
    → goes_on (edges_on to (suc to) xs) at g rest ≡ (nat_eq to at && items_match xs (g ∷ word))
    → goes_on ((if b then edges_into to to set else []) ++ edges_on to (suc to) xs) at g rest
    ≡ (nat_eq to at && (if b then takes_any set (items_match xs) (g ∷ word) else items_match xs (g ∷ word)))
goes_back true to set xs at g word rest agree later =
    goes_append (edges_into to to set) (edges_on to (suc to) xs) at g rest
    ∙ ap₂ ◌||◌ (goes_into to to set at g rest ∙ ap (λ b. nat_eq to at && (has_symbol g set && b)) agree) later
    ∙ skip_or_take (nat_eq to at) (has_symbol g set && takes_any set (items_match xs) word) (items_match xs (g ∷ word))
goes_back false to set xs at g word rest agree later = later

-- no edge goes on from a state below the items
none_below : (xs : List Item) (to at g : ℕ) (word : List ℕ) (rest : ℕ → Bool) → at < to → Agrees rest word to xs → goes_on (edges_from to xs) at g rest ≡ false
none_below [] to at g word rest below agree = refl
none_below (x ∷ xs) to at g word rest below agree =
    let other : nat_eq to at ≡ false = ne_eqb to at (λ e. omega arith) in
    goes_append (edges_back to x ++ edges_on to (suc to) xs) (edges_from (suc to) xs) at g rest
    ∙ ap₂ ◌||◌
    (goes_back x.star to x.set xs at g word rest agree.0 (goes_on_is to (suc to) xs at g word rest agree.1)
    ∙ ap (λ b. b && (if x.star then takes_any x.set (items_match xs) (g ∷ word) else items_match xs (g ∷ word))) other)
    (none_below xs (suc to) at g word rest (omega arith) agree.1)

goes_from : (xs : List Item) (to k at g : ℕ) (word : List ℕ) (rest : ℕ → Bool) → at ≡ to + k → Agrees rest word to xs
    → goes_on (edges_from to xs) at g rest ≡ item_state xs k (g ∷ word)
goes_from [] to k at g word rest is agree = refl
goes_from (x ∷ xs) to zero at g word rest is agree =
    let here : nat_eq to at ≡ true = eq-eqb to at (omega arith) in
    let state : Bool = if x.star then takes_any x.set (items_match xs) (g ∷ word) else items_match xs (g ∷ word) in
    goes_append (edges_back to x ++ edges_on to (suc to) xs) (edges_from (suc to) xs) at g rest
    ∙ ap₂ ◌||◌
    (goes_back x.star to x.set xs at g word rest agree.0 (goes_on_is to (suc to) xs at g word rest agree.1) ∙ ap (λ b. b && state) here)
    (none_below xs (suc to) at g word rest (omega arith) agree.1)
    ∙ or_false state
goes_from (x ∷ xs) to (suc k) at g word rest is agree =
    let other : nat_eq to at ≡ false = ne_eqb to at (λ e. omega arith) in
    goes_append (edges_back to x ++ edges_on to (suc to) xs) (edges_from (suc to) xs) at g rest
    ∙ ap₂ ◌||◌
    (goes_back x.star to x.set xs at g word rest agree.0 (goes_on_is to (suc to) xs at g word rest agree.1)
    ∙ ap (λ b. b && (if x.star then takes_any x.set (items_match xs) (g ∷ word) else items_match xs (g ∷ word))) other)
    (goes_from xs (suc to) k at g word rest (omega arith) agree.1)

states_agree : (items : List Item) (word : List ℕ) → Agrees (λ k. state_matches items k word) word 1 items
states_agree items word = agrees (λ k. state_matches items k word) word 1 items (λ k. let one : 1 + k ≡ suc k = omega arith in ap (λ j. state_matches items j word) one)

-- a state matches a symbol and a word where an edge goes on from it
pub state_goes : (items : List Item) (k g : ℕ) (word : List ℕ) → goes_on (edges_of items) k g (λ j. state_matches items j word) ≡ state_matches items k (g ∷ word)
state_goes items zero g word =
    let rest = λ (j : ℕ). state_matches items j word in
    goes_append (edges_on 0 1 items) (edges_from 1 items) 0 g rest
    ∙ ap₂ ◌||◌ (goes_on_is 0 1 items 0 g word rest (states_agree items word)) (none_below items 1 0 g word rest (omega arith) (states_agree items word))
    ∙ or_false (items_match items (g ∷ word))
state_goes items (suc k) g word =
    let rest = λ (j : ℕ). state_matches items j word in
    let other : nat_eq 0 (suc k) ≡ false = ne_eqb 0 (suc k) (λ e. omega arith) in
    goes_append (edges_on 0 1 items) (edges_from 1 items) (suc k) g rest
    ∙ ap₂ ◌||◌ (goes_on_is 0 1 items (suc k) g word rest (states_agree items word) ∙ ap (λ b. b && items_match items (g ∷ word)) other) (goes_from items 1 k (suc k) g word rest (omega arith) (states_agree items word))

bare_items : (xs : List Item) → items_match xs [] ≡ list_all is_starred xs
bare_items [] = refl
bare_items (x ∷ xs) = elim x.star as (λ b. (if b then items_match xs [] else false) ≡ (b && list_all is_starred xs)) [ true ↦ bare_items xs | false ↦ refl ]

below_suc : (a b : ℕ) → nat_le (suc a) (suc b) ≡ nat_le a b
below_suc a b = elim (nat_le a b) as (λ r. nat_le a b ≡ r → nat_le (suc a) (suc b) ≡ r) [
  | true ↦ λ e. le-leb (suc a) (suc b) (omega (arith, leb-true a b e))
  | false ↦ λ e. lt-leb (suc a) (suc b) (omega (arith, leb-false a b e))
] refl

bare_item : (xs : List Item) (k : ℕ) → item_state xs k [] ≡ (nat_le (suc k) (length xs) && list_all is_starred (drop (suc k) xs))
bare_item [] k = let past : nat_le (suc k) 0 ≡ false = lt-leb (suc k) 0 (omega arith) in sym (ap (λ b. b && true) past)
bare_item (x ∷ xs) zero =
    let within : nat_le 1 (suc (length xs)) ≡ true = le-leb 1 (suc (length xs)) (omega arith) in
    elim x.star as (λ b. (if b then items_match xs [] else items_match xs []) ≡ list_all is_starred xs) [ true ↦ bare_items xs | false ↦ bare_items xs ]
    ∙ sym (ap (λ b. b && list_all is_starred xs) within)
bare_item (x ∷ xs) (suc k) = bare_item xs k ∙ sym (ap (λ b. b && list_all is_starred (drop (suc k) xs)) (below_suc (suc k) (length xs)))

-- a state matches no symbols where it is final
pub state_ends : (items : List Item) (k : ℕ) → state_matches items k [] ≡ is_final_of items k
state_ends items zero = bare_items items ∙ sym (ap (λ b. b && list_all is_starred items) (le-leb 0 (length items) (omega arith)))
state_ends items (suc k) = bare_item items k
