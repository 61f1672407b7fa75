-- A configuration as a pattern has itself as its one member.
use Rattle.std.proofs.Common.{◌≡◌, ℕ, Bool, true, false, List, [], ◌∷◌, map, refl, sym, ap, ◌∙◌, ◌||◌, IsTrue, ◌↔◌}
use Rattle.std.specs.Prelude.{nat_eq}
use Rattle.std.proofs.lemmas.Bool.{and_parts, and_from, eqb-true, eq-eqb}
use Rattle.pushdown_rules.specs.Configuration.{Configuration}
use Rattle.config_patterns.specs.declared.item.Item.{Item}
use Rattle.config_patterns.specs.Membership.{has_member, has_symbol, items_match}
use Rattle.document_systems.specs.Systems.{one_symbol, item_of, as_pattern, pattern_of}

alone : (g h : ℕ) → has_symbol h (g ∷ []) ≡ true → g ≡ h
alone g h e = go (nat_eq g h) refl e
  where
    go : (b : Bool) → nat_eq g h ≡ b → (b || false) ≡ true → g ≡ h
    go true is e = eqb-true g h is
    go false is e = cc

module _ (symbols : ℕ) where
  abbrev items_of : List ℕ → List Item
  items_of gs = map (item_of symbols) (map one_symbol gs)

  matched : (gs stack : List ℕ) → items_match (items_of gs) stack ≡ true → stack ≡ gs
  matched [] [] e = refl
  matched [] (h ∷ stack) e = cc
  matched (g ∷ gs) [] e = cc
  matched (g ∷ gs) (h ∷ stack) e =
      let parts = and_parts (has_symbol h (g ∷ [])) (items_match (items_of gs) stack) e in
      ap (λ k. k ∷ stack) (sym (alone g h parts.0)) ∙ ap (λ l. g ∷ l) (matched gs stack parts.1)

  matches : (gs : List ℕ) → items_match (items_of gs) gs ≡ true
  matches [] = refl
  matches (g ∷ gs) = and_from (has_symbol g (g ∷ [])) (items_match (items_of gs) gs) (ap (λ b. b || false) (eq-eqb g g refl)) (matches gs)

  pub one_member : (c d : Configuration) → IsTrue (has_member (pattern_of symbols (as_pattern c)) d) ↔ (d ≡ c)
  one_member c d = (there, back)
    where
      there : IsTrue (has_member (pattern_of symbols (as_pattern c)) d) → d ≡ c
      there e =
          let parts = and_parts (nat_eq d.control c.control) (items_match (items_of c.stack) d.stack) e in
          ap (λ k. record { control = k; stack = d.stack }) (eqb-true d.control c.control parts.0)
          ∙ ap (λ l. record { control = c.control; stack = l }) (matched c.stack d.stack parts.1)

      back : d ≡ c → IsTrue (has_member (pattern_of symbols (as_pattern c)) d)
      back e =
          rw e (and_from (nat_eq c.control c.control) (items_match (items_of c.stack) c.stack) (eq-eqb c.control c.control refl) (matches c.stack))
