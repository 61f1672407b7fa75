-- The backward direction fits the opening of each pattern, and how many places it can reach from there.
use Rattle.std.proofs.Common.{◌≡◌, inl, inr, ℕ, suc, ◌+◌, ◌*◌, ◌<◌, ◌≤◌, List, [], ◌∷◌, ◌++◌, map, length, refl, ap, ◌∙◌, subst, arith}
use Rattle.std.specs.Prelude.{All, IsTrue, nat_le}
use Rattle.std.proofs.lemmas.Bool.{and_from, le-leb}
use Rattle.weighted_automata.specs.declared.place.Place.{Place}
use Rattle.pushdown_rules.specs.Pushdown.{Pushdown}
use Rattle.config_patterns.specs.declared.item.Item.{Item}
use Rattle.config_patterns.specs.Membership.{PatternValue}
use Rattle.config_patterns.specs.Edges.{edges_of}
use Rattle.wpds_base.specs.Lists.{IsIn}
use Rattle.saturation_laws.proofs.CallerLemmas.{in_append, in_right, in_map, from_map}
use Rattle.pattern_openings.specs.PatternOpenings.{state_of, place_of_edge, finals_of_items, opening_of}
use Rattle.pattern_openings.specs.JointOpenings.{joint_edges, edges_alone}
use Rattle.pattern_openings.proofs.CallerLemmas.{opening_edge, edge_is, final_is_state, last_is_final, later_edge}
use Rattle.direction_parts.specs.Places.{reads_symbol}
use Rattle.direction_parts.proofs.CallerLemmas.{all_from}
use Rattle.prestar_laws.specs.Fitting.{is_item_edge, fits_pre, state_count, pre_places}
use Rattle.prestar_laws.proofs.CallerLemmas.{above_start, above_each, above_most, length-arrows}

-- the backward direction fits the opening of each pattern
pub pattern_fits : {S W Map : Type 0} (p : Pushdown S W Map) (pattern : PatternValue) → IsTrue (fits_pre p (opening_of p.controls pattern))
pattern_fits p pattern = all_from (is_item_edge p.controls) (opening_of p.controls pattern).edges (λ x there.
    let is = opening_edge pattern p.controls x there in
    and_from (reads_symbol x.label) (nat_le p.controls x.to) (ap reads_symbol is.reads.1) (le-leb p.controls x.to is.to_item))

-- and of several together
pub joint_fits : {S W Map : Type 0} (p : Pushdown S W Map) (patterns : List PatternValue) → All (λ (d : PatternValue). d.control < p.controls) patterns
    → IsTrue (fits_pre p (edges_alone (joint_edges p.controls patterns)))
joint_fits p patterns low = all_from (is_item_edge p.controls) (joint_edges p.controls patterns) (λ x there.
    let is = later_edge p.controls p.controls (omega arith) patterns low x there in
    and_from (reads_symbol x.label) (nat_le p.controls x.to) (ap reads_symbol is.reads.1) (le-leb p.controls x.to is.to_item))

module _ (controls : ℕ) (pattern : PatternValue) (low : pattern.control < controls) where
  abbrev f : ℕ → ℕ
  f i = state_of controls pattern.control i

  abbrev named : List ℕ
  named = map (λ (x : Place). x.to) (opening_of controls pattern).edges ++ (opening_of controls pattern).finals

  below_last : (q : ℕ) → IsIn q named → q < controls + length pattern.items
  below_last q h = elim (in_append q (map (λ (x : Place). x.to) (opening_of controls pattern).edges) (opening_of controls pattern).finals h) [
    | inl edge ↦
        let x = from_map (λ (x : Place). x.to) q (opening_of controls pattern).edges edge in
        let e = from_map (place_of_edge controls pattern.control) x.before (edges_of pattern.items) x.there in
        let P : ℕ → Type 0 = λ n. n < controls + length pattern.items in
        let Q : Place → Type 0 = λ y. y.to < controls + length pattern.items in
        subst P x.is (subst Q e.is (edge_is controls pattern.control pattern.items e.before e.there).to_last)
    | inr final ↦
        let i = from_map f q (finals_of_items pattern.items) final in
        let P : ℕ → Type 0 = λ n. n < controls + length pattern.items in
        subst P i.is (final_is_state controls pattern.control pattern.items low i.before i.there)
  ]

  above_last : (items : List Item) → pattern.items ≡ items → controls + length items ≤ state_count controls (opening_of controls pattern)
  above_last [] e = let all = above_start controls named in omega (arith, all)
  above_last (x ∷ items) e =
      let all = above_each controls named (f (length (x ∷ items))) (in_right (f (length (x ∷ items))) (map (λ (x : Place). x.to) (opening_of controls pattern).edges) (opening_of controls pattern).finals
      (in_map f (length (x ∷ items)) (finals_of_items pattern.items) (let P : ℕ → Type 0 = λ n. IsIn n (finals_of_items pattern.items) in subst P (ap length e) (last_is_final pattern.items)))) in
      let here : controls + length items < state_count controls (opening_of controls pattern) = all in
      let long : length (x ∷ items) ≡ suc (length items) = refl in omega (arith, here, long)

  -- the states of a pattern's opening are the controls and one for each item
  pub pattern_states : state_count controls (opening_of controls pattern) ≡ controls + length pattern.items
  pattern_states =
      let most = above_most controls (controls + length pattern.items) named (omega arith) below_last in
      let least = above_last pattern.items refl in omega (arith, most, least)

pub pattern_places : {S W Map : Type 0} (p : Pushdown S W Map) (pattern : PatternValue) → pattern.control < p.controls
    → length (pre_places p (opening_of p.controls pattern)) ≡ p.controls * p.symbols * (p.controls + length pattern.items)
pattern_places p pattern low = length-arrows p.controls p.symbols (state_count p.controls (opening_of p.controls pattern)) ∙ ap (λ n. p.controls * p.symbols * n) (pattern_states p.controls pattern low)
