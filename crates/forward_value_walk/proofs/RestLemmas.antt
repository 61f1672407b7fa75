-- What tails tell a walk.
use Rattle.std.proofs.Common.{◌≡◌, inl, inr, ℕ, ◌≤◌, List, [], ◌∷◌, length, drop, sym, ap, ◌∙◌, subst}
use Rattle.std.specs.Prelude.{IsTrue, Option, None, Some, nat_le, slice_get}
use Rattle.std.specs.List.{list_all}
use Rattle.std.proofs.lemmas.Bool.{and_parts, leb-true}
use Rattle.semiring_laws.specs.Semiring.{Operations, IsSemiring, Fits, Below}
use Rattle.semiring_laws.proofs.CallerLemmas.{below_trans, below_zero}
use Rattle.pushdown_rules.specs.declared.rule.Rule.{Rule}
use Rattle.pushdown_rules.specs.Pushdown.{Pushdown, IsSystem}
use Rattle.pushdown_rules.specs.Values.{value_of}
use Rattle.pushdown_rules.specs.Answers.{Leads}
use Rattle.pushdown_rules.proofs.CallerLemmas.{weight_fits, value_fits}
use Rattle.config_patterns.specs.Edges.{edges_of, is_final_of, is_starred}
use Rattle.config_patterns.specs.Membership.{PatternValue, has_member}
use Rattle.config_patterns.specs.Paths.{Reads}
use Rattle.weighted_automata.specs.declared.place.Label.TheVariants.{Symbol}
use Rattle.weight_tables.specs.Entries.{weight_in}
use Rattle.weight_tables.specs.Tables.{TablesValue}
use Rattle.weight_tables.proofs.CallerLemmas.{place_fits}
use Rattle.walk_pairs.specs.declared.pairs.Stage.TheVariants.{Down}
use Rattle.walk_pairs.specs.Pairs.{pair_place, answer_place}
use Rattle.walk_pairs.proofs.CallerLemmas.{AllFit, edge_from}
use Rattle.value_laws.specs.Runs.{Sums}
use Rattle.value_laws.proofs.CallerLemmas.{sums_none}
use Rattle.forward_value_laws.specs.Model.{Source, callee, head_of}
use Rattle.forward_value_laws.specs.Tails.{IsSymbol, TakesRest, AreTails}
use Rattle.forward_value_laws.proofs.CallerLemmas.{tailed_sum}
use Rattle.forward_value_search.specs.Places.{place_by}
use Rattle.forward_value_search.proofs.CallerLemmas.{item_number, callee_number}
use Rattle.value_tails.specs.Tailing.{tail_place, tail_in, IsTailed}
use Rattle.forward_value_walk.specs.Walking.{number, found_in, tails_of, IsMade}

module _ {S W Map : Type 0} {operations : S → Operations W Map} (v : TablesValue S W Map) (system : IsSystem operations v.system) (laws : IsSemiring (operations v.system.semiring)) (first wanted : PatternValue)
    (base_fits : AllFit (operations v.system.semiring) v.base) (tails_fits : AllFit (operations v.system.semiring) v.target) (tailed : IsTailed (operations v.system.semiring) first v) where
  abbrev s : Operations W Map
  s = operations v.system.semiring

  abbrev p : Pushdown S W Map
  p = v.system

  abbrev tail : ℕ → W
  tail n = tail_in s v.target n

  abbrev Tail : Source → W
  Tail = tails_of s p first wanted v.base v.walk v.target

  fits_tail : (n : ℕ) → Fits s (tail n)
  fits_tail n = place_fits s (tail_place n) v.target laws.fits-zero tails_fits

  -- what was read to a state that takes the rest makes the answer with the tail
  pub rest_made : (j n : ℕ) → TakesRest (IsSymbol p first) wanted.items j → (w : W) → Fits s w → IsMade s p first wanted (pair_place Down j n) w → IsMade s p first wanted answer_place (s.extend (tail n) w)
  rest_made j n rest w fw made = elim (tailed.sums n) [
    | inl none ↦
        let P : W → Type 0 = Sums s (value_of s p) (Leads s p (has_member first) (has_member wanted)) in
        subst P (sym (ap (λ u. s.extend u w) none ∙ laws.extend-zero_left w fw)) (sums_none laws (value_of s p) (value_fits system laws) (Leads s p (has_member first) (has_member wanted)))
    | inr (from, is, sum) ↦ tailed_sum system laws first wanted j rest from (tail n) w sum (made from is)
  ]

  ends_below : (word : List ℕ) (i last : ℕ) → Reads (edges_of first.items) i word last → IsTrue (is_final_of first.items last) → Below s (tail i) s.one
  ends_below [] i last same final = let P : ℕ → Type 0 = λ n. IsTrue (is_final_of first.items n) in tailed.ends i (subst P (sym same) final)
  ends_below (g ∷ word) i last reads final =
      below_trans laws (tail i) (tail reads.0) s.one (fits_tail i) (fits_tail reads.0) laws.fits-one (tailed.reads i g reads.0 reads.1) (ends_below word reads.0 last reads.2 final)

  within : (word : List ℕ) (i last : ℕ) → Reads (edges_of first.items) i word last → IsTrue (is_final_of first.items last) → i ≤ length first.items
  within [] i last same final =
      let P : ℕ → Type 0 = λ n. IsTrue (is_final_of first.items n) in
      leb-true i (length first.items) (and_parts (nat_le i (length first.items)) (list_all is_starred (drop i first.items)) (subst P (sym same) final)).0
  within (g ∷ word) i last reads final = edge_from first.items i g reads.0 reads.1

  abbrev at : Option ℕ → W
  at o = elim o [ None ↦ s.zero | Some n ↦ tail n ]

  abbrev row_at : ℕ → ℕ → Option ℕ → W
  row_at control g o = elim (place_by control (Some (Symbol g)) o) [ None ↦ s.zero | Some x ↦ weight_in s v.base x ]

  opened : (k : ℕ) (r : Rule S W Map) → slice_get p.rules k ≡ Some r → (g h : ℕ) → r.right ≡ g ∷ h ∷ [] → (from : Source)
      → Below s (Tail (callee r.to g)) (s.extend (Tail from) (s.extend (found_in s p first wanted v.base v.walk (head_of r) from) r.weight))
  opened k r there g h right from =
      let fr = weight_fits system laws k r there in
      let has = callee_number (length first.items) p k r there g (h ∷ []) right in
      let here : Tail (callee r.to g) ≡ tail has.0 = ap at has.1 in
      let P : W → Type 0 = λ u. Below s u (s.extend (Tail from) (s.extend (found_in s p first wanted v.base v.walk (head_of r) from) r.weight)) in
      subst P (sym here) (elim (number s p first wanted from) as (λ o. Below s (tail has.0) (s.extend (at o) (s.extend (row_at r.control r.symbol o) r.weight))) [
        | None ↦
            let Q : W → Type 0 = Below s (tail has.0) in
            subst Q (sym (laws.extend-zero_left (s.extend s.zero r.weight) (laws.fits-extend s.zero r.weight laws.fits-zero fr))) (below_zero laws (tail has.0) (fits_tail has.0))
        | Some n ↦ tailed.opens k r there g h right has.0 has.1 n
      ])

  pub tails_known : AreTails s p first.items (found_in s p first wanted v.base v.walk) Tail
  tails_known = record {
    fits = λ from. elim (number s p first wanted from) as (λ o. Fits s (at o)) [ None ↦ laws.fits-zero | Some n ↦ fits_tail n ];
    ends = λ i word last reads final.
        let is = item_number (length first.items) p i (within word i last reads final) in
        let P : W → Type 0 = λ u. Below s u s.one in
        subst P (sym (ap at is)) (ends_below word i last reads final);
    opens = λ k r there g h right from. opened k r there g h right from;
  }
